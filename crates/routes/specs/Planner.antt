-- What the planner is asked, and what it says of the route.
use Rattle.std.specs.Prelude.{◌≡◌, ◌⊎◌, ℕ, ◌+◌, ◌<◌, ◌≤◌, Result, Ok, Err, length, get_or}
use Rattle.rules.specs.Topology.{Topology, nodes, NodesInRange, SoundTopology, Route, most_route_hops}
use Rattle.rules.specs.Topology as rules
use Rattle.rules.specs.Records.{node_numbers, the_route}
use Rattle.rules.specs.declared.Route as held
use Rattle.rules.specs.declared.refusals.Refusal.{Refusal}
use Rattle.rules.specs.declared.refusals.Refusal.TheVariants.{NoRoute, TooFar}

-- a sound topology, and two different nodes of it
pub record Asked (T : Topology) (source destination : ℕ) : Type 0 where
  pub range : NodesInRange (nodes T)
  pub sound : SoundTopology T
  pub source_known : source < nodes T
  pub destination_known : destination < nodes T
  pub apart : source ≡ destination → ⊥

-- the places for a route's nodes
abbrev pub route_places : ℕ
route_places = most_route_hops + 1

-- it is the planner's route, and node 0 stands after it
pub record SaysRoute (T : Topology) (middle source destination : ℕ) (r : held.Route) : Type 0 where
  pub some : 1 ≤ r.hops
  pub most : r.hops ≤ most_route_hops
  pub size : length r.nodes ≡ route_places
  pub route : Route T middle source destination (the_route r)
  pub after : (i : ℕ) → r.hops < i → get_or (node_numbers r.nodes) i 0 ≡ 0

-- the planner's answer: the route, or refusal 7 or 17 and what it says of the nodes
abbrev pub PlannerSays : Topology → ℕ → ℕ → ℕ → Result held.Route Refusal → Type 0
PlannerSays T middle source destination (Ok r) = SaysRoute T middle source destination r
PlannerSays T middle source destination (Err e) =
    ((e ≡ NoRoute) × rules.NoRoute T middle source destination) ⊎ ((e ≡ TooFar) × rules.TooFar T middle source destination)
