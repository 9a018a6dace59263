-- What is said of a second route, and of the smaller site on which it is sought.
use Rattle.std.specs.Prelude.{◌≡◌, List, ℕ, ◌<◌, ◌≤◌, Option, Some, None, length, get_or, take}
use Rattle.rules.specs.Topology.{Topology, most_short_hops, SecondPath, SecondRoute}
use Rattle.rules.specs.Records.{node_numbers, the_route}
use Rattle.rules.specs.declared.Route.{Route}
use Rattle.rules.proofs.Seconds.{WithoutLink}
use Rattle.bitset.specs.Rows.{topology}
use Rattle.routes.specs.Planner.{route_places}

-- the most nodes that a site has
abbrev pub most_nodes : ℕ
most_nodes = 64

-- the first n rows are copied into an array for the most nodes
pub record Copied (links : List ℕ) (n : ℕ) (rows : List ℕ) : Type 0 where
  pub size : length rows ≡ most_nodes
  pub same : (i : ℕ) → i < n → get_or rows i 0 ≡ get_or links i 0

-- its rows for the nodes of the site are those without the link between a and b
pub record LinkCut (links : List ℕ) (a b : ℕ) (rows : List ℕ) : Type 0 where
  pub size : length rows ≡ most_nodes
  pub cut : WithoutLink (topology links) a b (topology (take (length links) rows))

-- it is the second route, and node 0 stands after it
pub record SaysSecond (T : Topology) (middle source destination : ℕ) (first : List ℕ) (r : Route) : Type 0 where
  pub some : 1 ≤ r.hops
  pub most : r.hops ≤ most_short_hops
  pub size : length r.nodes ≡ route_places
  pub route : SecondRoute T middle source destination first (the_route r)
  pub after : (i : ℕ) → r.hops < i → get_or (node_numbers r.nodes) i 0 ≡ 0

-- the answer: the second route, or none where no path may be it
abbrev pub SecondSays : Topology → ℕ → ℕ → ℕ → List ℕ → Option Route → Type 0
SecondSays T middle source destination first (Some r) = SaysSecond T middle source destination first r
SecondSays T middle source destination first None = (p : List ℕ) → SecondPath T middle source destination first p → ⊥
