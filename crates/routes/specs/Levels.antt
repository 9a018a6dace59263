-- The nodes at each distance from the destination, and the walk down to it.
use Rattle.std.specs.Prelude.{◌≡◌, ◌⊎◌, Bool, true, false, List, ◌∷◌, ℕ, ◌+◌, ◌<◌, ◌≤◌, Result, Ok, Err, length, get_or, take}
use Rattle.rules.specs.Words.{Has, NoBitFrom}
use Rattle.rules.specs.Topology.{Topology, Joined, most_route_hops}
use Rattle.rules.proofs.Ways.{MayStand, Way, LowestWay, NoWay}
use Rattle.bitset.specs.Sets.{SetOf}
use Rattle.rules.specs.declared.refusals.Refusal.{Refusal}
use Rattle.rules.specs.declared.refusals.Refusal.TheVariants.{NoRoute, TooFar}
use Rattle.routes.specs.Planner.{Asked, route_places}

-- b is linked to a member of the set
abbrev pub Neighbour : Topology → ℕ → ℕ → Type 0
Neighbour T set b = (a : ℕ) × Has set a × Joined T a b

-- from a there is a way of n links to z, and none of fewer
pub record Distance (T : Topology) (middle z n a : ℕ) : Type 0 where
  pub path : List ℕ
  pub way : Way T middle z n a path
  pub nearest : (j : ℕ) → j < n → NoWay T middle z j a

-- a is at distance n, and a way may go on from it
abbrev pub Stop : Topology → ℕ → ℕ → ℕ → ℕ → Type 0
Stop T middle z n a = Distance T middle z n a × MayStand middle n a

-- at each k below n the set of the stops at distance k
abbrev pub Levels : Topology → ℕ → ℕ → ℕ → List ℕ → Type 0
Levels T middle z n sets = (k : ℕ) → k < n → SetOf (Stop T middle z k) (get_or sets k 0)

-- unmet has the nodes that may stand in the middle and are farther than k
pub record Unmet (T : Topology) (middle z k unmet : ℕ) : Type 0 where
  pub fits : NoBitFrom 64 unmet
  pub only : (a : ℕ) → Has unmet a → Has middle a
  pub farther : (a : ℕ) → Has unmet a → (j : ℕ) → j ≤ k → NoWay T middle z j a
  pub all : (a : ℕ) → Has middle a → Has unmet a ⊎ ((j : ℕ) × (j ≤ k) × Distance T middle z j a)

-- last has the stops at distance hops, unmet those that are farther, and the source is farther than that
pub record Front (T : Topology) (middle source z hops last unmet : ℕ) : Type 0 where
  pub level : SetOf (Stop T middle z hops) last
  pub ahead : Unmet T middle z hops unmet
  pub not_yet : (j : ℕ) → j ≤ hops → NoWay T middle z j source

-- the source is at distance hops, and the levels below that are known
pub record Reached (T : Topology) (middle source z hops : ℕ) (sets : List ℕ) : Type 0 where
  pub some : 1 ≤ hops
  pub most : hops ≤ most_route_hops
  pub there : Distance T middle z hops source
  pub levels : Levels T middle z hops sets

-- the source is at some distance over n
abbrev pub Beyond : Topology → ℕ → ℕ → ℕ → ℕ → Type 0
Beyond T middle source z n = (hops : ℕ) × (n < hops) × Distance T middle z hops source

-- no way leads from the source
abbrev pub Never : Topology → ℕ → ℕ → ℕ → Type 0
Never T middle source z = (n : ℕ) → NoWay T middle z n source

-- what the search from the destination says of the source: met at so many hops, at more than 15, or nowhere
abbrev pub Searched : Topology → ℕ → ℕ → ℕ → List ℕ → Result ℕ Refusal → Type 0
Searched T middle source z sets (Ok hops) = Reached T middle source z hops sets
Searched T middle source z sets (Err e) = ((e ≡ NoRoute) × Never T middle source z) ⊎ ((e ≡ TooFar) × Beyond T middle source z most_route_hops)

-- two nodes and a search between them, over some set of middles, that has come to this front
pub record Under (T : Topology) (middle source z hops last unmet : ℕ) : Type 0 where
  pub asked : Asked T source z
  pub front : Front T middle source z hops last unmet

-- a search that has come to this front
abbrev pub SomeFront : Topology → ℕ → ℕ → ℕ → Type 0
SomeFront T source last unmet = (middle z hops : ℕ) × Under T middle source z hops last unmet

-- the source is met later on, or never, in each such search
pub record Meets (T : Topology) (source last unmet : ℕ) (r : Bool) : Type 0 where
  pub later : r ≡ true → (middle z hops : ℕ) → Under T middle source z hops last unmet → Beyond T middle source z hops
  pub never : r ≡ false → (middle z hops : ℕ) → Under T middle source z hops last unmet → Never T middle source z

-- the nodes that the walk down chose: the source, then the lowest way; 0 after them
pub record Descended (T : Topology) (middle source z hops : ℕ) (chosen : List ℕ) : Type 0 where
  pub size : length chosen ≡ route_places
  pub rest : List ℕ
  pub list : take (hops + 1) chosen ≡ source ∷ rest
  pub lowest : LowestWay T middle z hops source rest
  pub after : (i : ℕ) → hops < i → get_or chosen i 0 ≡ 0

-- the levels are those over some set of middles
abbrev pub ReachedBySome : Topology → ℕ → ℕ → ℕ → List ℕ → Type 0
ReachedBySome T source z hops sets = (middle : ℕ) × Reached T middle source z hops sets

-- what was chosen is the lowest way over each such set
abbrev pub Descends : Topology → ℕ → ℕ → ℕ → List ℕ → List ℕ → Type 0
Descends T source z hops sets chosen = (middle : ℕ) → Reached T middle source z hops sets → Descended T middle source z hops chosen
