-- Topologies, routes, clashes.
use mathlib.Core.{Path.◌≡◌, Logic.◌⊎◌, Bool.Bool, List.List, List.[], List.◌∷◌}
use Rattle.std.specs.Prelude.{ℕ, suc, ◌-◌, ◌^◌, ◌<◌, ◌≤◌, length, get_or, take, drop}
use Rattle.rules.specs.Words.{Has, NoBitFrom, ◌∈◌, Pairwise, Distinct, NoLater, Earlier, Tests}

-- one row for each node, a set of nodes: its neighbours, or those that it hears
pub record Topology : Type 0 where
  pub rows : List ℕ

-- N
abbrev pub nodes : Topology → ℕ
nodes T = length T.rows

-- N is 2 to 64
abbrev pub NodesInRange : ℕ → Type 0
NodesInRange N = (2 ≤ N) × (N ≤ 64)

-- the row of a has b: of the links, a is linked to b; of the hearing, a and b hear each other
abbrev pub Joined : Topology → ℕ → ℕ → Type 0
Joined T a b = Has (get_or T.rows a 0) b

-- no bit from N up, no node joined to itself, none one way
pub record SoundTopology (T : Topology) : Type 0 where
  pub low : (a : ℕ) → a < nodes T → NoBitFrom (nodes T) (get_or T.rows a 0)
  pub no_self : (a : ℕ) → a < nodes T → Joined T a a → ⊥
  pub both_ways : (a b : ℕ) → a < nodes T → b < nodes T → Joined T a b → Joined T b a

-- links and hearing are sound, of the same nodes, and every link is heard
pub record SoundTopologies (links hearing : Topology) : Type 0 where
  pub links_sound : SoundTopology links
  pub hearing_sound : SoundTopology hearing
  pub even : nodes hearing ≡ nodes links
  pub heard : (a b : ℕ) → a < nodes links → Joined links a b → Joined hearing a b

-- PATHS, over the links

-- how many hops a list of nodes has
abbrev pub hop_count : List ℕ → ℕ
hop_count p = length p - 1

-- the nodes between its ends
abbrev pub middles : List ℕ → List ℕ
middles p = take (hop_count p - 1) (drop 1 p)

-- each node is linked to the next
abbrev pub LinkedInTurn : Topology → List ℕ → Type 0
LinkedInTurn T [] = Unit {0}
LinkedInTurn T (a ∷ []) = Unit {0}
LinkedInTurn T (a ∷ b ∷ p) = Joined T a b × LinkedInTurn T (b ∷ p)

-- distinct nodes below N, each linked to the next, by any number of hops
pub record Path (T : Topology) (p : List ℕ) : Type 0 where
  pub some : 1 ≤ hop_count p
  pub known : (a : ℕ) → a ∈ p → a < nodes T
  pub distinct : Distinct p
  pub linked : LinkedInTurn T p

-- every node in the middle is in the set of those that may stand there
abbrev pub KeepsTo : ℕ → List ℕ → Type 0
KeepsTo middle p = (a : ℕ) → a ∈ middles p → Has middle a

-- all N nodes
abbrev pub all_nodes : ℕ → ℕ
all_nodes N = 2 ^ N - 1

-- a path from the source to the destination that keeps to the set
pub record PathBetween (T : Topology) (middle source destination : ℕ) (p : List ℕ) : Type 0 where
  pub path : Path T p
  pub starts : get_or p 0 0 ≡ source
  pub ends : get_or p (hop_count p) 0 ≡ destination
  pub keeps : KeepsTo middle p

-- one of at most n hops
pub record PathWithin (n : ℕ) (T : Topology) (middle source destination : ℕ) (p : List ℕ) : Type 0 where
  pub between : PathBetween T middle source destination p
  pub most : hop_count p ≤ n

-- of those with P the shortest, and of several the one that comes first lexicographically
pub record Best (P : List ℕ → Type 0) (p : List ℕ) : Type 0 where
  pub is : P p
  pub shortest : (q : List ℕ) → P q → hop_count p ≤ hop_count q
  pub first : (q : List ℕ) → P q → hop_count q ≡ hop_count p → NoLater p q

-- ROUTES

-- a route has 1 to 15 hops
abbrev pub most_route_hops : ℕ
most_route_hops = 15

-- the planner's route: the best
abbrev pub Route : Topology → ℕ → ℕ → ℕ → List ℕ → Type 0
Route T middle source destination = Best (PathWithin most_route_hops T middle source destination)

-- none exists, of any number of hops
abbrev pub NoRoute : Topology → ℕ → ℕ → ℕ → Type 0
NoRoute T middle source destination = (p : List ℕ) → PathBetween T middle source destination p → ⊥

-- routes exist, but all have over 15 hops
pub record TooFar (T : Topology) (middle source destination : ℕ) : Type 0 where
  pub some : (p : List ℕ) × PathBetween T middle source destination p
  pub over : (p : List ℕ) → PathBetween T middle source destination p → most_route_hops < hop_count p

-- ROUTES TO CHOOSE FROM

-- a listed route, and a second one, has at most 6 hops
abbrev pub most_short_hops : ℕ
most_short_hops = 6

-- the list stops after 32
abbrev pub most_listed : ℕ
most_listed = 32

-- every list with P, each once, in order
pub record Exactly (P : List ℕ → Type 0) (every : List (List ℕ)) : Type 0 where
  pub rising : Pairwise Earlier every
  pub only : (p : List ℕ) → p ∈ every → P p
  pub all : (p : List ℕ) → P p → p ∈ every

-- the first 32 of them, and the mark that more exist
pub record FirstOf (P : List ℕ → Type 0) (routes : List (List ℕ)) (more : Bool) : Type 0 where
  pub every : List (List ℕ)
  pub exactly : Exactly P every
  pub first : routes ≡ take most_listed every
  pub more_is : Tests more (most_listed < length every)

-- the list of the routes of at most 6 hops
abbrev pub Listed : Topology → ℕ → ℕ → ℕ → List (List ℕ) → Bool → Type 0
Listed T middle source destination = FirstOf (PathWithin most_short_hops T middle source destination)

-- A SECOND ROUTE

-- at most 6 hops, not the first route, and no middle node in common with it
pub record Beside (first p : List ℕ) : Type 0 where
  pub short : hop_count p ≤ most_short_hops
  pub another : p ≡ first → ⊥
  pub no_common : (a : ℕ) → a ∈ middles first → a ∈ middles p → ⊥

-- a path that may be the second beside the first
abbrev pub SecondPath : Topology → ℕ → ℕ → ℕ → List ℕ → List ℕ → Type 0
SecondPath T middle source destination first p = PathBetween T middle source destination p × Beside first p

-- the second route: the best
abbrev pub SecondRoute : Topology → ℕ → ℕ → ℕ → List ℕ → List ℕ → Type 0
SecondRoute T middle source destination first = Best (SecondPath T middle source destination first)

-- CLASHES, over the hearing

-- a hop from a node to the next
pub record Hop : Type 0 where
  pub from : ℕ
  pub to : ℕ

-- hop i of a list of nodes
abbrev pub hop_at : List ℕ → ℕ → Hop
hop_at p i = record { from = get_or p i 0; to = get_or p (suc i) 0 }

-- the node is an end of the hop
abbrev pub Touches : ℕ → Hop → Type 0
Touches a h = (a ≡ h.from) ⊎ (a ≡ h.to)

-- the hops share a node, or the receiver of one hears the sender of the other
abbrev pub Clash : Topology → Hop → Hop → Type 0
Clash hearing h k = ((a : ℕ) × Touches a h × Touches a k) ⊎ Joined hearing h.from k.to ⊎ Joined hearing k.from h.to

-- no hop of the one route clashes with a hop of the other
abbrev pub NoClash : Topology → List ℕ → List ℕ → Type 0
NoClash hearing p q = (i j : ℕ) → i < hop_count p → j < hop_count q → Clash hearing (hop_at p i) (hop_at q j) → ⊥
