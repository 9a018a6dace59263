-- The set of nodes that may stand in the middle of a route: with all nodes in it the planner is the plain one, and books made with one set keep to it.
use Rattle.std.specs.Prelude.{◌≡◌, ◌↔◌, Bool, true, List, [], ◌∷◌, ℕ, ◌<◌, ◌≤◌, get_or}
use Rattle.rules.specs.Words.{◌∈◌}
use Rattle.rules.specs.Topology.{Topology, nodes, hop_count, Path, all_nodes, Best, most_route_hops, Route, NoRoute, TooFar, most_short_hops, FirstOf, Listed, Beside, SecondRoute}
use Rattle.rules.specs.Calls.{Request, Keeps}
use Rattle.rules.specs.Order.{IdInRange, Posting}

-- THE PLAIN PLANNER, which knows no set

-- a path from the source to the destination
pub record PlainBetween (T : Topology) (source destination : ℕ) (p : List ℕ) : Type 0 where
  pub path : Path T p
  pub starts : get_or p 0 0 ≡ source
  pub ends : get_or p (hop_count p) 0 ≡ destination

-- one of at most n hops
abbrev pub PlainWithin : ℕ → Topology → ℕ → ℕ → List ℕ → Type 0
PlainWithin n T source destination p = PlainBetween T source destination p × (hop_count p ≤ n)

-- the best of at most 15 hops
abbrev pub PlainRoute : Topology → ℕ → ℕ → List ℕ → Type 0
PlainRoute T source destination = Best (PlainWithin most_route_hops T source destination)

-- none exists
abbrev pub PlainNone : Topology → ℕ → ℕ → Type 0
PlainNone T source destination = (p : List ℕ) → PlainBetween T source destination p → ⊥

-- some exist, and all have over 15 hops
abbrev pub PlainFar : Topology → ℕ → ℕ → Type 0
PlainFar T source destination =
    ((p : List ℕ) × PlainBetween T source destination p) × ((p : List ℕ) → PlainBetween T source destination p → most_route_hops < hop_count p)

-- the list of those of at most 6 hops
abbrev pub PlainListed : Topology → ℕ → ℕ → List (List ℕ) → Bool → Type 0
PlainListed T source destination = FirstOf (PlainWithin most_short_hops T source destination)

-- the best beside a first
abbrev pub PlainSecond : Topology → ℕ → ℕ → List ℕ → List ℕ → Type 0
PlainSecond T source destination first = Best (λ (p : List ℕ). PlainBetween T source destination p × Beside first p)

-- with all N nodes in the set each is what the planner gives
pub record Plain (T : Topology) (source destination : ℕ) : Type 0 where
  pub route : (p : List ℕ) → Route T (all_nodes (nodes T)) source destination p ↔ PlainRoute T source destination p
  pub none : NoRoute T (all_nodes (nodes T)) source destination ↔ PlainNone T source destination
  pub far : TooFar T (all_nodes (nodes T)) source destination ↔ PlainFar T source destination
  pub listed : (routes : List (List ℕ)) (more : Bool) → Listed T (all_nodes (nodes T)) source destination routes more ↔ PlainListed T source destination routes more
  pub second : (first p : List ℕ) → SecondRoute T (all_nodes (nodes T)) source destination first p ↔ PlainSecond T source destination first p

abbrev pub AllNodesArePlain : Type 0
AllNodesArePlain = (T : Topology) (source destination : ℕ) → Plain T source destination

-- BOOKS MADE WITH ONE SET

-- lists posted one after the other, all with the set, each on the image that the one before left; indexes and buffers have any size
abbrev pub ByPosts : ℕ → List ℕ → List (List Request) → List ℕ → Type 0
ByPosts mains image [] last = last ≡ image
ByPosts mains image (qs ∷ lists) last =
    (number : ℕ) × (answers between : List ℕ) × Posting (λ (image index out : List ℕ). Unit {0}) image mains qs number answers between × ByPosts mains between lists last

-- where the book that they start from keeps to the set, so does the last
abbrev pub PostsKeepTheSet : Type 0
PostsKeepTheSet =
    (image : List ℕ) (mains : ℕ) (lists : List (List Request)) (last : List ℕ) → ((qs : List Request) → qs ∈ lists → (q : Request) → q ∈ qs → IdInRange q)
    → Keeps image mains 0 true → ByPosts mains image lists last → Keeps last mains 0 true
