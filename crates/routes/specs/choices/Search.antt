-- The search: the walks on from a node, and what is kept of the routes found so far.
use Rattle.std.specs.Prelude.{◌≡◌, List, [], ◌∷◌, ◌++◌, ℕ, ◌+◌, ◌*◌, ◌<◌, ◌≤◌, min, length, get_or, take}
use Rattle.rules.specs.Words.{Has, ◌∈◌, Distinct, Tests}
use Rattle.rules.specs.Topology.{Topology, nodes, NodesInRange, SoundTopology, LinkedInTurn, most_short_hops, most_listed, Exactly, Listed}
use Rattle.rules.specs.Calls.{list_bytes}
use Rattle.writer.specs.Over.{over}
use Rattle.routes.specs.declared.choices.Tally.{Tally}

-- the most nodes that a listed route has
abbrev pub short_places : ℕ
short_places = most_short_hops + 1

-- bytes for 32 routes, each a hop byte and its nodes
abbrev pub list_room : ℕ
list_room = (1 + short_places) * most_listed

-- the nodes after a, each linked to the next, the last of them z
pub record Walk (T : Topology) (z a : ℕ) (p : List ℕ) : Type 0 where
  pub linked : LinkedInTurn T (a ∷ p)
  pub ends : get_or (a ∷ p) (length p) 0 ≡ z

-- none of the nodes is barred
abbrev pub Avoids : ℕ → List ℕ → Type 0
Avoids barred p = (x : ℕ) → x ∈ p → Has barred x → ⊥

-- the nodes after a, at most n links to z: none twice, and none barred
pub record Leads (T : Topology) (z n barred a : ℕ) (p : List ℕ) : Type 0 where
  pub short : length p ≤ n
  pub walk : Walk T z a p
  pub distinct : Distinct (a ∷ p)
  pub avoids : Avoids barred p

-- a node out of next, and at most n links on from it
abbrev pub Onward : Topology → ℕ → ℕ → ℕ → ℕ → List ℕ → Type 0
Onward T z n barred next [] = ⊥
Onward T z n barred next (m ∷ p) = Has next m × Leads T z n barred m p

-- each of the lists behind the front
abbrev pub behind : List ℕ → List (List ℕ) → List (List ℕ)
behind front [] = []
behind front (p ∷ ps) = (front ++ p) ∷ behind front ps

-- the set has every node from which at most n links lead to z over nodes that are not barred
abbrev pub Near : Topology → ℕ → ℕ → ℕ → ℕ → Type 0
Near T z barred n set = (a : ℕ) (p : List ℕ) → length p ≤ n → Walk T z a p → Avoids barred (a ∷ p) → Has set a

-- a sound topology, and a destination on it
pub record Ground (T : Topology) (z : ℕ) : Type 0 where
  pub range : NodesInRange (nodes T)
  pub sound : SoundTopology T
  pub known : z < nodes T

-- where the search may stand
pub record Standing (T : Topology) (z left : ℕ) (path : List ℕ) : Type 0 where
  pub ground : Ground T z
  pub most : left ≤ most_short_hops
  pub size : length path ≡ short_places

-- the tally and the buffer leave room for 32 routes
pub record Room (t : Tally) (bytes : List ℕ) : Type 0 where
  pub count_most : t.count ≤ most_listed
  pub length_most : t.length ≤ (1 + short_places) * t.count
  pub size : length bytes ≡ list_room

-- of the routes rs the first 32 are kept, over what was in the buffer
pub record Kept (before : List ℕ) (rs : List (List ℕ)) (t : Tally) (bytes : List ℕ) : Type 0 where
  pub count_is : t.count ≡ min most_listed (length rs)
  pub more_is : Tests t.more (most_listed < length rs)
  pub length_is : t.length ≡ length (list_bytes (take most_listed rs))
  pub buffer : bytes ≡ over before 0 (list_bytes (take most_listed rs))

-- these routes were found after those of before
pub record Adds (new : List (List ℕ)) (t : Tally) (bytes : List ℕ) (t' : Tally) (bytes' : List ℕ) : Type 0 where
  pub room : Room t' bytes'
  pub kept : (before : List ℕ) (rs : List (List ℕ)) → Kept before rs t bytes → Kept before (rs ++ new) t' bytes'

-- the walks with P were found, behind the front
pub record Finds (P : List ℕ → Type 0) (front : List ℕ) (t : Tally) (bytes : List ℕ) (t' : Tally) (bytes' : List ℕ) : Type 0 where
  pub walks : List (List ℕ)
  pub exactly : Exactly P walks
  pub adds : Adds (behind front walks) t bytes t' bytes'

-- the list is in the buffer
pub record Found (T : Topology) (middle source destination : ℕ) (t : Tally) (bytes : List ℕ) : Type 0 where
  pub routes : List (List ℕ)
  pub listed : Listed T middle source destination routes t.more
  pub length_is : t.length ≡ length (list_bytes routes)
  pub inside : t.length ≤ length bytes
  pub buffer : take t.length bytes ≡ list_bytes routes
