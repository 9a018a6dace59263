-- The placing that is searched for is the first one, and there is none where none is found.
use mathlib.Core.Logic.{◌↔◌}
use mathlib.Core.Bool.{Bool}
use mathlib.Core.List.{List}
use mathlib.Core.Option.{Option, some, none}
use Prim.Native.Nat.{ℕ, zero, suc, ◌+◌, ◌-◌, ◌<◌, ◌≤◌}
use native.Mathlib.Omega.{arith}
use Rattle.rules.specs.Words.{Tests}
use Rattle.rules.specs.Topology.{hop_count, hop_at}
use Rattle.rules.specs.Book.{Book}
use Rattle.rules.specs.Placing.{Placing, FirstPlacing, NoPlacing}
use Rattle.rules.proofs.Tests.{decided}
use Rattle.rules.proofs.Greedy.{Least, FirstPlaces, NoPlaces, none_from, none_behind, first_behind, FreeAt, bound, placing_places, places_placing, GreedyPlacing, placing_greedy}
use Rattle.theorems.specs.model.Test.{is_free}
use Rattle.theorems.specs.model.Search.{before, and_then, least_from, place_from, placing_of}
use Rattle.theorems.proofs.model.Tests.{tests_free}
use Rattle.theorems.proofs.model.Searches.{Found, least_found}

module _ (F : ℕ → ℕ → Type 0) (B : ℕ) (f : ℕ → ℕ → Bool) (h : (i o : ℕ) → Tests (f i o) (F i o)) where
  reached : (i lo : ℕ) (o : Option ℕ) → Found (Least (F i) lo (lo + (B - lo))) ((k : ℕ) → lo ≤ k → k < lo + (B - lo) → F i k → ⊥) o
      → Found (Least (F i) lo B) ((k : ℕ) → lo ≤ k → k < B → F i k → ⊥) o
  reached i lo none s = λ k l m. s k l (omega arith)
  reached i lo (some o) s = record { above = s.above; below = omega arith; holds = s.holds; none_before = s.none_before }

  behind : (n i lo o : ℕ) (rest : Option (List ℕ)) → Least (F i) lo B o → Found (FirstPlaces F B n (suc i) (suc o)) (NoPlaces F B n (suc i) (suc o)) rest
      → Found (FirstPlaces F B (suc n) i lo) (NoPlaces F B (suc n) i lo) (before o rest)
  behind n i lo o none l a = none_behind F B n i lo o l a
  behind n i lo o (some os) l a = first_behind F B n i lo o os l a

  next : (n i lo : ℕ) (o : Option ℕ) (rest : ℕ → Option (List ℕ)) → Found (Least (F i) lo B) ((k : ℕ) → lo ≤ k → k < B → F i k → ⊥) o
      → ((o : ℕ) → Found (FirstPlaces F B n (suc i) (suc o)) (NoPlaces F B n (suc i) (suc o)) (rest o))
      → Found (FirstPlaces F B (suc n) i lo) (NoPlaces F B (suc n) i lo) (and_then o (λ (o : ℕ). before o (rest o)))
  next n i lo none rest s a = none_from F B n i lo s
  next n i lo (some o) rest s a = behind n i lo o (rest o) s (a o)

  pub places_found : (n i lo : ℕ) → Found (FirstPlaces F B n i lo) (NoPlaces F B n i lo) (place_from f B n i lo)
  places_found zero i lo = record { places = tt; first = λ ps p. tt }
  places_found (suc n) i lo =
      next n i lo (least_from (B - lo) lo (f i)) (λ o. place_from f B n (suc i) (suc o))
      (reached i lo (least_from (B - lo) lo (f i)) (least_found (F i) (f i) (h i) (B - lo) lo)) (λ o. places_found n (suc i) (suc o))

module _ (b : Book) (K : ℕ) (route : List ℕ) where
  agreed : (o : Option (List ℕ))
      → Found (FirstPlaces (FreeAt b K route) (bound b K route) (hop_count route) 0 0) (NoPlaces (FreeAt b K route) (bound b K route) (hop_count route) 0 0) o
      → Found (FirstPlacing b K route) (NoPlacing b K route) o
  agreed none s = λ ps p. s ps (placing_places b K route ps p)
  agreed (some os) s = record { placing = places_placing b K route os s.places; first = λ ps p. s.first ps (placing_places b K route ps p) }

  pub placing_found : Found (FirstPlacing b K route) (NoPlacing b K route) (placing_of b K route)
  placing_found =
      agreed (placing_of b K route)
      (places_found (FreeAt b K route) (bound b K route) (λ i o. is_free b K (hop_at route i) o) (λ i o. tests_free b K (hop_at route i) o) (hop_count route) 0 0)

-- a placing exists exactly if the greedy one does
pub placing_exists : (b : Book) (K : ℕ) (route : List ℕ) → ((os : List ℕ) × Placing b K route os) ↔ ((os : List ℕ) × GreedyPlacing b K route os)
placing_exists b K route = placing_greedy b K route (λ h o. decided (tests_free b K h o))
