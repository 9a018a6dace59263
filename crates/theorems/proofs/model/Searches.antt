-- What the searches find is first, and there is none where they find none.
use mathlib.Core.Path.{◌≡◌, refl, sym, subst}
use mathlib.Core.Logic.{⊎_elim}
use mathlib.Core.Bool.{Bool, true, false, cond}
use mathlib.Core.Option.{Option, some, none}
use Prim.Native.Nat.{ℕ, zero, suc, ◌+◌, ◌<◌, ◌≤◌}
use native.Mathlib.Omega.{arith}
use native.Mathlib.Nat.{eq-or-lt_of_le}
use Rattle.rules.proofs.Greedy.{Least}
use Rattle.theorems.specs.model.Search.{or_else, first_from, least_from}
use Rattle.rules.specs.Words.{Tests}
use Rattle.rules.proofs.Tests.{never}

-- P of what was found, or N where nothing was
abbrev pub Found : {A : Type 0} → (A → Type 0) → Type 0 → Option A → Type 0
Found P N none = N
Found P N (some x) = P x

-- the first of the numbers from lo on, below hi, with an answer, and the answer
pub record FirstAt {A : Type 0} (P : ℕ → A → Type 0) (N : ℕ → Type 0) (lo hi : ℕ) (x : A) : Type 0 where
  pub at : ℕ
  pub above : lo ≤ at
  pub below : at < hi
  pub here : P at x
  pub not_before : (j : ℕ) → lo ≤ j → j < at → N j

module _ {A : Type 0} (P : ℕ → A → Type 0) (N : ℕ → Type 0) (f : ℕ → Option A) (h : (i : ℕ) → Found (P i) (N i) (f i)) where
  step : (count lo : ℕ) (o rest : Option A) → Found (P lo) (N lo) o
      → Found (FirstAt P N (suc lo) (suc lo + count)) ((j : ℕ) → suc lo ≤ j → j < suc lo + count → N j) rest
      → Found (FirstAt P N lo (lo + suc count)) ((j : ℕ) → lo ≤ j → j < lo + suc count → N j) (or_else o rest)
  step count lo none none n g = λ j l m. ⊎_elim (λ (e : lo ≡ j). subst N e n) (λ (k : lo < j). g j k (omega arith)) (eq-or-lt_of_le l)
  step count lo none (some x) n g = record {
    at = g.at;
    above = omega arith;
    below = omega arith;
    here = g.here;
    not_before = λ j l m. ⊎_elim (λ (e : lo ≡ j). subst N e n) (λ (k : lo < j). g.not_before j k m) (eq-or-lt_of_le l);
  }
  step count lo (some x) rest p g = record { at = lo; above = omega arith; below = omega arith; here = p; not_before = λ j l m. absurd (omega arith) }

  pub first_found : (count lo : ℕ) → Found (FirstAt P N lo (lo + count)) ((j : ℕ) → lo ≤ j → j < lo + count → N j) (first_from count lo f)
  first_found zero lo = λ j l m. absurd (omega arith)
  first_found (suc count) lo = step count lo (f lo) (first_from count (suc lo) f) (h lo) (first_found count (suc lo))

-- THE LEAST
module _ (F : ℕ → Type 0) (f : ℕ → Bool) (h : (i : ℕ) → Tests (f i) (F i)) where
  tried : (i : ℕ) (t : Bool) → Tests t (F i) → Found (λ (o : ℕ). (o ≡ i) × F i) (F i → ⊥) (cond t (some i) none)
  tried i true a = (refl, a.yes refl)
  tried i false a = λ p. never (a.back p)

  least_of : (lo hi : ℕ) (o : Option ℕ) → Found (FirstAt (λ i o. (o ≡ i) × F i) (λ i. F i → ⊥) lo hi) ((j : ℕ) → lo ≤ j → j < hi → F j → ⊥) o
      → Found (Least F lo hi) ((j : ℕ) → lo ≤ j → j < hi → F j → ⊥) o
  least_of lo hi none g = g
  least_of lo hi (some o) g = record {
    above = omega (arith, g.here.0);
    below = omega (arith, g.here.0);
    holds = subst F (sym g.here.0) g.here.1;
    none_before = λ k l m. g.not_before k l (omega (arith, g.here.0));
  }

  pub least_found : (count lo : ℕ) → Found (Least F lo (lo + count)) ((j : ℕ) → lo ≤ j → j < lo + count → F j → ⊥) (least_from count lo f)
  least_found count lo =
      least_of lo (lo + count) (least_from count lo f)
      (first_found (λ i o. (o ≡ i) × F i) (λ i. F i → ⊥) (λ i. cond (f i) (some i) none) (λ i. tried i (f i) (h i)) count lo)
