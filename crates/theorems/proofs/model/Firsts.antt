-- The number of the first test that passes is what the refusals say; tests of an answer that was found.
use mathlib.Core.Path.{◌≡◌, refl, subst}
use mathlib.Core.Logic.{inl, inr}
use mathlib.Core.Bool.{Bool, true, false, cond}
use mathlib.Core.List.{List, [], ◌∷◌}
use mathlib.Core.Option.{Option, some, none}
use Rattle.rules.specs.Words.{Tests}
use Rattle.rules.specs.Says.{Refusal, Says}
use Rattle.rules.proofs.Tests.{never}
use Rattle.theorems.specs.model.Answer.{Tested, first_number, passes, is_none}
use Rattle.theorems.proofs.model.Searches.{Found}

-- each test is its refusal's, where none before it applies
abbrev pub Agree : List Tested → List Refusal → Type 0
Agree [] [] = Unit {0}
Agree [] (r ∷ rs) = ⊥
Agree (t ∷ ts) [] = ⊥
Agree (t ∷ ts) (r ∷ rs) = (t.number ≡ r.number) × Tests t.applies r.applies × ((r.applies → ⊥) → Agree ts rs)

pub first_says : (ts : List Tested) (rs : List Refusal) → Agree ts rs → Says rs (first_number ts)
first_says [] [] a = refl
first_says [] (r ∷ rs) a = absurd a
first_says (t ∷ ts) [] a = absurd a
first_says (t ∷ ts) (r ∷ rs) a = go t.applies a.1 (λ f. first_says ts rs (a.2 f))
  where
    go : (s : Bool) → Tests s r.applies → ((r.applies → ⊥) → Says rs (first_number ts)) → Says (r ∷ rs) (cond s t.number (first_number ts))
    go true h g = inl (h.yes refl, a.0)
    go false h g = let f : r.applies → ⊥ = λ p. never (h.back p) in inr (f, g f)

-- P is of one value, and the option has it or there is none
module _ {A : Type 0} {P : A → Type 0} {N : Type 0} (other : (x : A) → P x → N → ⊥) where
  pub tests_none : (o : Option A) → Found P N o → Tests (is_none o) N
  tests_none none g = record { yes = λ e. g; back = λ n. refl }
  tests_none (some x) g = record { yes = λ e. never e; back = λ n. absurd (other x g n) }

  pub tests_passes : ((x y : A) → P x → P y → x ≡ y) → (Q : A → Type 0) (f : A → Bool) → ((x : A) → P x → Tests (f x) (Q x)) → (o : Option A) → Found P N o
      → Tests (passes f o) ((x : A) × P x × Q x)
  tests_passes one Q f h none g = record { yes = λ e. never e; back = λ p. absurd (other p.0 p.1 g) }
  tests_passes one Q f h (some x) g = record { yes = λ e. (x, g, (h x g).yes e); back = λ p. (h x g).back (subst Q (one p.0 x p.1 g) p.2) }
