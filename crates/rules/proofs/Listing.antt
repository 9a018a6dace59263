-- There is one list of the first 32.
use mathlib.Core.Path.{◌≡◌, refl, sym, ap, ◌∙◌, subst}
use mathlib.Core.Logic.{inl, inr}
use mathlib.Core.Bool.{Bool, true, false}
use mathlib.Core.List.{List, [], ◌∷◌}
use Prim.Native.Nat.{ℕ, ◌<◌}
use native.Mathlib.Omega.{arith}
use lib.ListN.{length, take}
use Rattle.rules.specs.Words.{Earlier, Tests}
use Rattle.rules.specs.Topology.{most_listed, Exactly, FirstOf}
use Rattle.rules.proofs.Lists.{order_unique}

never_both : (xs ys : List ℕ) → Earlier xs ys → Earlier ys xs → ⊥
never_both xs [] h k = h
never_both [] (y ∷ ys) h k = k
never_both (x ∷ xs) (y ∷ ys) (inl h) (inl k) = omega arith
never_both (x ∷ xs) (y ∷ ys) (inl h) (inr k) = omega arith
never_both (x ∷ xs) (y ∷ ys) (inr h) (inl k) = omega arith
never_both (x ∷ xs) (y ∷ ys) (inr h) (inr k) = never_both xs ys h.1 k.1

-- a test of one thing has one answer
pub tests_unique : (s t : Bool) {P : Type 0} → Tests s P → Tests t P → s ≡ t
tests_unique true true g h = refl
tests_unique true false g h = sym (h.back (g.yes refl))
tests_unique false true g h = g.back (h.yes refl)
tests_unique false false g h = refl

pub first_unique : {P : List ℕ → Type 0} {xs ys : List (List ℕ)} (m k : Bool) → FirstOf P xs m → FirstOf P ys k → (xs ≡ ys) × (m ≡ k)
first_unique m k f g = (
  f.first ∙ ap (take most_listed) same ∙ sym g.first,
  tests_unique m k f.more_is (subst (λ (zs : List (List ℕ)). Tests k (most_listed < length zs)) (sym same) g.more_is),
)
  where
    same : f.every ≡ g.every
    same =
        order_unique Earlier never_both f.every g.every f.exactly.rising g.exactly.rising
        (λ x h. g.exactly.all x (f.exactly.only x h)) (λ x h. f.exactly.all x (g.exactly.only x h))

-- what is listed of P is listed of what is true alike
pub exactly_same : {P Q : List ℕ → Type 0} {ws : List (List ℕ)} → ((p : List ℕ) → P p → Q p) → ((p : List ℕ) → Q p → P p) → Exactly P ws → Exactly Q ws
exactly_same f g e = record { rising = e.rising; only = λ p h. f p (e.only p h); all = λ p h. e.all p (g p h) }
