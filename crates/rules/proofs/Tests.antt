-- Tests of facts joined, turned round, of two numbers, of all below a number and of the members of a list.
use mathlib.Core.Path.{◌≡◌, refl, sym, ◌∙◌, subst}
use mathlib.Core.Logic.{◌⊎◌, inl, inr, ⊎_elim}
use mathlib.Core.Bool.{Bool, true, false, not, ◌&&◌, ◌||◌}
use mathlib.Core.List.{List, [], ◌∷◌}
use Prim.Native.Nat.{ℕ, zero, suc, ◌<◌, ◌≤◌}
use native.Mathlib.Omega.{arith}
use native.Mathlib.Nat.{eq-or-lt_of_le, le_of_suc-le-suc, le_refl, le_trans, le-suc}
use borrow.Author.Tests.{ltb-true, leb-true, eqb-true, lt-ltb, le-leb, eq-eqb}
use lib.Dec.{eqb, leb, ltb}
use Rattle.rules.specs.Words.{◌∈◌, Tests}

pub never : {A : Type 0} → false ≡ true → A
never e = let z : ◌≡◌ {A = ℕ} 0 1 = cc in absurd (omega arith)

pub alike : {t : Bool} {P Q : Type 0} → Tests t P → (P → Q) → (Q → P) → Tests t Q
alike a f g = record { yes = λ e. f (a.yes e); back = λ q. a.back (g q) }

pub tests_and : {s t : Bool} {P Q : Type 0} → Tests s P → Tests t Q → Tests (s && t) (P × Q)
tests_and {s = true} a b = record { yes = λ e. (a.yes refl, b.yes e); back = λ p. b.back p.1 }
tests_and {s = false} a b = record { yes = λ e. never e; back = λ p. a.back p.0 }

pub tests_or : {s t : Bool} {P Q : Type 0} → Tests s P → Tests t Q → Tests (s || t) (P ⊎ Q)
tests_or {s = true} a b = record { yes = λ e. inl (a.yes refl); back = λ p. refl }
tests_or {s = false} a b = record { yes = λ e. inr (b.yes e); back = λ p. ⊎_elim (λ h. never (a.back h)) (λ h. b.back h) p }

pub tests_not : {t : Bool} {P : Type 0} → Tests t P → Tests (not t) (P → ⊥)
tests_not {t = true} a = record { yes = λ e. never e; back = λ f. absurd (f (a.yes refl)) }
tests_not {t = false} a = record { yes = λ e p. never (a.back p); back = λ f. refl }

pub tests_eq : (a b : ℕ) → Tests (eqb a b) (a ≡ b)
tests_eq a b = record { yes = eqb-true a b; back = eq-eqb a b }

pub tests_le : (a b : ℕ) → Tests (leb a b) (a ≤ b)
tests_le a b = record { yes = leb-true a b; back = le-leb a b }

pub tests_lt : (a b : ℕ) → Tests (ltb a b) (a < b)
tests_lt a b = record { yes = ltb-true a b; back = lt-ltb a b }

-- a test that fails says that P does not hold
pub fails : {t : Bool} {P : Type 0} → Tests t P → t ≡ false → P → ⊥
fails a e p = never (sym e ∙ a.back p)

-- what can be tested holds or does not
pub decided : {t : Bool} {P : Type 0} → Tests t P → Dec P
decided {t = true} a = yes (a.yes refl)
decided {t = false} a = no (λ p. never (a.back p))

-- a test that said yes, and one that said no
pub said_yes : {P : Type 0} → P → Tests true P
said_yes p = record { yes = λ e. p; back = λ q. refl }

pub said_no : {P : Type 0} → (P → ⊥) → Tests false P
said_no f = record { yes = λ e. never e; back = λ p. absurd (f p) }

-- a part of Q that failed is a test of Q
pub part_failed : {t : Bool} {P Q : Type 0} → Tests t P → t ≡ false → (Q → P) → Tests t Q
part_failed a e f = record { yes = λ y. never (sym e ∙ y); back = λ q. a.back (f q) }

-- ALL AND SOME
-- the test passes at every number below n, and at some number
abbrev pub all_below : ℕ → (ℕ → Bool) → Bool
all_below zero f = true
all_below (suc n) f = f n && all_below n f

abbrev pub some_below : ℕ → (ℕ → Bool) → Bool
some_below zero f = false
some_below (suc n) f = f n || some_below n f

-- the test passes at every member, and at some member
abbrev pub all_of : {A : Type 0} → (A → Bool) → List A → Bool
all_of f [] = true
all_of f (x ∷ xs) = f x && all_of f xs

abbrev pub some_of : {A : Type 0} → (A → Bool) → List A → Bool
some_of f [] = false
some_of f (x ∷ xs) = f x || some_of f xs

module _ {P : ℕ → Type 0} (f : ℕ → Bool) (h : (i : ℕ) → Tests (f i) (P i)) where
  pub tests_all : (n : ℕ) → Tests (all_below n f) ((i : ℕ) → i < n → P i)
  tests_all zero = record { yes = λ e i l. absurd (omega arith); back = λ g. refl }
  tests_all (suc n) =
      alike (tests_and (h n) (tests_all n))
      (λ p i l. ⊎_elim (λ (e : i ≡ n). subst P (sym e) p.0) (λ (m : i < n). p.1 i m) (eq-or-lt_of_le (le_of_suc-le-suc l)))
      (λ g. (g n (le_refl (suc n)), λ i l. g i (le_trans l (le-suc n))))

  pub tests_some : (n : ℕ) → Tests (some_below n f) ((i : ℕ) × (i < n) × P i)
  tests_some zero = record { yes = λ e. never e; back = λ p. absurd (omega (arith, p.1)) }
  tests_some (suc n) =
      alike (tests_or (h n) (tests_some n))
      (λ p. ⊎_elim (λ q. (n, le_refl (suc n), q)) (λ q. (q.0, le_trans q.1 (le-suc n), q.2)) p)
      (λ p. ⊎_elim (λ (e : p.0 ≡ n). inl (subst P e p.2)) (λ (m : p.0 < n). inr (p.0, m, p.2)) (eq-or-lt_of_le (le_of_suc-le-suc p.1)))

module _ {A : Type 0} {P : A → Type 0} (f : A → Bool) (h : (x : A) → Tests (f x) (P x)) where
  pub tests_member : (xs : List A) → Tests (some_of f xs) ((x : A) × (x ∈ xs) × P x)
  tests_member [] = record { yes = λ e. never e; back = λ p. absurd p.1 }
  tests_member (y ∷ ys) =
      alike (tests_or (h y) (tests_member ys))
      (λ p. ⊎_elim (λ q. (y, inl refl, q)) (λ q. (q.0, inr q.1, q.2)) p)
      (λ p. ⊎_elim (λ (e : p.0 ≡ y). inl (subst P e p.2)) (λ (m : p.0 ∈ ys). inr (p.0, m, p.2)) p.1)

  pub tests_every : (xs : List A) → Tests (all_of f xs) ((x : A) → x ∈ xs → P x)
  tests_every [] = record { yes = λ e x m. absurd m; back = λ p. refl }
  tests_every (y ∷ ys) =
      alike (tests_and (h y) (tests_every ys))
      (λ p x m. ⊎_elim (λ (e : x ≡ y). subst P (sym e) p.0) (λ (k : x ∈ ys). p.1 x k) m)
      (λ g. (g y (inl refl), λ x m. g x (inr m)))
