-- The laws of counts: the numbers that pass a test, and a count parted in two.
use mathlib.Core.Path.{◌≡◌, refl, sym, ap, subst}
use mathlib.Core.Bool.{Bool, true, false, cond}
use Prim.Native.Nat.{ℕ, zero, suc, ◌+◌, ◌≤◌}
use native.Mathlib.Omega.{arith}
use native.Mathlib.Decide.{ℕ_discrete}
use Rattle.rules.specs.Words.{Count, Tests}
use Rattle.rules.specs.Words.Count.{none, one, skip}
use Rattle.rules.specs.Table.{sum_below}
use Rattle.rules.proofs.Tests.{never}

-- 1 where the test passes
abbrev pub if_so : Bool → ℕ
if_so t = cond t 1 0

pub so : {t : Bool} {P : Type 0} → Tests t P → P → if_so t ≡ 1
so a p = ap if_so (a.back p)

pub not_so : {t : Bool} {P : Type 0} → Tests t P → (P → ⊥) → if_so t ≡ 0
not_so {t = true} a f = absurd (f (a.yes refl))
not_so {t = false} a f = refl

-- those that pass are as many as the ones summed
pub counted : {P : ℕ → Type 0} (f : ℕ → Bool) → ((i : ℕ) → Tests (f i) (P i)) → (n : ℕ) → Count P n (sum_below n (λ (i : ℕ). if_so (f i)))
counted f h zero = none
counted {P} f h (suc n) = go (f n) (h n) (counted f h n)
  where
    go : (t : Bool) → Tests t (P n) → Count P n (sum_below n (λ (i : ℕ). if_so (f i))) → Count P (suc n) (if_so t + sum_below n (λ (i : ℕ). if_so (f i)))
    go true a c = subst (Count P (suc n)) (omega arith) (one c (a.yes refl))
    go false a c = subst (Count P (suc n)) (omega arith) (skip c (λ p. never (a.back p)))

pub count_most : {P : ℕ → Type 0} {n k : ℕ} → Count P n k → k ≤ n
count_most none = omega arith
count_most (one c p) = let h = count_most c in omega arith
count_most (skip c p) = let h = count_most c in omega arith

-- where none holds from a number on, those below it are all
pub count_below : {P : ℕ → Type 0} {w m k : ℕ} → ((i : ℕ) → w ≤ i → P i → ⊥) → w ≤ m → Count P m k → Count P w k
count_below {P} {w} f l none = subst (λ (i : ℕ). Count P i 0) (omega arith) none
count_below {P} {w} f l (one {n} {k} c p) = go (ℕ_discrete w (suc n))
  where
    go : Dec (w ≡ suc n) → Count P w (suc k)
    go (yes e) = subst (λ (i : ℕ). Count P i (suc k)) (sym e) (one c p)
    go (no g) = absurd (f n (omega (arith, g)) p)
count_below {P} {w} f l (skip {n} {k} c p) = go (ℕ_discrete w (suc n)) (λ h. count_below f h c)
  where
    go : Dec (w ≡ suc n) → (w ≤ n → Count P w k) → Count P w k
    go (yes e) more = subst (λ (i : ℕ). Count P i k) (sym e) (skip c p)
    go (no g) more = more (omega (arith, g))

-- what is 1 where P holds, and 0 elsewhere, sums to the count
pub count_sum : {P : ℕ → Type 0} {n k : ℕ} (f : ℕ → ℕ) → ((i : ℕ) → P i → f i ≡ 1) → ((i : ℕ) → (P i → ⊥) → f i ≡ 0) → Count P n k → k ≡ sum_below n f
count_sum f y z none = refl
count_sum f y z (one {n} c p) = omega (arith, y n p, count_sum f y z c)
count_sum f y z (skip {n} c p) = omega (arith, z n p, count_sum f y z c)

-- and of those with P, what is 1 where Q does not hold makes up the rest
pub count_rest : {P Q : ℕ → Type 0} {n k m : ℕ} (f : ℕ → ℕ) → ((i : ℕ) → Q i → P i) → ((i : ℕ) → P i → (Q i → ⊥) → f i ≡ 1)
    → ((i : ℕ) → Q i → f i ≡ 0) → ((i : ℕ) → (P i → ⊥) → f i ≡ 0) → Count P n k → Count Q n m → k ≡ sum_below n f + m
count_rest f i y z u none none = refl
count_rest f i y z u (one {n} c p) (one d q) = omega (arith, z n q, count_rest f i y z u c d)
count_rest f i y z u (one {n} c p) (skip d q) = omega (arith, y n p q, count_rest f i y z u c d)
count_rest f i y z u (skip {n} c p) (one d q) = absurd (p (i n q))
count_rest f i y z u (skip {n} c p) (skip d q) = omega (arith, u n p, count_rest f i y z u c d)
