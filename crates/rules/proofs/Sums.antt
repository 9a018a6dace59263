-- The laws of sums.
use mathlib.Core.Path.{◌≡◌, refl, sym, ap, ap₂, ◌∙◌, subst}
use mathlib.Core.Logic.{⊎_elim}
use Prim.Native.Nat.{ℕ, zero, suc, ◌+◌, ◌*◌, ◌<◌}
use native.Mathlib.Nat.{le_refl, le-suc, le_trans, lt_irrefl, le_of_suc-le-suc, not-suc-le-zero, eq-or-lt_of_le, zero-mul, suc-mul, add-suc, add-zero}
use native.Mathlib.Omega.{arith}
use Rattle.rules.specs.Table.{sum_below}

pub sum_ext : (n : ℕ) (f g : ℕ → ℕ) → ((i : ℕ) → i < n → f i ≡ g i) → sum_below n f ≡ sum_below n g
sum_ext zero f g e = refl
sum_ext (suc n) f g e = ap₂ ◌+◌ (e n (le_refl _)) (sum_ext n f g (λ i l. e i (le_trans l (le-suc n))))

pub sum_all : (n c : ℕ) (f : ℕ → ℕ) → ((i : ℕ) → i < n → f i ≡ c) → sum_below n f ≡ n * c
sum_all zero c f e = sym (zero-mul c)
sum_all (suc n) c f e = omega (arith, e n (le_refl _), sum_all n c f (λ i l. e i (le_trans l (le-suc n))))

pub sum_none : (n : ℕ) (f : ℕ → ℕ) → ((i : ℕ) → i < n → f i ≡ 0) → sum_below n f ≡ 0
sum_none n f e = omega (arith, sum_all n 0 f e)

pub sum_add : (n : ℕ) (f g : ℕ → ℕ) → sum_below n (λ i. f i + g i) ≡ sum_below n f + sum_below n g
sum_add zero f g = refl
sum_add (suc n) f g = omega (arith, sum_add n f g)

pub sum_swap : (n m : ℕ) (f : ℕ → ℕ → ℕ) → sum_below n (λ i. sum_below m (λ j. f i j)) ≡ sum_below m (λ j. sum_below n (λ i. f i j))
sum_swap zero m f = sym (sum_none m (λ j. 0) (λ j l. refl))
sum_swap (suc n) m f =
    ap (λ (x : ℕ). sum_below m (λ j. f n j) + x) (sum_swap n m f) ∙ sym (sum_add m (λ j. f n j) (λ j. sum_below n (λ i. f i j)))

-- one number below n counts, and no other
pub sum_one : (n k c : ℕ) (f : ℕ → ℕ) → k < n → f k ≡ c → ((i : ℕ) → i < n → (i ≡ k → ⊥) → f i ≡ 0) → sum_below n f ≡ c
sum_one zero k c f l e z = absurd (not-suc-le-zero l)
sum_one (suc n) k c f l e z =
    ⊎_elim here (λ m. there m (sum_one n k c f m e (λ i u. z i (le_trans u (le-suc n))))) (eq-or-lt_of_le (le_of_suc-le-suc l))
  where
    here : k ≡ n → f n + sum_below n f ≡ c
    here q =
        let rest : sum_below n f ≡ 0 = sum_none n f (λ i m. z i (le_trans m (le-suc n)) (λ s. lt_irrefl n (subst (λ (x : ℕ). x < n) (s ∙ q) m))) in
        let at : f n ≡ c = ap f (sym q) ∙ e in
        omega arith

    there : k < n → sum_below n f ≡ c → f n + sum_below n f ≡ c
    there m rest =
        let at : f n ≡ 0 = z n (le_refl _) (λ s. lt_irrefl n (subst (λ (x : ℕ). x < n) (sym s) m)) in
        omega arith

pub sum_append : (n m : ℕ) (f : ℕ → ℕ) → sum_below (m + n) f ≡ sum_below m f + sum_below n (λ i. f (m + i))
sum_append zero m f = ap (λ (x : ℕ). sum_below x f) (add-zero m) ∙ omega arith
sum_append (suc n) m f = ap (λ (x : ℕ). sum_below x f) (add-suc m n) ∙ omega (arith, sum_append n m f)

-- n blocks of m
pub sum_blocks : (n m : ℕ) (f : ℕ → ℕ) → sum_below (n * m) f ≡ sum_below n (λ b. sum_below m (λ i. f (b * m + i)))
sum_blocks zero m f = ap (λ (x : ℕ). sum_below x f) (zero-mul m)
sum_blocks (suc n) m f =
    ap (λ (x : ℕ). sum_below x f) (suc-mul n m) ∙ sum_append m (n * m) f ∙ omega (arith, sum_blocks n m f)
