-- A set is known by its members, and a walk over them from the lowest on meets each.
use mathlib.Core.Path.{◌≡◌, sym, ◌∙◌, subst}
use mathlib.Core.Logic.{◌⊎◌, inl, inr}
use Prim.Native.Nat.{ℕ, zero, suc, ◌/◌, ◌-◌, ◌^◌, ◌<◌}
use native.Mathlib.Nat.{pow-suc}
use native.Mathlib.Decide.{ℕ_discrete}
use native.Mathlib.Omega.{arith}
use lib.Bits.{and_le_l, and_le_r}
use lib.Pow.{pow_pos}
use Rattle.rules.specs.Words.{Has, NoBitFrom}
use Rattle.rules.proofs.Sets.{bit_suc, zero_none, same_members}
pub use Rattle.rules.proofs.Sets.{set_unique}
use Rattle.bitset.specs.Sets.{SetOf, Lowest}
use Rattle.bitset.proofs.Bits.{within, lowest_law, lowest_unique, rest_law, difference_law}

-- a set is 0 exactly if it has no member
pub none_zero : (n : ℕ) → NoBitFrom 64 n → ((k : ℕ) → k < 64 → Has n k → ⊥) → n ≡ 0
none_zero n h f = same_members 64 n 0 h (omega arith) (λ k l i. absurd (f k l i)) (λ k l i. absurd (zero_none k i))

pub some_positive : (n k : ℕ) → Has n k → zero < n
some_positive zero k h = absurd (zero_none k h)
some_positive (suc n) k h = omega arith

pub some_member : (n : ℕ) → NoBitFrom 64 n → (n ≡ 0 → ⊥) → (k : ℕ) × Has n k
some_member n h f = let l = lowest_law n (omega arith) h in (_, l.member)

-- a set of numbers below w has no bit from w up
pub all_within : (v w n : ℕ) → NoBitFrom v n → ((k : ℕ) → Has n k → k < w) → NoBitFrom w n
all_within v zero n h f = subst (λ (x : ℕ). x < 1) (sym zero_is) (omega arith)
  where
    zero_is : n ≡ 0
    zero_is = same_members v n 0 h (pow_pos v) (λ k l i. absurd (omega (arith, f k i))) (λ k l i. absurd (zero_none k i))
all_within zero (suc w) n h f = omega (arith, pow-suc 2 w, all_within zero w n h (λ k i. absurd (omega (arith, within zero n k h i))))
all_within (suc v) (suc w) n h f =
    omega (arith, pow-suc 2 w, all_within v w (n / 2) (omega (arith, pow-suc 2 v)) (λ k i. omega (arith, f (suc k) (bit_suc n k ∙ i))))

-- a member is the lowest, or among those left without it
pub lowest_or_rest : {n m r : ℕ} (k : ℕ) → Lowest n m → SetOf (λ (k : ℕ). Has n k × (Lowest n k → ⊥)) r → Has n k → (k ≡ m) ⊎ Has r k
lowest_or_rest {m = m} {r} k l s h = go (ℕ_discrete k m)
  where
    go : Dec (k ≡ m) → (k ≡ m) ⊎ Has r k
    go (yes e) = inl e
    go (no e) = inr (s.all k (h, λ l'. e (lowest_unique l' l)))

-- and without it the set is a lower number
pub rest_less : {n r : ℕ} → zero < n → NoBitFrom 64 n → SetOf (λ (k : ℕ). Has n k × (Lowest n k → ⊥)) r → r < n
rest_less {n} {r} p h s = omega (arith, set_unique (λ k i. i) (λ k i. i) s (rest_law n p h), and_le_r n (n - 1))

-- without what it has in common with another it is a lower number
pub without_less : {n m r : ℕ} → NoBitFrom 64 n → NoBitFrom 64 m → SetOf (λ (k : ℕ). Has n k × (Has m k → ⊥)) r → (k : ℕ) → Has n k → Has m k → r < n
without_less {n} {m} {r} h l s k i j = go (ℕ_discrete r n)
  where
    go : Dec (r ≡ n) → r < n
    go (yes e) = absurd ((s.only k (subst (λ (x : ℕ). Has x k) (sym e) i)).1 j)
    go (no e) = omega (arith, set_unique (λ k i. i) (λ k i. i) s (difference_law n m h l), and_le_l n ((2 ^ 64 - 1) - m))
