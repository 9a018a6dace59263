-- A number as a set: a bit by recursion, the set of all N nodes, and that a set is known by its members.
use mathlib.Core.Path.{◌≡◌, refl, sym, ap, ◌∙◌}
use Prim.Native.Nat.{ℕ, zero, suc, ◌-◌, ◌/◌, ◌%◌, ◌^◌, ◌<◌}
use native.Mathlib.Nat.{mod-lt, zero-lt-suc, div-one, pow-suc, zero-div}
use native.Mathlib.Numerals.{one-add}
use native.Mathlib.Omega.{arith}
use lib.Arith.{lt-one}
use lib.Pow.{shr-shr, pow_pos}
use Rattle.rules.specs.Words.{bit, Has, NoBitFrom, SetOf}
use Rattle.rules.specs.Topology.{all_nodes}

pub bit_zero : (n : ℕ) → bit n 0 ≡ n % 2
bit_zero n = ap (λ (x : ℕ). x % 2) (div-one n)

pub bit_suc : (n k : ℕ) → bit n (suc k) ≡ bit (n / 2) k
bit_suc n k = ap (λ (x : ℕ). x % 2) (ap (λ (x : ℕ). n / 2 ^ x) (sym (one-add k)) ∙ sym (shr-shr n 1 k))

-- the empty set
pub zero_none : (k : ℕ) → Has 0 k → ⊥
zero_none k e = let z : 0 / 2 ^ k ≡ 0 = zero-div (2 ^ k) in omega arith

-- the set of all N nodes has each of them
pub all_has : (N a : ℕ) → a < N → Has (all_nodes N) a
all_has zero a l = absurd (omega arith)
all_has (suc N) zero l = bit_zero (2 ^ suc N - 1) ∙ omega (arith, pow-suc 2 N, pow_pos N)
all_has (suc N) (suc a) l =
    let e : (2 ^ suc N - 1) / 2 ≡ 2 ^ N - 1 = omega (arith, pow-suc 2 N, pow_pos N) in
    bit_suc (2 ^ suc N - 1) a ∙ ap (λ (x : ℕ). bit x a) e ∙ all_has N a (omega arith)

-- A SET IS KNOWN BY ITS MEMBERS
bit_below : (n k : ℕ) → bit n k < 2
bit_below n k = mod-lt (n / 2 ^ k) (zero-lt-suc 1)

alike : (x y : ℕ) → x < 2 → y < 2 → (x ≡ 1 → y ≡ 1) → (y ≡ 1 → x ≡ 1) → x ≡ y
alike zero zero h l f g = refl
alike zero (suc y) h l f g = absurd (omega (arith, g (omega arith)))
alike (suc x) zero h l f g = absurd (omega (arith, f (omega arith)))
alike (suc x) (suc y) h l f g = omega arith

pub same_members : (w a b : ℕ) → NoBitFrom w a → NoBitFrom w b → ((k : ℕ) → k < w → Has a k → Has b k) → ((k : ℕ) → k < w → Has b k → Has a k) → a ≡ b
same_members zero a b p q f g = lt-one p ∙ sym (lt-one q)
same_members (suc w) a b p q f g =
    omega (
      arith,
      low,
      same_members w (a / 2) (b / 2) (omega (arith, pow-suc 2 w)) (omega (arith, pow-suc 2 w))
          (λ k l h. sym (bit_suc b k) ∙ f (suc k) (omega arith) (bit_suc a k ∙ h))
          (λ k l h. sym (bit_suc a k) ∙ g (suc k) (omega arith) (bit_suc b k ∙ h)),
    )
  where
    low : a % 2 ≡ b % 2
    low = sym (bit_zero a) ∙ alike (bit a 0) (bit b 0) (bit_below a 0) (bit_below b 0) (f 0 (omega arith)) (g 0 (omega arith)) ∙ bit_zero b

pub set_unique : {P Q : ℕ → Type 0} {a b : ℕ} → ((k : ℕ) → P k → Q k) → ((k : ℕ) → Q k → P k) → SetOf P a → SetOf Q b → a ≡ b
set_unique {a = a} {b} f g s t = same_members 64 a b s.fits t.fits (λ k l h. t.all k (f k (s.only k h))) (λ k l h. s.all k (g k (t.only k h)))
