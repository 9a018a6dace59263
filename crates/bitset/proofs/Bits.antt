-- The bits of the numbers that the operations on sets make.
use mathlib.Core.Path.{◌≡◌, refl, sym, ap, ◌∙◌, subst}
use mathlib.Core.Logic.{◌⊎◌, inl, inr, ⊎_elim}
use Prim.Native.Nat.{ℕ, zero, suc, ◌+◌, ◌*◌, ◌/◌, ◌-◌, ◌%◌, ◌^◌, ◌≤◌, ◌<◌, max}
use native.Mathlib.Nat.{lt_of_not-le, mod-lt, div-add-mod', mod-eq_of_lt}
use native.Mathlib.Numerals.{one-add}
use native.Mathlib.Decide.{ℕ_discrete, dec_lt}
use native.Mathlib.Omega.{arith}
use lib.Arith.{lt-one}
use lib.Bits.{bit_and, bit_or, or_lt, and_le_l}
use lib.Count.{count_trailing_zeros, ones, ones_step, ones_cat}
use lib.Pow.{pow-lt, pow_pos, mod-pow-add}
use Rattle.std.proofs.Common.{w64}
use Rattle.std.proofs.lemmas.Nat.Bits.{bit_at_lowest, bit_at-suc, bit_at_and, bit_at_or, bit_at_not, bit_at-pow_same, bit_at-pow_other, bit_at-trailing_zeros}
use Rattle.std.proofs.lemmas.Nat.Bits.{bit_at-lt, bit_at_above, bit_at-zero, bit_at_cat_low, bit_at_cat_high, same_from_bits_below}
use Rattle.rules.specs.Words.{bit, Has, NoBitFrom, Count}
use Rattle.rules.specs.Words.Count.{none, one, skip}
pub use Rattle.rules.proofs.Sets.{zero_none}
use Rattle.bitset.specs.Sets.{SetOf, Lowest}

-- a number is a member or it is not
pub has_or_not : (n k : ℕ) → Dec (Has n k)
has_or_not n k = ℕ_discrete (bit n k) 1

-- no bit stands past the width
pub past : (w n k : ℕ) → NoBitFrom w n → w ≤ k → Has n k → ⊥
past w n k h l i = omega (arith, bit_at_above n w k h l)

pub within : (w n k : ℕ) → NoBitFrom w n → Has n k → k < w
within w n k h i = lt_of_not-le (λ l. past w n k h l i)

-- UNION, INTERSECTION, DIFFERENCE
max_one : (x y : ℕ) → x < 2 → y < 2 → max x y ≡ 1 → (x ≡ 1) ⊎ (y ≡ 1)
max_one zero y h l e = inr (omega arith)
max_one (suc x) y h l e = inl (omega arith)

pub union_law : (a b : ℕ) → NoBitFrom 64 a → NoBitFrom 64 b → SetOf (λ (k : ℕ). Has a k ⊎ Has b k) (bit_or a b)
union_law a b ha hb = record {
  fits = or_lt 64 a b ha hb;
  only = λ k h. max_one (bit a k) (bit b k) (bit_at-lt a k) (bit_at-lt b k) (sym (bit_at_or a b k) ∙ h);
  all = λ k h. ⊎_elim (λ e. omega (arith, e, bit_at_or a b k, bit_at-lt b k)) (λ e. omega (arith, e, bit_at_or a b k, bit_at-lt a k)) h;
}

pub both_law : (a b : ℕ) → NoBitFrom 64 a → SetOf (λ (k : ℕ). Has a k × Has b k) (bit_and a b)
both_law a b ha = record {
  fits = omega (arith, and_le_l a b);
  only = λ k h. (omega (arith, bit_at_and a b k, bit_at-lt a k, bit_at-lt b k), omega (arith, bit_at_and a b k, bit_at-lt a k, bit_at-lt b k));
  all = λ k h. omega (arith, bit_at_and a b k, h.0, h.1);
}

pub difference_law : (a b : ℕ) → NoBitFrom 64 a → NoBitFrom 64 b → SetOf (λ (k : ℕ). Has a k × (Has b k → ⊥)) (bit_and a ((2 ^ 64 - 1) - b))
difference_law a b ha hb = record {
  fits = t.fits;
  only = λ k h. let i = t.only k h in (i.0, λ j. omega (arith, i.1, turned k i.0));
  all = λ k h. t.all k (h.0, omega (arith, turned k h.0, h.1, bit_at-lt b k));
}
  where
    t : SetOf (λ (k : ℕ). Has a k × Has ((2 ^ 64 - 1) - b) k) (bit_and a ((2 ^ 64 - 1) - b))
    t = both_law a ((2 ^ 64 - 1) - b) ha

    turned : (k : ℕ) → Has a k → bit ((2 ^ 64 - 1) - b) k ≡ 1 - bit b k
    turned k i = bit_at_not w64 b k hb (within 64 a k ha i)

-- ONE MEMBER
pow_only : (b k : ℕ) → Has (2 ^ b) k → k ≡ b
pow_only b k h = go (ℕ_discrete k b)
  where
    go : Dec (k ≡ b) → k ≡ b
    go (yes e) = e
    go (no f) = omega (arith, h, bit_at-pow_other b k f)

pub insert_law : (a b : ℕ) → NoBitFrom 64 a → b < 64 → SetOf (λ (k : ℕ). Has a k ⊎ (k ≡ b)) (bit_or a (2 ^ b))
insert_law a b ha hb =
    let u = union_law a (2 ^ b) ha (pow-lt hb) in
    record {
      fits = u.fits;
      only = λ k h. ⊎_elim (λ l. inl l) (λ r. inr (pow_only b k r)) (u.only k h);
      all = λ k h. u.all k (⊎_elim (λ l. inl l) (λ (e : k ≡ b). inr (ap (bit (2 ^ b)) e ∙ bit_at-pow_same b)) h);
    }

pub remove_law : (a b : ℕ) → NoBitFrom 64 a → b < 64 → SetOf (λ (k : ℕ). Has a k × (k ≡ b → ⊥)) (bit_and a ((2 ^ 64 - 1) - 2 ^ b))
remove_law a b ha hb =
    let d = difference_law a (2 ^ b) ha (pow-lt hb) in
    record {
      fits = d.fits;
      only = λ k h. let i = d.only k h in (i.0, λ (e : k ≡ b). i.1 (ap (bit (2 ^ b)) e ∙ bit_at-pow_same b));
      all = λ k h. d.all k (h.0, λ i. h.1 (pow_only b k i));
    }

-- THE LOWEST MEMBER
pub lowest_law : (n : ℕ) → zero < n → NoBitFrom 64 n → Lowest n (count_trailing_zeros 64 n)
lowest_law n p h =
    let r = bit_at-trailing_zeros w64 n p h in
    record { small = r.0; member = r.1; least = λ k l i. omega (arith, r.2 k l, i) }

-- there is one lowest member
pub lowest_unique : {n a b : ℕ} → Lowest n a → Lowest n b → a ≡ b
lowest_unique {n} {a} {b} l m = go (dec_lt a b) (dec_lt b a)
  where
    go : Dec (a < b) → Dec (b < a) → a ≡ b
    go (yes h) d = absurd (m.least a h l.member)
    go (no h) (yes k) = absurd (l.least b k m.member)
    go (no h) (no k) = omega arith

-- WITHOUT IT: the number is an odd one times a power of 2, and one less is the even one below it times that power, and ones
module _ (n : ℕ) (p : zero < n) (h : NoBitFrom 64 n) where
  abbrev z : ℕ
  z = count_trailing_zeros 64 n

  abbrev q : ℕ
  q = n / 2 ^ z

  low : Lowest n z
  low = lowest_law n p h

  none_below : n % 2 ^ z ≡ 0
  none_below = same_from_bits_below z (n % 2 ^ z) 0 (mod-lt n (pow_pos z)) (pow_pos z) (λ i l.
      sym (bit_at_cat_low q z (n % 2 ^ z) i l) ∙ ap (λ (x : ℕ). bit x i) (div-add-mod' n (2 ^ z)) ∙ (bit_at-trailing_zeros w64 n p h).2 i l ∙ sym (bit_at-zero i))

  bit_of : (k : ℕ) → z ≤ k → bit n k ≡ bit q (k - z)
  bit_of k l =
      let e : n ≡ q * 2 ^ z + 0 = omega (arith, div-add-mod' n (2 ^ z), none_below) in
      ap (λ (x : ℕ). bit x k) e ∙ bit_at_cat_high q z 0 k (pow_pos z) l

  bit_less : (k : ℕ) → z ≤ k → bit (n - 1) k ≡ bit (q / 2 * 2) (k - z)
  bit_less k l =
      let odd : q ≡ q / 2 * 2 + 1 = omega (arith, low.member) in
      let whole : q * 2 ^ z ≡ (q / 2 * 2 + 1) * 2 ^ z = ap (λ (x : ℕ). x * 2 ^ z) odd in
      let e : n - 1 ≡ q / 2 * 2 * 2 ^ z + (2 ^ z - 1) = omega (arith, whole, div-add-mod' n (2 ^ z), none_below, pow_pos z) in
      ap (λ (x : ℕ). bit x k) e ∙ bit_at_cat_high (q / 2 * 2) z (2 ^ z - 1) k (omega (arith, pow_pos z)) l

  -- the even one has the odd one's bits but the lowest
  evened : (j : ℕ) → zero < j → bit (q / 2 * 2) j ≡ bit q j
  evened zero l = absurd (omega arith)
  evened (suc j) l =
      let e : q / 2 * 2 / 2 ≡ q / 2 = omega arith in
      bit_at-suc (q / 2 * 2) j ∙ ap (λ (x : ℕ). bit x j) e ∙ sym (bit_at-suc q j)

  pub rest_law : SetOf (λ (k : ℕ). Has n k × (Lowest n k → ⊥)) (bit_and n (n - 1))
  rest_law = record {
    fits = omega (arith, and_le_l n (n - 1));
    only = λ k i. let b = both_law n (n - 1) h in let m = b.only k i in (m.0, λ l. gone k l m.1);
    all = λ k w. omega (arith, bit_at_and n (n - 1) k, w.0, kept k w.0 w.1);
  }
    where
      gone : (k : ℕ) → Lowest n k → Has (n - 1) k → ⊥
      gone k l i =
          let e : k ≡ z = lowest_unique l low in
          let f : k - z ≡ 0 = omega arith in
          omega (arith, i, bit_less k (omega arith), ap (bit (q / 2 * 2)) f, bit_at_lowest (q / 2 * 2))

      kept : (k : ℕ) → Has n k → (Lowest n k → ⊥) → Has (n - 1) k
      kept k i f = go (dec_lt z k)
        where
          go : Dec (z < k) → Has (n - 1) k
          go (yes l) = bit_less k (omega arith) ∙ evened (k - z) (omega arith) ∙ sym (bit_of k (omega arith)) ∙ i
          go (no d) =
              let g : k < z → ⊥ = λ l. low.least k l i in
              let e : z ≡ k = omega arith in
              absurd (f (subst (Lowest n) e low))

-- THE NUMBER OF MEMBERS
ones_zero : ones 0 ≡ 0
unfolding ones
ones_zero = refl

ones_suc : (n w : ℕ) → ones (n % 2 ^ suc w) ≡ ones (bit n w) + ones (n % 2 ^ w)
ones_suc n w =
    ap (λ (x : ℕ). ones (n % 2 ^ x)) (sym (one-add w)) ∙ ap ones (mod-pow-add n 1 w)
    ∙ ones_cat w (bit n w) (n % 2 ^ w) (mod-lt n (pow_pos w))

counted : (n w : ℕ) → Count (Has n) w (ones (n % 2 ^ w))
counted n zero = subst (Count (Has n) 0) (sym (ap ones (lt-one (mod-lt n (pow_pos 0))) ∙ ones_zero)) none
counted n (suc w) = go (bit n w) refl (bit_at-lt n w) (counted n w)
  where
    go : (d : ℕ) → bit n w ≡ d → d < 2 → Count (Has n) w (ones (n % 2 ^ w)) → Count (Has n) (suc w) (ones (n % 2 ^ suc w))
    go zero e l c =
        subst (Count (Has n) (suc w)) (sym (ones_suc n w ∙ ap (λ (x : ℕ). ones x + ones (n % 2 ^ w)) e ∙ skipped)) (skip c (λ h. omega arith))
      where
        skipped : ones 0 + ones (n % 2 ^ w) ≡ ones (n % 2 ^ w)
        skipped = omega (arith, ones_zero)
    go (suc zero) e l c =
        subst (Count (Has n) (suc w)) (sym (ones_suc n w ∙ ap (λ (x : ℕ). ones x + ones (n % 2 ^ w)) e ∙ added)) (one c e)
      where
        added : ones 1 + ones (n % 2 ^ w) ≡ suc (ones (n % 2 ^ w))
        added = omega (arith, ones_step 1, ones_zero)
    go (suc (suc d)) e l c = absurd (omega arith)

pub count_law : (n : ℕ) → NoBitFrom 64 n → Count (Has n) 64 (ones n)
count_law n h = subst (λ (x : ℕ). Count (Has n) 64 (ones x)) (mod-eq_of_lt h) (counted n 64)
