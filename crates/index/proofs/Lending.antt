-- The whole index, put one ten after the other: what stands among the 100 tiles beside what stands among the ten.
use mathlib.Core.Path.{◌≡◌, sym, ap, ◌∙◌, subst, subst₂}
use mathlib.Core.Logic.{◌⊎◌, ⊎_elim}
use mathlib.Core.List.{List}
use Prim.Native.Nat.{ℕ, zero, suc, ◌+◌, ◌*◌, ◌/◌, ◌%◌, ◌<◌, ◌≤◌}
use native.Mathlib.Omega.{arith}
use native.Mathlib.Decide.{dec_lt}
use native.Mathlib.Nat.{eq-or-lt_of_le, mul-le-mul_right, div-add-mod', mod-lt}
use lib.ListN.{length, get_or, set, drop, length-set}
use lib.Seq.{get_or-set_same, get_or-set_other, drop-set-lt, drop-drop}
use Rattle.rules.specs.Words.{Has}
use Rattle.rules.specs.Tiles.{short_tiles}
use Rattle.bitset.specs.Sets.{SetOf}
use Rattle.bitset.specs.clash.Reach.{End}
use Rattle.bitset.specs.clash.Reach.End.{sender, receiver}
use Rattle.index.specs.Areas.{quick_tiles, quick_place, word_at, AtWork}
use Rattle.index.specs.Folding.{TenLent, Lent}

-- what is the same from a place on is the same from any place behind it
pub further : (place k : ℕ) (t u : List ℕ) → drop place u ≡ drop place t → drop (place + k) u ≡ drop (place + k) t
further place k t u e = sym (drop-drop k place u) ∙ ap (drop k) e ∙ drop-drop k place t

-- what a word of a ten gets
abbrev pub Both : List ℕ → ℕ → ℕ → ℕ → Type 0
Both index i j k = Has (get_or index i 0) k ⊎ Has (get_or index j 0) k

-- ONE WORD AFTER THE OTHER
pub ten_more : {ten i v : ℕ} {index s t : List ℕ} → TenLent ten i index s t → ten + i < length t → SetOf (Both index (ten + i) (2 * quick_place + i)) v
    → TenLent ten (i + 1) index s (set t (ten + i) v)
ten_more {ten} {i} {v} {index} {s} {t} w l b = record {
  size = length-set t (ten + i) v ∙ w.size;
  each = λ j h. ⊎_elim
      (λ (e : j ≡ i).
      subst (λ (x : ℕ). SetOf (Both index (ten + x) (2 * quick_place + x)) (get_or (set t (ten + i) v) (ten + x) 0)) (sym e)
      (subst (SetOf (Both index (ten + i) (2 * quick_place + i))) (sym (get_or-set_same t (ten + i) v 0 l)) b))
      (λ (m : j < i). subst (SetOf (Both index (ten + j) (2 * quick_place + j))) (sym (get_or-set_other t (ten + i) (ten + j) v 0 (λ q. omega arith))) (w.each j m))
      (eq-or-lt_of_le (omega arith));
  front = λ j h. get_or-set_other t (ten + i) j v 0 (λ q. omega arith) ∙ w.front j h;
  behind = behind;
}
  where
    behind : drop (ten + (i + 1)) (set t (ten + i) v) ≡ drop (ten + (i + 1)) s
    behind =
        let e : ten + i + 1 ≡ ten + (i + 1) = omega arith in
        drop-set-lt (ten + (i + 1)) t (ten + i) v (omega arith) ∙ subst (λ (n : ℕ). drop n t ≡ drop n s) e (further (ten + i) 1 s t w.behind)

-- ONE TEN AFTER THE OTHER: the first n, of so many words each
pub record TensLent (words n : ℕ) (index before after : List ℕ) : Type 0 where
  pub size : length after ≡ length before
  pub each : (ten i : ℕ) → ten < n → i < words → SetOf (Both index (ten * words + i) (2 * quick_place + i)) (get_or after (ten * words + i) 0)
  pub behind : drop (n * words) after ≡ drop (n * words) before

pub tens_next : {words n at : ℕ} {index s t u : List ℕ} → at ≡ n * words → TensLent words n index s t → TenLent at words index t u → TensLent words (n + 1) index s u
tens_next {words} {n} {at} {index} {s} {t} {u} e w b = record {
  size = b.size ∙ w.size;
  each = λ ten i l h. ⊎_elim
      (λ (q : ten ≡ n).
      subst (λ (x : ℕ). SetOf (Both index (x + i) (2 * quick_place + i)) (get_or u (x + i) 0)) (e ∙ ap (λ (x : ℕ). x * words) (sym q)) (b.each i h))
      (λ (m : ten < n).
      subst (SetOf (Both index (ten * words + i) (2 * quick_place + i))) (sym (b.front (ten * words + i) (omega (arith, e, mul-le-mul_right words m)))) (w.each ten i m h))
      (eq-or-lt_of_le (omega arith));
  behind = subst (λ (k : ℕ). drop k u ≡ drop k s) on (b.behind ∙ further at words s t (subst (λ (k : ℕ). drop k t ≡ drop k s) (sym e) w.behind));
}
  where
    on : at + words ≡ (n + 1) * words
    on = omega (arith, e)

-- all ten are the whole: a slot of the 100 tiles is in one of them
module _ (S slot : ℕ) (l : slot < short_tiles * S) where
  abbrev F : ℕ
  F = quick_tiles * S

  pub slot_parts : slot / F * F + slot % F ≡ slot
  slot_parts = div-add-mod' slot F

  pub slot_ten : slot / F < quick_tiles
  slot_ten = small (dec_lt (slot / F) quick_tiles)
    where
      small : Dec (slot / F < quick_tiles) → slot / F < quick_tiles
      small (yes h) = h
      small (no h) = let m : quick_tiles * F ≤ slot / F * F = mul-le-mul_right F (omega arith) in absurd (omega (arith, slot_parts, m, l))

  pub slot_rest : slot % F < F
  slot_rest = mod-lt slot (some S l)
    where
      some : (S : ℕ) → slot < short_tiles * S → 0 < quick_tiles * S
      some zero h = absurd (omega (arith, h))
      some (suc S) h = omega arith

pub all_lent : {S words n : ℕ} {index s t : List ℕ} → words ≡ 2 * (quick_tiles * S) → n ≡ quick_tiles → TensLent words n index s t → Lent S index s t
all_lent {S} {words} {n} {index} {s} {t} e f w = record { size = w.size; sets = sets; behind = subst (λ (k : ℕ). drop k t ≡ drop k s) whole w.behind }
  where
    whole : n * words ≡ 2 * (short_tiles * S)
    whole = ap (λ (x : ℕ). x * words) f ∙ omega (arith, e)

    at : (slot : ℕ) → slot < short_tiles * S → (i : ℕ) → i < words → (word other : ℕ) → slot / (quick_tiles * S) * words + i ≡ word → 2 * quick_place + i ≡ other
        → SetOf (Both index word other) (get_or t word 0)
    at slot l i h word other p q = subst₂ (λ (x y : ℕ). SetOf (Both index x y) (get_or t x 0)) p q (w.each (slot / (quick_tiles * S)) i (omega (arith, slot_ten S slot l, f)) h)

    tens : (slot : ℕ) → slot < short_tiles * S → slot / (quick_tiles * S) * words + 2 * (slot % (quick_tiles * S)) ≡ 2 * slot
    tens slot l =
        let p : slot / (quick_tiles * S) * words ≡ 2 * (slot / (quick_tiles * S) * (quick_tiles * S)) = ap (λ (x : ℕ). slot / (quick_tiles * S) * x) e ∙ omega arith in
        omega (arith, p, slot_parts S slot l)

    sets : (end : End) (slot : ℕ) → slot < short_tiles * S
        → SetOf (λ (k : ℕ). AtWork index end slot k ⊎ AtWork index end (quick_place + slot % (quick_tiles * S)) k) (get_or t (word_at end slot) 0)
    sets sender slot l =
        at slot l (2 * (slot % (quick_tiles * S))) (omega (arith, slot_rest S slot l, e)) (2 * slot) (2 * (quick_place + slot % (quick_tiles * S))) (tens slot l) (omega arith)
    sets receiver slot l =
        at slot l (2 * (slot % (quick_tiles * S)) + 1) (omega (arith, slot_rest S slot l, e)) (2 * slot + 1)
        (2 * (quick_place + slot % (quick_tiles * S)) + 1) (omega (arith, tens slot l)) (omega arith)
