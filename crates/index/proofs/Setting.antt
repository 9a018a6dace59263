-- The two words of a slot are set: what stands there, elsewhere and behind the slots.
use mathlib.Core.Path.{◌≡◌, ◌∙◌}
use mathlib.Core.List.{List}
use Prim.Native.Nat.{ℕ, ◌+◌, ◌*◌, ◌<◌}
use native.Mathlib.Omega.{arith}
use lib.ListN.{length, get_or, set, drop, length-set}
use lib.Seq.{get_or-set_same, get_or-set_other, drop-set-lt}
use Rattle.bitset.specs.clash.Reach.{End}
use Rattle.bitset.specs.clash.Reach.End.{sender, receiver}
use Rattle.index.specs.Areas.{index_slots, slow_place, word_at}

module _ (t : List ℕ) (slot v w : ℕ) (inside : 2 * slot + 1 < length t) where
  abbrev pub after : List ℕ
  after = set (set t (2 * slot) v) (2 * slot + 1) w

  abbrev pub the_word : End → ℕ
  the_word sender = v
  the_word receiver = w

  pub as_long : length after ≡ length t
  as_long = length-set (set t (2 * slot) v) (2 * slot + 1) w ∙ length-set t (2 * slot) v

  pub here : (end : End) → get_or after (word_at end slot) 0 ≡ the_word end
  here sender =
      get_or-set_other (set t (2 * slot) v) (2 * slot + 1) (2 * slot) w 0 (λ e. omega arith) ∙ get_or-set_same t (2 * slot) v 0 (omega arith)
  here receiver = get_or-set_same (set t (2 * slot) v) (2 * slot + 1) w 0 (omega (arith, length-set t (2 * slot) v))

  pub elsewhere : (end : End) (s : ℕ) → (s ≡ slot → ⊥) → get_or after (word_at end s) 0 ≡ get_or t (word_at end s) 0
  elsewhere sender s f =
      get_or-set_other (set t (2 * slot) v) (2 * slot + 1) (2 * s) w 0 (λ e. omega arith) ∙ get_or-set_other t (2 * slot) (2 * s) v 0 (λ e. f (omega arith))
  elsewhere receiver s f =
      get_or-set_other (set t (2 * slot) v) (2 * slot + 1) (2 * s + 1) w 0 (λ e. f (omega arith)) ∙ get_or-set_other t (2 * slot) (2 * s + 1) v 0 (λ e. omega arith)

  pub behind_slots : slot < index_slots → drop slow_place after ≡ drop slow_place t
  behind_slots l = drop-set-lt slow_place (set t (2 * slot) v) (2 * slot + 1) w (omega arith) ∙ drop-set-lt slow_place t (2 * slot) v (omega arith)
