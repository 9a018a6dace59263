-- The word behind the slots, which is 0 only where no period over 100 was noted.
use mathlib.Core.Path.{◌≡◌}
use mathlib.Core.Bool.{false, not}
use mathlib.Core.List.{List}
use Prim.Native.Nat.{ℕ, ◌*◌, ◌+◌, ◌<◌}
use native.Mathlib.Omega.{arith}
use lib.Dec.{eqb}
use lib.ListN.{length, get_or, set, length-set}
use lib.Seq.{get_or-set_same, get_or-set_other, drop-set-lt}
use borrow.Author.Tests.{not-false, eqb-true}
use Rattle.bitset.specs.clash.Reach.{End}
use Rattle.bitset.specs.clash.Reach.End.{sender, receiver}
use Rattle.index.specs.Areas.{index_length, index_slots, slow_place, links_behind, word_at}
use Rattle.index.specs.Marks.{Notes}

pub noted : (K : ℕ) (t : List ℕ) → length t ≡ index_length → Notes K t (set t slow_place 1)
noted K t e = record { size = length-set t slow_place 1; same = same; kept = λ z. absurd (one z); short = λ z. absurd (one z); behind = drop-set-lt links_behind t slow_place 1 (omega arith) }
  where
    one : get_or (set t slow_place 1) slow_place 0 ≡ 0 → ⊥
    one z = omega (arith, z, get_or-set_same t slow_place 1 0 (omega (arith, e)))

    same : (end : End) (slot : ℕ) → slot < index_slots → get_or (set t slow_place 1) (word_at end slot) 0 ≡ get_or t (word_at end slot) 0
    same sender slot l = get_or-set_other t slow_place (2 * slot) 1 0 (λ q. omega arith)
    same receiver slot l = get_or-set_other t slow_place (2 * slot + 1) 1 0 (λ q. omega arith)

-- where the test of the word says no, it is 0
pub none_noted : (x : ℕ) → not (eqb x 0) ≡ false → x ≡ 0
none_noted x e = eqb-true x 0 (not-false _ e)
