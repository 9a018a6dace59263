-- The whole index that words hold, as a list of its own: two words for each slot of 100 tiles.
use mathlib.Core.Path.{◌≡◌, refl, sym, ap, ◌∙◌, subst}
use mathlib.Core.Logic.{◌⊎◌}
use mathlib.Core.List.{List, [], ◌∷◌}
use Prim.Native.Nat.{ℕ, zero, suc, ◌+◌, ◌*◌, ◌%◌, ◌<◌, ◌≤◌}
use native.Mathlib.Omega.{arith}
use lib.Bits.{bit_or}
use lib.ListN.{length, get_or}
use Rattle.rules.specs.Words.{Has}
use Rattle.rules.specs.Tiles.{short_tiles}
use Rattle.rules.specs.Book.{Row}
use Rattle.bitset.specs.Sets.{SetOf}
use Rattle.bitset.proofs.Bits.{union_law}
use Rattle.bitset.specs.clash.Reach.{End}
use Rattle.bitset.specs.clash.Reach.End.{sender, receiver}
use Rattle.index.specs.Areas.{quick_tiles, quick_place, word_at}
use Rattle.index.specs.Folding.{Lent}
use Rattle.index.specs.Index.{IndexOf}
use Rattle.index.proofs.Lending.{slot_rest}

-- two words for each of n slots
pairs : (ℕ → ℕ) → (ℕ → ℕ) → ℕ → List ℕ
pairs f g zero = []
pairs f g (suc n) = f 0 ∷ g 0 ∷ pairs (λ (i : ℕ). f (suc i)) (λ (i : ℕ). g (suc i)) n

pairs_length : (f g : ℕ → ℕ) (n : ℕ) → length (pairs f g n) ≡ 2 * n
unfolding pairs
pairs_length f g zero = refl
pairs_length f g (suc n) = omega (arith, pairs_length (λ (i : ℕ). f (suc i)) (λ (i : ℕ). g (suc i)) n)

pairs_first : (f g : ℕ → ℕ) (n slot : ℕ) → slot < n → get_or (pairs f g n) (2 * slot) 0 ≡ f slot
unfolding pairs
pairs_first f g zero slot l = absurd (omega arith)
pairs_first f g (suc n) zero l = refl
pairs_first f g (suc n) (suc slot) l =
    let e : 2 * suc slot ≡ suc (suc (2 * slot)) = omega arith in
    ap (λ (i : ℕ). get_or (pairs f g (suc n)) i 0) e ∙ pairs_first (λ (i : ℕ). f (suc i)) (λ (i : ℕ). g (suc i)) n slot (omega arith)

pairs_second : (f g : ℕ → ℕ) (n slot : ℕ) → slot < n → get_or (pairs f g n) (2 * slot + 1) 0 ≡ g slot
unfolding pairs
pairs_second f g zero slot l = absurd (omega arith)
pairs_second f g (suc n) zero l = refl
pairs_second f g (suc n) (suc slot) l =
    let e : 2 * suc slot + 1 ≡ suc (suc (2 * slot + 1)) = omega arith in
    ap (λ (i : ℕ). get_or (pairs f g (suc n)) i 0) e ∙ pairs_second (λ (i : ℕ). f (suc i)) (λ (i : ℕ). g (suc i)) n slot (omega arith)

-- what stands among the 100 tiles beside what stands among the ten
joined : ℕ → List ℕ → End → ℕ → ℕ
joined S words end slot = bit_or (get_or words (word_at end slot) 0) (get_or words (word_at end (quick_place + slot % (quick_tiles * S))) 0)

pub whole : ℕ → List ℕ → List ℕ
whole S words = pairs (joined S words sender) (joined S words receiver) (short_tiles * S)

pub whole_length : (S : ℕ) (words : List ℕ) → length (whole S words) ≡ 2 * (short_tiles * S)
unfolding whole
whole_length S words = pairs_length (joined S words sender) (joined S words receiver) (short_tiles * S)

-- it is what would be lent
pub whole_lent : {S : ℕ} {rows : List Row} {words : List ℕ} → S ≤ 32 → IndexOf S rows words → Lent S words (whole S words) (whole S words)
unfolding whole joined
whole_lent {S} {rows} {words} most w = record { size = refl; sets = sets; behind = refl }
  where
    both : (end : End) (slot : ℕ) → slot < short_tiles * S
        → SetOf (λ (k : ℕ). Has (get_or words (word_at end slot) 0) k ⊎ Has (get_or words (word_at end (quick_place + slot % (quick_tiles * S))) 0) k) (joined S words end slot)
    both end slot l =
        union_law (get_or words (word_at end slot) 0) (get_or words (word_at end (quick_place + slot % (quick_tiles * S))) 0)
        (w.sets end slot (omega (arith, l, most))).fits (w.sets end (quick_place + slot % (quick_tiles * S)) (omega (arith, slot_rest S slot l, most))).fits

    sets : (end : End) (slot : ℕ) → slot < short_tiles * S
        → SetOf (λ (k : ℕ). Has (get_or words (word_at end slot) 0) k ⊎ Has (get_or words (word_at end (quick_place + slot % (quick_tiles * S))) 0) k) (get_or (whole S words) (word_at end slot) 0)
    sets sender slot l = subst (SetOf _) (sym (pairs_first (joined S words sender) (joined S words receiver) (short_tiles * S) slot l)) (both sender slot l)
    sets receiver slot l = subst (SetOf _) (sym (pairs_second (joined S words sender) (joined S words receiver) (short_tiles * S) slot l)) (both receiver slot l)
