-- The fold of the tens: how a slot of it is worked out, and that it stays the fold where hops are marked and taken out.
use mathlib.Core.Path.{◌≡◌, sym, ap, ◌∙◌, subst}
use mathlib.Core.Logic.{◌⊎◌, inl, inr, ⊎_elim}
use mathlib.Core.List.{List}
use Prim.Native.Nat.{ℕ, ◌+◌, ◌*◌, ◌<◌, ◌≤◌}
use native.Mathlib.Omega.{arith}
use native.Mathlib.Nat.{eq-or-lt_of_le, mul-le-mul_right}
use lib.ListN.{length, get_or}
use Rattle.rules.specs.Words.{Has}
use Rattle.bitset.specs.Sets.{SetOf}
use Rattle.bitset.specs.clash.Reach.{End}
use Rattle.bitset.specs.clash.Reach.End.{sender, receiver}
use Rattle.index.specs.Areas.{quick_tiles, quick_place, fold_place, index_slots, word_at, AtWork}
use Rattle.index.specs.Folding.{InTens, Folded, Refolds}
use Rattle.index.proofs.Setting.{after, the_word, as_long, here, elsewhere, behind_slots}

-- ONE TEN AFTER THE OTHER: the node is at work in one of the first n
pub record FirstTens (fold : ℕ) (words : List ℕ) (end : End) (slot n node : ℕ) : Type 0 where
  pub ten : ℕ
  pub few : ten < n
  pub there : AtWork words end (slot + ten * fold) node

pub tens_more : {fold : ℕ} {words : List ℕ} (end : End) {slot n other had next : ℕ} → other ≡ slot + n * fold → SetOf (λ (k : ℕ). Has had k ⊎ AtWork words end other k) next
    → SetOf (FirstTens fold words end slot n) had → SetOf (FirstTens fold words end slot (n + 1)) next
tens_more {fold} {words} end {slot} {n} {other} e u w = record {
  fits = u.fits;
  only = λ k m. ⊎_elim (λ q. let f = w.only k q in record { ten = f.ten; few = omega (arith, f.few); there = f.there })
      (λ q. record { ten = n; few = omega arith; there = subst (λ (s : ℕ). AtWork words end s k) e q }) (u.only k m);
  all = λ k f. u.all k (⊎_elim
      (λ (q : f.ten ≡ n). inr (subst (λ (s : ℕ). AtWork words end s k) (ap (λ (x : ℕ). slot + x * fold) q ∙ sym e) f.there))
      (λ (l : f.ten < n). inl (w.all k (record { ten = f.ten; few = l; there = f.there }))) (eq-or-lt_of_le (omega (arith, f.few))));
}

-- THE SLOT of the fold is set to what they have
module _ (t : List ℕ) (fold slot v w : ℕ) (size : 2 * (fold_place + slot) + 1 < length t) (low : fold_place + slot < index_slots)
    (first : SetOf (FirstTens fold t sender slot quick_tiles) v) (second : SetOf (FirstTens fold t receiver slot quick_tiles) w) where
  abbrev u : List ℕ
  u = after t (fold_place + slot) v w size

  sets : (end : End) → SetOf (FirstTens fold t end slot quick_tiles) (the_word t (fold_place + slot) v w size end)
  sets sender = first
  sets receiver = second

  pub refolds : Refolds fold slot t u
  refolds = record {
    size = as_long t (fold_place + slot) v w size;
    only = λ end node m.
        let f = (sets end).only node (subst (λ (x : ℕ). Has x node) (here t (fold_place + slot) v w size end) m) in
        record { ten = f.ten; few = f.few; there = f.there };
    all = λ end node f.
        subst (λ (x : ℕ). Has x node) (sym (here t (fold_place + slot) v w size end)) ((sets end).all node (record { ten = f.ten; few = f.few; there = f.there }));
    same = λ end other f. elsewhere t (fold_place + slot) v w size end other f;
    behind = behind_slots t (fold_place + slot) v w size low;
  }

-- the tens of a slot of the fold are slots of 100 tiles
pub ten_low : (fold slot ten : ℕ) → fold ≤ quick_tiles * 32 → slot < fold → ten < quick_tiles → slot + ten * fold < quick_place
ten_low fold slot ten most l few = omega (arith, mul-le-mul_right fold few)

-- the fold stays one where what is at work among the 100 tiles and in the fold stays
pub fold_alike : {fold : ℕ} {t u : List ℕ} → fold ≤ quick_tiles * 32
    → ((end : End) (slot node : ℕ) → (slot < quick_place) ⊎ ((fold_place ≤ slot) × (slot < index_slots)) → AtWork u end slot node → AtWork t end slot node)
    → ((end : End) (slot node : ℕ) → (slot < quick_place) ⊎ ((fold_place ≤ slot) × (slot < index_slots)) → AtWork t end slot node → AtWork u end slot node) → Folded fold t → Folded fold u
fold_alike {fold} {t} {u} most down up w = record { only = only; all = all }
  where
    low : {slot ten : ℕ} → slot < fold → ten < quick_tiles → (slot + ten * fold < quick_place) ⊎ ((fold_place ≤ slot + ten * fold) × (slot + ten * fold < index_slots))
    low {slot} {ten} l few = inl (ten_low fold slot ten most l few)

    high : {slot : ℕ} → slot < fold → (fold_place + slot < quick_place) ⊎ ((fold_place ≤ fold_place + slot) × (fold_place + slot < index_slots))
    high l = inr (omega arith, omega arith)

    only : (end : End) (slot node : ℕ) → slot < fold → AtWork u end (fold_place + slot) node → InTens fold u end slot node
    only end slot node l m =
        let k = w.only end slot node l (down end (fold_place + slot) node (high l) m) in
        record { ten = k.ten; few = k.few; there = up end (slot + k.ten * fold) node (low l k.few) k.there }

    all : (end : End) (slot node : ℕ) → slot < fold → InTens fold u end slot node → AtWork u end (fold_place + slot) node
    all end slot node l k =
        up end (fold_place + slot) node (high l)
        (w.all end slot node l (record { ten = k.ten; few = k.few; there = down end (slot + k.ten * fold) node (low l k.few) k.there }))

-- so it does where the words of the slots are the same
pub same_fold : {fold : ℕ} {t u : List ℕ} → fold ≤ quick_tiles * 32 → ((end : End) (slot : ℕ) → slot < index_slots → get_or u (word_at end slot) 0 ≡ get_or t (word_at end slot) 0) → Folded fold t
    → Folded fold u
same_fold most e w =
    fold_alike most (λ end slot node k m. subst (λ (x : ℕ). Has x node) (e end slot (inside k)) m) (λ end slot node k m. subst (λ (x : ℕ). Has x node) (sym (e end slot (inside k))) m) w
  where
    inside : {slot : ℕ} → (slot < quick_place) ⊎ ((fold_place ≤ slot) × (slot < index_slots)) → slot < index_slots
    inside (inl l) = omega arith
    inside (inr l) = l.1
