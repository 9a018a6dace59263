-- The tens of 100 tiles laid over each other, and how they are lent.
use Rattle.std.specs.Prelude.{◌≡◌, ◌⊎◌, List, ℕ, ◌+◌, ◌*◌, ◌%◌, ◌<◌, length, get_or, drop}
use Rattle.rules.specs.Words.{Has, NoBitFrom}
use Rattle.rules.specs.Tiles.{short_tiles}
use Rattle.bitset.specs.Sets.{SetOf}
use Rattle.bitset.specs.clash.Reach.{End}
use Rattle.index.specs.Areas.{quick_tiles, quick_place, fold_place, slow_place, word_at, AtWork}

-- of the slots that stand so many tens apart, the node is at work in one
pub record InTens (fold : ℕ) (words : List ℕ) (end : End) (slot node : ℕ) : Type 0 where
  pub ten : ℕ
  pub few : ten < quick_tiles
  pub there : AtWork words end (slot + ten * fold) node

-- in a slot of the fold just those nodes are at work that are in one of the tens
pub record Folded (fold : ℕ) (words : List ℕ) : Type 0 where
  pub only : (end : End) (slot node : ℕ) → slot < fold → AtWork words end (fold_place + slot) node → InTens fold words end slot node
  pub all : (end : End) (slot node : ℕ) → slot < fold → InTens fold words end slot node → AtWork words end (fold_place + slot) node

-- a slot of the fold was worked out from the tens, and all others are as before
pub record Refolds (fold slot : ℕ) (before after : List ℕ) : Type 0 where
  pub size : length after ≡ length before
  pub only : (end : End) (node : ℕ) → AtWork after end (fold_place + slot) node → InTens fold before end slot node
  pub all : (end : End) (node : ℕ) → InTens fold before end slot node → AtWork after end (fold_place + slot) node
  pub same : (end : End) (other : ℕ) → (other ≡ fold_place + slot → ⊥) → get_or after (word_at end other) 0 ≡ get_or before (word_at end other) 0
  pub behind : drop slow_place after ≡ drop slow_place before

-- before the fold the sets have the nodes that they had, without those with P; and the fold is again one of the tens
pub record Removes (fold : ℕ) (P : End → ℕ → ℕ → Type 0) (before after : List ℕ) : Type 0 where
  pub size : length after ≡ length before
  pub fits : (end : End) (slot : ℕ) → slot < fold_place → NoBitFrom 64 (get_or before (word_at end slot) 0) → NoBitFrom 64 (get_or after (word_at end slot) 0)
  pub only : (end : End) (slot node : ℕ) → slot < fold_place → AtWork after end slot node → AtWork before end slot node × (P end slot node → ⊥)
  pub all : (end : End) (slot node : ℕ) → slot < fold_place → AtWork before end slot node → (P end slot node → ⊥) → AtWork after end slot node
  pub folded : Folded fold before → Folded fold after
  pub behind : drop slow_place after ≡ drop slow_place before

-- in one of the tens, of so many words, what stands among the 100 tiles was put beside what stands among the ten
pub record TenLent (ten words : ℕ) (index before after : List ℕ) : Type 0 where
  pub size : length after ≡ length before
  pub each : (i : ℕ) → i < words → SetOf (λ (k : ℕ). Has (get_or index (ten + i) 0) k ⊎ Has (get_or index (2 * quick_place + i) 0) k) (get_or after (ten + i) 0)
  pub front : (i : ℕ) → i < ten → get_or after i 0 ≡ get_or before i 0
  pub behind : drop (ten + words) after ≡ drop (ten + words) before

-- the same in all of them: with S slots to a tile the buffer holds so for each slot, and behind that what it held before
pub record Lent (S : ℕ) (index before after : List ℕ) : Type 0 where
  pub size : length after ≡ length before
  pub sets : (end : End) (slot : ℕ) → slot < short_tiles * S
      → SetOf (λ (k : ℕ). AtWork index end slot k ⊎ AtWork index end (quick_place + slot % (quick_tiles * S)) k) (get_or after (word_at end slot) 0)
  pub behind : drop (2 * (short_tiles * S)) after ≡ drop (2 * (short_tiles * S)) before
