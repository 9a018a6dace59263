-- The slots where a hop is marked, and those where it is looked for, turn after turn.
use Rattle.std.specs.Prelude.{◌≡◌, ℕ, ◌+◌, ◌*◌, ◌/◌, ◌%◌, ◌<◌, ◌≤◌}
use Rattle.rules.specs.Tiles.{short_tiles}
use Rattle.index.specs.declared.Repeats.{Repeats}
use Rattle.index.specs.Areas.{quick_tiles, quick_place, fold_place, index_slots}

-- with S slots to a tile, the period K repeats so in 100 tiles and in ten, which have so many slots; a longer one has no turn there
pub record RepeatsOf (S K : ℕ) (r : Repeats) : Type 0 where
  pub span_is : r.span.0 ≡ K * S
  pub turns_are : r.turns ≡ short_tiles / K
  pub few_are : r.few ≡ quick_tiles / K
  pub fold_is : r.fold.0 ≡ quick_tiles * S

-- a hop of this span takes the slot in one of its first n turns from a slot on
pub record TakesFirst (span start n slot : ℕ) : Type 0 where
  pub turn : ℕ
  pub within : turn < n
  pub at : slot ≡ start + turn * span

-- a hop of so many turns in 100 tiles and so few in ten is marked at the slot: among those of ten tiles, or where it has no turn there
-- among those of 100, and once in their fold
pub data Places (span turns few fold o slot : ℕ) : Type 0 where
  quick : slot < fold_place → TakesFirst span (quick_place + o) few slot → Places span turns few fold o slot
  short : few ≡ 0 → slot < quick_place → TakesFirst span o turns slot → Places span turns few fold o slot
  folded : few ≡ 0 → 0 < turns → slot ≡ fold_place + o % fold → Places span turns few fold o slot

-- and it is looked for at the slot: among those of ten tiles and in the fold, or among those of 100, and once among those of ten
pub data Looks (span turns few fold o slot : ℕ) : Type 0 where
  in_ten : slot < fold_place → TakesFirst span (quick_place + o) few slot → Looks span turns few fold o slot
  in_fold : TakesFirst span (fold_place + o) few slot → Looks span turns few fold o slot
  in_hundred : few ≡ 0 → slot < quick_place → TakesFirst span o turns slot → Looks span turns few fold o slot
  once_in_ten : few ≡ 0 → 0 < turns → slot < fold_place → slot ≡ quick_place + o % fold → Looks span turns few fold o slot

-- with S slots to a tile, a hop of period K and offset o is marked at the slot,
pub record MarkedAt (S K o slot : ℕ) : Type 0 where
  pub places : Places (K * S) (short_tiles / K) (quick_tiles / K) (quick_tiles * S) o slot

-- and looked for there
pub record LooksAt (S K o slot : ℕ) : Type 0 where
  pub looks : Looks (K * S) (short_tiles / K) (quick_tiles / K) (quick_tiles * S) o slot

-- a hop with these repeats and this offset is marked at the slot,
abbrev pub TakesIn : Repeats → ℕ → ℕ → Type 0
TakesIn r o slot = Places r.span.0 r.turns r.few r.fold.0 o slot

-- and looked for there
abbrev pub LooksIn : Repeats → ℕ → ℕ → Type 0
LooksIn r o slot = Looks r.span.0 r.turns r.few r.fold.0 o slot

-- the slots of so many turns are different, and in the index
pub record InTurns (span start turns : ℕ) : Type 0 where
  pub apart : 0 < span
  pub inside : (turn : ℕ) → turn < turns → start + turn * span < index_slots

-- the slots where the hop is marked and looked for are in the index; one that has no turn in ten tiles has whole tens between its turns
pub record InIndex (r : Repeats) (o : ℕ) : Type 0 where
  pub apart : 0 < r.span.0
  pub in_hundred : (turn : ℕ) → turn < r.turns → o + turn * r.span.0 < quick_place
  pub in_ten : (turn : ℕ) → turn < r.few → o + turn * r.span.0 < quick_tiles * 32
  pub some : 0 < r.fold.0
  pub most : r.fold.0 ≤ quick_tiles * 32
  pub whole : r.few ≡ 0 → (n : ℕ) × (r.span.0 ≡ n * r.fold.0)

-- and so at every offset within the span
abbrev pub SpanInIndex : Repeats → Type 0
SpanInIndex r = (o : ℕ) → o < r.span.0 → InIndex r o
