-- Rows that stand at places of an image, and what the hops of another row meet of them.
use Rattle.std.specs.Prelude.{◌≡◌, ◌⊎◌, List, ℕ, ◌<◌, ◌≤◌, length, get_or}
use Rattle.rules.specs.Tiles.{short_tiles}
use Rattle.rules.specs.Book.{Row, hops, row_hop, row_offset, LawfulRow}
use Rattle.rules.specs.Image.{plan_of, FieldsInRange, hearing_of, site_of}
use Rattle.bitset.specs.clash.Reach.{End, Clashes}
use Rattle.index.specs.Index.{slow_place}
use Rattle.image.specs.Places.{row_at}
use Rattle.placing.specs.plain.Plain.{LeftOut, Weighed, RowThere, AgreesRow, MeetsRow}
use Rattle.rows.specs.Hops.{HopIndexed}

-- the row at place i
abbrev pub placed : List ℕ → List ℕ → ℕ → Row
placed s places i = row_at s (get_or places i 0)

-- n lawful rows stand at the first places
pub record RowsPlaced (s places : List ℕ) (n : ℕ) : Type 0 where
  pub each : (i : ℕ) → i < n → RowThere s (get_or places i 0)
  pub few : n ≤ 64
  pub room : length places ≡ 64

-- of the n rows, the first so many have these moduli beside hops of period K, and the index leaves none of the others out
pub record WeighsPlaced (s places : List ℕ) (n K : ℕ) (moduli : List ℕ) (rows : ℕ) : Type 0 where
  pub most : rows ≤ n
  pub each : (i : ℕ) → i < rows → Weighed (plan_of s).slots K (placed s places i).period (get_or moduli i 0)
  pub others : (i : ℕ) → rows ≤ i → i < n → LeftOut K (placed s places i).period → ⊥

-- of the first so many rows one with a modulus has a hop with a node with C at an end, whose offset agrees with o
pub record AgreesPlaced (C : End → ℕ → Type 0) (s places : List ℕ) (rows : ℕ) (moduli : List ℕ) (o : ℕ) : Type 0 where
  pub row : ℕ
  pub there : row < rows
  pub weighed : 0 < get_or moduli row 0
  pub row_agrees : AgreesRow C (placed s places row) (get_or moduli row 0) o

-- of the n rows a hop of period K and offset o meets one that the index leaves out
pub record MeetsPlaced (C : End → ℕ → Type 0) (s places : List ℕ) (n K o : ℕ) : Type 0 where
  pub row : ℕ
  pub there : row < n
  pub left_out : LeftOut K (placed s places row).period
  pub meets : MeetsRow C (plan_of s).slots K (placed s places row) o

-- by the words hop i of the row meets something, or its offset agrees with that of a clashing hop of the first so many rows
abbrev pub HopAgrees : List ℕ → List ℕ → List ℕ → ℕ → List ℕ → Row → ℕ → Type 0
HopAgrees words s places rows moduli r i =
    HopIndexed words s r i ⊎ AgreesPlaced (Clashes (hearing_of s) (row_hop r i)) s places rows moduli (row_offset r i)

-- or it meets a clashing hop of one of the n rows, which the index leaves out
abbrev pub HopMeets : List ℕ → List ℕ → List ℕ → ℕ → Row → ℕ → Type 0
HopMeets words s places n r i =
    HopIndexed words s r i ⊎ MeetsPlaced (Clashes (hearing_of s) (row_hop r i)) s places n r.period (row_offset r i)

-- some hop of the row does
abbrev pub RowAgrees : List ℕ → List ℕ → List ℕ → ℕ → List ℕ → Row → Type 0
RowAgrees words s places rows moduli r = (i : ℕ) × (i < hops r) × HopAgrees words s places rows moduli r i

abbrev pub RowMeets : List ℕ → List ℕ → List ℕ → ℕ → Row → Type 0
RowMeets words s places n r = (i : ℕ) × (i < hops r) × HopMeets words s places n r i

-- a row is to be held against the n rows, and the words say whether one of these has a period over 100
pub record RowBeside (s places : List ℕ) (n : ℕ) (r : Row) (words : List ℕ) : Type 0 where
  pub fields : FieldsInRange s
  pub row : LawfulRow (site_of s) r
  pub there : RowsPlaced s places n
  pub none_slow : get_or words slow_place 0 ≡ 0 → (i : ℕ) → i < n → (placed s places i).period ≤ short_tiles
