-- Hops that meet a clashing hop of the rows before, by the index of those rows and by the plain test.
use Rattle.std.specs.Prelude.{◌≡◌, ◌⊎◌, Bool, false, List, ℕ, ◌<◌, ◌≤◌, length, get_or}
use Rattle.rules.specs.Words.{Tests}
use Rattle.rules.specs.Tiles.{short_tiles}
use Rattle.rules.specs.Book.{Row, hops, row_hop, row_offset, LawfulRow, ClashingHopsMeet}
use Rattle.rules.specs.Image.{plan_of, hearing_of, site_of, RowsOf}
use Rattle.rules.proofs.Reading.{rows_in, book_in}
use Rattle.bitset.specs.clash.Reach.{End, node_at, Clashes}
use Rattle.index.specs.Index.{index_length, slow_place, IndexOf}
use Rattle.index.specs.Turns.{TakesIn}
use Rattle.index.specs.Marks.{Adds, Notes, HopsTake}
use Rattle.index.specs.declared.Repeats.{Repeats}
use Rattle.image.specs.Header.{HeaderOf}
use Rattle.image.specs.declared.Book.{Book}
use Rattle.placing.specs.plain.Plain.{nth_row, RowsThere, Agrees, MeetsPlain}
use Rattle.rows.specs.Frame.{Framed}
use Rattle.rows.specs.Hops.{HopIndexed, HearingRead}

-- by the words, hop i of the row meets a clashing one, or it agrees with one of the first rows that have moduli
abbrev pub HopAgrees : List ℕ → List ℕ → ℕ → ℕ → List ℕ → Row → ℕ → Type 0
HopAgrees words s start rows moduli r i =
    HopIndexed words s r i ⊎ Agrees (Clashes (hearing_of s) (row_hop r i)) s start rows moduli (row_offset r i)

-- by the words it does, or it meets a clashing hop of one of the n rows from the start on, which the index leaves out
abbrev pub HopMeets : List ℕ → List ℕ → ℕ → ℕ → Row → ℕ → Type 0
HopMeets words s start n r i =
    HopIndexed words s r i ⊎ MeetsPlain (Clashes (hearing_of s) (row_hop r i)) s start n r.period (row_offset r i)

-- some hop of the row does
abbrev pub RowMeets : List ℕ → List ℕ → ℕ → ℕ → Row → Type 0
RowMeets words s start n r = (i : ℕ) × (i < hops r) × HopMeets words s start n r i

-- the test says whether the hop met something, and where it did not it was marked
pub record HopMarked (s : List ℕ) (start rows : ℕ) (moduli : List ℕ) (r : Row) (i : ℕ) (repeats : Repeats) (before after : List ℕ) (t : Bool) : Type 0 where
  pub adds : t ≡ false → Adds (λ (end : End) (slot node : ℕ). TakesIn repeats (row_offset r i) slot × (node ≡ node_at end (row_hop r i))) before after
  pub met : Tests t (HopAgrees before s start rows moduli r i)

-- the test says whether a hop of the row met something before, and where none did all were marked
pub record RowMarked (s : List ℕ) (start rows : ℕ) (moduli : List ℕ) (r : Row) (before after : List ℕ) (t : Bool) : Type 0 where
  pub adds : t ≡ false → Adds (HopsTake (plan_of s).slots r (hops r)) before after
  pub met : Tests t ((i : ℕ) × (i < hops r) × HopAgrees before s start rows moduli r i)

-- the words with the row's hops marked and its period noted
pub record RowIn (s : List ℕ) (r : Row) (before after : List ℕ) : Type 0 where
  pub words : List ℕ
  pub adds : Adds (HopsTake (plan_of s).slots r (hops r)) before words
  pub notes : Notes r.period words after

-- the test says whether a hop of the row meets one of the n rows before, and where none does the row is in the words
pub record RowCompared (s : List ℕ) (start n : ℕ) (r : Row) (before after : List ℕ) (t : Bool) : Type 0 where
  pub row_in : t ≡ false → RowIn s r before after
  pub met : Tests t (RowMeets before s start n r)

-- the test says whether clashing hops of different rows meet, and where none do the words are the index of the rows
pub record RowsIndexed (s words : List ℕ) (t : Bool) : Type 0 where
  pub met : Tests t (ClashingHopsMeet (book_in s))
  pub indexed : t ≡ false → IndexOf (plan_of s).slots (rows_in s) words

-- the first n rows stand before it, as many as there may be
pub record RowBehind (s : List ℕ) (start n : ℕ) (r : Row) (words moduli : List ℕ) : Type 0 where
  pub framed : Framed s
  pub row : LawfulRow (site_of s) r
  pub there : RowsThere s start n
  pub none_slow : get_or words slow_place 0 ≡ 0 → (i : ℕ) → i < n → (nth_row s start i).period ≤ short_tiles
  pub size : length words ≡ index_length
  pub room : length moduli ≡ 64

-- what was read of the image before its hops are compared: its header, its hearing, and that its rows are rows
pub record HopsRead (s : List ℕ) (b : Book) (hearing : List ℕ) : Type 0 where
  pub framed : Framed s
  pub header : HeaderOf s b
  pub hearing_read : HearingRead s hearing
  pub rows : RowsOf s (rows_in s)
