-- The rows of an id, which go when it is closed.
use Rattle.std.specs.Prelude.{◌≡◌, List, ◌++◌, ℕ, ◌+◌, ◌*◌, ◌<◌, ◌≤◌, length, get_or, drop}
use Rattle.rules.specs.Words.{◌∈◌}
use Rattle.rules.specs.Tiles.{Period}
use Rattle.rules.specs.Book.{Row, hops, row_offset, hops_in_all}
use Rattle.rules.specs.Image.{in_turn, encode_row, version_of, site_of}
use Rattle.rules.proofs.Reading.{rows_in}
use Rattle.index.specs.Index.{Beside}
use Rattle.index.specs.Areas.{quick_tiles}
use Rattle.index.specs.Marks.{HopsTake}
use Rattle.index.specs.Folding.{Removes}
use Rattle.changing.specs.declared.closing.Gone.{Gone}

-- what an index with S slots to a tile, which has the row, knows of it
pub record RowMarked (S : ℕ) (r : Row) : Type 0 where
  pub few : S ≤ 32
  pub period : Period r.period
  pub known : (i : ℕ) → i ≤ hops r → get_or r.route i 0 < 64
  pub within : (i : ℕ) → i < hops r → row_offset r i < r.period * S

-- the hops of the row were taken out of the words
abbrev pub RowOut : ℕ → Row → List ℕ → List ℕ → Type 0
RowOut S r before after = Removes (quick_tiles * S) (HopsTake S r (hops r)) before after

-- from the place on stand all rows of the id, then those with higher ids; so many of them, with so many hops, up to this place; the words are the index of the others
pub record GoneAt (s : List ℕ) (id at : ℕ) (words : List ℕ) (g : Gone) : Type 0 where
  pub before : List Row
  pub gone : List Row
  pub rest : List Row
  pub all : rows_in s ≡ before ++ (gone ++ rest)
  pub inside : at ≤ length s
  pub bytes : drop at s ≡ in_turn (encode_row (version_of s)) (gone ++ rest)
  pub lower : (r : Row) → r ∈ before → r.id < id
  pub of_id : (r : Row) → r ∈ gone → r.id ≡ id
  pub higher : (r : Row) → r ∈ rest → id < r.id
  pub count : g.rows ≡ length gone
  pub hops : g.hops ≡ hops_in_all gone
  pub next : g.next ≡ at + length (in_turn (encode_row (version_of s)) gone)
  pub fits : g.next ≤ length s
  pub index : Beside (site_of s) (before ++ rest) words
