-- Rows that were cut out of an image, up to a place.
use Rattle.std.specs.Prelude.{◌≡◌, List, ◌++◌, ℕ, ◌*◌, ◌≤◌, length, drop}
use Rattle.rules.specs.Book.{Row}
use Rattle.rules.specs.Image.{version_of}
use Rattle.rules.specs.Salvage.{CutAll}
use Rattle.damaged.specs.declared.cutting.Cutting.{Cutting}

-- from the start up to the place these rows are cut out, and others from there on; none has under 8 bytes
pub record CutSo (s : List ℕ) (start at : ℕ) (rows : List Row) : Type 0 where
  pub inside : at ≤ length s
  pub few : 8 * length rows ≤ at
  pub then : (others : List Row) (lost : List ℕ) → CutAll (version_of s) (drop at s) others lost → CutAll (version_of s) (drop start s) (rows ++ others) lost

-- so many rows are cut out, and the bytes behind them are lost
pub record CutsTo (s : List ℕ) (start : ℕ) (cut : Cutting) : Type 0 where
  pub rows : List Row
  pub all : CutAll (version_of s) (drop start s) rows (drop cut.end s)
  pub count : cut.rows ≡ length rows
  pub inside : cut.end ≤ length s
  pub few : 8 * cut.rows ≤ length s
