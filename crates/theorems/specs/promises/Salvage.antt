-- What a salvage promises: a lawful book of the same version, made of rows that stand in the image as they were, and a lawful book whole.
use Rattle.std.specs.Prelude.{◌≡◌, List, ◌++◌, ℕ, ◌*◌, ◌≤◌, length, take, drop}
use Rattle.rules.specs.Words.{◌∈◌, Each}
use Rattle.rules.specs.Book.{Row, Book}
use Rattle.rules.specs.Image.{in_turn, encode_row, version_of, site_of, rows_place, Stored}
use Rattle.rules.specs.Salvage.{report_bytes, Salvage}
use Rattle.rules.proofs.Saved.{Judged}

-- what was written of an image
pub record Saved (s : List ℕ) (len : ℕ) (out' : List ℕ) (rows lost : ℕ) (report' : List ℕ) : Type 0 where
  -- a lawful book of its version, on its site
  pub book : Book
  pub stored : Stored (take len out') (version_of s) book
  pub site : book.site ≡ site_of s
  -- the rows cut, one behind the other as they stand in it, and the bytes lost behind them are all that follows its topologies
  pub cut : List Row
  pub gone : List ℕ
  pub whole : drop (rows_place s) s ≡ in_turn (encode_row (version_of s)) cut ++ gone
  pub count : rows ≡ length cut
  pub lost_is : lost ≡ length gone
  -- only these are kept
  pub only : (r : Row) → r ∈ book.rows → r ∈ cut
  -- and the report gives the reason for each: the first that applies beside rows that all are kept, and with 0 it is kept itself
  pub reasons : List ℕ
  pub told : take (3 * rows) report' ≡ report_bytes cut reasons
  pub judged : Each (Judged (version_of s) book) cut reasons

abbrev pub SalvageSaves : Type 0
SalvageSaves =
    (s out report : List ℕ) (len rows lost : ℕ) (out' report' : List ℕ) → Salvage s out report 0 len out' rows lost report' → Saved s len out' rows lost report'

-- a lawful book comes through byte for byte: nothing is dropped, nothing is lost
pub record Through (s : List ℕ) (b : Book) (number len : ℕ) (out' : List ℕ) (rows lost : ℕ) : Type 0 where
  pub done : number ≡ 0
  pub same : take len out' ≡ s
  pub rows_are : rows ≡ length b.rows
  pub none_lost : lost ≡ 0

abbrev pub LawfulComesThrough : Type 0
LawfulComesThrough =
    (s out report : List ℕ) (v : ℕ) (b : Book) (number len rows lost : ℕ) (out' report' : List ℕ) → Stored s v b → length s ≤ length out → 3 * length b.rows ≤ length report
    → Salvage s out report number len out' rows lost report' → Through s b number len out' rows lost
