-- What is written of the rows that are kept, and of the report, as far as there is room.
use Rattle.std.specs.Prelude.{◌≡◌, Bool, true, false, ◌⊎◌, List, ℕ, ◌+◌, ◌<◌, ◌≤◌, length, drop}
use Rattle.rules.specs.Book.{Row, Book, hops_in_all, most_streams, most_hops}
use Rattle.rules.specs.Image.{image_length, in_turn, encode_row, encode, version_of, nodes_of, account_count_of, book_of, rows_place}
use Rattle.rules.specs.Salvage.{Salvaged, report_bytes, OfSalvaged}
use Rattle.rules.proofs.Saved.{Held}
use Rattle.writer.specs.Over.{over}
use Rattle.rescue.specs.declared.salvaging.Walk.{Walk}

-- the bytes were written from a place on if there is room for them
pub record PutIf (before : List ℕ) (at : ℕ) (bytes after : List ℕ) : Type 0 where
  pub size : length after ≡ length before
  pub put : at + length bytes ≤ length before → after ≡ over before at bytes

-- so it is with no reason against it, and otherwise nothing was written
pub record LaidIf (bytes : List ℕ) (reason : ℕ) (before : List ℕ) (at : ℕ) (after : List ℕ) : Type 0 where
  pub kept : reason ≡ 0 → PutIf before at bytes after
  pub dropped : (reason ≡ 0 → ⊥) → after ≡ before

-- what is salvaged of the image, counted, and written as far as there is room
pub record Walked (s out report : List ℕ) (walk : Walk) (out' report' : List ℕ) : Type 0 where
  pub rows : List Row
  pub reasons : List ℕ
  pub stay : List Row
  pub salvaged : Salvaged s rows reasons (drop walk.end s) (book_of s stay)
  pub held : Held (version_of s) (book_of s stay)
  pub count : walk.kept.rows ≡ length stay
  pub hops : walk.kept.hops ≡ hops_in_all stay
  pub cut : walk.rows ≡ length rows
  pub inside : walk.end ≤ length s
  pub book : PutIf out (rows_place s) (in_turn (encode_row (version_of s)) stay) out'
  pub told : PutIf report 0 (report_bytes rows reasons) report'

-- so long is the book of the rows kept
abbrev pub Measured : List ℕ → ℕ → Type 0
Measured s len = OfSalvaged s (λ (rows : List Row) (reasons lost : List ℕ) (c : Book). len ≡ length (encode (version_of s) c))

-- the book has room: the longest of the site has, or what is salvaged
abbrev pub BookFits : List ℕ → ℕ → Type 0
BookFits s room =
    (image_length (version_of s) (account_count_of s) (nodes_of s) most_streams most_hops ≤ room)
    ⊎ OfSalvaged s (λ (rows : List Row) (reasons lost : List ℕ) (c : Book). length (encode (version_of s) c) ≤ room)

-- the test says whether the book is longer than the room
pub record TooLong (s : List ℕ) (room : ℕ) (t : Bool) : Type 0 where
  pub yes : t ≡ true → OfSalvaged s (λ (rows : List Row) (reasons lost : List ℕ) (c : Book). room < length (encode (version_of s) c))
  pub no : t ≡ false → BookFits s room
