-- Tables that are what a book expands to, and what is said of them.
use Rattle.std.specs.Prelude.{◌≡◌, List, [], ◌∷◌, ℕ, ◌<◌, length}
use Rattle.rules.specs.Says.{◌when◌}
use Rattle.rules.specs.Tiles.{Plan, short_tiles}
use Rattle.rules.specs.Book.{Book}
use Rattle.rules.specs.Image.{newest, old_accounts, encode, plan_of, nodes_of}
use Rattle.rules.specs.Table.{TablePart}
use Rattle.rules.specs.Calls.{site_given}
use Rattle.rules.specs.Tables.{table_at, ShownBy, OfShown}
use Rattle.rules.proofs.Reading.{book_in, LawfulImage}
use Rattle.rules.specs.answers.Reply.{Reply}

-- at the node they are what the book of the image expands to
abbrev pub SameAt : List ℕ → List ℕ → ℕ → Type 0
SameAt s tables node = TablePart (book_in s) node 0 short_tiles (table_at (plan_of s) tables node)

-- the bytes are the image of a lawful book that expands to the tables
pub record Expanded (s tables : List ℕ) : Type 0 where
  pub lawful : LawfulImage s
  pub same : (node : ℕ) → node < nodes_of s → SameAt s tables node

-- 20, 12, or the book is written
abbrev pub Adopts : Plan → ℕ → List ℕ → List ℕ → List ℕ → List ℕ → ℕ → ℕ → List ℕ → Type 0
Adopts plan N links hearing tables out =
    Reply
    ((20 when ((b : Book) → ShownBy (site_given plan N links hearing old_accounts) tables b → ⊥))
    ∷ (12 when OfShown (site_given plan N links hearing old_accounts) tables (λ (b : Book). length out < length (encode newest b)))
    ∷ [])
    (λ (bytes : List ℕ). OfShown (site_given plan N links hearing old_accounts) tables (λ (b : Book). bytes ≡ encode newest b)) out
