-- The book that is worked on: a full-size buffer whose first bytes are its image.
use Rattle.std.specs.Prelude.{◌≡◌, List, ℕ, ◌≤◌, length, take}
use Rattle.rules.specs.Book.{Book}
use Rattle.rules.specs.Image.{newest, longest_image}
use Rattle.rules.proofs.Reading.{book_in}
use Rattle.index.specs.Beside.{ImageBeside}

-- the first bytes are the image of a lawful book in the newest version, and the words are the index of its rows
pub record Standing (buffer : List ℕ) (len : ℕ) (words : List ℕ) : Type 0 where
  pub room : length buffer ≡ longest_image newest
  pub fits : len ≤ length buffer
  pub image : ImageBeside (take len buffer) words

-- the book that they hold
abbrev pub book_at : List ℕ → ℕ → Book
book_at buffer len = book_in (take len buffer)
