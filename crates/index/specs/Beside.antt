-- An image in the newest version beside the index of its rows and its site, and what a request does to both.
use Rattle.std.specs.Prelude.{◌≡◌, List, ℕ}
use Rattle.rules.specs.Says.{Says}
use Rattle.rules.specs.Book.{Book}
use Rattle.rules.specs.Image.{newest, encode, site_of}
use Rattle.rules.specs.Calls.{Request, request_refusals, Made}
use Rattle.rules.proofs.Reading.{rows_in, book_in, NewestImage}
use Rattle.image.specs.Places.{Laid}
use Rattle.index.specs.Index.{Beside}

-- the image is that of a lawful book in the newest version, and the words are the index of its rows and its site
pub record ImageBeside (s words : List ℕ) : Type 0 where
  pub newest : NewestImage s
  pub index : Beside (site_of s) (rows_in s) words

-- the image of the book after the request was laid out from the place on, and the words are the index of its rows
pub record Done (mains : ℕ) (s : List ℕ) (q : Request) (at len : ℕ) (out words : List ℕ) : Type 0 where
  pub after : Book
  pub made : Made mains (book_in s) q after
  pub laid : Laid s at (encode newest after) len out
  pub index : Beside (site_of s) after.rows words

-- the number that the request's refusals say, with the set of nodes that may stand in the middle; where it is refused the words are still the index of the rows
pub record Works (mains : ℕ) (s : List ℕ) (q : Request) (at number len : ℕ) (out words : List ℕ) : Type 0 where
  pub says : Says (request_refusals mains (book_in s) q) number
  pub refused : (number ≡ 0 → ⊥) → Beside (site_of s) (rows_in s) words
  pub done : number ≡ 0 → Done mains s q at len out words
