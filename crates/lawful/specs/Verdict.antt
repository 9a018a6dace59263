-- The number that a check of an image gives.
use Rattle.std.specs.Prelude.{◌≡◌, List, ℕ}
use Rattle.rules.specs.Says.{Says}
use Rattle.rules.specs.Image.{image_refusals, site_of}
use Rattle.rules.proofs.Reading.{rows_in, LawfulImage}
use Rattle.index.specs.Index.{Beside}

-- the number that the image says, and where it is 0 the bytes are those of the lawful book that they hold
pub record NumberOf (s : List ℕ) (number : ℕ) : Type 0 where
  pub says : Says (image_refusals s) number
  pub stored : number ≡ 0 → LawfulImage s

-- and then the words are the index of its rows and its site
pub record Verdict (s : List ℕ) (number : ℕ) (words : List ℕ) : Type 0 where
  pub number_is : NumberOf s number
  pub indexed : number ≡ 0 → Beside (site_of s) (rows_in s) words
