-- What is known of an image once its header was tested.
use Rattle.std.specs.Prelude.{◌≡◌, List, ℕ, length}
use Rattle.rules.specs.Image.{stated_length, FieldsInRange, links_of}
use Rattle.image.specs.declared.Book.{Book}
use Rattle.accounts.specs.Lists.{ListRead}

-- each field is in its range, and the length is the one that the header gives
pub record Framed (s : List ℕ) : Type 0 where
  pub fields : FieldsInRange s
  pub size : length s ≡ stated_length s

-- what was read of an image whose fields are in their ranges: its header, its accounts, and its links
pub record ReadFrom (s : List ℕ) (b : Book) (links : List ℕ) : Type 0 where
  pub fields : FieldsInRange s
  pub list : ListRead s b
  pub links_are : links ≡ (links_of s).rows
