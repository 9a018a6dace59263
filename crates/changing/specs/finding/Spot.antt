-- Where the row of an id stands among the rows of a lawful image, or would stand.
use Rattle.std.specs.Prelude.{◌≡◌, List, ◌++◌, ℕ, ◌<◌, ◌≤◌, length, drop}
use Rattle.rules.specs.Words.{◌∈◌}
use Rattle.rules.specs.Book.{Row}
use Rattle.rules.specs.Image.{in_turn, encode_row, version_of}
use Rattle.rules.proofs.Reading.{rows_in}
use Rattle.image.specs.Places.{row_at, Stands}
use Rattle.changing.specs.declared.finding.Spot.{Spot}
use Rattle.changing.specs.declared.finding.Spot.TheVariants.{Between, Here}

-- no row has the id; those before the place have lower ones, and those from it on higher ones
pub record Vacant (s : List ℕ) (id at : ℕ) : Type 0 where
  pub before : List Row
  pub rest : List Row
  pub all : rows_in s ≡ before ++ rest
  pub inside : at ≤ length s
  pub bytes : drop at s ≡ in_turn (encode_row (version_of s)) rest
  pub lower : (r : Row) → r ∈ before → r.id < id
  pub higher : (r : Row) → r ∈ rest → id < r.id

-- a row stands at the place, and it is the first with the id: those before it have lower ones
pub record Taken (s : List ℕ) (id at : ℕ) : Type 0 where
  pub left : ℕ
  pub more : 0 < left
  pub stands : Stands s at left
  pub lower : (r : Row) → r ∈ stands.before → r.id < id
  pub named : (row_at s at).id ≡ id

abbrev pub SpotOf : List ℕ → ℕ → Spot → Type 0
SpotOf s id (Between at) = Vacant s id at
SpotOf s id (Here at) = Taken s id at

-- the place of either
abbrev pub place_in : Spot → ℕ
place_in (Between at) = at
place_in (Here at) = at
