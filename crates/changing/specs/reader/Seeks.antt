-- A search among the rows of a lawful image, which rise by id: rows are passed while their ids are lower.
use Rattle.std.specs.Prelude.{List, ℕ, ◌<◌, ◌≤◌}
use Rattle.rules.specs.Words.{◌∈◌}
use Rattle.rules.specs.Book.{Row}
use Rattle.image.specs.Places.{row_at, Stands}

-- the last `left` rows stand from the place on, and those before it have lower ids
pub record Passed (s : List ℕ) (id at left : ℕ) : Type 0 where
  pub stands : Stands s at left
  pub lower : (r : Row) → r ∈ stands.before → r.id < id

-- the rows before the place have lower ids, and the row there, where there is one, has not
pub record Reached (s : List ℕ) (id at : ℕ) : Type 0 where
  pub left : ℕ
  pub passed : Passed s id at left
  pub stops : 0 < left → id ≤ (row_at s at).id
