-- A number of 64 bits as the set of the numbers that it has.
use Rattle.std.specs.Prelude.{ℕ, ◌<◌}
use Rattle.rules.specs.Words.{Has}
pub use Rattle.rules.specs.Words.{SetOf}

-- r is a member, and no lower number is
pub record Lowest (set r : ℕ) : Type 0 where
  pub small : r < 64
  pub member : Has set r
  pub least : (k : ℕ) → k < r → Has set k → ⊥
