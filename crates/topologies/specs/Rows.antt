-- A sound row of a topology, and links that are heard.
use Rattle.std.specs.Prelude.{◌⊎◌, ℕ, ◌<◌, get_or}
use Rattle.rules.specs.Words.{Has, NoBitFrom}
use Rattle.rules.specs.Topology.{Topology, nodes, Joined}

-- the row of a has no bit from N up, not a itself, and no node whose row has not a
pub record SoundRow (T : Topology) (a : ℕ) : Type 0 where
  pub low : NoBitFrom (nodes T) (get_or T.rows a 0)
  pub no_self : Joined T a a → ⊥
  pub both_ways : (b : ℕ) → b < nodes T → Joined T a b → Joined T b a

-- what is left to ask about of the row of a: all that it has, but for nodes whose row has a
pub record LeftOf (T : Topology) (a left : ℕ) : Type 0 where
  pub left_of : (b : ℕ) → Has left b → Joined T a b
  pub right : (b : ℕ) → Joined T a b → Has left b ⊎ ((b < nodes T) × Joined T b a)

-- every link of a is heard
abbrev pub HeardRow : Topology → Topology → ℕ → Type 0
HeardRow links hearing a = (b : ℕ) → Joined links a b → Joined hearing a b

-- every link is
abbrev pub Heard : Topology → Topology → Type 0
Heard links hearing = (a : ℕ) → a < nodes links → HeardRow links hearing a
