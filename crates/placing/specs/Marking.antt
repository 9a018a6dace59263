-- A placing that is marked in an index.
use Rattle.std.specs.Prelude.{◌≡◌, List, ℕ, ◌+◌, ◌*◌, ◌<◌, ◌≤◌, length}
use Rattle.rules.specs.Words.{◌∈◌}
use Rattle.rules.specs.Tiles.{Period}
use Rattle.rules.specs.Topology.{hop_count}
use Rattle.rules.specs.Book.{Row}
use Rattle.index.specs.Marks.{Adds, Notes, HopsTake}

-- a route over at most 64 nodes, with an offset within the period for each hop
pub record Markable (S K : ℕ) (route offsets : List ℕ) : Type 0 where
  pub few : S ≤ 32
  pub period : Period K
  pub count : length route ≡ length offsets + 1
  pub known : (a : ℕ) → a ∈ route → a < 64
  pub within : (o : ℕ) → o ∈ offsets → o < K * S

-- the row on it, whichever its id, way and account
abbrev pub row_on : ℕ → ℕ → ℕ → ℕ → List ℕ → List ℕ → Row
row_on id way account K route offsets = record { id = id; way = way; period = K; route = route; offsets = offsets; account = account }

-- the hops of that row were marked, and then its period noted
pub record Marked (S K : ℕ) (route offsets before after : List ℕ) : Type 0 where
  pub words : List ℕ
  pub adds : (id way account : ℕ) → Adds (HopsTake S (row_on id way account K route offsets) (hop_count route)) before words
  pub notes : Notes K words after
