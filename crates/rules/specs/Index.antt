-- The index by slot of the first 100 tiles.
use mathlib.Core.{Path.◌≡◌, List.List, List.◌++◌}
use Rattle.std.specs.Prelude.{ℕ, ◌+◌, ◌*◌, ◌<◌, ◌≤◌, length, get_or, drop}
use Rattle.rules.specs.Words.{SetOf}
use Rattle.rules.specs.Tiles.{Plan, slots_of, short_tiles}
use Rattle.rules.specs.Topology.{Hop}
use Rattle.rules.specs.Book.{Row, Book, row_hop}
use Rattle.rules.specs.Table.{Active}

-- a hop of a row with a period up to 100 takes the slot, with the node at this end
pub record Marks (end : Hop → ℕ) (b : Book) (slot node : ℕ) : Type 0 where
  pub row : Row
  pub hop : ℕ
  pub active : Active b slot row hop
  pub short : row.period ≤ short_tiles
  pub at : node ≡ end (row_hop row hop)

-- two words for each slot of the first 100 tiles
abbrev pub index_length : Plan → ℕ
index_length plan = 2 * slots_of plan short_tiles

-- for each slot the set of nodes sending, then of nodes receiving there
pub record IndexOf (b : Book) (words : List ℕ) : Type 0 where
  pub size : length words ≡ index_length b.site.plan
  pub sending : (slot : ℕ) → slot < slots_of b.site.plan short_tiles → SetOf (Marks (λ (h : Hop). h.from) b slot) (get_or words (2 * slot) 0)
  pub receiving : (slot : ℕ) → slot < slots_of b.site.plan short_tiles → SetOf (Marks (λ (h : Hop). h.to) b slot) (get_or words (2 * slot + 1) 0)

-- the buffer holds the index of the book, and behind it what it held before
pub record Indexed (b : Book) (before after : List ℕ) : Type 0 where
  pub words : List ℕ
  pub index : IndexOf b words
  pub buffer : after ≡ words ++ drop (length words) before
