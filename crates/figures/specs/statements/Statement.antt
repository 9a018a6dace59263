-- W3: the figures of a statement.
use Rattle.std.specs.Prelude.{◌≡◌, List, [], ◌∷◌, ℕ, ◌+◌, ◌-◌, ◌<◌, ◌≤◌, max}
use Rattle.rules.specs.Words.{Count}
use Rattle.rules.specs.Tiles.{cycle_slots}
use Rattle.rules.specs.Topology.{nodes}
use Rattle.rules.specs.Book.{Row, Book, hops, row_offset}
use Rattle.rules.specs.Table.{Entry, sum_below, used}

-- a row's latency: last offset less first, plus 1
abbrev pub latency : Row → ℕ
latency r = row_offset r (hops r - 1) - row_offset r 0 + 1

-- the longest, or 0 with no streams
abbrev pub longest : List Row → ℕ
longest [] = 0
longest (r ∷ rows) = max (latency r) (longest rows)

-- free: the sleep entries of the node's table
abbrev pub FreeOf : Book → ℕ → ℕ → Type 0
FreeOf b node = Count (λ (slot : ℕ). Entry b node slot 0 0) (cycle_slots b.site.plan)

-- the fewest free slots of any node
pub record Fewest (b : Book) (n : ℕ) : Type 0 where
  pub node : ℕ
  pub known : node < nodes b.site.links
  pub has : FreeOf b node n
  pub least : (a k : ℕ) → a < nodes b.site.links → FreeOf b a k → n ≤ k

-- the sum of used over the nodes
abbrev pub used_in_all : Book → ℕ
used_in_all b = sum_below (nodes b.site.links) (used b)

-- the line of a book: the fewest free slots, the sum of used, the longest latency
pub record LineOf (b : Book) (fewest used_sum latest : ℕ) : Type 0 where
  pub fewest_is : Fewest b fewest
  pub used_is : used_sum ≡ used_in_all b
  pub latest_is : latest ≡ longest b.rows

-- a node's movement: what is free this month less last month's, as so many more or so many fewer
pub record Moves (last this : Book) (node more fewer : ℕ) : Type 0 where
  pub was : ℕ
  pub is : ℕ
  pub free_last : FreeOf last node was
  pub free_this : FreeOf this node is
  pub more_is : more ≡ is - was
  pub fewer_is : fewer ≡ was - is
