-- What one pass over the rows, and one over the nodes, promise.
use Rattle.std.specs.Prelude.{◌≡◌, cond, List, ℕ, ◌+◌, ◌*◌, ◌-◌, ◌<◌, ◌≤◌, max, length, get_or}
use Rattle.rules.specs.Tiles.{cycle_tiles}
use Rattle.rules.specs.Topology.{Hop}
use Rattle.rules.specs.Table.{touches, sum_below, used}
use Rattle.rules.proofs.Reading.{rows_in, book_in}
use Rattle.figures.specs.declared.statements.Figures.{Figures}
use Rattle.figures.specs.declared.statements.Totals.{Totals}
use Rattle.figures.specs.statements.Statement.{longest}
use Rattle.figures.specs.statements.Figures.{most_nodes}

-- a cycle has at most as many slots
abbrev pub most_slots : ℕ
most_slots = cycle_tiles * 32

-- and so many turns may be added to them, hop by hop of one row
abbrev pub most_sums : ℕ
most_sums = most_slots + cycle_tiles * 256

-- a number for each node, none over the most
pub record Below (most : ℕ) (sums : List ℕ) : Type 0 where
  pub size : length sums ≡ most_nodes
  pub each : (node : ℕ) → get_or sums node 0 ≤ most

-- each node's number is f of it more
pub record Added (f : ℕ → ℕ) (before after : List ℕ) : Type 0 where
  pub size : length after ≡ length before
  pub each : (node : ℕ) → get_or after node 0 ≡ get_or before node 0 + f node

-- the turns of a hop, for the nodes at its ends
abbrev pub hop_turns : Hop → ℕ → ℕ → ℕ
hop_turns h turns node = cond (touches node h) turns 0

-- what each node uses by the rows of the image, and their longest latency
pub record Passed (s sums : List ℕ) (latest : ℕ) : Type 0 where
  pub size : length sums ≡ most_nodes
  pub uses : (node : ℕ) → get_or sums node 0 ≡ used (book_in s) node
  pub latest_is : latest ≡ longest (rows_in s)

-- the least of f over the numbers below n
pub record Least (n : ℕ) (f : ℕ → ℕ) (least : ℕ) : Type 0 where
  pub node : ℕ
  pub known : node < n
  pub has : least ≡ f node
  pub first : (a : ℕ) → a < n → least ≤ f a

-- the figures of n nodes, of whose data slots these are used
pub record Summed (slots n : ℕ) (sums : List ℕ) (latest : ℕ) (r : Figures) : Type 0 where
  pub count : r.nodes ≡ n
  pub size : length r.free ≡ most_nodes
  pub frees : (node : ℕ) → node < n → get_or r.free node 0 ≡ slots - get_or sums node 0
  pub rest : (node : ℕ) → n ≤ node → get_or r.free node 0 ≡ 0
  pub fewest : Least n (λ (node : ℕ). slots - get_or sums node 0) r.fewest
  pub used : r.used ≡ sum_below n (λ (node : ℕ). get_or sums node 0)
  pub latency : r.latency ≡ latest

-- far more than the totals of all images
abbrev pub most_total : ℕ
most_total = 17592186044416

-- no sum is over the most
pub record Few (most : ℕ) (t : Totals) : Type 0 where
  pub fewest : t.fewest ≤ most
  pub used : t.used ≤ most

-- the two sums and the maximum, with one image more
pub record Totalled (t : Totals) (f : Figures) (r : Totals) : Type 0 where
  pub fewest : r.fewest ≡ t.fewest + f.fewest
  pub used : r.used ≡ t.used + f.used
  pub latency : r.latency ≡ max t.latency f.latency
  pub small : (f.fewest < 4294967296) × (f.used < 4294967296)
