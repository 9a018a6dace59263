-- What the figures of an image say: its number, and those of its book.
use Rattle.std.specs.Prelude.{◌≡◌, List, [], ℕ, suc, ◌<◌, ◌≤◌, length, get_or, take, Result, IsErr, IsOkAnd, ℤ, pos, negsuc}
use Rattle.rules.specs.Topology.{nodes}
use Rattle.rules.specs.Book.{Book}
use Rattle.rules.specs.Calls.{CallOf}
use Rattle.rules.specs.Said.{said}
use Rattle.rules.specs.declared.refusals.Refusal.{Refusal}
use Rattle.figures.specs.declared.statements.Figures.{Figures}
use Rattle.figures.specs.statements.Statement.{FreeOf, LineOf, Moves}

-- a book has at most 64 nodes
abbrev pub most_nodes : ℕ
most_nodes = 64

-- the figures of a book: N, each node's free slots and then zeros, and its line
pub record FiguresOf (b : Book) (r : Figures) : Type 0 where
  pub count : r.nodes ≡ nodes b.site.links
  pub size : length r.free ≡ most_nodes
  pub frees : (node : ℕ) → node < r.nodes → FreeOf b node (get_or r.free node 0)
  pub rest : (node : ℕ) → r.nodes ≤ node → get_or r.free node 0 ≡ 0
  pub line : LineOf b r.fewest r.used r.latency

-- the image's refusal, or the figures of its book
abbrev pub FiguresSay : List ℕ → Result Figures Refusal → Type 0
FiguresSay image r = CallOf image (λ (v : ℕ) (b : Book). []) (IsErr r) (λ (v : ℕ) (b : Book). IsOkAnd r (FiguresOf b)) (said r)

-- the first r bytes of every image of so many bytes have its figures
pub record Decides (size r : ℕ) : Type 0 where
  pub most : r ≤ size
  pub figures : (image : List ℕ) (f : Result Figures Refusal) → length image ≡ size → ((i : ℕ) → get_or image i 0 < 256) → FiguresSay (take r image) f → FiguresSay image f

-- so many more, and so many fewer, as a number with its sign says them
abbrev pub more_of : ℤ → ℕ
more_of (pos n) = n
more_of (negsuc n) = 0

abbrev pub fewer_of : ℤ → ℕ
fewer_of (pos n) = 0
fewer_of (negsuc n) = suc n

-- the movement from so many free slots of a node to so many
pub record Moved (was is : ℕ) (r : ℤ) : Type 0 where
  pub moves : (last this : Book) (node : ℕ) → FreeOf last node was → FreeOf this node is → Moves last this node (more_of r) (fewer_of r)
