-- Over the rows of an image: what those so far use is a part of what all use.
use mathlib.Core.Path.{◌≡◌, ap, ◌∙◌}
use mathlib.Core.List.{List, [], ◌∷◌, ◌++◌}
use Prim.Native.Nat.{ℕ, ◌+◌, ◌≤◌}
use native.Mathlib.Omega.{arith}
use Rattle.rules.specs.Words.{total}
use Rattle.rules.specs.Book.{Row}
use Rattle.rules.specs.Table.{used}
use Rattle.rules.proofs.Reading.{rows_in, book_in}
use Rattle.rules.proofs.Lists.{total_append}
use Rattle.operations.specs.balances.Counts.{row_used}

-- with one more
pub used_more : (node : ℕ) (rows : List Row) (r : Row) → total (row_used node) (rows ++ (r ∷ [])) ≡ total (row_used node) rows + row_used node r
used_more node rows r = total_append (row_used node) rows (r ∷ []) ∙ omega arith

pub used_so_far : (s : List ℕ) (node : ℕ) (so_far rest : List Row) (r : Row) → rows_in s ≡ so_far ++ (r ∷ rest)
    → total (row_used node) so_far + row_used node r ≤ used (book_in s) node
used_so_far s node so_far rest r e = omega (arith, ap (total (row_used node)) e, total_append (row_used node) so_far (r ∷ rest))
