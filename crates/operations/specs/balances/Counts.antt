-- What the counts of a book promise.
use Rattle.std.specs.Prelude.{cond, ℕ, ◌+◌, ◌≤◌, ltb}
use Rattle.rules.specs.Words.{Count}
use Rattle.rules.specs.Tiles.{Plan, cycle_slots, Data, repeats}
use Rattle.rules.specs.Book.{Row, hops, row_hop}
use Rattle.rules.specs.Table.{touches, sum_below}
use Rattle.rules.proofs.Counts.{if_so}

-- the repeats of the row's hops that touch the node
abbrev pub row_used : ℕ → Row → ℕ
row_used node r = sum_below (hops r) (λ (i : ℕ). cond (touches node (row_hop r i)) (repeats r.period) 0)

-- the hops of a route that lead to a place of it and from it, its last place being the end
abbrev pub ends_at : ℕ → ℕ → ℕ
ends_at place last = if_so (ltb 0 place) + if_so (ltb place last)

-- the data slots of the cycle
pub record DataSlots (plan : Plan) (n : ℕ) : Type 0 where
  pub all_data : Count (Data plan) (cycle_slots plan) n
  pub most : n ≤ cycle_slots plan
