-- A node's table and balance, computed.
use Rattle.std.specs.Prelude.{cond, List, [], ◌∷◌, ◌++◌, ℕ, zero, suc, eqb}
use Rattle.std.proofs.Math.Option.{Option, some, none}
use Rattle.rules.specs.Tiles.{cycle_tiles, slots_of, cycle_slots}
use Rattle.rules.specs.Book.{Row, Book, hops, row_hop, row_offset}
use Rattle.rules.specs.Image.{word}
use Rattle.rules.specs.Table.{on_way, sum_below}
use Rattle.rules.proofs.Counts.{if_so}
use Rattle.rules.proofs.Slots.{is_data, takes}
use Rattle.theorems.specs.model.Search.{first_from, and_then}
use Rattle.theorems.specs.model.Answer.{or_given}

pub record Cell : Type 0 where
  pub operation : ℕ
  pub stream : ℕ

-- what the node does in hop i of the row, where it is an end
abbrev pub operation_of : ℕ → Row → ℕ → Option ℕ
operation_of node r i =
    cond (eqb node (row_hop r i).from) (some (cond (eqb i 0) 1 3)) (cond (eqb node (row_hop r i).to) (some (cond (eqb (suc i) (hops r)) 4 2)) none)

abbrev pub cell_in : Book → ℕ → ℕ → Row → Option Cell
cell_in b node slot r =
    first_from (hops r) 0 (λ (i : ℕ). cond (takes b.site.plan.slots r.period (row_offset r i) slot)
    (and_then (operation_of node r i) (λ (o : ℕ). some (record { operation = on_way r.way o; stream = r.id }))) none)

-- the node's entry in the slot, by the rows
abbrev pub cell_of : Book → ℕ → ℕ → List Row → Cell
cell_of b node slot [] = record { operation = cond (is_data b.site.plan slot) 0 5; stream = 0 }
cell_of b node slot (r ∷ rs) = or_given (cell_in b node slot r) (cell_of b node slot rs)

-- the entries of the n slots from a slot on, in bytes
abbrev pub table_from : Book → ℕ → ℕ → ℕ → List ℕ
table_from b node zero slot = []
table_from b node (suc n) slot =
    ((cell_of b node slot b.rows).operation ∷ word (cell_of b node slot b.rows).stream) ++ table_from b node n (suc slot)

-- those of so many tiles from the first on
abbrev pub part_of : Book → ℕ → ℕ → ℕ → List ℕ
part_of b node first tiles = table_from b node (slots_of b.site.plan tiles) (slots_of b.site.plan first)

abbrev pub table_of : Book → ℕ → List ℕ
table_of b node = part_of b node 0 cycle_tiles

-- BALANCE
abbrev pub data_count : Book → ℕ
data_count b = sum_below (cycle_slots b.site.plan) (λ (slot : ℕ). if_so (is_data b.site.plan slot))

abbrev pub free_count : Book → ℕ → ℕ
free_count b node = sum_below (cycle_slots b.site.plan) (λ (slot : ℕ). if_so (eqb (cell_of b node slot b.rows).operation 0))
