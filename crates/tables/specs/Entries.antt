-- What is written of a part of a table: the entries of some of its slots.
use Rattle.std.specs.Prelude.{◌≡◌, List, ◌∷◌, ◌++◌, ℕ, suc, ◌+◌, ◌*◌, ◌%◌, ◌<◌, ◌≤◌, length, take, drop}
use Rattle.rules.specs.Words.{◌∈◌, Distinct}
use Rattle.rules.specs.Tiles.{Plan, cycle_tiles, Data, Control, Takes, Period}
use Rattle.rules.specs.Book.{Row, hops, row_offset, Offsets}
use Rattle.rules.specs.Image.{word}
use Rattle.rules.specs.Table.{Does, on_way, TablePart}
use Rattle.rules.proofs.Reading.{book_in}
use Rattle.operations.specs.Operations.{where_working, StopsAt}
use Rattle.tables.specs.declared.Part.{Part}
use Rattle.tables.specs.declared.Stream.{Stream}

-- the three bytes of the slot's entry
abbrev pub entry_at : List ℕ → ℕ → List ℕ
entry_at table slot = take 3 (drop (3 * slot) table)

-- entries of slots: a slot, an operation and a stream id
abbrev pub Entries : Type 1
Entries = ℕ → ℕ → ℕ → Type 0

-- as they stand in a part, whose slots are counted from its start on
pub record From (start : ℕ) (E : Entries) (slot operation id : ℕ) : Type 0 where
  pub there : E (start + slot) operation id

-- the slot now has one of the entries that E has for it; or there is none, and it has what it had
pub data Now (E : Entries) (old new : List ℕ) (slot : ℕ) : Type 0 where
  given : {operation id : ℕ} → E slot operation id → entry_at new slot ≡ operation ∷ word id → Now E old new slot
  kept : ((operation id : ℕ) → E slot operation id → ⊥) → entry_at new slot ≡ entry_at old slot → Now E old new slot

-- the entries of E were written over the first n, and nothing else was changed
pub record Over (n : ℕ) (E : Entries) (old new : List ℕ) : Type 0 where
  pub entries : (slot : ℕ) → slot < n → Now E old new slot
  pub beyond : drop (3 * n) new ≡ drop (3 * n) old

-- this operation and id in one slot
pub record Only (at does name slot operation id : ℕ) : Type 0 where
  pub slot_is : slot ≡ at
  pub operation_is : operation ≡ does
  pub id_is : id ≡ name

-- one entry was written, with its id where the operation has one
pub record Put (slot operation id : ℕ) (old new : List ℕ) : Type 0 where
  pub over : (n : ℕ) → slot < n → Over n (Only slot operation (where_working operation id)) old new

-- one entry at each of the first turns: its slot, its operation and its id by the turn
pub record InTurn (at does name : ℕ → ℕ) (turns slot operation id : ℕ) : Type 0 where
  pub turn : ℕ
  pub within : turn < turns
  pub slot_is : slot ≡ at turn
  pub operation_is : operation ≡ does turn
  pub id_is : id ≡ name turn

-- this operation and id in the slots place, place + step, ..
pub record Repeated (place step does name slot operation id : ℕ) : Type 0 where
  pub turn : ℕ
  pub slot_is : slot ≡ place + turn * step
  pub operation_is : operation ≡ does
  pub id_is : id ≡ name

-- this operation without a stream in the first slots from a start on
abbrev pub Stretch : ℕ → ℕ → ℕ → Entries
Stretch start operation slots = InTurn (λ (place : ℕ). start + place) (λ (place : ℕ). operation) (λ (place : ℕ). 0) slots

-- a slot without streams is a sleep or a control slot
pub data Idle (plan : Plan) (slot : ℕ) : ℕ → ℕ → Type 0 where
  sleeps : Data plan slot → Idle plan slot 0 0
  controls : Control plan slot → Idle plan slot 5 0

-- the control slots of a part from a start on, below n
pub record ControlBelow (plan : Plan) (start n slot operation id : ℕ) : Type 0 where
  pub below : slot < n
  pub control : Control plan (start + slot)
  pub operation_is : operation ≡ 5
  pub id_is : id ≡ 0

-- what the node does in the slots of hop i of the row, as it is on its way
pub record HopEntry (i S node : ℕ) (r : Row) (slot operation id : ℕ) : Type 0 where
  pub takes : Takes S r.period (row_offset r i) slot
  pub work : ℕ
  pub does : Does node r i work
  pub operation_is : operation ≡ on_way r.way work
  pub id_is : id ≡ r.id

-- in the hop of the row to a place of its route
pub record ToEntry (place S node : ℕ) (r : Row) (slot operation id : ℕ) : Type 0 where
  pub hop : ℕ
  pub leads : suc hop ≡ place
  pub entry : HopEntry hop S node r slot operation id

-- in the hop from it
pub record FromEntry (place S node : ℕ) (r : Row) (slot operation id : ℕ) : Type 0 where
  pub within : place < hops r
  pub entry : HopEntry place S node r slot operation id

-- in the hops of the row
pub record RowEntry (S node : ℕ) (r : Row) (slot operation id : ℕ) : Type 0 where
  pub hop : ℕ
  pub within : hop < hops r
  pub entry : HopEntry hop S node r slot operation id

-- in the hops of the rows
pub record RowsEntry (S node : ℕ) (rows : List Row) (slot operation id : ℕ) : Type 0 where
  pub row : Row
  pub there : row ∈ rows
  pub entry : RowEntry S node row slot operation id

-- what is known of a row of a book whose tiles have S slots: its hops are some, and its nodes distinct
pub record RowOn (S : ℕ) (r : Row) : Type 0 where
  pub period : Period r.period
  pub some : 1 ≤ hops r
  pub distinct : Distinct r.route
  pub offsets : Offsets S r.period (hops r) r.offsets

-- a part of the cycle, for which a buffer has room
pub record PartFits (part : Part) (out : List ℕ) : Type 0 where
  pub slots_most : part.slots.0 ≤ 32
  pub inside : part.start.0 + part.count.0 ≤ cycle_tiles * part.slots.0
  pub room : 3 * part.count.0 ≤ length out

-- of the row, what the node does by E was written over the part
abbrev pub InRow : Row → Part → ℕ → (ℕ → ℕ → Row → Entries) → List ℕ → List ℕ → Type 0
InRow r part node E = Over part.count.0 (From part.start.0 (E part.slots.0 node r))

-- so for any node that does the operation in hop i
abbrev pub InHop : Row → Part → ℕ → ℕ → List ℕ → List ℕ → Type 0
InHop r part i operation old new = (node : ℕ) → Does node r i operation → InRow r part node (HopEntry i) old new

-- and for any that stands at the place of the route
abbrev pub AtStop : Row → Part → ℕ → (ℕ → ℕ → Row → Entries) → List ℕ → List ℕ → Type 0
AtStop r part place E old new = (node : ℕ) → StopsAt node r place → InRow r part node E old new

-- the id, the way, the slots of the period and the hops of the row, and how late in the period the part starts
pub record StreamOf (r : Row) (part : Part) (stream : Stream) : Type 0 where
  pub id_is : stream.id ≡ r.id
  pub way_is : stream.way ≡ r.way
  pub step_is : stream.step.0 ≡ r.period * part.slots.0
  pub late_is : stream.late.0 ≡ part.start.0 % stream.step.0
  pub hops_is : stream.hops ≡ hops r

-- the part of the node's table was written at the front of the buffer, and nothing else was changed
pub record Filled (s : List ℕ) (node first tiles : ℕ) (old new : List ℕ) : Type 0 where
  pub table : List ℕ
  pub part_of : TablePart (book_in s) node first tiles table
  pub buffer : new ≡ table ++ drop (length table) old
