-- What entries are read for: the way of an operation, whether they are entries, and who receives.
use Rattle.std.specs.Prelude.{◌≡◌, ◌⊎◌, Bool, true, false, List, ℕ, ◌+◌, ◌*◌, ◌<◌, ◌≤◌, ltb, Option, Some, None}
use Rattle.rules.specs.Table.{on_way}
use Rattle.rules.specs.Tables.{operation_at, id_at, OfStream}
use Rattle.rules.specs.declared.Node.{Node}
use Rattle.rules.proofs.Seen.{Has, Next}

-- the way of an operation of a stream
pub record WayOf (operation way : ℕ) : Type 0 where
  pub of_stream : OfStream operation way
  pub only : (other : ℕ) → OfStream operation other → way ≡ other

-- it has one, or it is of no stream
abbrev pub OfWay : ℕ → Option ℕ → Type 0
OfWay operation (Some way) = WayOf operation way
OfWay operation None = (way : ℕ) → OfStream operation way → ⊥

-- an entry of a control slot, and of any other
pub data EntryIn : Bool → ℕ → ℕ → Type 0 where
  control : EntryIn true 5 0
  sleep : EntryIn false 0 0
  works : {operation way id : ℕ} → OfStream operation way → 1 ≤ id → EntryIn false operation id

-- entries of a tile, from one on, with control in exactly so many slots at its front
abbrev pub EntriesIn : List ℕ → ℕ → ℕ → ℕ → Type 0
EntriesIn tables first slots n = (p : ℕ) → p < slots → EntryIn (ltb p n) (operation_at tables (first + p)) (id_at tables (first + p))

-- in entry i a node receives on the way for the id
pub record Receives (tables : List ℕ) (i way id : ℕ) : Type 0 where
  pub operation : ℕ
  pub has : Has tables i (on_way way operation) id
  pub two : (operation ≡ 2) ⊎ (operation ≡ 4)

-- the first of the nodes that does so in the slot, and their number where none does
pub record Receiver (tables : List ℕ) (nodes slots slot way id r : ℕ) : Type 0 where
  pub most : r ≤ nodes
  pub found : r < nodes → Receives tables (r * slots + slot) way id
  pub first : (node : ℕ) → node < nodes → Receives tables (node * slots + slot) way id → r ≤ node

abbrev pub ReceiverOf : List ℕ → ℕ → ℕ → ℕ → ℕ → ℕ → Option Node → Type 0
ReceiverOf tables nodes slots slot way id (Some node) = (node.0 < nodes) × Receiver tables nodes slots slot way id node.0
ReceiverOf tables nodes slots slot way id None = Receiver tables nodes slots slot way id nodes

-- the first entry from one on that has both, before another; that other stands for none
abbrev pub NextOf : List ℕ → ℕ → ℕ → ℕ → ℕ → Option ℕ → Type 0
NextOf tables from to operation id (Some i) = (i < to) × Next tables from to operation id i
NextOf tables from to operation id None = Next tables from to operation id to
