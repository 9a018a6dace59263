-- What is marked in an index, and what is found there.
use Rattle.std.specs.Prelude.{◌≡◌, ◌⊎◌, List, ℕ, ◌<◌, ◌≤◌, length, get_or, drop}
use Rattle.rules.specs.Words.{Has, NoBitFrom}
use Rattle.rules.specs.Tiles.{short_tiles}
use Rattle.rules.specs.Topology.{Hop}
use Rattle.rules.specs.Book.{Row, row_hop, row_offset}
use Rattle.bitset.specs.clash.Reach.{End, node_at, set_at}
use Rattle.bitset.specs.declared.clash.Reach.{Reach}
use Rattle.index.specs.Areas.{index_slots, slow_place, links_behind, word_at, AtWork}
use Rattle.index.specs.Turns.{TakesFirst, MarkedAt, LooksAt, LooksIn}
use Rattle.index.specs.declared.Repeats.{Repeats}

-- in the slots with P each of the two words was changed by the node at its end of the hop, and all other words are as before
pub record Changed (Change : ℕ → ℕ → ℕ → Type 0) (h : Hop) (P : ℕ → Type 0) (before after : List ℕ) : Type 0 where
  pub size : length after ≡ length before
  pub made : (end : End) (slot : ℕ) → P slot → Change (get_or before (word_at end slot) 0) (node_at end h) (get_or after (word_at end slot) 0)
  pub kept : (end : End) (slot : ℕ) → (P slot → ⊥) → get_or after (word_at end slot) 0 ≡ get_or before (word_at end slot) 0
  pub behind : drop slow_place after ≡ drop slow_place before

-- the sets have the nodes that they had before, and those with P
pub record Adds (P : End → ℕ → ℕ → Type 0) (before after : List ℕ) : Type 0 where
  pub size : length after ≡ length before
  pub fits : (end : End) (slot : ℕ) → NoBitFrom 64 (get_or before (word_at end slot) 0) → NoBitFrom 64 (get_or after (word_at end slot) 0)
  pub only : (end : End) (slot node : ℕ) → AtWork after end slot node → AtWork before end slot node ⊎ P end slot node
  pub kept : (end : End) (slot node : ℕ) → AtWork before end slot node → AtWork after end slot node
  pub all : (end : End) (slot node : ℕ) → P end slot node → AtWork after end slot node
  pub behind : drop slow_place after ≡ drop slow_place before

-- the sets have the nodes that they had before, without those with P
pub record Clears (P : End → ℕ → ℕ → Type 0) (before after : List ℕ) : Type 0 where
  pub size : length after ≡ length before
  pub fits : (end : End) (slot : ℕ) → NoBitFrom 64 (get_or before (word_at end slot) 0) → NoBitFrom 64 (get_or after (word_at end slot) 0)
  pub only : (end : End) (slot node : ℕ) → AtWork after end slot node → AtWork before end slot node × (P end slot node → ⊥)
  pub all : (end : End) (slot node : ℕ) → AtWork before end slot node → (P end slot node → ⊥) → AtWork after end slot node
  pub behind : drop slow_place after ≡ drop slow_place before

-- a period was noted: where none is over 100, it is not, and the sets are as before
pub record Notes (K : ℕ) (before after : List ℕ) : Type 0 where
  pub size : length after ≡ length before
  pub same : (end : End) (slot : ℕ) → slot < index_slots → get_or after (word_at end slot) 0 ≡ get_or before (word_at end slot) 0
  pub kept : get_or after slow_place 0 ≡ 0 → get_or before slow_place 0 ≡ 0
  pub short : get_or after slow_place 0 ≡ 0 → K ≤ short_tiles
  pub behind : drop links_behind after ≡ drop links_behind before

-- one of the row's first n hops is marked at the slot, with the node at this end
pub record HopsTake (S : ℕ) (r : Row) (n : ℕ) (end : End) (slot node : ℕ) : Type 0 where
  pub hop : ℕ
  pub there : hop < n
  pub takes : MarkedAt S r.period (row_offset r hop) slot
  pub is_end : node ≡ node_at end (row_hop r hop)

-- a node with C is at work in the slot
pub record Busy (C : End → ℕ → Type 0) (words : List ℕ) (slot : ℕ) : Type 0 where
  pub end : End
  pub node : ℕ
  pub sought : C end node
  pub there : AtWork words end slot node

-- in one of the slots of its first n turns a hop finds such a node
pub record FindsFirst (C : End → ℕ → Type 0) (words : List ℕ) (span start n : ℕ) : Type 0 where
  pub slot : ℕ
  pub takes : TakesFirst span start n slot
  pub busy : Busy C words slot

-- it does in one of the slots where it is looked for
pub record Finds (C : End → ℕ → Type 0) (words : List ℕ) (r : Repeats) (o : ℕ) : Type 0 where
  pub slot : ℕ
  pub looked : LooksIn r o slot
  pub busy : Busy C words slot

-- from lo on the hop first finds none at this offset, or at none within the span, where it is behind that
pub record FirstQuiet (C : End → ℕ → Type 0) (words : List ℕ) (r : Repeats) (lo o : ℕ) : Type 0 where
  pub above : lo ≤ o
  pub before : (k : ℕ) → k < o → lo ≤ k → Finds C words r k
  pub quiet : o < r.span.0 → Finds C words r o → ⊥

-- the node is in reach, as one of those that send or of those that receive
pub data Common (senders receivers : ℕ) (reach : Reach) (node : ℕ) : Type 0 where
  sends : Has senders node → Has reach.senders node → Common senders receivers reach node
  receives : Has receivers node → Has reach.receivers node → Common senders receivers reach node

-- the reach has the node at this end
abbrev pub InReach : Reach → End → ℕ → Type 0
InReach reach end node = Has (set_at end reach) node

-- by the words a hop of period K and offset o, where it is looked for, meets a node with C at work
pub record MeetsIn (C : End → ℕ → Type 0) (S : ℕ) (words : List ℕ) (K o : ℕ) : Type 0 where
  pub slot : ℕ
  pub looked : LooksAt S K o slot
  pub busy : Busy C words slot
