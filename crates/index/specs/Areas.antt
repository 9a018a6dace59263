-- Where things stand in the words of an index.
use Rattle.std.specs.Prelude.{List, ℕ, ◌+◌, ◌*◌, get_or}
use Rattle.rules.specs.Words.{Has}
use Rattle.rules.specs.Tiles.{short_tiles}
use Rattle.bitset.specs.clash.Reach.{End}
use Rattle.bitset.specs.clash.Reach.End.{sender, receiver}

-- a period up to ten tiles comes round in ten
abbrev pub quick_tiles : ℕ
quick_tiles = 10

-- first are the slots of 100 tiles of 32 slots; behind them those of ten tiles, for periods up to ten,
abbrev pub quick_place : ℕ
quick_place = short_tiles * 32

-- and then those of ten tiles, for the tens of the 100 laid over each other
abbrev pub fold_place : ℕ
fold_place = quick_place + quick_tiles * 32

-- so many slots in all
abbrev pub index_slots : ℕ
index_slots = fold_place + quick_tiles * 32

-- behind the slots stands a word that is 0 only where no period is over 100
abbrev pub slow_place : ℕ
slow_place = 2 * index_slots

-- behind it stand the links of a site, a word for each node,
abbrev pub links_behind : ℕ
links_behind = slow_place + 1

-- and its hearing
abbrev pub hearing_behind : ℕ
hearing_behind = links_behind + 64

-- two words for each slot, and all that
abbrev pub index_length : ℕ
index_length = hearing_behind + 64

-- where they stand: the nodes that send, then the nodes that receive
abbrev pub word_at : End → ℕ → ℕ
word_at sender slot = 2 * slot
word_at receiver slot = 2 * slot + 1

-- by the words the node is at work in the slot, at this end of a hop
abbrev pub AtWork : List ℕ → End → ℕ → ℕ → Type 0
AtWork words end slot node = Has (get_or words (word_at end slot) 0) node
