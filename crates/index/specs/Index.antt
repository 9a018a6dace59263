-- The index of slots: for each slot the set of nodes that send there, and of those that receive, of periods up to 100.
-- Hops of periods up to ten tiles stand in ten tiles, the others in 100; and these, their tens laid over each other, once more in ten.
use Rattle.std.specs.Prelude.{◌≡◌, List, ℕ, ◌*◌, ◌<◌, ◌≤◌, length, get_or, take, drop}
use Rattle.rules.specs.Words.{◌∈◌}
use Rattle.rules.specs.Tiles.{short_tiles, Period, Takes}
use Rattle.rules.specs.Book.{Site, Row, hops, row_hop, row_offset}
use Rattle.bitset.specs.Sets.{SetOf}
use Rattle.bitset.specs.clash.Reach.{End, node_at}
use Rattle.index.specs.Areas.{quick_tiles, fold_place, word_at}
pub use Rattle.index.specs.Areas.{slow_place, links_behind, hearing_behind, index_length}
use Rattle.index.specs.Marks.{HopsTake}
use Rattle.index.specs.Folding.{Folded}

-- a hop of the rows, of a period up to 100, takes the slot, with the node at this end
pub record Ends (S : ℕ) (rows : List Row) (end : End) (slot node : ℕ) : Type 0 where
  pub row : Row
  pub row_there : row ∈ rows
  pub short : row.period ≤ short_tiles
  pub hop : ℕ
  pub hop_there : hop < hops row
  pub takes : Takes S row.period (row_offset row hop) slot
  pub is_end : node ≡ node_at end (row_hop row hop)

-- a hop of the rows, of a period, is marked at the slot, with the node at this end
pub record RowsTake (S : ℕ) (rows : List Row) (end : End) (slot node : ℕ) : Type 0 where
  pub row : Row
  pub there : row ∈ rows
  pub period : Period row.period
  pub hop_takes : HopsTake S row (hops row) end slot node

-- the words are the index of the rows: before the fold each set has exactly the ends of the hops that are marked there
pub record IndexOf (S : ℕ) (rows : List Row) (words : List ℕ) : Type 0 where
  pub size : length words ≡ index_length
  pub sets : (end : End) (slot : ℕ) → slot < fold_place → SetOf (RowsTake S rows end slot) (get_or words (word_at end slot) 0)
  pub folded : Folded (quick_tiles * S) words
  pub none_slow : get_or words slow_place 0 ≡ 0 → (x : Row) → x ∈ rows → x.period ≤ short_tiles

-- from a place on stand these words
abbrev pub StandAt : ℕ → List ℕ → List ℕ → Type 0
StandAt place these words = take (length these) (drop place words) ≡ these

-- links and hearing were put behind an index
pub record SitePut (links hearing before after : List ℕ) : Type 0 where
  pub size : length after ≡ length before
  pub front : take links_behind after ≡ take links_behind before
  pub links_stand : StandAt links_behind links after
  pub hearing_stands : StandAt hearing_behind hearing after

-- the words are the index of the rows, and behind it stand the links and the hearing of their site
pub record Beside (site : Site) (rows : List Row) (words : List ℕ) : Type 0 where
  pub slots : IndexOf site.plan.slots rows words
  pub links : StandAt links_behind site.links.rows words
  pub hearing : StandAt hearing_behind site.hearing.rows words
