-- A row of an image, and what an index says of its hops.
use Rattle.std.specs.Prelude.{◌≡◌, List, ℕ}
use Rattle.rules.specs.Topology.{SoundTopologies}
use Rattle.rules.specs.Book.{Row, row_hop, row_offset, LawfulRow}
use Rattle.rules.specs.Image.{plan_of, FieldsInRange, links_of, hearing_of, site_of}
use Rattle.bitset.specs.clash.Reach.{Clashes}
use Rattle.index.specs.Turns.{RepeatsOf}
use Rattle.index.specs.Marks.{MeetsIn}
use Rattle.index.specs.declared.Repeats.{Repeats}

-- a row is lawful on the image's site, and its period repeats so
pub record RowPlaced (s : List ℕ) (r : Row) (repeats : Repeats) : Type 0 where
  pub fields : FieldsInRange s
  pub lawful : LawfulRow (site_of s) r
  pub repeats_are : RepeatsOf (plan_of s).slots r.period repeats

-- the hearing is that of the image, whose topologies are sound
pub record HearingRead (s hearing : List ℕ) : Type 0 where
  pub rows_are : hearing ≡ (hearing_of s).rows
  pub sound : SoundTopologies (links_of s) (hearing_of s)

-- by the words, hop i of the row takes a slot in the first 100 tiles where a node is at work that clashes with it
abbrev pub HopIndexed : List ℕ → List ℕ → Row → ℕ → Type 0
HopIndexed words s r i = MeetsIn (Clashes (hearing_of s) (row_hop r i)) (plan_of s).slots words r.period (row_offset r i)
