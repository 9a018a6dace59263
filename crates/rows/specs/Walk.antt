-- Rows that stand one after the other in an image.
use Rattle.std.specs.Prelude.{◌≡◌, false, List, ℕ, zero, suc, ◌≤◌}
use Rattle.rules.specs.Words.{TwoBytes, ◌∈◌}
use Rattle.rules.specs.Tiles.{Plan, Period, ShortPeriod}
use Rattle.rules.specs.Topology.{Topology, Path, most_route_hops}
use Rattle.rules.specs.Book.{Account, Site, Row, hops, Offsets, OnData, LawfulRow}
use Rattle.rules.specs.Image.{has_wide, RowFits, version_of, site_of}
use Rattle.image.specs.Places.{row_at, next_at, Whole}

-- it has an id of 2 bytes, and its way is 1 or 2
pub record KeyHolds (r : Row) : Type 0 where
  pub id_some : 1 ≤ r.id
  pub id_most : TwoBytes r.id
  pub way_some : 1 ≤ r.way
  pub way_most : r.way ≤ 2

-- its route is one of at most 15 hops
pub record RouteHolds (links : Topology) (r : Row) : Type 0 where
  pub route : Path links r.route
  pub most : hops r ≤ most_route_hops

-- the offsets of the row, of period K, are lawful
pub record OffsetsHold (plan : Plan) (K : ℕ) (r : Row) : Type 0 where
  pub offsets : Offsets plan.slots K (hops r) r.offsets
  pub on_data : (o : ℕ) → o ∈ r.offsets → OnData plan K o

-- the site by which a row is judged: its hearing has no say
abbrev pub judging : Plan → Topology → List Account → Site
judging plan links accounts = record { plan = plan; links = links; hearing = links; accounts = accounts }

-- K is a period, and the version holds it
pub record PeriodHeld (v K : ℕ) : Type 0 where
  pub period : Period K
  pub short : has_wide v ≡ false → ShortPeriod K

-- the row is lawful on the site, and the version holds it
pub record RowHolds (v : ℕ) (site : Site) (r : Row) : Type 0 where
  pub lawful : LawfulRow site r
  pub fits : RowFits v r

-- the row is what the image says at some place
pub record ReadIn (s : List ℕ) (r : Row) : Type 0 where
  pub at : ℕ
  pub there : r ≡ row_at s at

-- a whole lawful row that the version holds is at the place
pub record RowStands (s : List ℕ) (at : ℕ) : Type 0 where
  pub whole : Whole s at
  pub lawful : LawfulRow (site_of s) (row_at s at)
  pub fits : RowFits (version_of s) (row_at s at)

-- n lawful rows stand from the place on
unfoldable pub RowsStand : List ℕ → ℕ → ℕ → Type 0
RowsStand s zero at = Unit {0}
RowsStand s (suc n) at = RowStands s at × RowsStand s n (next_at s at)
