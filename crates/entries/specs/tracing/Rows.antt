-- A stream's row as it is read off tables: nothing is said of tables that no book has.
use Rattle.std.specs.Prelude.{◌≡◌, List, ℕ, ◌+◌, ◌*◌, ◌≤◌, length, get_or, Option, Some, None}
use Rattle.rules.specs.Tiles.{short_tiles}
use Rattle.rules.specs.Topology.{most_route_hops}
use Rattle.rules.specs.Book.{Row, hops, row_offset}
use Rattle.rules.specs.Records.{the_route, the_offsets}
use Rattle.rules.specs.declared.{Placed.Placed}
use Rattle.rules.proofs.Seen.{Seen}

-- a row of the id and the way of a book that the tables, of n nodes with so many slots each, show; its source sends first in the entry
pub record RowFrom (tables : List ℕ) (n slots start way id : ℕ) (r : Row) : Type 0 where
  pub seen : Seen tables n slots r
  pub id_is : r.id ≡ id
  pub way_is : r.way ≡ way
  pub start_is : start ≡ get_or r.route 0 0 * slots + row_offset r 0

-- the period of any such row, and never over 100
pub record PeriodRead (tables : List ℕ) (slots start way id period : ℕ) : Type 0 where
  pub short : period ≤ short_tiles
  pub read : (n : ℕ) (r : Row) → RowFrom tables n slots start way id r → period ≡ r.period

-- its hops, its route and its offsets
pub record RouteRead (p : Placed) (r : Row) : Type 0 where
  pub hops_are : p.route.hops ≡ hops r
  pub route_is : the_route p.route ≡ r.route
  pub offsets_are : the_offsets p ≡ r.offsets

pub record Traced (tables : List ℕ) (n slots start way id : ℕ) (p : Placed) : Type 0 where
  pub short : p.route.hops ≤ most_route_hops
  pub nodes_hold : length p.route.nodes ≡ most_route_hops + 1
  pub hops_hold : length p.offsets ≡ most_route_hops
  pub read : (r : Row) → RowFrom tables n slots start way id r → RouteRead p r

-- there is one, which has hops; or there is no such row
abbrev pub TracedOf : List ℕ → ℕ → ℕ → ℕ → ℕ → ℕ → Option Placed → Type 0
TracedOf tables n slots start way id (Some p) = (p.route.hops ≡ 0 → ⊥) × Traced tables n slots start way id p
TracedOf tables n slots start way id None = (r : Row) → RowFrom tables n slots start way id r → ⊥
