-- One row tested, part by part.
use mathlib.Core.Path.{sym, subst}
use mathlib.Core.List.{List}
use Prim.Native.Nat.{ℕ}
use lib.ListN.{drop}
use Rattle.rules.specs.Tiles.{Plan, ShortPeriod}
use Rattle.rules.specs.Topology.{Topology, Path}
use Rattle.rules.specs.Book.{Account, Row, hops, KnownAccount, Offsets, OnData}
use Rattle.rules.specs.Image.{RowFits, version_of, accounts_of, site_of}
use Rattle.rules.specs.Records.{the_plan}
use Rattle.rules.proofs.Fronts.{front_fits}
use Rattle.bitset.specs.Rows.{topology}
use Rattle.image.specs.Places.{row_at}
use Rattle.image.specs.declared.Book.{Book}
use Rattle.rows.specs.Frame.{ReadFrom}
use Rattle.rows.specs.Walk.{KeyHolds, RouteHolds, OffsetsHold, PeriodHeld, RowHolds, ReadIn}
use Rattle.rows.proofs.Walks.{topology_read}

-- what is tested of a row by the version, the plan, the links and the accounts that were read
pub record Parts (v : ℕ) (plan : Plan) (links : Topology) (accounts : List Account) (r : Row) : Type 0 where
  pub key : KeyHolds r
  pub account : KnownAccount accounts r.account
  pub period : PeriodHeld v r.period
  pub route : RouteHolds links r
  pub offsets : OffsetsHold plan r.period r

-- the version holds what it says, if it holds the period
read_fits : (s : List ℕ) (r : Row) → ReadIn s r → PeriodHeld (version_of s) r.period → RowFits (version_of s) r
unfolding row_at
read_fits s r i p = subst (RowFits (version_of s)) (sym i.there) (front_fits (version_of s) (drop i.at s) (λ w. subst (λ (x : Row). ShortPeriod x.period) i.there (p.short w)))

module _ {s : List ℕ} {b : Book} {links : List ℕ} (o : ReadFrom s b links) {r : Row} where
  pub parts_hold : ReadIn s r → Parts b.version (the_plan b.plan) (topology links) (accounts_of s) r → RowHolds (version_of s) (site_of s) r
  parts_hold i p = record {
    lawful = record {
      id_some = p.key.id_some;
      id_most = p.key.id_most;
      way_some = p.key.way_some;
      way_most = p.key.way_most;
      period = p.period.period;
      route = subst (λ (T : Topology). Path T r.route) (topology_read o) p.route.route;
      route_most = p.route.most;
      offsets = subst (λ (plan : Plan). Offsets plan.slots r.period (hops r) r.offsets) o.list.header.plan p.offsets.offsets;
      on_data = λ x m. subst (λ (plan : Plan). OnData plan r.period x) o.list.header.plan (p.offsets.on_data x m);
      account = p.account;
    };
    fits = read_fits s r i (subst (λ (v : ℕ). PeriodHeld v r.period) o.list.header.version p.period);
  }

  pub hold_parts : RowHolds (version_of s) (site_of s) r → Parts b.version (the_plan b.plan) (topology links) (accounts_of s) r
  hold_parts h = record {
    key = record { id_some = h.lawful.id_some; id_most = h.lawful.id_most; way_some = h.lawful.way_some; way_most = h.lawful.way_most };
    account = h.lawful.account;
    period = subst (λ (v : ℕ). PeriodHeld v r.period) (sym o.list.header.version) (record { period = h.lawful.period; short = h.fits.short });
    route = record { route = subst (λ (T : Topology). Path T r.route) (sym (topology_read o)) h.lawful.route; most = h.lawful.route_most };
    offsets = subst (λ (plan : Plan). OffsetsHold plan r.period r) (sym o.list.header.plan) (record { offsets = h.lawful.offsets; on_data = h.lawful.on_data });
  }
