-- What a lawful row has at each of its hops.
use Prim.Native.Nat.{ℕ, ◌*◌, ◌<◌, ◌≤◌}
use native.Mathlib.Omega.{arith}
use lib.ListN.{get_or}
use Rattle.rules.specs.Words.{◌∈◌}
use Rattle.rules.specs.Topology.{nodes}
use Rattle.rules.specs.Book.{Site, Row, hops, row_offset, LawfulRow}
use Rattle.rules.proofs.Lists.{at_in}

module _ {site : Site} {r : Row} (w : LawfulRow site r) where
  -- its nodes are below N
  pub node_known : (i : ℕ) → i ≤ hops r → get_or r.route i 0 < nodes site.links
  node_known i l = w.route.known (get_or r.route i 0) (at_in r.route i (omega (arith, w.route.some)))

  offset_there : (i : ℕ) → i < hops r → row_offset r i ∈ r.offsets
  offset_there i l = at_in r.offsets i (omega (arith, w.offsets.count))

  -- its offsets are below K * S
  pub offset_within : (i : ℕ) → i < hops r → row_offset r i < r.period * site.plan.slots
  offset_within i l = w.offsets.within (row_offset r i) (offset_there i l)
