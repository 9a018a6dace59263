-- What the planner says of the smaller site is what is to be said of the second route.
use mathlib.Core.Logic.{inl, inr}
use Rattle.std.specs.Prelude.{Err}
use mathlib.Core.List.{List}
use Prim.Native.Nat.{ℕ, ◌<◌, ◌≤◌}
use native.Mathlib.Omega.{arith}
use lib.ListN.{length, take}
use Rattle.rules.specs.Words.{◌∈◌}
use Rattle.rules.specs.Topology.{most_short_hops, Route, SecondPath}
use Rattle.rules.specs.Records.{the_route}
use Rattle.rules.specs.declared.Route as held
use Rattle.rules.proofs.Records.{route_length}
use Rattle.rules.proofs.Seconds.{Without, without_sound, second_found, second_far, second_too_far, second_none}
use Rattle.bitset.specs.Rows.{topology}
use Rattle.rules.specs.declared.refusals.Refusal.{Refusal}
use Rattle.routes.specs.Planner.{Asked, SaysRoute, PlannerSays}
use Rattle.routes.specs.Second.{most_nodes, LinkCut, SaysSecond}

-- a route's nodes are below 64
pub route_known : {links first : List ℕ} {middle source destination : ℕ} → Asked (topology links) source destination
    → Route (topology links) middle source destination first → (a : ℕ) → a ∈ first → a < most_nodes
route_known asked route a h = omega (arith, asked.range, route.is.between.path.known a h)

-- the smaller site may be asked too
pub asked_smaller : {links rows : List ℕ} {source destination : ℕ} → Asked (topology links) source destination → LinkCut links source destination rows
    → Asked (topology (take (length links) rows)) source destination
asked_smaller asked cut =
    let e = cut.cut.even in
    record {
      range = (omega (arith, e, asked.range), omega (arith, e, asked.range));
      sound = without_sound asked.sound cut.cut;
      source_known = omega (arith, e, asked.source_known);
      destination_known = omega (arith, e, asked.destination_known);
      apart = asked.apart;
    }

module _ {links rows first : List ℕ} {middle rest source destination : ℕ} (route : Route (topology links) middle source destination first)
    (cut : LinkCut links source destination rows) (w : Without middle first rest) where
  -- on the smaller site there is no route, or none of at most 15 hops
  pub no_second : (e : Refusal) → PlannerSays (topology (take (length links) rows)) rest source destination (Err e)
      → (q : List ℕ) → SecondPath (topology links) middle source destination first q → ⊥
  no_second e (inl s) = second_none route cut.cut w s.1
  no_second e (inr s) = second_too_far route cut.cut w s.1

  module _ (r : held.Route) (s : SaysRoute (topology (take (length links) rows)) rest source destination r) where
    pub long_second : most_short_hops < r.hops → (q : List ℕ) → SecondPath (topology links) middle source destination first q → ⊥
    long_second l = second_far route cut.cut w (the_route r) s.route (omega (arith, route_length r s.most s.size))

    pub short_second : r.hops ≤ most_short_hops → SaysSecond (topology links) middle source destination first r
    short_second l = record {
      some = s.some;
      most = l;
      size = s.size;
      route = second_found route cut.cut w (the_route r) s.route (omega (arith, route_length r s.most s.size));
      after = s.after;
    }
