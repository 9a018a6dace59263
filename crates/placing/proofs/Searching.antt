-- The search for an offset that is free for a hop.
use mathlib.Core.Path.{◌≡◌, refl, sym, ap, ◌∙◌, subst, subst₂}
use Prim.Native.Nat.{ℕ, ◌+◌, ◌<◌, ◌≤◌}
use native.Mathlib.Omega.{arith}
use native.Mathlib.Numerals.{add-one}
use lib.ListN.{length, get_or}
use Rattle.rules.specs.Tiles.{Plan}
use Rattle.rules.specs.Topology.{Topology, nodes, Hop, most_route_hops}
use Rattle.rules.specs.Records.{the_route}
use Rattle.rules.specs.declared.Route.{Route}
use Rattle.rules.proofs.Greedy.{Least}
use Rattle.rules.proofs.Records.{node_at_lem, node_of, node_holds}
use Rattle.rules.proofs.Tests.{fails, said_yes, said_no}
use Rattle.bitset.specs.clash.Reach.{End, hop, Clashes, Between, ReachOf}
use Rattle.bitset.specs.declared.clash.Reach.{Reach}
use Rattle.index.specs.declared.Repeats.{Repeats}
use Rattle.index.specs.Turns.{RepeatsOf}
use Rattle.index.specs.Marks.{FirstQuiet, InReach, MeetsIn}
use Rattle.index.proofs.Meets.{tests_in, reach_meets, meets_reach}
use Rattle.placing.proofs.plain.Alike.{agrees_for, route_for}
use Rattle.placing.specs.Answers.{Around, FreeBy, FreeAt, Searched, Asked}
use Rattle.std.specs.Prelude.{Option, Some, None}
use Rattle.rules.specs.declared.Slot.{Slot}

-- FROM QUIET OFFSET TO QUIET OFFSET: none before from is free, and o is the first from there on at which the index is quiet
module _ {C : End → ℕ → Type 0} {plan : Plan} {a : Around} {K : ℕ} {repeats : Repeats} {lo from o : ℕ} (w : RepeatsOf plan.slots K repeats)
    (none : (k : ℕ) → k < from → lo ≤ k → FreeBy C plan a K k → ⊥) (q : FirstQuiet C a.words repeats from o) where
  pub passed_busy : (k : ℕ) → k < o → lo ≤ k → FreeBy C plan a K k → ⊥
  passed_busy k l m f =
      let early : from ≤ k → ⊥ = λ h. f.quiet ((tests_in w (said_yes (q.before k l h))).yes refl) in
      none k (omega (arith, early)) m f

  pub passed_quiet : o < repeats.span.0 → MeetsIn C plan.slots a.words K o → ⊥
  passed_quiet l = fails (tests_in w (said_no (q.quiet l))) refl

-- a search for what holds alike finds the same
pub searched_alike : {F G : ℕ → Type 0} (lo end : ℕ) (r : Option Slot) → ((k : ℕ) → F k → G k) → ((k : ℕ) → G k → F k) → Searched F lo end r → Searched G lo end r
searched_alike lo end (Some o) f g s = record { above = s.above; below = s.below; holds = f o.0 s.holds; none_before = λ k l m h. s.none_before k l m (g k h) }
searched_alike lo end None f g s = λ k l m h. s k l m (g k h)

-- what the reach leaves free, the hop may have
pub search_law : (hearing : Topology) (h : Hop) (reach : Reach) (plan : Plan) (a : Around) (K lo end : ℕ) (r : Option Slot) → ReachOf hearing h reach
    → Searched (FreeBy (InReach reach) plan a K) lo end r → Searched (FreeBy (Clashes hearing h) plan a K) lo end r
search_law hearing h reach plan a K lo end r w =
    searched_alike lo end r
    (λ k f. record {
      on_data = f.on_data;
      quiet = λ m. f.quiet (meets_reach _ w m);
      apart = λ m. f.apart (agrees_for (Clashes hearing h) (InReach reach) inside m);
      alone = λ m. f.alone (route_for (Clashes hearing h) (InReach reach) inside m);
    })
    (λ k f. record {
      on_data = f.on_data;
      quiet = λ m. f.quiet (reach_meets _ w m);
      apart = λ m. f.apart (agrees_for (InReach reach) (Clashes hearing h) clashing m);
      alone = λ m. f.alone (route_for (InReach reach) (Clashes hearing h) clashing m);
    })
  where
    inside : (e : End) (x : ℕ) → Clashes hearing h e x → InReach reach e x
    inside e x c = (w e).all x c

    clashing : (e : End) (x : ℕ) → InReach reach e x → Clashes hearing h e x
    clashing e x m = (w e).only x m

-- THE HOPS OF THE ROUTE
module _ (plan : Plan) (hearing : Topology) (a : Around) (K : ℕ) (route : Route) where
  -- hop h, by the nodes that were read
  abbrev pub FreeHop : ℕ → ℕ → Type 0
  FreeHop h = FreeBy (Clashes hearing (hop (node_of route h) (node_of route (h + 1)))) plan a K

  hop_searched : (h lo end : ℕ) (r : Option Slot) → h < route.hops → Searched (FreeHop h) lo end r → Searched (FreeAt plan hearing a K (the_route route) h) lo end r
  hop_searched h lo end r l s =
      subst₂ (λ (x y : ℕ). Searched (FreeBy (Clashes hearing (record { from = x; to = y })) plan a K) lo end r) (sym (node_at_lem route h (omega arith)))
      (sym (node_at_lem route (h + 1) (omega arith)) ∙ ap (λ (i : ℕ). get_or (the_route route) i 0) (add-one h)) s

  pub search_found : (h lo end : ℕ) (o : Slot) {r : Option Slot} → h < route.hops → r ≡ Some o → Searched (FreeHop h) lo end r
      → Least (FreeAt plan hearing a K (the_route route) h) lo end o.0
  search_found h lo end o {r} l e s = subst (Searched (FreeAt plan hearing a K (the_route route) h) lo end) e (hop_searched h lo end r l s)

  pub search_failed : (h lo end : ℕ) {r : Option Slot} → h < route.hops → r ≡ None → Searched (FreeHop h) lo end r
      → (k : ℕ) → lo ≤ k → k < end → FreeAt plan hearing a K (the_route route) h k → ⊥
  search_failed h lo end {r} l e s = subst (Searched (FreeAt plan hearing a K (the_route route) h) lo end) e (hop_searched h lo end r l s)

-- each is one between nodes of the topology
pub asked_hop : {plan : Plan} {hearing : Topology} {K : ℕ} (route : Route) → Asked plan hearing (the_route route) K → route.hops ≤ most_route_hops
    → length route.nodes ≡ most_route_hops + 1 → (i : ℕ) → i < route.hops → Between hearing (hop (node_of route i) (node_of route (i + 1)))
asked_hop {hearing = hearing} route w few n i l =
    let known = node_holds (λ (a : ℕ). a < nodes hearing) route few n w.known in
    record { sound = w.sound; most = w.most; from = known i (omega arith); to = known (i + 1) (omega arith) }
