-- The hops of a placing, marked one after the other.
use mathlib.Core.Path.{◌≡◌, sym, ap, ◌∙◌, subst, subst₂}
use mathlib.Core.List.{List}
use Prim.Native.Nat.{ℕ, suc, ◌+◌, ◌<◌, ◌≤◌}
use native.Mathlib.Numerals.{add-one}
use native.Mathlib.Omega.{arith}
use lib.ListN.{length, get_or}
use Rattle.rules.specs.Topology.{most_route_hops}
use Rattle.rules.specs.Records.{the_route, the_offsets}
use Rattle.rules.specs.declared.Placed.{Placed}
use Rattle.rules.proofs.Records.{node_at_lem, offset_at, node_of, offset_of, node_holds, offset_holds}
use Rattle.bitset.specs.clash.Reach.{End, node_at}
use Rattle.index.specs.declared.Repeats.{Repeats}
use Rattle.index.specs.Turns.{RepeatsOf, TakesIn, InIndex}
use Rattle.index.specs.Marks.{Adds, HopsTake}
use Rattle.index.proofs.Rows.{hops_more}
use Rattle.index.proofs.Turns.{in_index}
use Rattle.placing.specs.Marking.{Markable, row_on}

module _ {S K : ℕ} (p : Placed) (w : Markable S K (the_route p.route) (the_offsets p)) (few : p.route.hops ≤ most_route_hops) where
  pub hop_inside : {repeats : Repeats} → RepeatsOf S K repeats → length p.offsets ≡ most_route_hops → (i : ℕ) → i < p.route.hops → InIndex repeats (offset_of p i).0
  hop_inside {repeats} v n = offset_holds (InIndex repeats) p few n (λ o m. in_index v w.few w.period (w.within o m))

  pub node_small : length p.route.nodes ≡ most_route_hops + 1 → (i : ℕ) → i ≤ p.route.hops → (node_of p.route i).0 < 64
  node_small n = node_holds (λ (a : ℕ). a < 64) p.route few n w.known

-- a hop takes its slots
abbrev HopTakes : Repeats → ℕ → ℕ → ℕ → End → ℕ → ℕ → Type 0
HopTakes repeats o from to end slot node = TakesIn repeats o slot × (node ≡ node_at end (record { from = from; to = to }))

pub marked_more : {S K : ℕ} (p : Placed) {before after index : List ℕ} {repeats : Repeats} (v : RepeatsOf S K repeats) (i id way account : ℕ) → i < p.route.hops
    → Adds (HopsTake S (row_on id way account K (the_route p.route) (the_offsets p)) i) before index
    → Adds (HopTakes repeats (offset_of p i).0 (node_of p.route i).0 (node_of p.route (i + 1)).0) index after
    → Adds (HopsTake S (row_on id way account K (the_route p.route) (the_offsets p)) (i + 1)) before after
marked_more {S} {K} p {before} {after} {index} {repeats} v i id way account l a m =
    let route = the_route p.route in
    let to = sym (node_at_lem p.route (i + 1) (omega arith)) ∙ ap (λ (j : ℕ). get_or route j 0) (add-one i) in
    let read = subst₂ (λ (x y : ℕ). Adds (HopTakes repeats (offset_of p i).0 x y) index after) (sym (node_at_lem p.route i (omega arith))) to m in
    hops_more S (row_on id way account K route (the_offsets p)) i v a
    (subst (λ (o : ℕ). Adds (HopTakes repeats o (get_or route i 0) (get_or route (suc i) 0)) index after) (sym (offset_at p i l)) read)
