-- Placed routes can be put in and marked.
use mathlib.Core.Path.{◌≡◌, refl, sym, ap, subst}
use mathlib.Core.Logic.{inl, inr}
use mathlib.Core.List.{List, [], ◌∷◌}
use Prim.Native.Nat.{ℕ, suc, ◌*◌, ◌<◌, ◌≤◌}
use native.Mathlib.Omega.{arith}
use lib.ListN.{length, length-map}
use Rattle.rules.specs.Words.{◌∈◌, total}
use Rattle.rules.specs.Tiles.{Plan}
use Rattle.rules.specs.Topology.{hop_count}
use Rattle.rules.specs.Records.{the_route, the_offsets}
use Rattle.rules.specs.declared.Placed.{Placed}
use Rattle.rules.specs.Book as books
use Rattle.rules.specs.Book.{Offsets, LawfulBook, hops_in_all}
use Rattle.rules.specs.Placing.{Asked, NewRows, Full, beside}
use Rattle.rules.specs.Image.{plan_of}
use Rattle.rules.proofs.Reading.{book_in}
use Rattle.image.specs.declared.Book.{Book}
use Rattle.placing.specs.Marking.{Markable}
use Rattle.changing.specs.adding.Puts.{rows_on, Puttable}
use Rattle.opening.specs.Keeping.{RouteHeld, RoutesPlaced, RoutesKept, routes_of}
use Rattle.opening.specs.Beside.{NewBeside}
use Rattle.opening.proofs.Routed.{room_left}

-- each of the routes has its offsets
offsets_of : (b : books.Book) (q : Asked) (way : ℕ) (ps : List Placed) → NewRows b q way (routes_of ps) (rows_on q way ps) → (p : Placed) → p ∈ ps
    → Offsets b.site.plan.slots q.period (hop_count (the_route p.route)) (the_offsets p)
offsets_of b q way [] h x m = absurd m
offsets_of b q way (p ∷ ps) h x (inl e) =
    subst (λ (x : Placed). Offsets b.site.plan.slots q.period (hop_count (the_route x.route)) (the_offsets x)) (sym e) h.0.placed.placing.offsets_hold
offsets_of b q way (p ∷ ps) h x (inr m) = offsets_of (beside _ b) q (suc way) ps h.1 x m

hops_of_rows : (q : Asked) (way : ℕ) (ps : List Placed) → total hop_count (routes_of ps) ≡ hops_in_all (rows_on q way ps)
hops_of_rows q way [] = refl
hops_of_rows q way (p ∷ ps) = omega (arith, hops_of_rows q (suc way) ps)

module _ {s words : List ℕ} {book : Book} {q : Asked} {at : ℕ} (w : NewBeside s words book q at) where
  lawful : LawfulBook (book_in s)
  lawful = w.asked.image.newest.lawful.lawful

  route_slots : book.plan.slots.0 ≡ (plan_of s).slots
  route_slots = ap (λ (plan : Plan). plan.slots) w.asked.header.plan

  -- with an offset for each hop a route can be marked
  markable : {p : Placed} → RouteHeld s p → Offsets (plan_of s).slots q.period (hop_count (the_route p.route)) (the_offsets p)
      → Markable book.plan.slots.0 q.period (the_route p.route) (the_offsets p)
  markable r h = record {
    few = omega (arith, route_slots, lawful.site.plan.most);
    period = w.asked.period;
    count = omega (arith, h.count, r.path.some);
    known = λ a m. omega (arith, r.path.known a m, lawful.site.nodes.1);
    within = λ o m. subst (λ (S : ℕ). o < q.period * S) (sym route_slots) (h.within o m);
  }

  -- with room for the rows the image can take them
  puttable : {hops : ℕ} (routes : List (List ℕ)) → (Full (book_in s) routes → ⊥) → total hop_count routes ≡ hops → Puttable s at q (length routes) hops
  puttable routes f e =
      let left = room_left s routes w.asked.image.newest.lawful f in
      record {
        image = w.asked.image.newest;
        vacant = w.vacant;
        streams = left.0;
        hops_in_all = omega (arith, left.1, e);
      }

  pub kept_all : {routes : List (List ℕ)} (ps : List Placed) → length routes ≤ 2 → RoutesPlaced s q routes ps → RoutesKept s words book q at ps
  kept_all ps few r = record {
    new = w;
    put = record {
      room = subst (λ (n : ℕ). Puttable s at q n (hops_in_all (rows_on q 1 ps))) (length-map ps (λ (p : Placed). the_route p.route))
          (puttable (routes_of ps) (subst (λ (routes : List (List ℕ)). Full (book_in s) routes → ⊥) r.routes_are r.room) (hops_of_rows q 1 ps));
      few = omega (arith, few, ap length r.routes_are, length-map ps (λ (p : Placed). the_route p.route));
      each = λ p m.
          let h = offsets p m in
          let k = r.each p m in
          record { parts = record { count = omega (arith, h.count, k.path.some); few = omega (arith, h.count, k.few) }; few = omega (arith, k.few, k.hops_are) };
    };
    hops_are = λ p m. (r.each p m).hops_are;
    markable = λ p m. markable (r.each p m) (offsets p m);
  }
    where
      offsets : (p : Placed) → p ∈ ps → Offsets (plan_of s).slots q.period (hop_count (the_route p.route)) (the_offsets p)
      offsets = offsets_of (book_in s) q 1 ps (subst (λ (routes : List (List ℕ)). NewRows (book_in s) q 1 routes (rows_on q 1 ps)) r.routes_are r.rows)
