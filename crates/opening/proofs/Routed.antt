-- Where the routes are known: the refusals that are left are those of the open, and its rows are one list.
use Rattle.std.specs.Prelude.{Err}
use mathlib.Core.Path.{◌≡◌, refl, sym, ap, ◌∙◌, subst}
use mathlib.Core.Logic.{◌⊎◌, inl, inr, ⊎_elim, ◌↔◌}
use mathlib.Core.Bool.{Bool, true}
use mathlib.Core.List.{List, [], ◌∷◌}
use Prim.Native.Nat.{ℕ, suc, ◌+◌, ◌<◌, ◌≤◌}
use native.Mathlib.Omega.{arith}
use native.Mathlib.Decide.{dec_lt}
use lib.ListN.{length}
use Rattle.rules.specs.Words.{Tests, total}
use Rattle.rules.specs.Says.{◌when◌}
use Rattle.rules.specs.Topology.{Topology, Route, NoRoute, TooFar, SecondPath, hop_count}
use Rattle.rules.specs.Book.{Row, Book, most_streams, most_hops, hops_in_all}
use Rattle.rules.specs.Placing.{Asked, Planned, NoSecond, FirstPlacing, NoPlacings, Full, NewRow, beside, NewRows, NotPaid}
use Rattle.rules.specs.Placing.Planned.{one, two}
use Rattle.rules.specs.Said.{number_of}
use Rattle.rules.proofs.Said.{refuses}
use Rattle.rules.specs.declared.Placed.{Placed}
use Rattle.rules.specs.declared.refusals.Refusal.{Refusal}
use Rattle.rules.specs.Image.{streams_of, hops_of, links_of, site_of}
use Rattle.rules.specs.Calls.{OfRoutes, Opened}
use Rattle.rules.proofs.Choice.{best_unique, planned_unique, new_unique}
use Rattle.rules.proofs.Cases.{route_near, route_some, far_some}
use Rattle.rules.proofs.Tests.{never, alike}
use Rattle.rules.proofs.Reading.{rows_in, book_in, LawfulImage}
use Rattle.image.specs.Header.{HeaderOf}
use Rattle.image.specs.declared.Book as head
use Rattle.image.proofs.Stands.{stored_rows}
use Rattle.index.specs.Index.{Beside}
use Rattle.routes.specs.Planner.{PlannerSays}
use Rattle.changing.specs.adding.Puts.{row_on, rows_on}
use Rattle.opening.specs.Keeping.{Keeps, PlacedAll, RoutesPlaced, routes_of}
use Rattle.opening.specs.Open.{OpenedOn, routed_refusals, Routed, OpensNew}
use Rattle.opening.proofs.Outcomes.{out_refused, out_next, out_first, out_more, out_alike}

-- rows that are placed leave no route without a placing
some_placed : (b : Book) (q : Asked) (way : ℕ) (ps : List (List ℕ)) (rs : List Row) → NewRows b q way ps rs → NoPlacings b q way ps → ⊥
some_placed b q way [] rs h n = n
some_placed b q way (p ∷ ps) [] h n = h
some_placed b q way (p ∷ ps) (r ∷ rs) h (inl n) = n _ h.0.placed.placing
some_placed b q way (p ∷ ps) (r ∷ rs) h (inr n) =
    some_placed (beside r b) q (suc way) ps rs h.1 (subst (λ (x : Row). NoPlacings (beside x b) q (suc way) ps) (new_unique n.1 h.0) n.2)

-- rows that were put in are those on the routes
pub routed_in : (s : List ℕ) {out words : List ℕ} {at number len : ℕ} (q : Asked) (routes : List (List ℕ)) (new : List Row)
    → NewRows (book_in s) q 1 routes new → (Full (book_in s) routes → ⊥) → Keeps s q routes new at number len out words → Routed s q routes at number len out words
routed_in s q routes new h full w =
    out_next full (out_next (some_placed (book_in s) q 1 routes new h) (out_more (λ c p. record { new = new; placed = h; plus = p }) w))

-- placed routes that were kept, or are refused
pub routed_all : {s out words : List ℕ} {at number len : ℕ} {q : Asked} {routes : List (List ℕ)} {ps : List Placed} → RoutesPlaced s q routes ps
    → Keeps s q (routes_of ps) (rows_on q 1 ps) at number len out words → Routed s q routes at number len out words
routed_all {s} {out} {words} {at} {number} {len} {q} {routes} {ps} r k =
    routed_in s q routes (rows_on q 1 ps) r.rows r.room
    (subst (λ (routes : List (List ℕ)). Keeps s q routes (rows_on q 1 ps) at number len out words) (sym r.routes_are) k)

pub refused_all : {s out words : List ℕ} {at len : ℕ} (q : Asked) (routes : List (List ℕ)) (r : Refusal) → PlacedAll s q routes (Err r)
    → Beside (site_of s) (rows_in s) words → Routed s q routes at (number_of r) len out words
refused_all {s} q routes r h i =
    out_first ((8 when Full (book_in s) routes) ∷ (9 when NoPlacings (book_in s) q 1 routes) ∷ []) ((23 when NotPaid (book_in s) q routes) ∷ []) h (refuses r) i

-- where there are routes, there is one
some_route : {T : Topology} {middle : ℕ} {q : Asked} {routes : List (List ℕ)} → Planned T middle q routes → NoRoute T middle q.source q.destination → ⊥
some_route (one n r) none = route_some r none
some_route (two y r r') none = route_some r none

-- and none is too far
near_route : {T : Topology} {middle : ℕ} {q : Asked} {routes : List (List ℕ)} → Planned T middle q routes → TooFar T middle q.source q.destination → ⊥
near_route (one n r) far = route_near r far
near_route (two y r r') far = route_near r far

-- and where a second one is asked for, there is one
some_second : {T : Topology} {middle : ℕ} {q : Asked} {routes : List (List ℕ)} → Planned T middle q routes → NoSecond T middle q → ⊥
some_second (one n r) none = never (sym n ∙ none.asked)
some_second {T} {middle} {q} (two {p} {p'} y r r') none =
    none.none p' (subst (λ (first : List ℕ). SecondPath T middle q.source q.destination first p') (best_unique r none.planned) r'.is)

-- the planner's routes are the ones
module _ (b : Book) (middle : ℕ) (q : Asked) (routes : List (List ℕ)) (planned : Planned b.site.links middle q routes) where
  of_routes : (P : List (List ℕ) → Type 0) → P routes ↔ OfRoutes middle q b P
  of_routes P = (λ p. (routes, planned, p), λ o. subst P (planned_unique o.1 planned) o.2)

  opened_on : (c : Book) → OpenedOn b q routes c → Opened middle b q c
  opened_on c o = record { routes = routes; planned = planned; new = o.new; placed = o.placed; plus = o.plus }

pub routed_new : (s : List ℕ) {out words : List ℕ} {at number len : ℕ} (mains : ℕ) (q : Asked) (routes : List (List ℕ)) → Planned (book_in s).site.links mains q routes
    → Routed s q routes at number len out words → OpensNew s mains q at number len out words
routed_new s mains q routes planned w =
    let b : Book = book_in s in
    out_next (some_route planned) (out_next (near_route planned) (out_next (some_second planned)
    (out_alike (routed_refusals q routes b) ((8 when OfRoutes mains q b (Full b)) ∷ (9 when OfRoutes mains q b (NoPlacings b q 1)) ∷ (23 when OfRoutes mains q b (NotPaid b q)) ∷ []) (
      refl,
      of_routes b mains q routes planned (Full b),
      λ a8 b8. (refl, of_routes b mains q routes planned (NoPlacings b q 1), λ a9 b9. (refl, of_routes b mains q routes planned (NotPaid b q), λ a23 b23. tt)),
    )
    (opened_on b mains q routes planned) w)))

-- where there is no route, or none of at most 15 hops
pub route_refused : (s : List ℕ) {out words : List ℕ} {at len : ℕ} (mains : ℕ) (q : Asked) (r : Refusal) → PlannerSays (links_of s) mains q.source q.destination (Err r)
    → Beside (site_of s) (rows_in s) words → OpensNew s mains q at (number_of r) len out words
route_refused s mains q r (inl h) i = out_refused h.1 (λ z. omega arith) (ap number_of h.0) i
route_refused s mains q r (inr h) i = out_next (far_some h.1) (out_refused h.1 (λ z. omega arith) (ap number_of h.0) i)

-- where a second route is missing
pub second_refused : (s : List ℕ) {out words : List ℕ} {at len : ℕ} (mains : ℕ) (q : Asked) (first : List ℕ) → q.second ≡ true
    → Route (book_in s).site.links mains q.source q.destination first
    → ((p : List ℕ) → SecondPath (book_in s).site.links mains q.source q.destination first p → ⊥)
    → Beside (site_of s) (rows_in s) words → OpensNew s mains q at 18 len out words
second_refused s mains q first y r none i =
    out_next (route_some r) (out_next (route_near r) (out_refused (record { asked = y; first = first; planned = r; none = none }) (λ z. omega arith) refl i))

-- THE ROWS

-- the row of the first placing
pub new_row : {b : Book} (q : Asked) (way : ℕ) (route offsets : List ℕ) → FirstPlacing b q.period route offsets → NewRow b q way route (row_on q way route offsets)
new_row q way route offsets h = record { named = refl; nth = refl; every = refl; on = refl; placed = h; paid_by = refl }

-- FULL: by the counts of the header
pub tests_full : {t : Bool} (s : List ℕ) (book : head.Book) (routes : List (List ℕ)) (n h : ℕ) → LawfulImage s → HeaderOf s book → length routes ≡ n → total hop_count routes ≡ h
    → Tests t ((most_streams < book.streams + n) ⊎ (most_hops < book.hops + h)) → Tests t (Full (book_in s) routes)
tests_full s book routes n h w head e f t =
    let k : book.streams ≡ length (rows_in s) = head.streams ∙ sym (stored_rows w).count in
    let j : book.hops ≡ hops_in_all (rows_in s) = head.hops ∙ sym (stored_rows w).hops in
    alike t (λ g. ⊎_elim (λ (l : most_streams < book.streams + n). inl (omega arith)) (λ (l : most_hops < book.hops + h). inr (omega arith)) g)
    (λ g. ⊎_elim (λ (l : most_streams < length (rows_in s) + length routes). inl (omega arith))
    (λ (l : most_hops < hops_in_all (rows_in s) + total hop_count routes). inr (omega arith)) g)

-- with room for the rows the counts stay in their ranges
pub room_left : (s : List ℕ) (routes : List (List ℕ)) → LawfulImage s → (Full (book_in s) routes → ⊥)
    → (streams_of s + length routes ≤ most_streams) × (hops_of s + total hop_count routes ≤ most_hops)
room_left s routes w f = (low (dec_lt most_streams (length (rows_in s) + length routes)), few (dec_lt most_hops (hops_in_all (rows_in s) + total hop_count routes)))
  where
    low : Dec (most_streams < length (rows_in s) + length routes) → streams_of s + length routes ≤ most_streams
    low (yes l) = absurd (f (inl l))
    low (no l) = omega (arith, (stored_rows w).count)

    few : Dec (most_hops < hops_in_all (rows_in s) + total hop_count routes) → hops_of s + total hop_count routes ≤ most_hops
    few (yes l) = absurd (f (inr l))
    few (no l) = omega (arith, (stored_rows w).hops)
