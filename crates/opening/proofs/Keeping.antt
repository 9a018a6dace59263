-- Rows that were put in and marked: the index is that of the book with them.
use mathlib.Core.Path.{◌≡◌, refl, sym, ap, ◌∙◌, subst}
use mathlib.Core.Logic.{inl, inr, ⊎_elim}
use mathlib.Core.List.{List, [], ◌∷◌, ◌++◌, append_assoc}
use Prim.Native.Nat.{ℕ, zero, suc, ◌+◌, ◌*◌, ◌<◌, ◌≤◌}
use native.Mathlib.Omega.{arith}
use lib.ListN.{length, get_or, take}
use lib.Seq.{take_all}
use Rattle.std.specs.Prelude.{sum_by}
use Rattle.std.proofs.lemmas.List.{take_more}
use Rattle.std.proofs.lemmas.List.Sums.{sum_by-cons}
use Rattle.rules.specs.Words.{◌∈◌, With, total}
use Rattle.rules.specs.Tiles.{Plan}
use Rattle.rules.specs.Topology.{hop_count, most_route_hops}
use Rattle.rules.specs.Records.{the_route, the_offsets}
use Rattle.rules.specs.declared.Placed.{Placed}
use Rattle.rules.specs.Book.{Row}
use Rattle.rules.specs.Placing.{Asked, NotPaid}
use Rattle.rules.specs.Image.{plan_of, site_of}
use Rattle.rules.proofs.Lists.{at_in, reordered_in, reordered_back, with_in, with_this, with_other}
use Rattle.rules.proofs.Reading.{rows_in, book_in}
use Rattle.image.specs.declared.Book.{Book}
use Rattle.index.specs.Index.{Beside}
use Rattle.index.specs.Marks.{Adds, HopsTake}
use Rattle.index.proofs.Behind.{beside_more, beside_alike}
use Rattle.placing.specs.Marking as marking
use Rattle.placing.specs.Marking.{Markable, Marked}
use Rattle.changing.specs.adding.Puts.{PutIn, row_on, rows_on}
use Rattle.changing.proofs.finding.Ids.{with_middle}
use Rattle.changing.proofs.adding.Fresh.{rows_more}
use Rattle.opening.specs.Keeping.{Keeps, RoutesKept, routes_of}
use Rattle.opening.proofs.Outcomes.{out_next, out_done}

-- the marks of a route are those of its row
marked_row : (s : List ℕ) {words marks : List ℕ} (q : Asked) {slots : ℕ} {rows : List Row} {route offsets : List ℕ} (way : ℕ) → slots ≡ (plan_of s).slots
    → Markable slots q.period route offsets → Beside (site_of s) rows words → Marked slots q.period route offsets words marks
    → Beside (site_of s) (row_on q way route offsets ∷ rows) marks
marked_row s {words} {marks} q {route = route} {offsets} way e w b m =
    beside_more (omega (arith, e, w.few)) b w.period
    (λ i l. subst (λ (S : ℕ). get_or offsets i 0 < q.period * S) e (w.within (get_or offsets i 0) (at_in offsets i (omega (arith, l, w.count)))))
    (subst (λ (S : ℕ). Adds (HopsTake S (marking.row_on q.id way q.account q.period route offsets) (hop_count route)) words m.words) e
    (m.adds q.id way q.account))
    m.notes

-- one of some placed routes
placed_in : (ps : List Placed) (i : ℕ) (d : Placed) → i < length ps → get_or ps i d ∈ ps
placed_in [] i d l = absurd (omega arith)
placed_in (p ∷ ps) zero d l = inl refl
placed_in (p ∷ ps) (suc i) d l = inr (placed_in ps i d (omega arith))

module _ {s words : List ℕ} {book : Book} {q : Asked} {at : ℕ} {routes : List Placed} (w : RoutesKept s words book q at routes) where
  pub markable_at : (i : ℕ) (d : Placed) → i < length routes → let p = get_or routes i d in
      Markable book.plan.slots.0 q.period (the_route p.route) (the_offsets p) × (p.route.hops ≤ most_route_hops)
  markable_at i d l = let m = placed_in routes i d l in (w.markable _ m, (w.put.each _ m).few)

  -- a route more is marked
  pub marked_more : {t u : List ℕ} (i : ℕ) (d : Placed) → i < length routes → Beside (site_of s) (rows_on q 1 (take i routes) ++ rows_in s) t
      → Marked book.plan.slots.0 q.period (the_route (get_or routes i d).route) (the_offsets (get_or routes i d)) t u
      → Beside (site_of s) (rows_on q 1 (take (i + 1) routes) ++ rows_in s) u
  marked_more {t} {u} i d l b m =
      subst (λ (rows : List Row). Beside (site_of s) rows u) (sym more)
      (beside_alike (λ x k. ⊎_elim (λ (e : x ≡ row). subst (λ (v : Row). v ∈ (rows ++ (row ∷ rows_in s))) (sym e) (with_this p)) (λ (j : x ∈ (rows ++ rows_in s)). with_other x p j) k)
      (λ x k. with_in x p k)
      (marked_row s q (1 + length (take i routes)) (ap (λ (plan : Plan). plan.slots) w.new.asked.header.plan) (markable_at i d l).0 b m))
    where
      row : Row
      row = row_on q (1 + length (take i routes)) (the_route (get_or routes i d).route) (the_offsets (get_or routes i d))

      rows : List Row
      rows = rows_on q 1 (take i routes)

      p : With row (rows ++ rows_in s) (rows ++ (row ∷ rows_in s))
      p = with_middle row rows (rows_in s)

      more : rows_on q 1 (take (i + 1) routes) ++ rows_in s ≡ rows ++ (row ∷ rows_in s)
      more = ap (λ (ps : List Placed). rows_on q 1 ps ++ rows_in s) (take_more routes i d l) ∙ ap (λ (l : List Row). l ++ rows_in s) (rows_more q 1 (take i routes) (get_or routes i d))
          ∙ append_assoc rows (row ∷ []) (rows_in s)

  -- the rows that were put in are all marked
  pub keeps : {out marks : List ℕ} {size n : ℕ} → (NotPaid (book_in s) q (routes_of routes) → ⊥) → PutIn s at (rows_on q 1 routes) size out → length routes ≤ n
      → Beside (site_of s) (rows_on q 1 (take n routes) ++ rows_in s) marks → Keeps s q (routes_of routes) (rows_on q 1 routes) at 0 size out marks
  keeps {marks = marks} {n = n} f p l b = out_next f (out_done refl (record {
    after = p.after;
    is = p.plus;
    laid = p.laid;
    index = beside_alike (λ x m. reordered_back x p.plus.rows m) (λ x m. reordered_in x p.plus.rows m)
        (subst (λ (ps : List Placed). Beside (site_of s) (rows_on q 1 ps ++ rows_in s) marks) (take_all n routes l) b);
  }))

  -- the hops of the routes
  pub hops_total : total hop_count (routes_of routes) ≡ sum_by (λ (p : Placed). p.route.hops) routes
  hops_total = go routes w.hops_are
    where
      go : (ps : List Placed) → ((p : Placed) → p ∈ ps → hop_count (the_route p.route) ≡ p.route.hops) → total hop_count (routes_of ps) ≡ sum_by (λ (p : Placed). p.route.hops) ps
      go [] h = refl
      go (p ∷ ps) h = omega (arith, sum_by-cons (λ (p : Placed). p.route.hops) p ps, h p (inl refl), go ps (λ x m. h x (inr m)))

  pub hops_few : sum_by (λ (p : Placed). p.route.hops) routes ≤ 30
  hops_few = omega (arith, go routes (λ p m. (w.put.each p m).few), w.put.few)
    where
      go : (ps : List Placed) → ((p : Placed) → p ∈ ps → p.route.hops ≤ most_route_hops) → sum_by (λ (p : Placed). p.route.hops) ps ≤ most_route_hops * length ps
      go [] h = omega arith
      go (p ∷ ps) h = omega (arith, sum_by-cons (λ (p : Placed). p.route.hops) p ps, h p (inl refl), go ps (λ x m. h x (inr m)))
