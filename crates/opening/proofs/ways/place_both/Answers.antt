-- The second route is placed beside the first: refused by 8 or 9, or both with their offsets.
use Rattle.std.proofs.lemmas.Result.{err_from_is_err_and}
use Rattle.std.proofs.Common.{refl, ap}
use mathlib.Core.Path.{sym, subst}
use mathlib.Core.Logic.{inl, inr}
use mathlib.Core.List.{[], ◌∷◌}
use Prim.Native.Nat.{◌≤◌}
use native.Mathlib.Omega.{arith}
use borrow.Author.Rules.{rules}
use Rattle.rules.specs.Topology.{most_route_hops}
use Rattle.rules.proofs.Records.{unmapped}
use Rattle.rules.specs.Said.{number_of}
use Rattle.rules.specs.Words.{Tests}
use Rattle.rules.specs.Records.{the_asked, the_route}
use Rattle.rules.specs.Placing.{Full}
use Rattle.rules.proofs.Tests.{fails}
use Rattle.rules.proofs.Reading.{book_in}
use Rattle.opening.specs.Keeping.{RouteHeld}
use Rattle.opening.proofs.Placed.{covers_first, first_small, route_held}
use Rattle.opening.proofs.Routed.{new_row, tests_full}
use Rattle.opening.proofs.ways.place_both.Goals.{After-is_full, Else-is_full}
use Rattle.opening.proofs.ways.place_both.Goals as goal

-- whether the book is full
full : (c : After-is_full) → let a = c.args in
    Tests c.is_full.result (Full (book_in a.image.now) (the_route a.route ∷ the_route a.second ∷ []))
full c =
    let asked = c.requires.route_asked.0.asked in
    tests_full c.args.image.now c.args.book (the_route c.args.route ∷ the_route c.args.second ∷ []) 2 _ asked.image.newest.lawful asked.header refl
    (omega (arith, c.requires.route_asked.1, c.requires.second_asked.1)) c.is_full.ensures

-- it is not
room : (c : Else-is_full) → let a = c.args in Full (book_in a.image.now) (the_route a.route ∷ the_route a.second ∷ []) → ⊥
room c =
    fails (full (goal.at.Else-is_full c).After-is_full) c.if-is_full.false

pub returns-then-is_full : goal.returns-then-is_full
returns-then-is_full c =
    inl ((full (goal.at.returns-then-is_full c).After-is_full).yes c.if-is_full.true, refl)

pub returns-in_err-offsets : goal.returns-in_err-offsets
returns-in_err-offsets c =
    let e = err_from_is_err_and c.from_residual.result c.from_residual.ensures.1 in
    let none = c.in_err-offsets.ensures in
    rw (e.1, e.2) (inr (room (goal.at.returns-in_err-offsets c).Else-is_full, inl (inl none.1, ap number_of none.0)))

pub place_beside-requires-clause-first_in_bounds : goal.place_beside-requires-clause-first_in_bounds
place_beside-requires-clause-first_in_bounds c =
    let w = c.requires.route_asked in
    let few : c.args.route.hops ≤ most_route_hops = omega (arith, w.0.few, w.1) in
    let small = first_small c.args.route w.0 few (search (rules, unmapped)) in
    (omega (arith, few), λ i l. small i (omega arith))

pub returns : goal.returns
returns c =
    let q = the_asked c.args.q in
    let p = c.in_ok-offsets.ensures in
    record {
      room = room (goal.at.returns c).Else-is_full;
      rows = (new_row q 1 _ _ p, (new_row q 2 _ _ (c.in_ok-offsets-2.ensures _ (covers_first (the_asked c.args.q) p)), tt));
      routes_are = refl;
      each = λ p m. elim m [
        | inl e ↦ subst (RouteHeld _) (sym e) (route_held _ c.requires.route_asked.0 c.requires.route_asked.1)
        | inr (inl e) ↦ subst (RouteHeld _) (sym e) (route_held _ c.requires.second_asked.0 c.requires.second_asked.1)
        | inr (inr n) ↦ absurd n
      ];
    }

pub returns-in_err-offsets-2 : goal.returns-in_err-offsets-2
returns-in_err-offsets-2 c =
    let e = err_from_is_err_and c.from_residual-in_err-offsets-2.result c.from_residual-in_err-offsets-2.ensures.1 in
    let p = c.in_ok-offsets.ensures in
    let none = c.in_err-offsets-2.ensures _ (covers_first (the_asked c.args.q) p) in
    rw (e.1, e.2) (inr (room (goal.at.returns-in_err-offsets-2 c).Else-is_full, inl (inr (_, new_row (the_asked c.args.q) 1 _ _ p, inl none.1), ap number_of none.0)))
