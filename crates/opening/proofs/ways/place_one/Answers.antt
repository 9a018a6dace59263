-- The route is placed: refused by 8 or 9, or with its offsets.
use Rattle.std.proofs.lemmas.Result.{err_from_is_err_and}
use Rattle.std.proofs.Common.{refl, ap}
use mathlib.Core.Path.{sym, subst}
use mathlib.Core.Logic.{inl, inr}
use mathlib.Core.List.{[], ◌∷◌}
use native.Mathlib.Omega.{arith}
use Rattle.rules.specs.Said.{number_of}
use Rattle.rules.specs.Words.{Tests}
use Rattle.rules.specs.Records.{the_asked, the_route}
use Rattle.rules.specs.Placing.{Full}
use Rattle.rules.proofs.Tests.{fails}
use Rattle.rules.proofs.Reading.{book_in}
use Rattle.opening.specs.Keeping.{RouteHeld}
use Rattle.opening.proofs.Placed.{route_held}
use Rattle.opening.proofs.Routed.{new_row, tests_full}
use Rattle.opening.proofs.ways.place_one.Goals.{After-is_full, Else-is_full}
use Rattle.opening.proofs.ways.place_one.Goals as goal

-- whether the book is full
full : (c : After-is_full) → let a = c.args in Tests c.is_full.result (Full (book_in a.image.now) (the_route a.route ∷ []))
full c =
    let asked = c.requires.0.asked in
    tests_full c.args.image.now c.args.book (the_route c.args.route ∷ []) 1 _ asked.image.newest.lawful asked.header refl (omega (arith, c.requires.1)) c.is_full.ensures

-- it is not
room : (c : Else-is_full) → let a = c.args in Full (book_in a.image.now) (the_route a.route ∷ []) → ⊥
room c =
    fails (full (goal.at.Else-is_full c).After-is_full) c.if-is_full.false

pub returns-then-is_full : goal.returns-then-is_full
returns-then-is_full c =
    inl ((full (goal.at.returns-then-is_full c).After-is_full).yes c.if-is_full.true, refl)

pub returns-in_err-offsets : goal.returns-in_err-offsets
returns-in_err-offsets c =
    let e = err_from_is_err_and c.from_residual.result c.from_residual.ensures.1 in
    let none = c.in_err-offsets.ensures in
    rw (e.1, e.2) (inr (room (goal.at.returns-in_err-offsets c).Else-is_full, inl (inl none.1, ap number_of none.0)))

pub returns : goal.returns
returns c =
    record {
      room = room (goal.at.returns c).Else-is_full;
      rows = (new_row (the_asked c.args.q) 1 _ _ c.in_ok-offsets.ensures, tt);
      routes_are = refl;
      each = λ p m. elim m [
        | inl e ↦ subst (RouteHeld _) (sym e) (route_held _ c.requires.0 c.requires.1)
        | inr n ↦ absurd n
      ];
    }
