-- The slots of the turns before this one are changed.
use Rattle.index.specs.Turns.{TakesFirst}
use Rattle.index.specs.Marks.{Changed}
use Rattle.index.proofs.slots.change.Given as goal

abbrev pub invariant-loop-turn : goal.invariant-loop-turn
invariant-loop-turn g l =
    Changed (λ x k y. g.F.Fn.post l.f (x, (k, tt)) y) (record { from = l.i; to = l.j }) (TakesFirst l.step l.start l.turn) l.fn.index l.index
