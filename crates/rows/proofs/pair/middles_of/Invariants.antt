-- The middles are gathered one by one.
use Rattle.rows.proofs.Pairs.{Gathered}
use Rattle.rows.proofs.pair.middles_of.Given as goal

abbrev pub invariant-loop-i : goal.invariant-loop-i
invariant-loop-i l =
    Gathered l.row.route l.i l.set
