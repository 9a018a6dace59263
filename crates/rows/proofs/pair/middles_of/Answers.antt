-- The middles are gathered one by one.
use native.Mathlib.Omega.{arith}
use Rattle.rows.proofs.Pairs.{gathered_done}
use Rattle.rows.proofs.pair.middles_of.Goals as goal

pub returns : goal.returns
returns c =
    gathered_done _ c.loop-i.invariant (omega arith)
