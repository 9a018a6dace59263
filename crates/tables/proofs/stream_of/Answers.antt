-- A stream is read from its row.
use mathlib.Core.Path.{ap}
use Prim.Native.Nat.{ℕ, ◌*◌}
use native.Mathlib.Omega.{arith}
use Rattle.tables.proofs.Hops.{step_some}
use Rattle.tables.proofs.stream_of.Goals as goal

pub nonzero_rem-result : goal.nonzero_rem-result
nonzero_rem-result c =
    omega (arith, ap (λ (n : ℕ). n * c.args.part.slots.0) c.period.ensures.0, step_some c.requires.0)
