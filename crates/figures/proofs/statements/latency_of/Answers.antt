-- A row's latency is its last offset less its first, plus 1.
use mathlib.Core.Path.{ap, ◌∙◌}
use Prim.Native.Nat.{ℕ, ◌-◌}
use native.Mathlib.Omega.{arith}
use Rattle.rules.specs.Book.{row_offset}
use Rattle.figures.proofs.statements.Passing.{first_last}
use Rattle.figures.proofs.statements.latency_of.Goals as goal

pub overflow_sub-last : goal.overflow_sub-last
overflow_sub-last c =
    let h = c.hops.ensures in
    let last = c.offset-last.ensures.0 ∙ ap (λ (k : ℕ). row_offset c.args.row.now (k - 1)) h.0 in
    omega (arith, last, c.offset.ensures.0, first_last c.args.row.now (h.2 ∙ h.0) c.requires.0 c.requires.1)
