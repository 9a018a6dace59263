-- Where rows are left, a whole one stands at the place.
use native.Mathlib.Omega.{arith}
use Rattle.image.proofs.Walks.{whole_first}
use Rattle.image.proofs.row.RowsIterator.next.Goals as goal

pub new-row-requires : goal.new-row-requires
new-row-requires c =
    whole_first _ _ _ (omega (arith, c.if-self-eq0.false)) c.self.invariant

pub next-behind-requires : goal.next-behind-requires
next-behind-requires c =
    whole_first _ _ _ (omega (arith, c.if-self-eq0.false)) c.self.invariant
