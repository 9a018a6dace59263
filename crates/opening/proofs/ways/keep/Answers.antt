-- Refused by 23 where the account does not pay; otherwise the rows are put in, and each is marked.
use mathlib.Core.Path.{refl}
use mathlib.Core.Bool.{not}
use native.Mathlib.Omega.{arith}
use Rattle.rules.specs.Words.{Tests}
use Rattle.rules.specs.Records.{the_asked}
use Rattle.rules.specs.Placing.{NotPaid}
use Rattle.rules.proofs.Tests.{fails}
use Rattle.rules.proofs.Reading.{book_in}
use Rattle.opening.specs.Keeping.{routes_of}
use Rattle.opening.proofs.Outcomes.{out_refused}
use Rattle.opening.proofs.Costs.{tests_short}
use Rattle.opening.proofs.Keeping.{markable_at, marked_more, keeps, hops_total, hops_few}
use Rattle.opening.proofs.ways.keep.Goals.{After-is_paid}
use Rattle.opening.proofs.ways.keep.Goals as goal

pub hops_of-requires : goal.hops_of-requires
hops_of-requires c = hops_few c.requires

pub is_paid-requires : goal.is_paid-requires
is_paid-requires c =
    let asked = c.requires.new.asked in
    (asked.image.newest.lawful, asked.header, c.requires.new.account, asked.period, omega (arith, c.hops_of.ensures, hops_few c.requires))

-- whether it does not pay
short : (c : After-is_paid) → Tests (not c.is_paid.result) (NotPaid (book_in c.args.image.now) (the_asked c.args.q) (routes_of c.args.routes.now))
short c =
    tests_short c.args.image.now (the_asked c.args.q) (routes_of c.args.routes.now) c.hops_of.result (omega (arith, hops_total c.requires, c.hops_of.ensures)) c.is_paid.ensures

pub returns-then-not-is_paid : goal.returns-then-not-is_paid
returns-then-not-is_paid c =
    out_refused ((short (goal.at.returns-then-not-is_paid c).After-is_paid).yes c.if-not-is_paid.true-raw) (λ z. omega arith) refl
    c.requires.new.asked.image.index

pub loop-placed-init : goal.loop-placed-init
loop-placed-init c = c.requires.new.asked.image.index

pub mark-requires : goal.mark-requires
mark-requires c =
    let m = markable_at c.requires c.loop-placed.placed-index _ c.loop-placed-test.true in (m.0, m.1, omega (arith, c.loop-placed.invariant.slots.size))

pub loop-placed-preserved : goal.loop-placed-preserved
loop-placed-preserved c =
    marked_more c.requires c.loop-placed.placed-index _ c.loop-placed-test.true c.loop-placed.invariant c.mark.ensures

pub returns : goal.returns
returns c =
    keeps c.requires (fails (short (goal.at.returns c).After-is_paid) c.if-not-is_paid.false-raw) c.put-length.ensures c.loop-placed-test.false
    c.loop-placed.invariant
