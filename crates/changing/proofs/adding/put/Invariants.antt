-- The rows of some routes are written, and the others are left.
use Rattle.rules.specs.Records.{the_asked}
use Rattle.changing.proofs.adding.Fresh.{Written}
use Rattle.changing.proofs.adding.put.Given as goal

abbrev pub invariant-loop-placed : goal.invariant-loop-placed
invariant-loop-placed l =
    Written (the_asked l.q) l.routes l.initial.new l.placed-iterator.a.rest.now l.placed-iterator.b.start l.new l.size l.hops
