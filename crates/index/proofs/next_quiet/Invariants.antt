-- One offset after the other is looked at.
use Rattle.index.specs.Marks.{InReach}
use Rattle.index.proofs.Passing.{AllBusy}
use Rattle.index.proofs.next_quiet.Given as goal

abbrev pub invariant-loop-o : goal.invariant-loop-o
invariant-loop-o l = AllBusy (InReach l.reach) l.index l.repeats l.fn.lo.0 l.o
