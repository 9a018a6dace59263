-- The movements of the nodes so far are written.
use Rattle.std.specs.Fmt.{IsPlainFormatter, HasWritten}
use Rattle.figures.specs.printing.Lines.{movements_text}
use Rattle.figures.proofs.printing.write_movements.Given as goal

abbrev pub invariant-loop-node : goal.invariant-loop-node
invariant-loop-node g l = IsPlainFormatter l.initial.f → HasWritten g.W.Write.write_str_gives l.initial.f (movements_text l.last l.this l.node) l.f
