-- The movements of the nodes so far are written, in at most 22 bytes each, the first in less.
use Rattle.std.proofs.Common.{◌≡◌, ◌*◌, ◌-◌, ◌≤◌, length}
use Rattle.figures.specs.printing.Lines.{movements_text}
use Rattle.figures.proofs.printing.moves.Given as goal

abbrev pub invariant-loop-node : goal.invariant-loop-node
invariant-loop-node l = record {
  text : l.text.bytes ≡ movements_text l.last l.this l.node;
  fits : length l.text.bytes ≤ 22 * l.node - 1;
}
