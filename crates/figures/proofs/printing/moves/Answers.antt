-- The movements of the nodes so far are written, in at most 22 bytes each, the first in less.
use Rattle.std.proofs.Common.{arith, add-one}
use Rattle.figures.proofs.printing.Lengths.{more_fits}
use Rattle.figures.proofs.printing.moves.Goals as goal

pub loop-node-preserved : goal.loop-node-preserved
loop-node-preserved c = record {
  text = grind (arith, c.loop-node.invariant.text, c.push_moved.ensures.bytes, c.moved.ensures.movement, add-one c.loop-node.node);
  fits = more_fits c.loop-node.node _ _ _ c.loop-node.invariant.fits c.push_moved.ensures.bytes c.push_moved.ensures.fits;
}
