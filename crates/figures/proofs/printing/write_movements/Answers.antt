-- One node more is written behind those so far.
use Rattle.std.proofs.Common.{refl, true, arith, add-one}
use Rattle.std.proofs.Output.{has_written_append, has_written_of_eq}
use Rattle.figures.proofs.printing.write_movements.Goals as goal

pub loop-node-preserved : goal.loop-node-preserved
loop-node-preserved g c = λ plain.
    let h = c.loop-node.invariant plain in
    has_written_of_eq _ _ _ _ _ (grind (arith, c.moved.ensures.movement, add-one c.loop-node.node))
    (has_written_append _ _ _ _ _ _ h (c.in_ok-write_moved.ensures h.plain (refl {a = true})))
