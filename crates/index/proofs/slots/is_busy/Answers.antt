-- A node is in reach where the nodes that are there and in reach are some.
use Rattle.index.proofs.Seeing.{tests_busy}
use Rattle.index.proofs.slots.is_busy.Goals as goal

pub returns : goal.returns
returns c = tests_busy c.in_reach.ensures
