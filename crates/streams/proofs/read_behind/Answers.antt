-- What was there stays, and what was read stands behind it.
use Rattle.streams.proofs.Reading.{behind}
use Rattle.streams.proofs.read_behind.Goals as goal

pub returns-clause-ok : goal.returns-clause-ok
returns-clause-ok g c = behind _ _ c.read_at.result c.args.buffer.now c.read_at.new.buffer c.args.at c.read_at.ensures.front c.read_at.ensures.ok
