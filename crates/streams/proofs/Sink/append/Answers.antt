-- What is longer than the buffer follows what was held.
use Rattle.streams.proofs.Reading.{passed_on}
use Rattle.streams.proofs.Sink.append.Goals as goal

pub returns-then-bytes-clause-bytes : goal.returns-then-bytes-clause-bytes
returns-then-bytes-clause-bytes g c =
    passed_on _ _ _ _ _ _ _ c.in_ok-write_held.ensures.held c.in_ok-write_held.ensures.bytes c.write_all.ensures.bytes
