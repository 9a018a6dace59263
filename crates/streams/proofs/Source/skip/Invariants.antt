-- Nothing that is held is lost, no turn is made where enough is there at the start, and each turn that goes on brings at least one byte.
use Rattle.std.proofs.Common.{◌≡◌, ◌-◌, ◌≤◌}
use Rattle.std.specs.Io.KnownBytes.{Keeps}
use Rattle.streams.specs.Streams.{given, KeptOrWritten}
use Rattle.streams.proofs.Source.skip.Given as goal

abbrev pub invariant-loop-self : goal.invariant-loop-self
invariant-loop-self g l = record {
  there : l.initial.left ≤ l.initial.self.end - l.initial.self.start → l.left ≤ l.self.end - l.self.start;
  written : Keeps (given l.initial.sink.buffer l.initial.sink.held (g.W.Write.contents l.initial.sink.writer))
      (given l.sink.buffer l.sink.held (g.W.Write.contents l.sink.writer));
  held : l.sink.buffer ≡ l.initial.sink.buffer;
  left : KeptOrWritten l.initial.sink.held (given l.initial.sink.buffer l.initial.sink.held (g.W.Write.contents l.initial.sink.writer))
      l.sink.held (given l.sink.buffer l.sink.held (g.W.Write.contents l.sink.writer));
}

abbrev pub decreases-loop-self : goal.decreases-loop-self
decreases-loop-self g l = l.left - (l.self.end - l.self.start)
