-- Of a sink no contents are known that the trait could say something of.
use Rattle.std.proofs.Common.{Result, Ok, Err, OnOk}
use Rattle.std.specs.Prelude.{⊤}
use Rattle.streams.proofs.SinkWrite.TheImpl.Goals as goal

on_ok : {T E : Type 0} (r : Result T E) → OnOk r ⊤
on_ok (Ok x) = tt
on_ok (Err e) = tt

pub write_all-tells : goal.write_all-tells
write_all-tells g c = record { bytes = on_ok c.result }
