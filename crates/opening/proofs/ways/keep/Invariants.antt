-- The rows of the routes so far are marked.
use mathlib.Core.List.{◌++◌}
use lib.ListN.{take}
use Rattle.rules.specs.Records.{the_asked}
use Rattle.rules.specs.Image.{site_of}
use Rattle.rules.proofs.Reading.{rows_in}
use Rattle.index.specs.Index.{Beside}
use Rattle.changing.specs.adding.Puts.{rows_on}
use Rattle.opening.proofs.ways.keep.Given as goal

abbrev pub invariant-loop-placed : goal.invariant-loop-placed
invariant-loop-placed l =
    Beside (site_of l.image) (rows_on (the_asked l.q) 1 (take l.placed-index l.routes) ++ rows_in l.image) l.index
