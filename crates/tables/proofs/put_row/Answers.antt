-- A row has entries of the node where it stands in the route.
use Rattle.tables.proofs.Hops.{row_none}
use Rattle.tables.proofs.put_row.Goals as goal

pub returns-in-Some : goal.returns-in-Some
returns-in-Some c =
    c.visit.ensures _ c.in-Some.ensures

pub returns-in_default : goal.returns-in_default
returns-in_default c =
    row_none c.in_default.ensures
