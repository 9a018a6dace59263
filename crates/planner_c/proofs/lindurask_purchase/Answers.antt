-- The call's answer, as a number and a length.
use Rattle.planner_c.proofs.lindurask_purchase.Goals as goal

pub returns : goal.returns
returns c =
    rw (c.told.ensures.number, c.told.ensures.length) c.purchase.ensures
