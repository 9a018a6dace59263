-- The call's answer, as a number and three counts.
use Rattle.planner_c.proofs.lindurask_balance.Goals as goal

pub returns : goal.returns
returns c =
    rw (c.said.ensures, c.unwrap_or-counts.ensures) c.balance_of-answer.ensures
