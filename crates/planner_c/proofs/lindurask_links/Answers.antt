-- The call's answer, as two numbers.
use Rattle.planner_c.proofs.lindurask_links.Goals as goal

pub returns : goal.returns
returns c =
    rw (c.said.ensures, c.unwrap_or.ensures) c.links_of-answer.ensures
