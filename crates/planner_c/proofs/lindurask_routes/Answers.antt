-- The call's answer, as a number, a length and a mark.
use Rattle.planner_c.proofs.Marked.{routes_marked}
use Rattle.planner_c.proofs.lindurask_routes.Goals as goal

pub returns : goal.returns
returns c =
    routes_marked _ _ _ _ _ _ c.routes_between-answer.result c.unwrap_or-list.result _ _ c.said.ensures c.unwrap_or-list.ensures c.from.ensures
    c.routes_between-answer.ensures
