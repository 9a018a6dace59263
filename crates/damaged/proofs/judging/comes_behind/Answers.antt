-- The last row kept is a lawful one.
use Rattle.std.proofs.Common.{rules}
use Rattle.damaged.proofs.judging.Reasons.{last_ranged}
use Rattle.damaged.proofs.judging.comes_behind.Goals as goal

pub comes_behind-requires : goal.comes_behind-requires
comes_behind-requires c =
    let p = c.requires in
    (last_ranged c.args.last c.map-before.result _ p.0 p.1 c.map-before.ensures.cases (λ at r k. search rules), p.2)
