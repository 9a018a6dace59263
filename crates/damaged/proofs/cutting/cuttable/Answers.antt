-- The row is whole, and its hop count is tested at both ends.
use Rattle.std.proofs.Common.{rules, tests}
use Rattle.damaged.proofs.cutting.Cuts.{found_cuttable}
use Rattle.damaged.proofs.cutting.cuttable.Goals as goal

pub returns : goal.returns
returns c =
    let a = c.args in
    let f = found_cuttable a.image.now a.at c.requires c.at.result _ c.at.ensures.there c.at.ensures.row c.filter.ensures (λ r t k. record {
      yes = λ e. (search (rules, tests), search (rules, tests));
      back = λ h. search (rules, tests);
    }) in
    record { there = f.there; row = f.row }
