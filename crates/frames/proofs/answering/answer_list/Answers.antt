-- What is written stands behind all that is held.
use Rattle.std.proofs.Common.{take, ap, arith, ◌∙◌}
use borrow.Rule.Slice.PartMut.{take_put}
use Rattle.streams.proofs.Reading.{grows_behind}
use Rattle.frames.proofs.answering.answer_list.Goals as goal

pub returns-clause-grows : goal.returns-clause-grows
returns-clause-grows g c =
    let at = c.in_ok-at.at in
    grows_behind _ _ _ _ at _ (omega (arith, c.in_ok-at.ensures.place)) c.in_ok-at.ensures.bytes
    (take_put _ _ c.as_mut_slice.result.now _ (omega (arith, c.in_ok-at.ensures.place, c.as_mut_slice.ensures.len)) ∙ ap (take at) c.as_mut_slice.ensures.value)
