-- The call's answer, as a number and a length.
use Rattle.planner_c.proofs.lindurask_new.Goals as goal

pub returns : goal.returns
returns c =
    rw (c.told.ensures.number, c.told.ensures.length) (rw (c.from.ensures, c.from-2.ensures, c.from-3.ensures, c.from-4.ensures) at c.new_book.ensures)
