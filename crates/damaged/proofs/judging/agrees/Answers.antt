-- One row after the other, up to the first with such a hop.
use Rattle.std.proofs.Common.{ℕ, ◌<◌, get_or, arith, rules, tests}
use Rattle.std.proofs.lemmas.Iterator.{cases_from_any, YieldsList-from_range}
use Rattle.index.specs.Marks.{InReach}
use Rattle.placing.specs.plain.Plain.{AgreesRow}
use Rattle.damaged.specs.judging.Placed.{placed}
use Rattle.damaged.proofs.judging.Holding.{tests_agree}
use Rattle.damaged.proofs.judging.agrees.Goals as goal

pub returns : goal.returns
returns c =
    let a = c.args in
    let n = a.rows in
    let yes : ℕ → Type 0 = λ (j : ℕ). (0 < get_or a.moduli.now j 0) × AgreesRow (InReach a.reach) (placed a.image.now a.places.now j) (get_or a.moduli.now j 0) a.o.0 in
    tests_agree _ _ _ _ _ _ _ (cases_from_any _ _ c.any.result yes (λ (j : ℕ). yes j → ⊥) c.any.ensures.ran
    (YieldsList-from_range 0 n n (cc) (omega arith)) (λ x q k. search (rules, tests)) (λ x q k. search (rules, tests)))
