-- The first that has both.
use Rattle.std.proofs.Common.{rules, tests}
use Rattle.std.proofs.lemmas.Iterator.{first_from_Range}
use Rattle.rules.proofs.Seen.{Has}
use Rattle.entries.proofs.Seeking.{next_of}
use Rattle.entries.proofs.next.Goals as goal

pub returns : goal.returns
returns c =
    next_of _ _ _ _ c.requires.0 (first_from_Range _ _ _ _ (λ i. Has c.args.tables.now i c.args.operation c.args.id) (λ i. Has c.args.tables.now i c.args.operation c.args.id → ⊥) c.find.ensures.ran
    (λ x q k. search (rules, tests)) (λ x q k. search (rules, tests)))
