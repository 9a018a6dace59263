-- The rows of a lawful image stand from the place behind its hearing on.
use mathlib.Core.Path.{refl, sym, ◌∙◌, subst}
use mathlib.Core.List.{List}
use Rattle.std.specs.Prelude.{All}
use Rattle.rules.specs.Book.{Row, LawfulRow}
use Rattle.rules.specs.Image.{site_of}
use Rattle.image.specs.Places.{InRange}
use Rattle.image.proofs.Walks.{stands_first, stands_whole, first_rows, all_lawful, all_in_range}
use Rattle.image.proofs.row.Rows.of.Goals as goal

pub new-requires : goal.new-requires
new-requires c =
    stands_whole c.args.image.now _ _ (stands_first c.requires.0 c.requires.1 c.rows_start.ensures refl)

pub returns-clause-rows : goal.returns-clause-rows
returns-clause-rows c =
    c.new.ensures ∙ first_rows c.args.image.now c.requires.1 c.rows_start.ensures refl

pub returns-clause-lawful : goal.returns-clause-lawful
returns-clause-lawful c =
    subst (λ (rows : List Row). All (LawfulRow (site_of c.args.image.now)) rows)
    (sym (c.new.ensures ∙ first_rows c.args.image.now c.requires.1 c.rows_start.ensures refl)) (all_lawful c.requires.0)

pub returns-clause-ranges : goal.returns-clause-ranges
returns-clause-ranges c =
    subst (λ (rows : List Row). All InRange rows)
    (sym (c.new.ensures ∙ first_rows c.args.image.now c.requires.1 c.rows_start.ensures refl)) (all_in_range c.requires.0)
