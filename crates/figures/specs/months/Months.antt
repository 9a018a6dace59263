-- What is known of an image of the input.
use Rattle.std.specs.Prelude.{◌≤◌, Option, Result, IfOk, IfSome}
use Rattle.rules.specs.declared.refusals.Refusal.{Refusal}
use Rattle.figures.specs.statements.Figures.{most_nodes}
use Rattle.figures.specs.declared.statements.Figures.{Figures}

-- its figures count no more nodes than a book has
abbrev pub MonthRead : {E : Type 0} → Result (Option (Result Figures Refusal)) E → Type 0
MonthRead r = IfOk r (λ (read : Option (Result Figures Refusal)). IfSome read (λ (month : Result Figures Refusal). IfOk month (λ (figures : Figures). figures.nodes ≤ most_nodes)))
