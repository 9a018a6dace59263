-- What is written of a pair, and what is known of the totals behind an image.
use Rattle.std.specs.Prelude.{ℕ, ◌+◌, ◌≤◌, min, List, [], ◌∷◌, ◌++◌, Option, unwrap_or, Result, Ok, Err, if◌then◌else◌, ◌==◌}
use Rattle.rules.specs.declared.refusals.Refusal.{Refusal}
use Rattle.rules.specs.declared.refusals.Refusal.TheVariants.{WrongLength}
use Rattle.figures.specs.declared.statements.Figures.{Figures}
use Rattle.figures.specs.declared.statements.Totals.{Totals}
use Rattle.figures.specs.statements.Figures.{most_nodes}
use Rattle.figures.specs.printing.Lines.{month_text, movements_text}

-- the line of an image that was read, or that the input is cut short
abbrev pub month_said : Option (Result Figures Refusal) → List ℕ
month_said read = month_text (unwrap_or read (Err WrongLength)) ++ 10 ∷ []

-- the line of the movements, where both images are accepted and the nodes are as many
abbrev pub movements_said : Result Figures Refusal → Result Figures Refusal → List ℕ
movements_said (Ok last) (Ok this) = if last.nodes == this.nodes then movements_text last.free this.free (min most_nodes last.nodes) ++ 10 ∷ [] else []
movements_said (Ok last) (Err refusal) = []
movements_said (Err refusal) this = []

-- an image adds less than this to a total
abbrev pub most_of_image : ℕ
most_of_image = 4294967296

-- and all images but one less than this
abbrev pub most_before : ℕ
most_before = 8589934592000

-- behind an image
pub record Increased (t r : Totals) : Type 0 where
  pub fewest : r.fewest ≤ t.fewest + most_of_image
  pub used : r.used ≤ t.used + most_of_image
