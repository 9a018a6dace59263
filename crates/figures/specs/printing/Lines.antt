-- What the lines of a statement say.
use Rattle.std.specs.Prelude.{List, [], ℕ, ℤ, pos, negsuc, zero, suc, ◌++◌, ◌∷◌, ◌-ℤ◌, get_or, codes, Result, Ok, Err}
use Rattle.std.specs.Fmt.{decimal}
use Rattle.rules.specs.declared.refusals.Refusal.{Refusal}
use Rattle.rules.specs.Said.{number_of}
use Rattle.figures.specs.declared.statements.Figures.{Figures}

-- three numbers with a space between
abbrev pub line_text : ℕ → ℕ → ℕ → List ℕ
line_text fewest used latency = decimal fewest ++ 32 ∷ (decimal used ++ 32 ∷ decimal latency)

-- the number of a refusal
abbrev pub refused_text : Refusal → List ℕ
refused_text refusal = codes "refused " ++ decimal (number_of refusal)

-- what a statement says of an image: its figures, or its refusal
abbrev pub month_text : Result Figures Refusal → List ℕ
month_text (Ok figures) = line_text figures.fewest figures.used figures.latency
month_text (Err refusal) = refused_text refusal

-- from so many free slots to so many
abbrev pub movement : ℕ → ℕ → ℤ
movement was is = pos is -ℤ pos was

-- a movement with its sign, zero as 0
abbrev pub moved_text : ℤ → List ℕ
moved_text (pos zero) = decimal 0
moved_text (pos (suc n)) = 43 ∷ decimal (suc n)
moved_text (negsuc n) = 45 ∷ decimal (suc n)

-- the same behind a space, but for the first node
abbrev pub behind_space : ℕ → ℤ → List ℕ
behind_space zero z = moved_text z
behind_space (suc n) z = 32 ∷ moved_text z

-- the movements of the first nodes
abbrev pub movements_text : List ℕ → List ℕ → ℕ → List ℕ
movements_text was is zero = []
movements_text was is (suc n) = movements_text was is n ++ behind_space n (movement (get_or was n 0) (get_or is n 0))
