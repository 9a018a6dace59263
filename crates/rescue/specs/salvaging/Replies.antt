-- What a salvage says back, from the rows up.
use Rattle.std.specs.Prelude.{◌≡◌, List, [], ◌∷◌, ℕ, ◌*◌, ◌≤◌, length, get_or, drop, Result}
use Rattle.std.specs.Result.{result_unwrap_or}
use Rattle.rules.specs.Says.{Refusal, ◌when◌, Says}
use Rattle.rules.specs.Said.{said}
use Rattle.rules.specs.declared.refusals.Refusal as why
use Rattle.rules.specs.Topology.{SoundTopologies}
use Rattle.rules.specs.Book.{Row}
use Rattle.rules.specs.Image.{version_of, links_of, hearing_of, rows_place}
use Rattle.rules.specs.Calls.{Call, Unchanged}
use Rattle.rules.specs.Salvage.{CutAll, NoRoom, SalvageWritten}
use Rattle.image.proofs.Marks.{Marked}
use Rattle.rescue.specs.declared.salvaging.Salvaged.{Salvaged}
use Rattle.rescue.specs.salvaging.Walk.{BookFits}

-- the image has its mark, its header, its accounts and its topologies
pub record Headed (s : List ℕ) : Type 0 where
  pub marked : Marked s
  pub last : get_or s 15 0 ≡ 0
  pub enough : rows_place s ≤ length s

-- both the book and the report have room
pub record HasRoom (s : List ℕ) (room report_room : ℕ) : Type 0 where
  pub rows : List Row
  pub lost : List ℕ
  pub cut : CutAll (version_of s) (drop (rows_place s) s) rows lost
  pub told : 3 * length rows ≤ report_room
  pub book : BookFits s room

-- the refusals that are left where the topologies are sound
abbrev pub rows_refusals : List ℕ → ℕ → ℕ → List Refusal
rows_refusals s room report_room = (12 when NoRoom s room report_room) ∷ []

-- and where the header and the accounts are in order
abbrev pub site_refusals : List ℕ → ℕ → ℕ → List Refusal
site_refusals s room report_room = (11 when (SoundTopologies (links_of s) (hearing_of s) → ⊥)) ∷ rows_refusals s room report_room

-- what it counts: zeros where it is refused
abbrev pub counts : Result Salvaged why.Refusal → Salvaged
counts r = result_unwrap_or r (record { length = 0; rows = 0; lost = 0 })

-- the refusals say the number; where it is done book and report were written, and otherwise nothing
abbrev pub Replied : List Refusal → List ℕ → List ℕ → List ℕ → Result Salvaged why.Refusal → List ℕ → List ℕ → Type 0
Replied refusals s out report r out' report' =
    Call (Says refusals) (Unchanged out (counts r).length out' × Unchanged report (counts r).rows report' × ((counts r).lost ≡ 0))
    (SalvageWritten s out report (counts r).length out' (counts r).rows (counts r).lost report') (said r)
