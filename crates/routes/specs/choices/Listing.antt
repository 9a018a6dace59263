-- What the list says back, and what it writes.
use Rattle.std.specs.Prelude.{◌≡◌, Bool, false, List, [], ◌∷◌, ℕ, Result, Ok, Err, length}
use Rattle.rules.specs.Says as says
use Rattle.rules.specs.Says.{◌when◌, Says}
use Rattle.rules.specs.Said.{said}
use Rattle.rules.specs.Topology as topologies
use Rattle.rules.specs.Topology.{Topology}
use Rattle.rules.specs.Image.{version_of, links_of}
use Rattle.rules.specs.Calls.{Wrote, Unchanged, list_bytes, ListTooLong, routes_refusals}
use Rattle.rules.specs.declared.refusals.Refusal.{Refusal}
use Rattle.rules.proofs.Reading.{book_in}
use Rattle.routes.specs.declared.choices.Listed.{Listed}

-- the length of the list that was written: 0 where it is refused
abbrev pub listed : Result Listed Refusal → ℕ
listed (Ok l) = l.length
listed (Err r) = 0

-- whether more routes exist: not where it is refused
abbrev pub more : Result Listed Refusal → Bool
more (Ok l) = l.more
more (Err r) = false

-- the refusals say the number; on 0 the list was written, and otherwise nothing
pub record Lists (refusals : List says.Refusal) (T : Topology) (middle source destination : ℕ) (out : List ℕ) (r : Result Listed Refusal) (out' : List ℕ) : Type 0 where
  pub says : Says refusals (said r)
  pub refused : (said r ≡ 0 → ⊥) → Unchanged out (listed r) out' × (more r ≡ false)
  pub done : said r ≡ 0 → (routes : List (List ℕ)) × topologies.Listed T middle source destination routes (more r) × Wrote (list_bytes routes) out (listed r) out'

-- 12, or the list over the links
abbrev pub ListSays : Topology → ℕ → ℕ → ℕ → List ℕ → Result Listed Refusal → List ℕ → Type 0
ListSays T middle source destination out = Lists ((12 when ListTooLong T middle source destination (length out)) ∷ []) T middle source destination out

-- 25, 4, 5, 12, or the list over the links of the image's book
abbrev pub BookSays : List ℕ → ℕ → ℕ → ℕ → List ℕ → Result Listed Refusal → List ℕ → Type 0
BookSays s mains source destination out =
    Lists (routes_refusals mains source destination (length out) (version_of s) (book_in s)) (links_of s) mains source destination out
