-- What a call on a lawful book says, and what it writes.
use Rattle.std.specs.Prelude.{◌≡◌, List, ℕ}
use Rattle.rules.specs.Says.{Refusal, Says}
use Rattle.rules.specs.Calls.{Wrote, Unchanged}

-- the refusals say the number; on 0 bytes with R were written, and otherwise nothing
pub record Reply (refusals : List Refusal) (R : List ℕ → Type 0) (out : List ℕ) (number len : ℕ) (out' : List ℕ) : Type 0 where
  pub says : Says refusals number
  pub refused : (number ≡ 0 → ⊥) → Unchanged out len out'
  pub done : number ≡ 0 → (bytes : List ℕ) × R bytes × Wrote bytes out len out'
