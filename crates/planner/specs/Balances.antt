-- What a balance says: the number, and three counts, which are zeros where it is refused.
use Rattle.std.specs.Prelude.{List, ℕ, Result}
use Rattle.std.specs.Result.{result_unwrap_or}
use Rattle.rules.specs.Calls.{Balance}
use Rattle.rules.specs.Said.{said}
use Rattle.rules.specs.declared.refusals.Refusal.{Refusal}
use Rattle.operations.specs.declared.balances.Counts.{Counts}

abbrev pub counted : Result Counts Refusal → Counts
counted r = result_unwrap_or r (record { «data» = 0; used = 0; free = 0 })

abbrev pub BalanceSays : List ℕ → ℕ → Result Counts Refusal → Type 0
BalanceSays image node r = Balance image node (said r) (counted r).data (counted r).used (counted r).free
