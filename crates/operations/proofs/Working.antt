-- The operations 1 to 4 and 17 to 20 are those in which a node works for a stream.
use mathlib.Core.Path.{◌≡◌, refl}
use mathlib.Core.Logic.{inl, inr}
use mathlib.Core.Bool.{Bool, true, false, cond}
use Prim.Native.Nat.{ℕ, ◌<◌}
use native.Mathlib.Omega.{arith}
use borrow.Author.Tests.{le-leb, lt-leb}
use Rattle.rules.proofs.Entries.{Working}
use Rattle.operations.specs.Operations.{is_working, where_working}

pub working : (operation n : ℕ) → Working operation → n ≡ where_working operation n
working operation n (inl w) = rw (le-leb 1 operation w.0, le-leb operation 4 w.1)
working operation n (inr w) = rw (le-leb 1 operation (omega (arith, w)), lt-leb operation 4 (omega (arith, w)), le-leb 17 operation w.0, le-leb operation 20 w.1)

-- above the first four it is below the second or above them
pub between : (operation n : ℕ) → 4 < operation → operation < 17 → 0 ≡ where_working operation n
between operation n h k = rw (le-leb 1 operation (omega arith), lt-leb operation 4 h, lt-leb 17 operation k)

pub above : (operation n : ℕ) → 20 < operation → 0 ≡ where_working operation n
above operation n h = rw (le-leb 1 operation (omega arith), lt-leb operation 4 (omega arith), le-leb 17 operation (omega arith), lt-leb operation 20 h)

-- an entry without a stream has no id
pub no_id : (operation : ℕ) → where_working operation 0 ≡ 0
no_id operation = either (is_working operation)
  where
    either : (t : Bool) → ◌≡◌ {A = ℕ} (cond t 0 0) 0
    either true = refl
    either false = refl
