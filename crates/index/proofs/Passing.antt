-- The offsets at which a hop finds a node, one after the other, until it finds none.
use mathlib.Core.Path.{◌≡◌}
use mathlib.Core.Bool.{Bool, false}
use mathlib.Core.List.{List}
use Prim.Native.Nat.{ℕ, ◌+◌, ◌<◌, ◌≤◌}
use native.Mathlib.Omega.{arith}
use native.Mathlib.Nat.{le_refl}
use borrow.Author.Count.{below_more}
use Rattle.rules.specs.Words.{Tests}
use Rattle.rules.proofs.Tests.{fails}
use Rattle.bitset.specs.clash.Reach.{End}
use Rattle.index.specs.declared.Repeats.{Repeats}
use Rattle.index.specs.Marks.{Finds, FirstQuiet}

-- from lo on it finds one at each offset before this
abbrev pub AllBusy : (End → ℕ → Type 0) → List ℕ → Repeats → ℕ → ℕ → Type 0
AllBusy C words r lo o = (lo ≤ o) × ((k : ℕ) → k < o → lo ≤ k → Finds C words r k)

module _ {C : End → ℕ → Type 0} {words : List ℕ} {r : Repeats} {lo : ℕ} where
  pub busy_none : AllBusy C words r lo lo
  busy_none = (le_refl _, λ k h l. absurd (omega arith))

  module _ {o : ℕ} (w : AllBusy C words r lo o) where
    pub busy_more : Finds C words r o → AllBusy C words r lo (o + 1)
    busy_more f = (omega (arith, w.0), below_more _ _ w.1 (λ h. f))

    pub busy_quiet : {t : Bool} → Tests t (Finds C words r o) → t ≡ false → FirstQuiet C words r lo o
    busy_quiet t e = record { above = w.0; before = w.1; quiet = λ l f. fails t e f }

    pub busy_done : r.span.0 ≤ o → FirstQuiet C words r lo o
    busy_done l = record { above = w.0; before = w.1; quiet = λ h f. omega (arith, l, h) }
