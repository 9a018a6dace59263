-- A search for an id goes on behind a row of a lower id.
use mathlib.Core.Path.{◌≡◌, sym, subst}
use mathlib.Core.Logic.{⊎_elim}
use mathlib.Core.List.{List, [], ◌∷◌}
use Prim.Native.Nat.{ℕ, ◌<◌, ◌-◌}
use Rattle.rules.specs.Words.{◌∈◌}
use Rattle.rules.specs.Book.{Row}
use Rattle.rules.proofs.Lists.{in_append}
use Rattle.image.specs.Places.{row_at, next_at}
use Rattle.image.proofs.Stands.{stands_next}
use Rattle.changing.specs.reader.Seeks.{Passed}

pub passed_next : {s : List ℕ} {id at left : ℕ} → 0 < left → (row_at s at).id < id → Passed s id at left → Passed s id (next_at s at) (left - 1)
passed_next {s} {id} {at} more low p = record {
  stands = stands_next more p.stands;
  lower = λ r m. ⊎_elim (λ k. p.lower r k)
      (λ (k : r ∈ (row_at s at ∷ [])). ⊎_elim (λ (e : r ≡ row_at s at). subst (λ (x : Row). x.id < id) (sym e) low) (λ (x : ⊥). absurd x) k)
      (in_append r p.stands.before (row_at s at ∷ []) m);
}
