-- Row after row draws from its account.
use mathlib.Core.Path.{◌≡◌, sym, ap, ◌∙◌, subst}
use mathlib.Core.Logic.{inl, inr}
use mathlib.Core.Bool.{Bool, false}
use mathlib.Core.List.{List, [], ◌∷◌, ◌++◌, append_assoc}
use Prim.Native.Nat.{ℕ, zero, suc, ◌≤◌}
use native.Mathlib.Omega.{arith}
use Rattle.std.specs.Prelude.{All}
use Rattle.rules.specs.Words.{◌∈◌, total}
use Rattle.rules.specs.Book.{Account, Row, drawn, Paid, LawfulRow}
use Rattle.rules.specs.Image.{site_of}
use Rattle.rules.proofs.Tests.{fails}
use Rattle.rules.proofs.Lists.{total_append, in_all}
use Rattle.image.specs.Places.{next_at, rows_from, WholeRows}
use Rattle.accounts.specs.Lists.{LeftBy, MayDraw, draws_from}
use Rattle.rows.specs.Walk.{RowsStand}

-- rows that stand are whole,
pub stand_whole : (s : List ℕ) (n at : ℕ) → RowsStand s n at → WholeRows s n at
unfolding RowsStand WholeRows
stand_whole s zero at h = tt
stand_whole s (suc n) at h = (h.0.whole, stand_whole s n (next_at s at) h.1)

-- and lawful
stand_lawful : (s : List ℕ) (n at : ℕ) → RowsStand s n at → (r : Row) → r ∈ rows_from s n at → LawfulRow (site_of s) r
unfolding RowsStand
stand_lawful s zero at h r m = absurd m
stand_lawful s (suc n) at h r (inl e) = subst (LawfulRow (site_of s)) (sym e) h.0.lawful
stand_lawful s (suc n) at h r (inr m) = stand_lawful s n (next_at s at) h.1 r m

pub all_stand_lawful : (s : List ℕ) (n at : ℕ) → RowsStand s n at → All (LawfulRow (site_of s)) (rows_from s n at)
all_stand_lawful s n at h = in_all (LawfulRow (site_of s)) (rows_from s n at) (stand_lawful s n at h)

-- what all draw, those up to one of them do not pass
pub not_paid : {accounts : List Account} (so_far rest : List Row) {rows : List Row} {r : Row} {left : List ℕ} {t : Bool} → rows ≡ so_far ++ (r ∷ rest) → LeftBy accounts so_far left
    → MayDraw accounts r left t → t ≡ false → Paid accounts rows → ⊥
not_paid so_far rest {rows} {r} s l m e h = fails (m so_far l) e (λ a k. omega (arith, h a k, part a.number))
  where
    part : (k : ℕ) → drawn k (so_far ++ (r ∷ [])) ≤ drawn k rows
    part k = omega (arith, ap (total (draws_from k)) (s ∙ sym (append_assoc so_far (r ∷ []) rest)), total_append (draws_from k) (so_far ++ (r ∷ [])) rest)
