-- The tables of periods and repeats say what the rules mean.
use mathlib.Core.Path.{◌≡◌, sym, ap, ◌∙◌, subst}
use mathlib.Core.Logic.{◌⊎◌, inl, inr}
use mathlib.Core.Bool.{Bool}
use mathlib.Core.List.{List}
use Prim.Native.Nat.{ℕ, suc, ◌+◌, ◌*◌, ◌<◌, ◌≤◌}
use native.Mathlib.Omega.{arith}
use native.Mathlib.Nat.{mul-le-mul, le_refl}
use lib.Dec.{T, eqb, leb, eqb→eq, leb→le}
use lib.ListN.{length, get_or}
use Rattle.rules.specs.Words.{◌∈◌}
use Rattle.rules.specs.Tiles.{periods, short_periods, slow_periods, Period, ShortPeriod, repeats, cycle_tiles, short_tiles}
use Rattle.rules.proofs.Every.{both, both_left, both_right, every, at}
use Rattle.rules.proofs.Lists.{at_in, in_append, in_left}
use Rattle.rules.proofs.Meeting.{in_at, member, cycle_period}

-- THE TABLES
-- the period at a place of the list
abbrev pub period_at : ℕ → ℕ
period_at i = get_or periods i 0

-- a number that stands at none of the places is no period
pub nowhere : (K : ℕ) → ((i : ℕ) → i < length periods → period_at i ≡ K → ⊥) → Period K → ⊥
nowhere K f h = let p = in_at K periods h in f p.0 p.1 (sym p.2)

-- and one that stands at a place is one
pub at_period : {K i : ℕ} → i < length periods → period_at i ≡ K → Period K
at_period {i = i} l e = subst Period e (at_in periods i l)

-- an entry is how often the period at its place comes
unfoldable pub repeats_right : ℕ → ℕ → Bool
repeats_right i x = both (eqb x (repeats (period_at i))) (leb x cycle_tiles)

unfoldable pub counts_right : List ℕ → Bool
counts_right counts = both (eqb (length counts) (length periods)) (every repeats_right 0 counts)

pub count_at : (counts : List ℕ) → T (counts_right counts) → {K i : ℕ} → i < length periods → period_at i ≡ K → (get_or counts i 0 ≡ repeats K) × (get_or counts i 0 ≤ cycle_tiles)
unfolding counts_right repeats_right
count_at counts t {i = i} h e =
    let long : length counts ≡ length periods = eqb→eq _ _ (both_left (eqb (length counts) (length periods)) (every repeats_right 0 counts) t) in
    let here = at repeats_right 0 counts (both_right (eqb (length counts) (length periods)) (every repeats_right 0 counts) t) i (omega arith) in (
      eqb→eq _ _ (both_left (eqb (get_or counts i 0) (repeats (period_at i))) _ here) ∙ ap repeats e,
      leb→le _ _ (both_right (eqb (get_or counts i 0) (repeats (period_at i))) _ here),
    )

-- PERIODS
-- of the ten, those up to 100 tiles are the seven
pub short_period : (K : ℕ) → Period K → K ≤ short_tiles → ShortPeriod K
short_period K h l = go (in_append K short_periods slow_periods h)
  where
    go : ShortPeriod K ⊎ (K ∈ slow_periods) → ShortPeriod K
    go (inl m) = m
    go (inr m) = absurd (omega (arith, leb→le (suc short_tiles) K (member (λ (x : ℕ). leb (suc short_tiles) x) slow_periods tt K m)))

pub period_short : (K : ℕ) → ShortPeriod K → Period K
period_short K h = in_left K short_periods slow_periods h

-- a period has a tile, and comes in a cycle
pub period_some : (K : ℕ) → Period K → 0 < K
period_some K h = leb→le 1 K (member (λ (x : ℕ). leb 1 x) periods tt K h)

pub repeats_some : (K : ℕ) → Period K → 1 ≤ repeats K
repeats_some K h = leb→le 1 (repeats K) (member (λ (x : ℕ). leb 1 (repeats x)) periods tt K h)

-- the slots of a period fit two bytes
pub span_fits : (S K : ℕ) → S ≤ 32 → K ≤ cycle_tiles → K * S ≤ cycle_tiles * 32
span_fits S K h k = mul-le-mul k h

-- and so does each slot that a hop takes: it is one of the cycle
pub turn_within : (S K o turn : ℕ) → Period K → o < K * S → turn < repeats K → o + turn * (K * S) < cycle_tiles * S
turn_within S K o turn p l t =
    let e : repeats K * (K * S) ≡ cycle_tiles * S = omega (arith, ap (λ (x : ℕ). x * S) (cycle_period K p)) in
    let f : (turn + 1) * (K * S) ≤ repeats K * (K * S) = mul-le-mul (omega arith) (le_refl (K * S)) in
    omega (arith, e, f)
