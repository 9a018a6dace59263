-- Euclid's steps, and the modulus of two periods.
use mathlib.Core.Path.{◌≡◌, refl}
use mathlib.Core.Bool.{Bool, true}
use Prim.Native.Nat.{ℕ, zero, suc, ◌*◌, ◌%◌, ◌<◌, ◌≤◌}
use native.Mathlib.Nat.{pos_of_dvd_of_pos, le_of_dvd, mul-le-mul}
use native.Mathlib.Omega.{arith}
use Rattle.rules.specs.Words.{Tests}
use Rattle.rules.specs.Tiles.{Period, Gcd, cycle_tiles}
use Rattle.rules.proofs.Bezout.{gcd_zero, gcd_step}
use Rattle.rules.proofs.Bytes.{period_small}
use Rattle.rules.proofs.Periods.{period_some}
use Rattle.placing.specs.plain.Plain.{LeftOut, Weighed}
use Rattle.placing.specs.plain.Plain.Weighed.{weighs}

-- the divisor of what is left is the one of a and b
abbrev pub Stepping : ℕ → ℕ → ℕ → ℕ → Type 0
Stepping a b x y = (g : ℕ) → Gcd x y g → Gcd a b g

pub stepping_more : {a b x y : ℕ} → Stepping a b x y → Stepping a b y (x % y)
stepping_more f g c = f g (gcd_step c)

pub stepping_done : {a b x y : ℕ} → y ≤ 0 → Stepping a b x y → Gcd a b x
stepping_done {x = x} {y = zero} l f = f x (gcd_zero x)
stepping_done {y = suc y} l f = absurd (omega arith)

-- it is one of the numbers up to K, and at least 1
pub gcd_most : {K L g : ℕ} → Period K → Gcd K L g → (g ≤ cycle_tiles) × (0 < g)
gcd_most {K} {L} {g} p c =
    let some = period_some K p in
    (omega (arith, le_of_dvd some c.left, period_small K p), pos_of_dvd_of_pos c.left some)

pub modulus_fits : {S K L g : ℕ} → S ≤ 32 → Period K → Gcd K L g → g * S ≤ cycle_tiles * 32
modulus_fits h p c = mul-le-mul (gcd_most p c).0 h

pub weighed : {S K L g : ℕ} {t : Bool} → 1 ≤ S → Period K → Tests t (LeftOut K L) → t ≡ true → Gcd K L g → Weighed S K L (g * S)
weighed {g = g} s p out e c = weighs (out.yes e) (mul-le-mul (gcd_most p c).1 s) (record { divisor = g; greatest = c; is = refl })
