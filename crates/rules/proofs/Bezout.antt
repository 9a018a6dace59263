-- Two numbers have exactly one greatest common divisor, and it is a multiple of the one less a multiple of the other.
use mathlib.Core.Path.{◌≡◌, ap, subst}
use Prim.Native.Nat.{ℕ, zero, suc, ◌+◌, ◌*◌, ◌/◌, ◌%◌, ◌<◌}
use native.Mathlib.Nat.{mod-lt, div-add-mod', dvd_refl, dvd-zero, dvd-mod_iff, dvd_antisymm}
use native.Mathlib.Omega.{arith}
use Rattle.rules.specs.Tiles.{Gcd}

pub gcd_unique : {a b g h : ℕ} → Gcd a b g → Gcd a b h → g ≡ h
gcd_unique {g = g} {h = h} c d = dvd_antisymm (d.most g c.left c.right) (c.most h d.left d.right)

-- Euclid's last step: with 0, a number is the divisor itself
pub gcd_zero : (a : ℕ) → Gcd a 0 a
gcd_zero a = record { left = dvd_refl a; right = dvd-zero a; most = λ d h k. h }

-- and his others: the divisor of b and of what is left of a is the one of a and b
pub gcd_step : {a b g : ℕ} → Gcd b (a % b) g → Gcd a b g
gcd_step {g = g} c = record { left = (dvd-mod_iff g c.left).0 c.right; right = c.left; most = λ d h k. c.most d k ((dvd-mod_iff d k).1 h) }

-- a and b with their divisor, u times a being v times b and the divisor
record Common (a b : ℕ) : Type 0 where
  divisor : ℕ
  u : ℕ
  v : ℕ
  greatest : Gcd a b divisor
  bezout : u * a ≡ divisor + v * b

-- multiples of b over those of what is left of a are multiples of b over those of a
unfolded : (a b g u v : ℕ) → u * b ≡ g + v * (a % b) → (u + v * (a / b)) * b ≡ g + v * a
unfolded a b g u v e = omega (arith, e, ap (λ (x : ℕ). v * x) (div-add-mod' a b))

-- multiples of b over those of a, turned into multiples of a over those of b
turned : (a b g x y : ℕ) → x * suc b ≡ g + y * suc a → (x * suc b + y * b) * suc a ≡ g + (x * a + y * suc a) * suc b
turned a b g x y e = omega (arith, e)

step : (a b : ℕ) → Common (suc b) (suc a % suc b) → Common (suc a) (suc b)
step a b c =
    let x : ℕ = c.u + c.v * (suc a / suc b) in
    record {
      divisor = c.divisor;
      u = x * suc b + c.v * b;
      v = x * a + c.v * suc a;
      greatest = gcd_step c.greatest;
      bezout = turned a b c.divisor x c.v (unfolded (suc a) (suc b) c.divisor c.u c.v c.bezout);
    }

-- Euclid's steps: what is left is less each time, so n steps do for b below n
euclid : (n a b : ℕ) → b < n → Common (suc a) b
euclid zero a b l = absurd (omega arith)
euclid (suc n) a b l = go b l (euclid n)
  where
    go : (b : ℕ) → b < suc n → ((a b : ℕ) → b < n → Common (suc a) b) → Common (suc a) b
    go zero l f = record { divisor = suc a; u = 1; v = 0; greatest = gcd_zero (suc a); bezout = omega arith }
    go (suc b) l f =
        let less : suc a % suc b < suc b = mod-lt (suc a) (omega arith) in
        step a b (f b (suc a % suc b) (omega arith))

-- two numbers have exactly one greatest common divisor
pub one_gcd : (a b : ℕ) → (g : ℕ) × Gcd a b g × ((h : ℕ) → Gcd a b h → h ≡ g)
one_gcd a b = let c = some a in (c.0, c.1, λ h d. gcd_unique d c.1)
  where
    some : (a : ℕ) → (g : ℕ) × Gcd a b g
    some zero = (b, record { left = dvd-zero b; right = dvd_refl b; most = λ d h k. k })
    some (suc a) = let c = euclid (suc b) a b (omega arith) in (c.divisor, c.greatest)

-- Bézout's law
pub bezout : (a b g : ℕ) → 0 < a → Gcd a b g → (u : ℕ) × (v : ℕ) × (u * a ≡ g + v * b)
bezout zero b g l c = absurd (omega arith)
bezout (suc a) b g l c =
    let r = euclid (suc b) a b (omega arith) in
    (r.u, r.v, subst (λ (x : ℕ). r.u * suc a ≡ x + r.v * b) (gcd_unique r.greatest c) r.bezout)
