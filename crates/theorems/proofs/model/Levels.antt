-- A node is on a level exactly if it has a way of so many links.
use mathlib.Core.Path.{◌≡◌, refl, sym, subst}
use mathlib.Core.Logic.{inl, inr, ⊎_elim}
use mathlib.Core.Bool.{Bool, true, false, cond, ◌&&◌}
use mathlib.Core.List.{List, [], ◌∷◌}
use Prim.Native.Nat.{ℕ, zero, suc, ◌<◌}
use native.Mathlib.Omega.{arith}
use native.Mathlib.Nat.{eq-or-lt_of_le, le_of_suc-le-suc}
use lib.Dec.{eqb, ltb}
use Rattle.rules.specs.Words.{◌∈◌, Tests}
use Rattle.rules.specs.Topology.{Topology, nodes, Joined}
use Rattle.rules.proofs.Tests.{never, alike, tests_and, tests_or, tests_eq, tests_lt, said_yes, said_no, some_of, tests_member}
use Rattle.rules.proofs.Ways.{MayStand, Way, joined_known}
use Rattle.theorems.specs.model.Search.{may_stand, keep_below, level, on_level}
use Rattle.theorems.specs.model.Test.{joined}
use Rattle.theorems.proofs.model.Tests.{tests_in, tests_has, tests_joined}

-- WHAT IS KEPT
module _ {P : ℕ → Type 0} (f : ℕ → Bool) (h : (i : ℕ) → Tests (f i) (P i)) where
  tests_kept : (n a : ℕ) → Tests (some_of (eqb a) (keep_below n f)) ((a < n) × P a)
  tests_kept zero a = said_no (λ p. omega (arith, p.0))
  tests_kept (suc n) a = go (f n) (h n) (tests_kept n a)
    where
      go : (t : Bool) → Tests t (P n) → Tests (some_of (eqb a) (keep_below n f)) ((a < n) × P a)
          → Tests (some_of (eqb a) (cond t (n ∷ keep_below n f) (keep_below n f))) ((a < suc n) × P a)
      go true t g =
          alike (tests_or (tests_eq a n) g)
          (λ p. ⊎_elim (λ (e : a ≡ n). (omega arith, subst P (sym e) (t.yes refl))) (λ (k : (a < n) × P a). (omega (arith, k.0), k.1)) p)
          (λ p. ⊎_elim (λ (e : a ≡ n). inl e) (λ (l : a < n). inr (l, p.1)) (eq-or-lt_of_le (le_of_suc-le-suc p.0)))
      go false t g =
          alike g (λ p. (omega (arith, p.0), p.1))
          (λ p. (⊎_elim (λ (e : a ≡ n). never (t.back (subst P e p.1))) (λ (l : a < n). l) (eq-or-lt_of_le (le_of_suc-le-suc p.0)), p.1))

-- LEVELS
pub tests_stand : (middle n m : ℕ) → Tests (may_stand middle n m) (MayStand middle n m)
tests_stand middle zero m = said_yes tt
tests_stand middle (suc n) m = tests_has middle m

abbrev pub HasWay : Topology → ℕ → ℕ → ℕ → ℕ → Type 0
HasWay T middle z n a = (q : List ℕ) × Way T middle z n a q

module _ (T : Topology) (middle z : ℕ) where
  -- a step from a to m, which n links may follow
  abbrev Step : ℕ → ℕ → ℕ → Type 0
  Step n a m = (m < nodes T) × (Joined T a m × MayStand middle n m)

  ends : (a : ℕ) → HasWay T middle z 0 a → a ∈ (z ∷ [])
  ends a ([], w) = inl w
  ends a (m ∷ q, w) = absurd w

  starts : (a : ℕ) → a ∈ (z ∷ []) → HasWay T middle z 0 a
  starts a (inl e) = ([], e)
  starts a (inr m) = absurd m

  pub tests_level : (n a : ℕ) → Tests (on_level T middle z n a) (HasWay T middle z n a)
  tests_level zero a = alike (tests_in a (z ∷ [])) (starts a) (ends a)
  tests_level (suc n) a =
      alike
      (tests_kept (λ a. some_of (λ m. ltb m (nodes T) && (joined T a m && may_stand middle n m)) (level T middle z n))
      (λ a. tests_member (λ m. ltb m (nodes T) && (joined T a m && may_stand middle n m))
      (λ m. tests_and (tests_lt m (nodes T)) (tests_and (tests_joined T a m) (tests_stand middle n m))) (level T middle z n)) (nodes T) a)
      (λ p. forth p.1 (λ m. tests_level n m)) (λ w. back w (λ m. tests_level n m))
    where
      forth : (m : ℕ) × (m ∈ level T middle z n) × Step n a m → ((m : ℕ) → Tests (on_level T middle z n m) (HasWay T middle z n m)) → HasWay T middle z (suc n) a
      forth (m, k, s) h = let w = (h m).yes ((tests_in m (level T middle z n)).back k) in (m ∷ w.0, (s.1.0, s.0, s.1.1, w.1))

      back : HasWay T middle z (suc n) a → ((m : ℕ) → Tests (on_level T middle z n m) (HasWay T middle z n m))
          → (a < nodes T) × ((m : ℕ) × (m ∈ level T middle z n) × Step n a m)
      back ([], w) h = absurd w
      back (m ∷ q, w) h = (joined_known T a m w.0, (m, (tests_in m (level T middle z n)).yes ((h m).back (q, w.3)), (w.1, (w.0, w.2))))
