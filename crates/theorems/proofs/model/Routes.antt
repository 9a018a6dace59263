-- The route that is searched for is the planner's; where none is found all are too far, or there is none.
use mathlib.Core.Path.{◌≡◌, refl, sym, subst}
use mathlib.Core.Logic.{◌⊎◌, inl, inr}
use mathlib.Core.Bool.{Bool, true, false, cond, ◌&&◌}
use mathlib.Core.List.{List, [], ◌∷◌}
use mathlib.Core.Option.{Option, some, none}
use Prim.Native.Nat.{ℕ, zero, suc, ◌+◌, ◌<◌, ◌≤◌}
use native.Mathlib.Omega.{arith}
use native.Mathlib.Nat.{lt_of_not-le}
use native.Mathlib.Decide.{dec_lt}
use lib.Dec.{eqb, leb}
use Rattle.rules.specs.Words.{NoLater, Tests}
use Rattle.rules.specs.Topology.{Topology, nodes, Joined, most_route_hops, Route, NoRoute, TooFar}
use Rattle.rules.proofs.Tests.{never, tests_and, tests_eq, tests_le}
use Rattle.rules.proofs.Greedy.{Least}
use Rattle.rules.proofs.Ways.{MayStand, Way, LowestWay, NoWay, way_path, planned, too_far, no_round}
use Rattle.rules.proofs.Cases.{route_near, route_some, none_under}
use Rattle.theorems.specs.model.Search.{before, least_from, and_then, may_stand, on_level, links_of, way_of, route_of}
use Rattle.theorems.specs.model.Test.{joined}
use Rattle.theorems.proofs.model.Tests.{tests_joined}
use Rattle.theorems.proofs.model.Searches.{Found, FirstAt, first_found, least_found}
use Rattle.theorems.proofs.model.Levels.{HasWay, tests_stand, tests_level}

module _ (T : Topology) (middle z : ℕ) where
  -- ONE STEP
  abbrev Step : ℕ → ℕ → ℕ → Type 0
  Step n a m = Joined T a m × MayStand middle n m

  abbrev StepTo : ℕ → ℕ → ℕ → List ℕ → Type 0
  StepTo n a m x = (p : List ℕ) × (x ≡ m ∷ p) × Step n a m × LowestWay T middle z n m p

  abbrev NoStep : ℕ → ℕ → ℕ → Type 0
  NoStep n a m = Step n a m → NoWay T middle z n m

  tried : (n a m : ℕ) (t : Bool) (o : Option (List ℕ)) → Tests t (Step n a m × HasWay T middle z n m) → Found (LowestWay T middle z n m) (NoWay T middle z n m) o
      → Found (StepTo n a m) (NoStep n a m) (cond t (before m o) none)
  tried n a m true none t g = λ l. g
  tried n a m true (some p) t g = (p, refl, (t.yes refl).0, g)
  tried n a m false o t g = λ l q w. never (t.back (l, (q, w)))

  stepped : (n a : ℕ) (o : Option (List ℕ)) → Found (FirstAt (StepTo n a) (NoStep n a) 0 (0 + nodes T)) ((m : ℕ) → 0 ≤ m → m < 0 + nodes T → NoStep n a m) o
      → Found (LowestWay T middle z (suc n) a) (NoWay T middle z (suc n) a) o
  stepped n a none g = no_way
    where
      no_way : NoWay T middle z (suc n) a
      no_way [] w = absurd w
      no_way (m ∷ q) w = g m (omega arith) (omega (arith, w.1)) (w.0, w.2) q w.3
  stepped n a (some x) g =
      subst (LowestWay T middle z (suc n) a) (sym g.here.1)
      record { way = (g.here.2.0, omega (arith, g.below), g.here.2.1, g.here.3.way); lowest = low }
    where
      low : (q : List ℕ) → Way T middle z (suc n) a q → NoLater (g.at ∷ g.here.0) q
      low [] w = absurd w
      low (m ∷ q) w = at (dec_lt g.at m) (dec_lt m g.at)
        where
          at : Dec (g.at < m) → Dec (m < g.at) → NoLater (g.at ∷ g.here.0) (m ∷ q)
          at (yes l) d = inl l
          at (no l) (yes k) = absurd (g.not_before m (omega arith) k (w.0, w.2) q w.3)
          at (no l) (no k) =
              let e : g.at ≡ m = omega arith in
              inr (e, g.here.3.lowest q (subst (λ (v : ℕ). Way T middle z n v q) (sym e) w.3))

  ended : (a : ℕ) (t : Bool) → Tests t (a ≡ z) → Found (LowestWay T middle z 0 a) (NoWay T middle z 0 a) (cond t (some []) none)
  ended a true t = record { way = t.yes refl; lowest = λ q w. tt }
  ended a false t = no_way
    where
      no_way : NoWay T middle z 0 a
      no_way [] w = never (t.back w)
      no_way (m ∷ q) w = w

  pub way_found : (n a : ℕ) → Found (LowestWay T middle z n a) (NoWay T middle z n a) (way_of T middle z n a)
  way_found zero a = ended a (eqb a z) (tests_eq a z)
  way_found (suc n) a =
      stepped n a (way_of T middle z (suc n) a)
      (first_found (StepTo n a) (NoStep n a) (λ m. cond ((joined T a m && may_stand middle n m) && on_level T middle z n m) (before m (way_of T middle z n m)) none)
      (λ m. tried n a m ((joined T a m && may_stand middle n m) && on_level T middle z n m) (way_of T middle z n m)
      (tests_and (tests_and (tests_joined T a m) (tests_stand middle n m)) (tests_level T middle z n m)) (way_found n m)) (nodes T) 0)

module _ (T : Topology) (middle a z : ℕ) where
  -- the shortest way between different nodes has n links
  pub record Nearest (n : ℕ) : Type 0 where
    pub apart : a ≡ z → ⊥
    pub some : 1 ≤ n
    pub way : HasWay T middle z n a
    pub shortest : (j : ℕ) → j < n → NoWay T middle z j a

  not_none : (a ≡ z → ⊥) → (n : ℕ) (q : List ℕ) → Way T middle z n a q → 1 ≤ n
  not_none f zero [] w = absurd (f w)
  not_none f zero (m ∷ q) w = absurd w
  not_none f (suc n) q w = omega arith

  pub links_found : Found Nearest (NoRoute T middle a z) (links_of T middle a z)
  links_found = go (eqb a z) (tests_eq a z)
    where
      on : (a ≡ z → ⊥) → (o : Option ℕ)
          → Found (Least (λ (n : ℕ). HasWay T middle z n a) 0 (0 + nodes T)) ((j : ℕ) → 0 ≤ j → j < 0 + nodes T → HasWay T middle z j a → ⊥) o
          → Found Nearest (NoRoute T middle a z) o
      on f none g = none_under T middle a z (λ j l q w. g j (omega arith) (omega arith) (q, w))
      on f (some n) g = record {
        apart = f;
        some = not_none f n g.holds.0 g.holds.1;
        way = g.holds;
        shortest = λ j l q w. g.none_before j (omega arith) l (q, w);
      }

      go : (t : Bool) → Tests t (a ≡ z) → Found Nearest (NoRoute T middle a z) (cond t none (least_from (nodes T) 0 (λ (n : ℕ). on_level T middle z n a)))
      go true t = no_round T middle a z (t.yes refl)
      go false t =
          on (λ e. never (t.back e)) (least_from (nodes T) 0 (λ (n : ℕ). on_level T middle z n a))
          (least_found (λ n. HasWay T middle z n a) (λ n. on_level T middle z n a) (λ n. tests_level T middle z n a) (nodes T) 0)

  pub links_some : (n : ℕ) → Nearest n → NoRoute T middle a z → ⊥
  links_some n g f = f (a ∷ g.way.0) (way_path T middle z n a g.way.0 g.some g.way.1 g.shortest)

  -- the planner's route, or that all are too far or there is none
  pub route_found : Found (Route T middle a z) (TooFar T middle a z ⊎ NoRoute T middle a z) (route_of T middle a z)
  route_found = go (links_of T middle a z) links_found
    where
      at : (n : ℕ) → Nearest n → n ≤ most_route_hops → (o : Option (List ℕ)) → Found (LowestWay T middle z n a) (NoWay T middle z n a) o
          → Found (Route T middle a z) (TooFar T middle a z ⊎ NoRoute T middle a z) (before a o)
      at n g l none f = absurd (f g.way.0 g.way.1)
      at n g l (some p) f = planned T middle a z g.apart most_route_hops n p g.some l f (λ j k. g.shortest j)

      on : (n : ℕ) → Nearest n → (t : Bool) → Tests t (n ≤ most_route_hops)
          → Found (Route T middle a z) (TooFar T middle a z ⊎ NoRoute T middle a z) (cond t (before a (way_of T middle z n a)) none)
      on n g true t = at n g (t.yes refl) (way_of T middle z n a) (way_found T middle z n a)
      on n g false t = inl (too_far T middle a z n g.way.0 (lt_of_not-le (λ l. never (t.back l))) g.way.1 g.shortest)

      go : (o : Option ℕ) → Found Nearest (NoRoute T middle a z) o
          → Found (Route T middle a z) (TooFar T middle a z ⊎ NoRoute T middle a z)
          (and_then o (λ (n : ℕ). cond (leb n most_route_hops) (before a (way_of T middle z n a)) none))
      go none g = inr g
      go (some n) g = on n g (leb n most_route_hops) (tests_le n most_route_hops)

  pub route_only : {p : List ℕ} → Route T middle a z p → TooFar T middle a z ⊎ NoRoute T middle a z → ⊥
  route_only r (inl f) = route_near r f
  route_only r (inr n) = route_some r n
