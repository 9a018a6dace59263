-- The search from the destination, level by level, until the source is next.
use Rattle.std.specs.Prelude.{Err}
use mathlib.Core.Path.{◌≡◌, refl, sym, subst}
use mathlib.Core.Bool.{Bool, true, false}
use mathlib.Core.Logic.{◌⊎◌, inl, inr, ⊎_elim}
use mathlib.Core.List.{List, ◌∷◌}
use Prim.Native.Nat.{ℕ, zero, suc, ◌+◌, ◌<◌, ◌≤◌}
use native.Mathlib.Nat.{eq-or-lt_of_le}
use native.Mathlib.Numerals.{add-one}
use native.Mathlib.Omega.{arith}
use lib.ListN.{length, get_or, set, length-set}
use lib.Seq.{get_or-set_same, get_or-set_other}
use Rattle.rules.specs.Words.{Has}
use Rattle.rules.specs.Topology.{Topology, Joined, most_route_hops}
use Rattle.rules.proofs.Ways.{Way, NoWay}
use Rattle.bitset.specs.Sets.{SetOf}
use Rattle.bitset.proofs.Bits.{has_or_not, zero_none}
use Rattle.bitset.proofs.Members.{some_member}
use Rattle.rules.specs.declared.refusals.Refusal.TheVariants.{NoRoute, TooFar}
use Rattle.routes.specs.Planner.{Asked}
use Rattle.routes.specs.Levels.{Neighbour, Distance, Stop, Levels, Front, Reached, Never, Searched, Under, Meets}
use Rattle.routes.proofs.Distances.{joined_back, first_step, stays, nearer, at_destination, grown, shrunk, no_farther}

-- the level at distance hops is reached, those before it are in sets, and the source is farther
pub record Searching (T : Topology) (middle source z hops last unmet : ℕ) (sets : List ℕ) : Type 0 where
  pub most : hops ≤ most_route_hops
  pub size : length sets ≡ most_route_hops
  pub levels : Levels T middle z hops sets
  pub front : Front T middle source z hops last unmet

levels_more : (T : Topology) (middle z n last : ℕ) (sets : List ℕ) → n < length sets → Levels T middle z n sets → SetOf (Stop T middle z n) last
    → Levels T middle z (n + 1) (set sets n last)
levels_more T middle z n last sets h t r k l = pick (eq-or-lt_of_le (below k l))
  where
    below : (k : ℕ) → k < n + 1 → k ≤ n
    below k l = omega arith

    pick : (k ≡ n) ⊎ (k < n) → SetOf (Stop T middle z k) (get_or (set sets n last) k 0)
    pick (inl e) = rw (e, get_or-set_same sets n last 0 h) r
    pick (inr l) = rw (get_or-set_other sets n k last 0 (λ (e : k ≡ n). omega arith)) (t k l)

module _ (T : Topology) (middle source z : ℕ) (asked : Asked T source z) where
  pub front_start : {first unmet : ℕ} → SetOf (λ (k : ℕ). Has 0 k ⊎ (k ≡ z)) first → SetOf (λ (a : ℕ). Has middle a × (Has first a → ⊥)) unmet
      → Front T middle source z 0 first unmet
  front_start {first} {unmet} s u = record {
    level = record { fits = s.fits; only = here; all = λ a d. s.all a (inr (stays T middle z a d.0.path d.0.way)) };
    ahead = record {
      fits = u.fits;
      only = λ a h. (u.only a h).0;
      farther = λ a h j l p w. (u.only a h).1 (s.all a (inr (stays_at j a p l w)));
      all = λ a h. at a h (has_or_not first a);
    };
    not_yet = λ j l p w. asked.apart (stays_at j source p l w);
  }
    where
      here : (a : ℕ) → Has first a → Stop T middle z 0 a
      here a h = ⊎_elim (λ i. absurd (zero_none a i)) (λ (e : a ≡ z). subst (Stop T middle z 0) (sym e) (at_destination T middle z)) (s.only a h)

      stays_at : (j a : ℕ) (p : List ℕ) → j ≤ 0 → Way T middle z j a p → a ≡ z
      stays_at zero a p l w = stays T middle z a p w
      stays_at (suc j) a p l w = absurd (omega arith)

      at : (a : ℕ) → Has middle a → Dec (Has first a) → Has unmet a ⊎ ((j : ℕ) × (j ≤ 0) × Distance T middle z j a)
      at a h (yes i) = inr (0, omega arith, (here a i).0)
      at a h (no i) = inl (u.all a (h, i))

  pub search_start : {first unmet : ℕ} {sets : List ℕ} → length sets ≡ most_route_hops → SetOf (λ (k : ℕ). Has 0 k ⊎ (k ≡ z)) first
      → SetOf (λ (a : ℕ). Has middle a × (Has first a → ⊥)) unmet → Searching T middle source z 0 first unmet sets
  search_start e s u = record { most = omega arith; size = e; levels = λ k h. absurd (omega arith); front = front_start s u }

  module _ {hops last unmet met : ℕ} (f : Front T middle source z hops last unmet)
      (m : SetOf (λ (a : ℕ). Has (get_or T.rows source 0) a × Has last a) met) where
    -- a neighbour of the source is in the level
    pub front_hit : (met ≡ 0 → ⊥) → Distance T middle z (suc hops) source
    front_hit n = record {
      path = a ∷ d.0.path;
      way = (l, (joined_back T asked.sound source a l).0, d.1, d.0.way);
      nearest = λ j k. f.not_yet j (omega arith);
    }
      where
        a : ℕ
        a = (some_member met m.fits n).0

        l : Joined T source a
        l = (m.only a (some_member met m.fits n).1).0

        d : Stop T middle z hops a
        d = f.level.only a (m.only a (some_member met m.fits n).1).1

    -- none is
    pub front_miss : met ≡ 0 → (j : ℕ) → j ≤ suc hops → NoWay T middle z j source
    front_miss e j h p w = at (eq-or-lt_of_le h)
      where
        at : (j ≡ suc hops) ⊎ (j < suc hops) → ⊥
        at (inr l) = f.not_yet j (omega arith) p w
        at (inl e') =
            let t = first_step T middle z hops source p (subst (λ (x : ℕ). Way T middle z x source p) e' w) in
            let d = nearer T middle z (λ j k. f.not_yet j (omega arith)) t.2 in
            zero_none t.0 (subst (λ (x : ℕ). Has x t.0) e (m.all t.0 (t.2.link, f.level.all t.0 d)))

    module _ {around next : ℕ} (n : SetOf (Neighbour T last) around) (d : SetOf (λ (a : ℕ). Has around a × Has unmet a) next) where
      pub front_more : {less : ℕ} → met ≡ 0 → SetOf (λ (a : ℕ). Has unmet a × (Has next a → ⊥)) less → Front T middle source z (suc hops) next less
      front_more e s = record {
        level = grown T middle z asked.sound f.level f.ahead n d;
        ahead = shrunk T middle z asked.sound f.level f.ahead n d s;
        not_yet = front_miss e;
      }

      -- no stop is at the next distance: the source is never reached
      pub front_empty : met ≡ 0 → next ≡ 0 → Never T middle source z
      front_empty e g zero p w = asked.apart (stays T middle z source p w)
      front_empty e g (suc j) p w =
          let t = first_step T middle z j source p w in
          let i = no_farther T middle z asked.sound f.level f.ahead n d g j t.0 t.1 t.2.on t.2.stands in
          front_miss e (suc i.0) (omega (arith, i.1)) (t.0 ∷ i.2.0.path) (t.2.link, t.2.known, i.2.1, i.2.0.way)

  module _ {hops last unmet met : ℕ} {sets : List ℕ} (s : Searching T middle source z hops last unmet sets)
      (m : SetOf (λ (a : ℕ). Has (get_or T.rows source 0) a × Has last a) met) (h : hops < most_route_hops) where
    levels : Levels T middle z (hops + 1) (set sets hops last)
    levels = levels_more T middle z hops last sets (omega (arith, s.size)) s.levels s.front.level

    pub search_hit : (met ≡ 0 → ⊥) → Reached T middle source z (hops + 1) (set sets hops last)
    search_hit n = record { some = omega arith; most = omega arith; there = rw add-one (front_hit s.front m n); levels = levels }

    pub search_more : {around next less : ℕ} → SetOf (Neighbour T last) around → SetOf (λ (a : ℕ). Has around a × Has unmet a) next → met ≡ 0
        → SetOf (λ (a : ℕ). Has unmet a × (Has next a → ⊥)) less → Searching T middle source z (hops + 1) next less (set sets hops last)
    search_more n d e l = record {
      most = omega arith;
      size = simp length-set s.size;
      levels = levels;
      front = rw add-one (front_more s.front m n d e l);
    }

-- after 15 levels without the source it is met farther on, or nowhere
module _ {T : Topology} {middle source z hops last unmet : ℕ} {sets : List ℕ} {r : Bool} (asked : Asked T source z)
    (s : Searching T middle source z hops last unmet sets) (m : Meets T source last unmet r) where
  under : Under T middle source z hops last unmet
  under = record { asked = asked; front = s.front }

  pub search_farther : most_route_hops ≤ hops → r ≡ true → Searched T middle source z sets (Err TooFar)
  search_farther h e = let b = m.later e middle z hops under in inr (refl, (b.0, omega (arith, b.1), b.2))

  pub search_nowhere : r ≡ false → Searched T middle source z sets (Err NoRoute)
  search_nowhere e = inl (refl, m.never e middle z hops under)
