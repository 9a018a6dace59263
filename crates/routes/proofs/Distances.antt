-- The stops at each distance from the destination: each level is grown from the one before.
use mathlib.Core.Path.{◌≡◌, refl, sym, subst}
use mathlib.Core.Logic.{◌⊎◌, inl, inr}
use mathlib.Core.List.{List, [], ◌∷◌}
use Prim.Native.Nat.{ℕ, zero, suc, ◌<◌, ◌≤◌}
use native.Mathlib.Nat.{eq-or-lt_of_le}
use native.Mathlib.Omega.{arith}
use lib.ListN.{get_or}
use Rattle.rules.specs.Words.{Has}
use Rattle.rules.specs.Topology.{Topology, nodes, Joined, SoundTopology}
use Rattle.rules.proofs.Ways.{MayStand, Way, NoWay, joined_known, stands_nearer, step_nearer}
use Rattle.bitset.specs.Sets.{SetOf}
use Rattle.bitset.proofs.Bits.{has_or_not, within, zero_none}
use Rattle.routes.specs.Levels.{Neighbour, Distance, Stop, Unmet}

-- the links of a sound topology lead to its nodes, and back
pub joined_back : (T : Topology) → SoundTopology T → (a b : ℕ) → Joined T a b → (b < nodes T) × Joined T b a
joined_back T sound a b l =
    let k : a < nodes T = joined_known T a b l in
    let m : b < nodes T = within (nodes T) (get_or T.rows a 0) b (sound.low a k) l in
    (m, sound.both_ways a b k m l)

-- the first step of a way of n + 1 links: to m, and on along q
pub record Step (T : Topology) (middle z n a m : ℕ) (q : List ℕ) : Type 0 where
  pub link : Joined T a m
  pub known : m < nodes T
  pub stands : MayStand middle n m
  pub on : Way T middle z n m q

module _ (T : Topology) (middle z : ℕ) where
  pub way_step : {n a m : ℕ} {q : List ℕ} → Way T middle z (suc n) a (m ∷ q) → Step T middle z n a m q
  way_step w = record { link = w.0; known = w.1; stands = w.2; on = w.3 }

  pub first_step : (n a : ℕ) (p : List ℕ) → Way T middle z (suc n) a p → (m : ℕ) × (q : List ℕ) × Step T middle z n a m q
  first_step n a [] w = absurd w
  first_step n a (m ∷ q) w = (m, q, way_step w)

  pub stays : (a : ℕ) (p : List ℕ) → Way T middle z 0 a p → a ≡ z
  stays a [] w = w
  stays a (m ∷ p) w = absurd w

  -- a step of a shortest way goes to a stop that is one link nearer
  pub nearer : {n a m : ℕ} {q : List ℕ} → ((j : ℕ) → j < suc n → NoWay T middle z j a) → Step T middle z n a m q → Stop T middle z n m
  nearer {n} {a} {m} {q} f s = (
    record { path = q; way = s.on; nearest = step_nearer T middle z n a m f s.link s.known s.stands },
    s.stands,
  )

  pub at_destination : Stop T middle z 0 z
  at_destination = (record { path = []; way = refl; nearest = λ j h. absurd (omega arith) }, tt)

  pub stop_known : (n a : ℕ) → z < nodes T → Stop T middle z n a → a < nodes T
  stop_known zero a k d = subst (λ (x : ℕ). x < nodes T) (sym (stays a d.0.path d.0.way)) k
  stop_known (suc n) a k d = let s = first_step n a d.0.path d.0.way in joined_known T a s.0 s.2.link

  in_set_stands : (n a : ℕ) → Has middle a → MayStand middle n a
  in_set_stands n a h = stands_nearer middle n (suc n) a (omega arith) h

  -- GROWING
  module _ (sound : SoundTopology T) {k last unmet around next : ℕ} (level : SetOf (Stop T middle z k) last) (u : Unmet T middle z k unmet)
      (n : SetOf (Neighbour T last) around) (d : SetOf (λ (a : ℕ). Has around a × Has unmet a) next) where
    pub grown : SetOf (Stop T middle z (suc k)) next
    grown = record {
      fits = d.fits;
      only = λ a h.
          let g = d.only a h in
          let m = n.only a g.0 in
          let e = level.only m.0 m.1 in
          let l = joined_back T sound m.0 a m.2 in (
            record {
              path = m.0 ∷ e.0.path;
              way = (l.1, joined_known T m.0 a m.2, e.1, e.0.way);
              nearest = λ j h. u.farther a g.1 j (omega arith);
            },
            u.only a g.1,
          );
      all = λ a e.
          let s = first_step k a e.0.path e.0.way in
          let m : Has last s.0 = level.all s.0 (nearer e.0.nearest s.2) in
          d.all a (n.all a (s.0, m, (joined_back T sound a s.0 s.2.link).1), not_met a e.0 (u.all a e.1));
    }
      where
        not_met : (a : ℕ) → Distance T middle z (suc k) a → Has unmet a ⊎ ((j : ℕ) × (j ≤ k) × Distance T middle z j a) → Has unmet a
        not_met a e (inl h) = h
        not_met a e (inr j) = absurd (e.nearest j.0 (omega (arith, j.1)) j.2.path j.2.way)

    -- one that is not met is in the next level if it has a way of one link more
    next_has : (a : ℕ) (p : List ℕ) → Has unmet a → Way T middle z (suc k) a p → Has next a
    next_has a p h w = grown.all a (record { path = p; way = w; nearest = λ j l. u.farther a h j (omega arith) }, u.only a h)

    pub shrunk : {less : ℕ} → SetOf (λ (a : ℕ). Has unmet a × (Has next a → ⊥)) less → Unmet T middle z (suc k) less
    shrunk {less} s = record {
      fits = s.fits;
      only = λ a h. u.only a (s.only a h).0;
      farther = λ a h j l p w. far a h j p w (eq-or-lt_of_le l);
      all = λ a i. met a (has_or_not next a) (u.all a i);
    }
      where
        far : (a : ℕ) → Has less a → (j : ℕ) (p : List ℕ) → Way T middle z j a p → (j ≡ suc k) ⊎ (j < suc k) → ⊥
        far a h j p w (inl e) = (s.only a h).1 (next_has a p (s.only a h).0 (subst (λ (x : ℕ). Way T middle z x a p) e w))
        far a h j p w (inr l) = u.farther a (s.only a h).0 j (omega arith) p w

        met : (a : ℕ) → Dec (Has next a) → Has unmet a ⊎ ((j : ℕ) × (j ≤ k) × Distance T middle z j a) → Has less a ⊎ ((j : ℕ) × (j ≤ suc k) × Distance T middle z j a)
        met a (yes i) h = inr (suc k, omega arith, (grown.only a i).0)
        met a (no i) (inl h) = inl (s.all a (h, i))
        met a (no i) (inr j) = inr (j.0, omega (arith, j.1), j.2)

    -- where no stop is at the next distance, none is farther
    pub no_farther : next ≡ 0 → (j a : ℕ) (p : List ℕ) → Way T middle z j a p → MayStand middle j a → (i : ℕ) × (i ≤ k) × Stop T middle z i a
    no_farther e zero a p w s = (0, omega arith, (record { path = p; way = w; nearest = λ j h. absurd (omega arith) }, tt))
    no_farther e (suc j) a p w s =
        let t = first_step j a p w in
        at t.0 t.2.link t.2.known (no_farther e j t.0 t.1 t.2.on t.2.stands) (u.all a s)
      where
        empty : (i m : ℕ) → Joined T a m → m < nodes T → Stop T middle z i m → Has unmet a → (i ≡ k) ⊎ (i < k) → ⊥
        empty i m l b d h (inl f) =
            zero_none a (subst (λ (x : ℕ). Has x a) e
            (next_has a (m ∷ d.0.path) h (subst (λ (x : ℕ). Way T middle z (suc x) a (m ∷ d.0.path)) f (l, b, d.1, d.0.way))))
        empty i m l b d h (inr f) = u.farther a h (suc i) (omega arith) (m ∷ d.0.path) (l, b, d.1, d.0.way)

        at : (m : ℕ) → Joined T a m → m < nodes T → (i : ℕ) × (i ≤ k) × Stop T middle z i m → Has unmet a ⊎ ((j : ℕ) × (j ≤ k) × Distance T middle z j a)
            → (i : ℕ) × (i ≤ k) × Stop T middle z i a
        at m l b i (inr j) = (j.0, j.1, (j.2, in_set_stands j.0 a s))
        at m l b i (inl h) = absurd (empty i.0 m l b i.2 h (eq-or-lt_of_le i.1))
