-- Whether there is a way of so many links is decided by trying each node in turn.
use mathlib.Core.Path.{◌≡◌, sym, subst}
use mathlib.Core.Logic.{◌⊎◌, inl, inr}
use mathlib.Core.List.{List, [], ◌∷◌}
use Prim.Native.Nat.{ℕ, zero, suc, ◌+◌, ◌<◌}
use native.Mathlib.Decide.{ℕ_discrete, dec_lt}
use native.Mathlib.Omega.{arith}
use borrow.Author.Count.{below_more}
use lib.ListN.{get_or}
use Rattle.rules.specs.Words.{bit, NoLater}
use Rattle.rules.specs.Topology.{Topology, nodes, Joined}
use Rattle.rules.proofs.Ways.{MayStand, Way, LowestWay, NoWay}

may_stand : (middle n a : ℕ) → Dec (MayStand middle n a)
may_stand middle zero a = yes tt
may_stand middle (suc n) a = ℕ_discrete (bit middle a) 1

module _ (T : Topology) (middle z : ℕ) where
  -- the lowest way, or that there is none
  abbrev pub Decided : ℕ → ℕ → Type 0
  Decided n a = ((p : List ℕ) × LowestWay T middle z n a p) ⊎ NoWay T middle z n a

  -- none has m as its first step
  abbrev NoStep : ℕ → ℕ → ℕ → Type 0
  NoStep n a m = Joined T a m → MayStand middle n m → NoWay T middle z n m

  module _ (n a : ℕ) (further : (m : ℕ) → Decided n m) where
    first_lowest : (m : ℕ) (p : List ℕ) → m < nodes T → ((x : ℕ) → x < m → NoStep n a x) → Joined T a m → MayStand middle n m → LowestWay T middle z n m p
        → LowestWay T middle z (suc n) a (m ∷ p)
    first_lowest m p k f l s g = record { way = (l, k, s, g.way); lowest = no_later }
      where
        no_later : (q : List ℕ) → Way T middle z (suc n) a q → NoLater (m ∷ p) q
        no_later [] w = absurd w
        no_later (x ∷ q) w = at (dec_lt m x) (dec_lt x m)
          where
            at : Dec (m < x) → Dec (x < m) → NoLater (m ∷ p) (x ∷ q)
            at (yes h) b = inl h
            at (no h) (yes b) = absurd (f x b w.0 w.2 q w.3)
            at (no h) (no b) =
                let e : m ≡ x = omega arith in
                inr (e, g.lowest q (subst (λ (v : ℕ). Way T middle z n v q) (sym e) w.3))

    from : (count m : ℕ) → m + count ≡ nodes T → ((x : ℕ) → x < m → NoStep n a x) → Decided (suc n) a
    from zero m e f = inr none
      where
        none : NoWay T middle z (suc n) a
        none [] w = w
        none (x ∷ q) w = f x (omega (arith, w.1)) w.0 w.2 q w.3
    from (suc count) m e f =
        try (ℕ_discrete (bit (get_or T.rows a 0) m) 1) (may_stand middle n m) (further m) (λ g. from count (m + 1) (omega arith) (below_more (NoStep n a) m f g))
      where
        try : Dec (Joined T a m) → Dec (MayStand middle n m) → Decided n m → (NoStep n a m → Decided (suc n) a) → Decided (suc n) a
        try (yes l) (yes s) (inl g) next = inl (m ∷ g.0, first_lowest m g.0 (omega arith) f l s g.1)
        try (yes l) (yes s) (inr g) next = next (λ l s. g)
        try (yes l) (no s) g next = next (λ l h. absurd (s h))
        try (no l) s g next = next (λ h s. absurd (l h))

  pub decide_way : (n a : ℕ) → Decided n a
  decide_way zero a = at (ℕ_discrete a z)
    where
      none : (a ≡ z → ⊥) → NoWay T middle z 0 a
      none f [] w = f w
      none f (m ∷ q) w = w

      at : Dec (a ≡ z) → Decided 0 a
      at (yes e) = inl ([], record { way = e; lowest = λ q w. tt })
      at (no f) = inr (none f)
  decide_way (suc n) a = from n a (λ m. decide_way n m) (nodes T) 0 (omega arith) (λ x l. absurd (omega arith))

  -- the shortest of under k links, or that there is none
  pub record Shortest (k a : ℕ) : Type 0 where
    pub links : ℕ
    pub under : links < k
    pub path : List ℕ
    pub lowest : LowestWay T middle z links a path
    pub nearest : (j : ℕ) → j < links → NoWay T middle z j a

  pub shortest : (k a : ℕ) → Shortest k a ⊎ ((j : ℕ) → j < k → NoWay T middle z j a)
  shortest zero a = inr (λ j l. absurd (omega arith))
  shortest (suc k) a = at (shortest k a) (decide_way k a)
    where
      at : Shortest k a ⊎ ((j : ℕ) → j < k → NoWay T middle z j a) → Decided k a → Shortest (suc k) a ⊎ ((j : ℕ) → j < suc k → NoWay T middle z j a)
      at (inl s) d = inl record { links = s.links; under = omega (arith, s.under); path = s.path; lowest = s.lowest; nearest = s.nearest }
      at (inr f) (inl g) = inl record { links = k; under = omega arith; path = g.0; lowest = g.1; nearest = f }
      at (inr f) (inr g) = inr (λ j l. below_more (λ (j : ℕ). NoWay T middle z j a) k f g j (omega arith))
