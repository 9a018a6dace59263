-- A placing exists exactly if the greedy one does, and then the greedy one is the first.
use mathlib.Core.Path.{◌≡◌, refl, sym, ap, subst}
use mathlib.Core.Logic.{◌⊎◌, inl, inr, ⊎_elim, ◌↔◌}
use mathlib.Core.List.{List, [], ◌∷◌}
use Prim.Native.Nat.{ℕ, zero, suc, ◌+◌, ◌*◌, ◌-◌, ◌<◌, ◌≤◌}
use native.Mathlib.Omega.{arith}
use native.Mathlib.Nat.{eq-or-lt_of_le, add-zero}
use native.Mathlib.Decide.{dec_lt}
use lib.ListN.{length, get_or}
use Rattle.rules.specs.Words.{◌∈◌, Pairwise, NoLater}
use Rattle.rules.specs.Topology.{Hop, hop_count, hop_at}
use Rattle.rules.specs.Book.{Book}
use Rattle.rules.specs.Placing.{Free, Placing, FirstPlacing}

-- THE LEAST
pub record Least (F : ℕ → Type 0) (lo hi o : ℕ) : Type 0 where
  pub above : lo ≤ o
  pub below : o < hi
  pub holds : F o
  pub none_before : (k : ℕ) → lo ≤ k → k < o → F k → ⊥

-- offsets for n hops from the hop i on, each free for its hop, below B, from lo on and rising
abbrev pub Places : (ℕ → ℕ → Type 0) → ℕ → ℕ → ℕ → ℕ → List ℕ → Type 0
Places F B zero i lo [] = Unit {0}
Places F B zero i lo (o ∷ os) = ⊥
Places F B (suc n) i lo [] = ⊥
Places F B (suc n) i lo (o ∷ os) = (lo ≤ o) × (o < B) × F i o × Places F B n (suc i) (suc o) os

pub record FirstPlaces (F : ℕ → ℕ → Type 0) (B n i lo : ℕ) (os : List ℕ) : Type 0 where
  pub places : Places F B n i lo os
  pub first : (ps : List ℕ) → Places F B n i lo ps → NoLater os ps

abbrev pub NoPlaces : (ℕ → ℕ → Type 0) → ℕ → ℕ → ℕ → ℕ → Type 0
NoPlaces F B n i lo = (ps : List ℕ) → Places F B n i lo ps → ⊥

module _ (F : ℕ → ℕ → Type 0) (B : ℕ) where
  pub earlier : (n i lo hi : ℕ) (os : List ℕ) → lo ≤ hi → Places F B n i hi os → Places F B n i lo os
  earlier zero i lo hi [] h p = tt
  earlier zero i lo hi (o ∷ os) h p = absurd p
  earlier (suc n) i lo hi [] h p = absurd p
  earlier (suc n) i lo hi (o ∷ os) h p = (omega (arith, p.0), p.1, p.2, p.3)

  under : {i lo o : ℕ} → Least (F i) lo B o → (k : ℕ) → lo ≤ k → F i k → (o ≡ k) ⊎ (o < k)
  under {o = o} l k h f = go (dec_lt k o)
    where
      go : Dec (k < o) → (o ≡ k) ⊎ (o < k)
      go (yes m) = absurd (l.none_before k h m f)
      go (no m) = eq-or-lt_of_le (omega arith)

  pub none_from : (n i lo : ℕ) → ((k : ℕ) → lo ≤ k → k < B → F i k → ⊥) → NoPlaces F B (suc n) i lo
  none_from n i lo s [] p = absurd p
  none_from n i lo s (o ∷ os) p = s o p.0 p.1 p.2

  pub none_behind : (n i lo o : ℕ) → Least (F i) lo B o → NoPlaces F B n (suc i) (suc o) → NoPlaces F B (suc n) i lo
  none_behind n i lo o l a [] p = absurd p
  none_behind n i lo o l a (q ∷ qs) p =
      a qs (earlier n (suc i) (suc o) (suc q) qs (⊎_elim (λ (e : o ≡ q). omega arith) (λ (m : o < q). omega arith) (under l q p.0 p.2)) p.3)

  pub first_behind : (n i lo o : ℕ) (os : List ℕ) → Least (F i) lo B o → FirstPlaces F B n (suc i) (suc o) os → FirstPlaces F B (suc n) i lo (o ∷ os)
  first_behind n i lo o os l a = record { places = (l.above, l.below, l.holds, a.places); first = low }
    where
      low : (ps : List ℕ) → Places F B (suc n) i lo ps → NoLater (o ∷ os) ps
      low [] p = absurd p
      low (q ∷ qs) p =
          ⊎_elim (λ (e : o ≡ q). inr (e, a.first qs (earlier n (suc i) (suc o) (suc q) qs (omega arith) p.3))) (λ (m : o < q). inl m) (under l q p.0 p.2)

  -- each hop of n, from the hop i on, at the least free offset after the one before
  abbrev pub Greedy : ℕ → ℕ → ℕ → List ℕ → Type 0
  Greedy zero i lo [] = Unit {0}
  Greedy zero i lo (o ∷ os) = ⊥
  Greedy (suc n) i lo [] = ⊥
  Greedy (suc n) i lo (o ∷ os) = Least (F i) lo B o × Greedy n (suc i) (suc o) os

  -- the greedy placing is the first
  pub greedy_first : (n i lo : ℕ) (os : List ℕ) → Greedy n i lo os → FirstPlaces F B n i lo os
  greedy_first zero i lo [] g = record { places = tt; first = λ ps p. tt }
  greedy_first zero i lo (o ∷ os) g = absurd g
  greedy_first (suc n) i lo [] g = absurd g
  greedy_first (suc n) i lo (o ∷ os) g = first_behind n i lo o os g.0 (greedy_first n (suc i) (suc o) os g.1)

  module _ (test : (i o : ℕ) → Dec (F i o)) where
    -- a free offset from lo on leads to the least one
    least : (i lo k o : ℕ) → lo + k ≡ o → o < B → F i o → (m : ℕ) × Least (F i) lo B m × (m ≤ o)
    least i lo zero o e l f = (o, record { above = omega arith; below = l; holds = f; none_before = λ j a b. absurd (omega arith) }, omega arith)
    least i lo (suc k) o e l f = go (test i lo) (least i (suc lo) k o (omega arith) l f)
      where
        go : Dec (F i lo) → ((m : ℕ) × Least (F i) (suc lo) B m × (m ≤ o)) → (m : ℕ) × Least (F i) lo B m × (m ≤ o)
        go (yes h) r = (lo, record { above = omega arith; below = omega arith; holds = h; none_before = λ j a b. absurd (omega arith) }, omega arith)
        go (no h) r = (
          r.0,
          record {
            above = omega (arith, r.1.above);
            below = r.1.below;
            holds = r.1.holds;
            none_before = λ j a b q. ⊎_elim (λ (e : lo ≡ j). h (subst (F i) (sym e) q)) (λ (m : lo < j). r.1.none_before j m b q) (eq-or-lt_of_le a);
          },
          r.2,
        )

    -- where there is a placing, there is the greedy one
    pub greedy_exists : (n i lo : ℕ) (ps : List ℕ) → Places F B n i lo ps → (os : List ℕ) × Greedy n i lo os
    greedy_exists zero i lo [] p = ([], tt)
    greedy_exists zero i lo (q ∷ qs) p = absurd p
    greedy_exists (suc n) i lo [] p = absurd p
    greedy_exists (suc n) i lo (q ∷ qs) p =
        let m = least i lo (q - lo) q (omega (arith, p.0)) p.1 p.2 in
        let r = greedy_exists n (suc i) (suc m.0) qs (earlier n (suc i) (suc m.0) (suc q) qs (omega (arith, m.2)) p.3) in
        (m.0 ∷ r.0, (m.1, r.1))

-- in the rules' terms: a rising list of as many offsets, below B, each free for its hop
module _ (F : ℕ → ℕ → Type 0) (B : ℕ) where
  pub record Listed (n i lo : ℕ) (os : List ℕ) : Type 0 where
    pub count : length os ≡ n
    pub rising : Pairwise ◌<◌ os
    pub above : (o : ℕ) → o ∈ os → lo ≤ o
    pub within : (o : ℕ) → o ∈ os → o < B
    pub free : (j : ℕ) → j < n → F (i + j) (get_or os j 0)

  pub to_places : (n i lo : ℕ) (os : List ℕ) → Listed n i lo os → Places F B n i lo os
  to_places zero i lo [] w = tt
  to_places zero i lo (o ∷ os) w = absurd (omega (arith, w.count))
  to_places (suc n) i lo [] w = absurd (omega (arith, w.count))
  to_places (suc n) i lo (o ∷ os) w =
      (w.above o (inl refl), w.within o (inl refl), subst (λ (k : ℕ). F k o) (add-zero i) (w.free 0 (omega arith)), to_places n (suc i) (suc o) os rest)
    where
      rest : Listed n (suc i) (suc o) os
      rest = record {
        count = omega (arith, w.count);
        rising = w.rising.1;
        above = w.rising.0;
        within = λ p m. w.within p (inr m);
        free = λ j l. subst (λ (k : ℕ). F k (get_or os j 0)) (omega arith) (w.free (suc j) (omega arith));
      }

  pub of_places : (n i lo : ℕ) (os : List ℕ) → Places F B n i lo os → Listed n i lo os
  of_places zero i lo [] p =
      record { count = refl; rising = tt; above = λ o m. absurd m; within = λ o m. absurd m; free = λ j l. absurd (omega arith) }
  of_places zero i lo (o ∷ os) p = absurd p
  of_places (suc n) i lo [] p = absurd p
  of_places (suc n) i lo (o ∷ os) p = whole (of_places n (suc i) (suc o) os p.3)
    where
      whole : Listed n (suc i) (suc o) os → Listed (suc n) i lo (o ∷ os)
      whole w = record {
        count = ap suc w.count;
        rising = (w.above, w.rising);
        above = λ q m. ⊎_elim (λ (e : q ≡ o). omega (arith, p.0)) (λ (k : q ∈ os). omega (arith, p.0, w.above q k)) m;
        within = λ q m. ⊎_elim (λ (e : q ≡ o). omega (arith, p.1)) (λ (k : q ∈ os). w.within q k) m;
        free = at;
      }
        where
          at : (j : ℕ) → j < suc n → F (i + j) (get_or (o ∷ os) j 0)
          at zero l = subst (λ (k : ℕ). F k o) (sym (add-zero i)) p.2
          at (suc j) l = subst (λ (k : ℕ). F k (get_or os j 0)) (omega arith) (w.free j (omega arith))

module _ (b : Book) (K : ℕ) (route : List ℕ) where
  abbrev pub FreeAt : ℕ → ℕ → Type 0
  FreeAt i o = Free b K (hop_at route i) o

  abbrev pub bound : ℕ
  bound = K * b.site.plan.slots

  pub placing_places : (os : List ℕ) → Placing b K route os → Places FreeAt bound (hop_count route) 0 0 os
  placing_places os p =
      to_places FreeAt bound (hop_count route) 0 0 os record {
        count = p.offsets_hold.count;
        rising = p.offsets_hold.rising;
        above = λ o m. omega arith;
        within = p.offsets_hold.within;
        free = λ j l. subst (λ (k : ℕ). FreeAt k (get_or os j 0)) (omega arith) (p.free j l);
      }

  pub places_placing : (os : List ℕ) → Places FreeAt bound (hop_count route) 0 0 os → Placing b K route os
  places_placing os p =
      let w = of_places FreeAt bound (hop_count route) 0 0 os p in
      record {
        offsets_hold = record { count = w.count; rising = w.rising; within = w.within };
        free = λ j l. subst (λ (k : ℕ). FreeAt k (get_or os j 0)) (omega arith) (w.free j l);
      }

  -- a placing of the route exists exactly if the greedy one does, and then the greedy one is the first
  abbrev pub GreedyPlacing : List ℕ → Type 0
  GreedyPlacing os = Greedy FreeAt bound (hop_count route) 0 0 os

  pub greedy_is_first : (os : List ℕ) → GreedyPlacing os → FirstPlacing b K route os
  greedy_is_first os g =
      let f = greedy_first FreeAt bound (hop_count route) 0 0 os g in
      record { placing = places_placing os f.places; first = λ ps p. f.first ps (placing_places ps p) }

  pub placing_greedy : ((h : Hop) (o : ℕ) → Dec (Free b K h o)) → ((os : List ℕ) × Placing b K route os) ↔ ((os : List ℕ) × GreedyPlacing os)
  placing_greedy test = (
    λ p. greedy_exists FreeAt bound (λ i o. test (hop_at route i) o) (hop_count route) 0 0 p.0 (placing_places p.0 p.1),
    λ g. (g.0, (greedy_is_first g.0 g.1).placing),
  )
