-- The planner's route is the lowest of the shortest ways.
use mathlib.Core.Path.{◌≡◌, refl, sym, ap, ◌∙◌, subst}
use mathlib.Core.Logic.{inl, inr, ⊎_elim}
use mathlib.Core.List.{List, [], ◌∷◌}
use Prim.Native.Nat.{ℕ, zero, suc, ◌-◌, ◌<◌, ◌≤◌}
use native.Mathlib.Omega.{arith}
use native.Mathlib.Nat.{lt_of_not-le}
use native.Mathlib.Decide.{dec_lt}
use lib.ListN.{length, get_or, take, get_or-eq_default}
use Rattle.rules.specs.Words.{Has, ◌∈◌, Distinct, NoLater}
use Rattle.rules.specs.Topology.{Topology, nodes, Joined, hop_count, LinkedInTurn, PathBetween, PathWithin, Best, most_route_hops, NoRoute, TooFar}
use Rattle.rules.proofs.Lists.{pair_at}
use Rattle.rules.proofs.Sets.{zero_none}

-- a may stand n links before the destination: there itself, or in the set
abbrev pub MayStand : ℕ → ℕ → ℕ → Type 0
MayStand middle zero a = Unit {0}
MayStand middle (suc n) a = Has middle a

-- the nodes after a, by n links to the destination, each before the last in the set
abbrev pub Way : Topology → ℕ → ℕ → ℕ → ℕ → List ℕ → Type 0
Way T middle z zero a [] = a ≡ z
Way T middle z zero a (m ∷ p) = ⊥
Way T middle z (suc n) a [] = ⊥
Way T middle z (suc n) a (m ∷ p) = Joined T a m × (m < nodes T) × MayStand middle n m × Way T middle z n m p

pub record LowestWay (T : Topology) (middle z n a : ℕ) (p : List ℕ) : Type 0 where
  pub way : Way T middle z n a p
  pub lowest : (q : List ℕ) → Way T middle z n a q → NoLater p q

abbrev pub NoWay : Topology → ℕ → ℕ → ℕ → ℕ → Type 0
NoWay T middle z n a = (q : List ℕ) → Way T middle z n a q → ⊥

-- a node with a link is below N
pub joined_known : (T : Topology) (a b : ℕ) → Joined T a b → a < nodes T
joined_known T a b l = lt_of_not-le (λ h. zero_none b (subst (λ (x : ℕ). Has x b) (get_or-eq_default T.rows 0 h) l))

-- what may stand farther may stand nearer
pub stands_nearer : (middle j n a : ℕ) → j < n → MayStand middle n a → MayStand middle j a
stands_nearer middle zero n a l s = tt
stands_nearer middle (suc j) zero a l s = absurd (omega arith)
stands_nearer middle (suc j) (suc n) a l s = s

module _ (T : Topology) (middle z : ℕ) where
  -- A WAY IS A LIST OF LINKED NODES
  way_linked : (n a : ℕ) (p : List ℕ) → Way T middle z n a p → LinkedInTurn T (a ∷ p)
  way_linked zero a [] w = tt
  way_linked zero a (m ∷ p) w = absurd w
  way_linked (suc n) a [] w = absurd w
  way_linked (suc n) a (m ∷ p) w = (w.0, way_linked n m p w.3)

  pub way_length : (n a : ℕ) (p : List ℕ) → Way T middle z n a p → length p ≡ n
  way_length zero a [] w = refl
  way_length zero a (m ∷ p) w = absurd w
  way_length (suc n) a [] w = absurd w
  way_length (suc n) a (m ∷ p) w = ap suc (way_length n m p w.3)

  way_ends : (n a : ℕ) (p : List ℕ) → Way T middle z n a p → get_or (a ∷ p) (length p) 0 ≡ z
  way_ends zero a [] w = w
  way_ends zero a (m ∷ p) w = absurd w
  way_ends (suc n) a [] w = absurd w
  way_ends (suc n) a (m ∷ p) w = way_ends n m p w.3

  way_known : (n a : ℕ) (p : List ℕ) → Way T middle z n a p → (x : ℕ) → x ∈ p → x < nodes T
  way_known zero a [] w x h = absurd h
  way_known zero a (m ∷ p) w x h = absurd w
  way_known (suc n) a [] w x h = absurd w
  way_known (suc n) a (m ∷ p) w x (inl e) = subst (λ (v : ℕ). v < nodes T) (sym e) w.1
  way_known (suc n) a (m ∷ p) w x (inr h) = way_known n m p w.3 x h

  way_keeps : (k n a : ℕ) (p : List ℕ) → k < n → Way T middle z n a p → (x : ℕ) → x ∈ take k p → Has middle x
  way_keeps zero n a p l w x h = absurd h
  way_keeps (suc k) n a [] l w x h = absurd h
  way_keeps (suc k) zero a (m ∷ p) l w x h = absurd w
  way_keeps (suc k) (suc zero) a (m ∷ p) l w x h = absurd (omega arith)
  way_keeps (suc k) (suc (suc n)) a (m ∷ p) l w x (inl e) = subst (Has middle) (sym e) w.2
  way_keeps (suc k) (suc (suc n)) a (m ∷ p) l w x (inr h) = way_keeps k (suc n) m p (omega arith) w.3 x h

  linked_way : (k a : ℕ) (p : List ℕ) → length p ≤ suc k → LinkedInTurn T (a ∷ p) → ((x : ℕ) → x ∈ p → x < nodes T) → ((x : ℕ) → x ∈ take k p → Has middle x)
      → get_or (a ∷ p) (length p) 0 ≡ z → Way T middle z (length p) a p
  linked_way k a [] s l f g e = e
  linked_way k a (m ∷ []) s l f g e = (l.0, f m (inl refl), tt, e)
  linked_way zero a (m ∷ x ∷ p) s l f g e = absurd (omega arith)
  linked_way (suc k) a (m ∷ x ∷ p) s l f g e =
      (l.0, f m (inl refl), g m (inl refl), linked_way k m (x ∷ p) (omega arith) l.1 (λ y h. f y (inr h)) (λ y h. g y (inr h)) e)

  -- A SHORTEST WAY MEETS NO NODE TWICE
  fresh : (x N : ℕ) → ((j : ℕ) → j < N → NoWay T middle z j x) → (n a : ℕ) (p : List ℕ) → n ≤ N → Way T middle z n a p → (y : ℕ) → y ∈ p → x ≡ y → ⊥
  fresh x N f zero a [] l w y h e = h
  fresh x N f zero a (m ∷ p) l w y h e = w
  fresh x N f (suc n) a [] l w y h e = w
  fresh x N f (suc n) a (m ∷ p) l w y (inl h) e = f n l p (subst (λ (v : ℕ). Way T middle z n v p) (sym h ∙ sym e) w.3)
  fresh x N f (suc n) a (m ∷ p) l w y (inr h) e = fresh x N f n m p (omega arith) w.3 y h e

  -- a step of a shortest way is one link nearer
  pub step_nearer : (n a m : ℕ) → ((j : ℕ) → j < suc n → NoWay T middle z j a) → Joined T a m → m < nodes T → MayStand middle n m
      → (j : ℕ) → j < n → NoWay T middle z j m
  step_nearer n a m f l k s j h q v = f (suc j) (omega arith) (m ∷ q) (l, k, stands_nearer middle j n m h s, v)

  distinct : (n a : ℕ) (p : List ℕ) → Way T middle z n a p → ((j : ℕ) → j < n → NoWay T middle z j a) → Distinct (a ∷ p)
  distinct zero a [] w f = (λ y h. absurd h, tt)
  distinct zero a (m ∷ p) w f = absurd w
  distinct (suc n) a [] w f = absurd w
  distinct (suc n) a (m ∷ p) w f = (
    λ y h. fresh a (suc n) f (suc n) a (m ∷ p) (omega arith) w y h,
    distinct n m p w.3 (step_nearer n a m f w.0 w.1 w.2),
  )

  start_known : (n a : ℕ) (p : List ℕ) → 1 ≤ n → Way T middle z n a p → a < nodes T
  start_known zero a p l w = absurd (omega arith)
  start_known (suc n) a [] l w = absurd w
  start_known (suc n) a (m ∷ p) l w = joined_known T a m w.0

  -- a shortest way is a path
  pub way_path : (n a : ℕ) (p : List ℕ) → 1 ≤ n → Way T middle z n a p → ((j : ℕ) → j < n → NoWay T middle z j a) → PathBetween T middle a z (a ∷ p)
  way_path n a p some w f =
      let long : length p ≡ n = way_length n a p w in
      let e : hop_count (a ∷ p) ≡ length p = omega arith in
      record {
        path = record {
          some = omega arith;
          known = λ x h. ⊎_elim (λ (e : x ≡ a). subst (λ (v : ℕ). v < nodes T) (sym e) (start_known n a p some w)) (λ (m : x ∈ p). way_known n a p w x m) h;
          distinct = distinct n a p w f;
          linked = way_linked n a p w;
        };
        starts = refl;
        ends = ap (λ (n : ℕ). get_or (a ∷ p) n 0) e ∙ way_ends n a p w;
        keeps = way_keeps (hop_count (a ∷ p) - 1) n a p (omega arith) w;
      }

-- a path is a way
pub route_way : (T : Topology) (middle a z : ℕ) (q : List ℕ) → PathBetween T middle a z q → (rest : List ℕ) × (q ≡ a ∷ rest) × Way T middle z (hop_count q) a rest
route_way T middle a z [] g = absurd (omega (arith, g.path.some))
route_way T middle a z (s ∷ rest) g =
    let e : hop_count (s ∷ rest) ≡ length rest = omega arith in
    let w = linked_way T middle z (hop_count (s ∷ rest) - 1) s rest (omega arith) g.path.linked (λ x h. g.path.known x (inr h)) g.keeps
    (ap (λ (n : ℕ). get_or (s ∷ rest) n 0) (sym e) ∙ g.ends) in (
      rest,
      ap (λ (v : ℕ). v ∷ rest) g.starts,
      subst (λ (n : ℕ). Way T middle z n a rest) (sym e) (subst (λ (v : ℕ). Way T middle z (length rest) v rest) g.starts w),
    )

-- where there is no way there is no path
pub no_path : (T : Topology) (middle a z : ℕ) (q : List ℕ) → NoWay T middle z (hop_count q) a → PathBetween T middle a z q → ⊥
no_path T middle a z q f g = let w = route_way T middle a z q g in f w.0 w.2

-- where there is no way of under n links every path has n hops or more
pub path_long : (T : Topology) (middle a z n : ℕ) → ((j : ℕ) → j < n → NoWay T middle z j a) → (q : List ℕ) → PathBetween T middle a z q → n ≤ hop_count q
path_long T middle a z n f q g = go (dec_lt (hop_count q) n)
  where
    go : Dec (hop_count q < n) → n ≤ hop_count q
    go (yes l) = absurd (no_path T middle a z q (f (hop_count q) l) g)
    go (no l) = omega arith

module _ (T : Topology) (middle a z : ℕ) (apart : a ≡ z → ⊥) where
  -- the lowest of the shortest ways is the best path within any bound that it keeps
  module _ (bound n : ℕ) (p : List ℕ) (some : 1 ≤ n) (most : n ≤ bound) (g : LowestWay T middle z n a p) (f : (j : ℕ) → 1 ≤ j → j < n → NoWay T middle z j a) where
    long : length p ≡ n
    long = way_length T middle z n a p g.way

    none_shorter : (j : ℕ) → j < n → NoWay T middle z j a
    none_shorter zero l [] w = apart w
    none_shorter zero l (m ∷ q) w = w
    none_shorter (suc j) l q w = f (suc j) (omega arith) l q w

    shortest : (q : List ℕ) → PathWithin bound T middle a z q → hop_count (a ∷ p) ≤ hop_count q
    shortest q h = omega (arith, long, path_long T middle a z n none_shorter q h.between)

    first : (q : List ℕ) → PathWithin bound T middle a z q → hop_count q ≡ hop_count (a ∷ p) → NoLater (a ∷ p) q
    first q h e =
        let w = route_way T middle a z q h.between in
        let e' : hop_count q ≡ n = omega (arith, long) in
        subst (NoLater (a ∷ p)) (sym w.1) (inr (refl, g.lowest w.0 (subst (λ (n : ℕ). Way T middle z n a w.0) e' w.2)))

    pub planned : Best (PathWithin bound T middle a z) (a ∷ p)
    planned = record {
      is = record { between = way_path T middle z n a p some g.way none_shorter; most = omega (arith, long) };
      shortest = shortest;
      first = first;
    }

-- NO ROUTE OF AT MOST 15 HOPS

-- where there is no way there is no route
pub no_route : (T : Topology) (middle a z : ℕ) → ((n : ℕ) → NoWay T middle z n a) → NoRoute T middle a z
no_route T middle a z f q g = no_path T middle a z q (f (hop_count q)) g

-- where the shortest way has over 15 links every route is too far
pub too_far : (T : Topology) (middle a z n : ℕ) (p : List ℕ) → most_route_hops < n → Way T middle z n a p → ((j : ℕ) → j < n → NoWay T middle z j a) → TooFar T middle a z
too_far T middle a z n p l w f = record {
  some = (a ∷ p, way_path T middle z n a p (omega arith) w f);
  over = λ q g. omega (arith, path_long T middle a z n f q g);
}

-- no path leads from a node to itself
pub no_round : (T : Topology) (middle a z : ℕ) → a ≡ z → (p : List ℕ) → PathBetween T middle a z p → ⊥
no_round T middle a z e p g =
    pair_at (λ (x y : ℕ). x ≡ y → ⊥) p 0 (hop_count p) g.path.distinct g.path.some (omega (arith, g.path.some)) (g.starts ∙ e ∙ sym g.ends)
