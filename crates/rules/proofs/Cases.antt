-- Of a route, routes that are all too far and no route exactly one holds.
use mathlib.Core.Path.{◌≡◌, refl, sym, ◌∙◌, subst}
use mathlib.Core.Logic.{◌⊎◌, inl, inr}
use mathlib.Core.List.{List, [], ◌∷◌}
use Prim.Native.Nat.{ℕ, zero, suc, ◌<◌, ◌≤◌}
use native.Mathlib.Decide.{ℕ_discrete, dec_lt}
use native.Mathlib.Omega.{arith}
use lib.ListN.{length}
use Rattle.rules.specs.Words.{◌∈◌, Distinct, With}
use Rattle.rules.specs.Words.With.{here, there}
use Rattle.rules.specs.Topology.{Topology, nodes, hop_count, Path, most_route_hops, Route, NoRoute, TooFar}
use Rattle.rules.proofs.Lists.{with_this, with_other, with_less}
use Rattle.rules.proofs.Ways.{Way, NoWay, no_path, planned, too_far, no_round}
use Rattle.rules.proofs.Deciding.{Shortest, shortest}

-- AT MOST ONE
module _ {T : Topology} {middle a z : ℕ} where
  pub route_near : {p : List ℕ} → Route T middle a z p → TooFar T middle a z → ⊥
  route_near {p} r f = omega (arith, r.is.most, f.over p r.is.between)

  pub route_some : {p : List ℕ} → Route T middle a z p → NoRoute T middle a z → ⊥
  route_some {p} r n = n p r.is.between

  pub far_some : TooFar T middle a z → NoRoute T middle a z → ⊥
  far_some f n = n f.some.0 f.some.1

-- A PATH HAS AT MOST N NODES
is_in : (x : ℕ) (xs : List ℕ) → Dec (x ∈ xs)
is_in x [] = no (λ h. h)
is_in x (y ∷ xs) = at (ℕ_discrete x y) (is_in x xs)
  where
    at : Dec (x ≡ y) → Dec (x ∈ xs) → Dec (x ∈ (y ∷ xs))
    at (yes e) d = yes (inl e)
    at (no e) (yes h) = yes (inr h)
    at (no e) (no h) = no neither
      where
        neither : x ∈ (y ∷ xs) → ⊥
        neither (inl i) = e i
        neither (inr i) = h i

take_out : (x : ℕ) (xs : List ℕ) → x ∈ xs → (ys : List ℕ) × With x ys xs
take_out x [] h = absurd h
take_out x (y ∷ xs) (inl e) = (xs, subst (λ (v : ℕ). With v xs (y ∷ xs)) (sym e) here)
take_out x (y ∷ xs) (inr h) = let t = take_out x xs h in (y ∷ t.0, there t.1)

one_longer : {x : ℕ} {ys zs : List ℕ} → With x ys zs → length zs ≡ suc (length ys)
one_longer here = refl
one_longer (there w) = let e = one_longer w in omega arith

others : {x : ℕ} {ys zs : List ℕ} → With x ys zs → Distinct zs → (y : ℕ) → y ∈ ys → y ≡ x → ⊥
others here d y h e = d.0 y h (sym e)
others {x} (there w) d y (inl q) e = d.0 x (with_this w) (sym q ∙ e)
others (there w) d y (inr h) e = others w d.1 y h e

few : (N : ℕ) (xs : List ℕ) → Distinct xs → ((x : ℕ) → x ∈ xs → x < N) → length xs ≤ N
few zero [] d k = omega arith
few zero (x ∷ xs) d k = absurd (omega (arith, k x (inl refl)))
few (suc N) xs d k = at (is_in N xs) (few N)
  where
    apart : (y : ℕ) → y < suc N → (y ≡ N → ⊥) → y < N
    apart y l f = omega arith

    at : Dec (N ∈ xs) → ((ys : List ℕ) → Distinct ys → ((x : ℕ) → x ∈ ys → x < N) → length ys ≤ N) → length xs ≤ suc N
    at (yes h) fewer =
        let t = take_out N xs h in
        let d' = with_less (λ (x y : ℕ). x ≡ y → ⊥) t.1 d in
        let l = fewer t.0 d' (λ y i. apart y (k y (with_other y t.1 i)) (others t.1 d y i)) in
        omega (arith, one_longer t.1)
    at (no h) fewer = let l = fewer xs d (λ x i. apart x (k x i) (λ e. h (subst (λ (v : ℕ). v ∈ xs) e i))) in omega arith

pub path_short : (T : Topology) (p : List ℕ) → Path T p → hop_count p < nodes T
path_short T p g = omega (arith, few (nodes T) p g.distinct g.known, g.some)

-- where there is no way of under N links there is no route
pub none_under : (T : Topology) (middle a z : ℕ) → ((j : ℕ) → j < nodes T → NoWay T middle z j a) → NoRoute T middle a z
none_under T middle a z f q g = no_path T middle a z q (f (hop_count q) (path_short T q g.path)) g

-- AT LEAST ONE
pub one_holds : (T : Topology) (middle a z : ℕ) → ((p : List ℕ) × Route T middle a z p) ⊎ TooFar T middle a z ⊎ NoRoute T middle a z
one_holds T middle a z = at (ℕ_discrete a z) (shortest T middle z (nodes T) a)
  where
    some : (a ≡ z → ⊥) → (n : ℕ) (p : List ℕ) → Way T middle z n a p → 1 ≤ n
    some f zero [] w = absurd (f w)
    some f zero (m ∷ p) w = absurd w
    some f (suc n) p w = omega arith

    found : (a ≡ z → ⊥) → (s : Shortest T middle z (nodes T) a) → Dec (most_route_hops < s.links)
        → ((p : List ℕ) × Route T middle a z p) ⊎ TooFar T middle a z ⊎ NoRoute T middle a z
    found f s (yes l) = inr (inl (too_far T middle a z s.links s.path l s.lowest.way s.nearest))
    found f s (no l) =
        let more = some f s.links s.path s.lowest.way in
        inl (a ∷ s.path, planned T middle a z f most_route_hops s.links s.path more (omega arith) s.lowest (λ j h. s.nearest j))

    at : Dec (a ≡ z) → Shortest T middle z (nodes T) a ⊎ ((j : ℕ) → j < nodes T → NoWay T middle z j a)
        → ((p : List ℕ) × Route T middle a z p) ⊎ TooFar T middle a z ⊎ NoRoute T middle a z
    at (yes e) s = inr (inr (no_round T middle a z e))
    at (no f) (inl s) = found f s (dec_lt most_route_hops s.links)
    at (no f) (inr s) = inr (inr (none_under T middle a z s))
