-- A second route is the planner's route on the site without the link between the ends, over the nodes that are no middle of the first.
use mathlib.Core.Path.{◌≡◌, refl, sym, ap, ap₂, ◌∙◌, subst}
use mathlib.Core.Logic.{inl, inr}
use mathlib.Core.List.{List, [], ◌∷◌}
use Prim.Native.Nat.{ℕ, suc, ◌-◌, ◌<◌, ◌≤◌}
use native.Mathlib.Omega.{arith}
use lib.ListN.{length, get_or, take}
use Rattle.rules.specs.Words.{Has, NoBitFrom, ◌∈◌}
use Rattle.rules.specs.Topology.{Topology, nodes, Joined, SoundTopology, hop_count, middles, LinkedInTurn, PathBetween, PathWithin, most_route_hops, Route}
use Rattle.rules.specs.Topology.{NoRoute, TooFar, most_short_hops, SecondPath, SecondRoute}
use Rattle.rules.proofs.Lists.{pair_at}

-- T' is T without the link between a and b
pub record WithoutLink (T : Topology) (a b : ℕ) (T' : Topology) : Type 0 where
  pub even : nodes T' ≡ nodes T
  pub low : (x : ℕ) → x < nodes T → NoBitFrom (nodes T) (get_or T'.rows x 0)
  pub only : (x y : ℕ) → Joined T' x y → Joined T x y × (x ≡ a → y ≡ b → ⊥) × (x ≡ b → y ≡ a → ⊥)
  pub all : (x y : ℕ) → Joined T x y → (x ≡ a → y ≡ b → ⊥) → (x ≡ b → y ≡ a → ⊥) → Joined T' x y

-- middle' has the nodes of middle that are no middle of the first
pub record Without (middle : ℕ) (first : List ℕ) (middle' : ℕ) : Type 0 where
  pub only : (a : ℕ) → Has middle' a → Has middle a × (a ∈ middles first → ⊥)
  pub all : (a : ℕ) → Has middle a → (a ∈ middles first → ⊥) → Has middle' a

pub without_sound : {T T' : Topology} {a b : ℕ} → SoundTopology T → WithoutLink T a b T' → SoundTopology T'
without_sound {T} {T'} g w = record {
  low = λ x l. subst (λ (n : ℕ). NoBitFrom n (get_or T'.rows x 0)) (sym w.even) (w.low x (subst (λ (n : ℕ). x < n) w.even l));
  no_self = λ x l h. g.no_self x (subst (λ (n : ℕ). x < n) w.even l) (w.only x x h).0;
  both_ways = λ x y l m h.
      w.all y x (g.both_ways x y (subst (λ (n : ℕ). x < n) w.even l) (subst (λ (n : ℕ). y < n) w.even m) (w.only x y h).0)
      (λ e f. (w.only x y h).2 f e) (λ e f. (w.only x y h).1 f e);
}

-- a path of one hop is its ends
one_hop : {T : Topology} {middle source destination : ℕ} (p : List ℕ) → PathBetween T middle source destination p → hop_count p ≡ 1 → p ≡ source ∷ destination ∷ []
one_hop [] g e = absurd (omega arith)
one_hop (x ∷ []) g e = absurd (omega arith)
one_hop (x ∷ y ∷ []) g e = ap₂ (λ (v w : ℕ). v ∷ w ∷ []) g.starts (ap (λ (n : ℕ). get_or (x ∷ y ∷ []) n 0) (sym e) ∙ g.ends)
one_hop (x ∷ y ∷ z ∷ p) g e = absurd (omega arith)

-- one of more hops has its second node in the middle
second_middle : (x y z : ℕ) (p : List ℕ) → y ∈ middles (x ∷ y ∷ z ∷ p)
second_middle x y z p =
    let e : hop_count (x ∷ y ∷ z ∷ p) - 1 ≡ suc (length p) = omega arith in
    subst (λ (n : ℕ). y ∈ take n (y ∷ z ∷ p)) (sym e) (inl refl)

-- links are kept where no node is the source, and all of T' are of T
module _ {T T' : Topology} {source destination : ℕ} (cut : WithoutLink T source destination T') where
  linked_off : (p : List ℕ) → ((y : ℕ) → y ∈ p → source ≡ y → ⊥) → LinkedInTurn T p → LinkedInTurn T' p
  linked_off [] f l = tt
  linked_off (x ∷ []) f l = tt
  linked_off (x ∷ y ∷ p) f l = (
    cut.all x y l.0 (λ e h. f x (inl refl) (sym e)) (λ e h. f y (inr (inl refl)) (sym h)),
    linked_off (y ∷ p) (λ v h. f v (inr h)) l.1,
  )

  linked_back : (p : List ℕ) → LinkedInTurn T' p → LinkedInTurn T p
  linked_back [] l = tt
  linked_back (x ∷ []) l = tt
  linked_back (x ∷ y ∷ p) l = ((cut.only x y l.0).0, linked_back (y ∷ p) l.1)

module _ {T T' : Topology} {middle middle' source destination : ℕ} {first : List ℕ}
    (route : Route T middle source destination first) (cut : WithoutLink T source destination T') (rest : Without middle first middle') where
  -- where the ends are linked that is the first route
  direct : (p : List ℕ) → PathBetween T middle source destination p → hop_count p ≡ 1 → p ≡ first
  direct p g e =
      let few = route.shortest p (record { between = g; most = omega arith }) in
      let w = route.is.between in
      one_hop p g e ∙ sym (one_hop first w (omega (arith, few, w.path.some)))

  second_linked : (p : List ℕ) → SecondPath T middle source destination first p → LinkedInTurn T' p
  second_linked [] g = tt
  second_linked (x ∷ []) g = tt
  second_linked (x ∷ y ∷ []) g = absurd (g.1.another (direct (x ∷ y ∷ []) g.0 (omega arith)))
  second_linked (x ∷ y ∷ z ∷ p) g = (
    cut.all x y g.0.path.linked.0
        (λ e h. pair_at (λ (v w : ℕ). v ≡ w → ⊥) (x ∷ y ∷ z ∷ p) 1 (hop_count (x ∷ y ∷ z ∷ p)) g.0.path.distinct (omega arith) (omega arith) (h ∙ sym g.0.ends))
        (λ e h. g.0.path.distinct.0 y (inl refl) (g.0.starts ∙ sym h)),
    linked_off cut (y ∷ z ∷ p) (λ v h e. g.0.path.distinct.0 v h (g.0.starts ∙ e)) g.0.path.linked.1,
  )

  pub second_to : (p : List ℕ) → SecondPath T middle source destination first p → PathWithin most_short_hops T' middle' source destination p
  second_to p g = record {
    between = record {
      path = record {
        some = g.0.path.some;
        known = λ a h. subst (λ (n : ℕ). a < n) (sym cut.even) (g.0.path.known a h);
        distinct = g.0.path.distinct;
        linked = second_linked p g;
      };
      starts = g.0.starts;
      ends = g.0.ends;
      keeps = λ a h. rest.all a (g.0.keeps a h) (λ m. g.1.no_common a m h);
    };
    most = g.1.short;
  }

  -- a path without the link, over no middle of the first, is not the first
  not_first : (p : List ℕ) → PathBetween T' middle' source destination p → p ≡ first → ⊥
  not_first [] g e = omega (arith, g.path.some)
  not_first (x ∷ []) g e = omega (arith, g.path.some)
  not_first (x ∷ y ∷ []) g e = (cut.only x y g.path.linked.0).1 g.starts g.ends
  not_first (x ∷ y ∷ z ∷ p) g e =
      let m = second_middle x y z p in
      (rest.only y (g.keeps y m)).1 (subst (λ (q : List ℕ). y ∈ middles q) e m)

  pub second_from : (p : List ℕ) → PathWithin most_short_hops T' middle' source destination p → SecondPath T middle source destination first p
  second_from p g = (
    record {
      path = record {
        some = g.between.path.some;
        known = λ a h. subst (λ (n : ℕ). a < n) cut.even (g.between.path.known a h);
        distinct = g.between.path.distinct;
        linked = linked_back cut p g.between.path.linked;
      };
      starts = g.between.starts;
      ends = g.between.ends;
      keeps = λ a h. (rest.only a (g.between.keeps a h)).0;
    },
    record {
      short = g.most;
      another = not_first p g.between;
      no_common = λ a m h. (rest.only a (g.between.keeps a h)).1 m;
    },
  )

  -- a second path may be the route there
  within : (p : List ℕ) → SecondPath T middle source destination first p → PathWithin most_route_hops T' middle' source destination p
  within p g = record { between = (second_to p g).between; most = omega (arith, g.1.short) }

  pub second_found : (p : List ℕ) → Route T' middle' source destination p → hop_count p ≤ most_short_hops → SecondRoute T middle source destination first p
  second_found p r few = record {
    is = second_from p (record { between = r.is.between; most = few });
    shortest = λ q g. r.shortest q (within q g);
    first = λ q g. r.first q (within q g);
  }

  pub second_far : (p : List ℕ) → Route T' middle' source destination p → most_short_hops < hop_count p
      → (q : List ℕ) → SecondPath T middle source destination first q → ⊥
  second_far p r far q g = omega (arith, r.shortest q (within q g), g.1.short)

  pub second_too_far : TooFar T' middle' source destination → (q : List ℕ) → SecondPath T middle source destination first q → ⊥
  second_too_far f q g = omega (arith, f.over q (second_to q g).between, g.1.short)

  pub second_none : NoRoute T' middle' source destination → (q : List ℕ) → SecondPath T middle source destination first q → ⊥
  second_none f q g = f q (second_to q g).between
