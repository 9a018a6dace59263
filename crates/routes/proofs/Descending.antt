-- The walk down from the source: what is lowest from here on is lowest from the source behind what was chosen.
use mathlib.Core.Path.{◌≡◌, refl, sym, ap, ◌∙◌, subst}
use mathlib.Core.Logic.{inl, inr}
use mathlib.Core.List.{List, [], ◌∷◌, ◌++◌, append_assoc, append-nil}
use Prim.Native.Nat.{ℕ, zero, suc, ◌+◌, ◌<◌}
use native.Mathlib.Decide.{dec_lt}
use native.Mathlib.Numerals.{add-one}
use native.Mathlib.Omega.{arith}
use lib.ListN.{length, get_or, set, take, replicate, length-set}
use lib.Seq.{take-suc-set, get_or-set_other}
use Rattle.rules.specs.Words.{Has, NoLater}
use Rattle.rules.specs.Topology.{Topology, nodes, most_route_hops}
use Rattle.rules.proofs.Ways.{Way, LowestWay}
use Rattle.bitset.specs.Sets.{SetOf, Lowest}
use Rattle.bitset.proofs.Members.{some_positive}
use Rattle.routes.specs.Planner.{Asked, route_places}
use Rattle.routes.specs.Levels.{Distance, Stop, Reached, Descended}
use Rattle.routes.proofs.Distances.{joined_back, way_step, first_step, stays, nearer}

-- at the node with i links behind and left before it
pub record Descending (T : Topology) (middle source z hops : ℕ) (chosen : List ℕ) (node left i : ℕ) : Type 0 where
  pub sum : i + left ≡ hops
  pub size : length chosen ≡ route_places
  pub known : node < nodes T
  pub there : Distance T middle z left node
  pub front : List ℕ
  pub list : take (i + 1) chosen ≡ source ∷ front
  pub after : (k : ℕ) → i < k → get_or chosen k 0 ≡ 0
  pub lowest : (p : List ℕ) → LowestWay T middle z left node p → LowestWay T middle z hops source (front ++ p)

zero_at : (n k : ℕ) → get_or {A = ℕ} (replicate n 0) k 0 ≡ 0
zero_at zero k = refl
zero_at (suc n) zero = refl
zero_at (suc n) (suc k) = zero_at n k

pub descend_start : {T : Topology} {middle source z hops left : ℕ} (sets : List ℕ) → left ≡ hops → Asked T source z → Reached T middle source z hops sets
    → Descending T middle source z hops (source ∷ replicate most_route_hops 0) source left 0
descend_start {source = source} sets e a r = rw e record {
  sum = omega arith;
  size = refl;
  known = a.source_known;
  there = r.there;
  front = [];
  list = refl;
  after = zeros;
  lowest = λ p l. l;
}
  where
    zeros : (k : ℕ) → 0 < k → get_or (source ∷ replicate most_route_hops 0) k 0 ≡ 0
    zeros zero h = absurd (omega arith)
    zeros (suc k) h = zero_at most_route_hops k

module _ (T : Topology) (middle z : ℕ) where
  module _ {n node set both : ℕ} (d : Distance T middle z (suc n) node) (level : SetOf (Stop T middle z n) set)
      (s : SetOf (λ (a : ℕ). Has (get_or T.rows node 0) a × Has set a) both) where
    -- some neighbour is nearer
    next_some : 0 < both
    next_some =
        let t = first_step T middle z n node d.path d.way in
        some_positive both t.0 (s.all t.0 (t.2.link, level.all t.0 (nearer T middle z d.nearest t.2)))

    -- what is lowest from the lowest such is lowest from here
    next_lowest : {m : ℕ} {p : List ℕ} → m < nodes T → Lowest both m → LowestWay T middle z n m p → LowestWay T middle z (suc n) node (m ∷ p)
    next_lowest {m} {p} k low g =
        let i = s.only m low.member in
        record { way = (i.0, k, (level.only m i.1).1, g.way); lowest = no_later }
      where
        no_later : (q : List ℕ) → Way T middle z (suc n) node q → NoLater (m ∷ p) q
        no_later [] w = absurd w
        no_later (x ∷ q) w = at (dec_lt m x) (dec_lt x m)
          where
            at : Dec (m < x) → Dec (x < m) → NoLater (m ∷ p) (x ∷ q)
            at (yes l) b = inl l
            at (no l) (yes b) =
                absurd (low.least x b (s.all x (w.0, level.all x (nearer T middle z d.nearest (way_step T middle z w)))))
            at (no l) (no b) =
                let e : m ≡ x = omega arith in
                inr (e, g.lowest q (subst (λ (v : ℕ). Way T middle z n v q) (sym e) w.3))

module _ {T : Topology} {middle source z hops : ℕ} {sets : List ℕ} (asked : Asked T source z) (r : Reached T middle source z hops sets)
    {chosen : List ℕ} {node left i both : ℕ} (n : ℕ) (e : left ≡ suc n) (d : Descending T middle source z hops chosen node left i)
    (s : SetOf (λ (a : ℕ). Has (get_or T.rows node 0) a × Has (get_or sets n 0) a) both) where
  there : Distance T middle z (suc n) node
  there = subst (λ (x : ℕ). Distance T middle z x node) e d.there

  level : SetOf (Stop T middle z n) (get_or sets n 0)
  level = r.levels n (omega (arith, d.sum))

  pub descend_next : 0 < both
  descend_next = next_some T middle z there level s

  descend_known : {m : ℕ} → Lowest both m → m < nodes T
  descend_known {m} low = (joined_back T asked.sound node m (s.only m low.member).0).0

  pub descend_more : {m k : ℕ} → k ≡ n → Lowest both m → Descending T middle source z hops (set chosen (i + 1) m) m k (i + 1)
  descend_more {m} {k} f low = rw f record {
    sum = omega (arith, d.sum);
    size = length-set chosen (i + 1) m ∙ d.size;
    known = descend_known low;
    there = (level.only m (s.only m low.member).1).0;
    front = d.front ++ (m ∷ []);
    list =
        ap (λ (x : ℕ). take x (set chosen (i + 1) m)) (add-one (i + 1)) ∙ take-suc-set chosen (i + 1) m (omega (arith, d.size, d.sum, r.most))
        ∙ ap (λ (x : List ℕ). x ++ (m ∷ [])) d.list;
    after = λ j h. get_or-set_other chosen (i + 1) j m 0 (λ (e : j ≡ i + 1). omega arith) ∙ d.after j (omega arith);
    lowest = λ p g. rw append_assoc (d.lowest (m ∷ p) (rw e (next_lowest T middle z there level s (descend_known low) low g)));
  }

pub descend_done : {T : Topology} {middle source z hops : ℕ} {chosen : List ℕ} {node left i : ℕ} → left ≡ 0 → Descending T middle source z hops chosen node left i
    → Descended T middle source z hops chosen
descend_done {T} {middle} {source} {z} {hops} {chosen} {node} {left} {i} none d =
    let all : i ≡ hops = omega (arith, d.sum) in
    let there : Distance T middle z 0 node = rw none at d.there in
    record {
      size = d.size;
      rest = d.front;
      list = ap (λ (x : ℕ). take (x + 1) chosen) (sym all) ∙ d.list;
      lowest = rw append-nil at (d.lowest [] (rw none record { way = stays T middle z node there.path there.way; lowest = λ q w. tt }));
      after = λ k h. d.after k (omega arith);
    }
