-- A second way tested beside its first.
use mathlib.Core.Path.{◌≡◌, sym, ap, ◌∙◌, subst}
use mathlib.Core.List.{List}
use Prim.Native.Nat.{ℕ, zero, suc, ◌+◌, ◌<◌, ◌≤◌, ◌-◌}
use native.Mathlib.Omega.{arith}
use lib.Dec.{eqb}
use lib.ListN.{length, get_or, drop, length-take, length-drop}
use lib.Seq.{get_or-take, get_or-drop}
use Rattle.rules.specs.Words.{Has, ◌∈◌, Tests}
use Rattle.rules.specs.Topology.{hop_count, middles, most_short_hops, Beside}
use Rattle.rules.specs.Book.{Row, hops}
use Rattle.rules.proofs.Lists.{at_in}
use Rattle.rules.proofs.Meeting.{in_at}
use Rattle.rules.proofs.Tests.{alike, tests_eq}
use Rattle.bitset.specs.Sets.{SetOf}
use Rattle.bitset.proofs.Bits.{zero_none}
use Rattle.bitset.proofs.Members.{none_zero}
use Rattle.rows.specs.Pairs.{SameEnds}

-- THE MIDDLES
-- node k is one of the nodes from 1 to before i
abbrev Passed : List ℕ → ℕ → ℕ → Type 0
Passed p i k = (j : ℕ) × (1 ≤ j) × (j < i) × (get_or p j 0 ≡ k)

module _ (p : List ℕ) where
  get_d_middle : (i : ℕ) → i < hop_count p - 1 → get_or (middles p) i 0 ≡ get_or p (1 + i) 0
  get_d_middle i l = get_or-take (hop_count p - 1) (drop 1 p) i 0 l ∙ get_or-drop 1 p i 0

  length_middles : length (middles p) ≡ hop_count p - 1
  length_middles = simp (length-take, length-drop) (omega arith)

  middle_passed : (k : ℕ) → k ∈ middles p → Passed p (hop_count p) k
  middle_passed k m =
      let q = in_at k (middles p) m in
      let l : q.0 < hop_count p - 1 = omega (arith, q.1, length_middles) in
      (1 + q.0, omega arith, omega arith, sym (q.2 ∙ get_d_middle q.0 l))

  passed_middle : (j : ℕ) → 1 ≤ j → j < hop_count p → get_or p j 0 ∈ middles p
  passed_middle zero l m = absurd (omega arith)
  passed_middle (suc j) l m =
      let k : j < hop_count p - 1 = omega arith in
      let e : 1 + j ≡ suc j = omega arith in
      subst (λ (x : ℕ). x ∈ middles p) (get_d_middle j k ∙ ap (λ (n : ℕ). get_or p n 0) e) (at_in (middles p) j (omega (arith, length_middles)))

-- the loop before node i: the set of those passed
pub record Gathered (p : List ℕ) (i set : ℕ) : Type 0 where
  pub inside : i ≤ 1 + (hop_count p - 1)
  pub set_of : SetOf (Passed p i) set

module _ (p : List ℕ) where
  module _ {i set : ℕ} (g : Gathered p i set) where
    -- at the end it is the set of the middles
    pub gathered_done : hop_count p ≤ i → SetOf (λ (k : ℕ). k ∈ middles p) set
    gathered_done m = record {
      fits = g.set_of.fits;
      only = λ k h. let q = g.set_of.only k h in subst (λ (x : ℕ). x ∈ middles p) q.3 (passed_middle p q.0 q.1 (omega (arith, q.1, q.2, g.inside)));
      all = λ k n. let q = middle_passed p k n in g.set_of.all k (q.0, q.1, omega (arith, q.2), q.3);
    }

-- BESIDE
module _ {r x : Row} (same : SameEnds r x) (one : 1 ≤ hops r) (two : 1 ≤ hops x) where
  -- where the route is short and one of the two has a middle, the common middles decide
  pub tests_beside : {f g both : ℕ} → hops x ≤ most_short_hops → 3 ≤ hops x + hops r → SetOf (λ (a : ℕ). a ∈ middles r.route) f
      → SetOf (λ (a : ℕ). a ∈ middles x.route) g → SetOf (λ (a : ℕ). Has f a × Has g a) both → Tests (eqb both 0) (Beside r.route x.route)
  tests_beside {f} {g} {both} short some s t u =
      alike (tests_eq both 0) (λ e. record { short = short; another = another e; no_common = none e })
      (λ b. none_zero both u.fits (λ k l h. let q = u.only k h in b.no_common k (s.only k q.0) (t.only k q.1)))
    where
      none : both ≡ 0 → (a : ℕ) → a ∈ middles r.route → a ∈ middles x.route → ⊥
      none e a m n = zero_none a (subst (λ (z : ℕ). Has z a) e (u.all a (s.all a m, t.all a n)))

      another : both ≡ 0 → x.route ≡ r.route → ⊥
      another e q =
          let h : hops x ≡ hops r = ap hop_count q in
          let m = passed_middle x.route 1 (omega arith) (omega arith) in
          none e (get_or x.route 1 0) (subst (λ (p : List ℕ). get_or x.route 1 0 ∈ middles p) q m) m
