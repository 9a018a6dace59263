-- The smaller site: the rows without a link, and a set without the middle nodes of a route.
use mathlib.Core.Path.{◌≡◌, refl, sym, ap, ◌∙◌, subst}
use mathlib.Core.Logic.{inl, inr, ⊎_elim}
use mathlib.Core.List.{List, [], ◌∷◌, ◌++◌}
use Prim.Native.Nat.{ℕ, suc, ◌+◌, ◌-◌, ◌<◌, ◌≤◌}
use native.Mathlib.Nat.{lt_of_lt_of_le}
use native.Mathlib.Decide.{ℕ_discrete}
use native.Mathlib.Omega.{arith}
use lib.ListN.{length, get_or, set, take, drop, length-set, length-drop}
use lib.Pow.{pow_mono}
use lib.Seq.{get_or-set_same, get_or-set_other, get_or-take, get_or-drop, take-suc, length-take-le}
use Rattle.rules.specs.Words.{Has, ◌∈◌}
use Rattle.rules.specs.Topology.{Joined, hop_count}
use Rattle.rules.proofs.Lists.{in_append, in_left, in_right}
use Rattle.rules.proofs.Ways.{joined_known}
use Rattle.rules.proofs.Seconds.{Without}
use Rattle.bitset.specs.Rows.{topology}
use Rattle.bitset.specs.Sets.{SetOf}
use Rattle.bitset.proofs.Bits.{within}
use Rattle.bitset.proofs.Members.{all_within}
use Rattle.routes.specs.Planner.{Asked}
use Rattle.routes.specs.Second.{Copied, LinkCut}

-- THE LINK
module _ {links rows : List ℕ} {a b x y : ℕ} (asked : Asked (topology links) a b) (c : Copied links (length links) rows)
    (s : SetOf (λ (k : ℕ). Has (get_or rows a 0) k × (k ≡ b → ⊥)) x) (t : SetOf (λ (k : ℕ). Has (get_or (set rows a x) b 0) k × (k ≡ a → ⊥)) y) where
  abbrev both : List ℕ
  both = set (set rows a x) b y

  -- what is left of a row
  abbrev Left : ℕ → ℕ → Type 0
  Left z k = Joined (topology links) z k × (z ≡ a → k ≡ b → ⊥) × (z ≡ b → k ≡ a → ⊥)

  row_a : SetOf (Left a) (get_or both a 0)
  row_a =
      let e = get_or-set_other (set rows a x) b a y 0 asked.apart ∙ get_or-set_same rows a x 0 (omega (arith, c.size, asked.source_known, asked.range)) in
      let o = c.same a asked.source_known in
      subst (SetOf (Left a)) (sym e) (record {
        fits = s.fits;
        only = λ k h. (subst (λ (v : ℕ). Has v k) o (s.only k h).0, λ f g. (s.only k h).1 g, λ f g. asked.apart f);
        all = λ k p. s.all k (subst (λ (v : ℕ). Has v k) (sym o) p.0, λ g. p.1 refl g);
      })

  row_b : SetOf (Left b) (get_or both b 0)
  row_b =
      let e = get_or-set_same (set rows a x) b y 0 (omega (arith, length-set rows a x, c.size, asked.destination_known, asked.range)) in
      let o = get_or-set_other rows a b x 0 (λ f. asked.apart (sym f)) ∙ c.same b asked.destination_known in
      subst (SetOf (Left b)) (sym e) (record {
        fits = t.fits;
        only = λ k h. (subst (λ (v : ℕ). Has v k) o (t.only k h).0, λ f g. asked.apart (sym f), λ f g. (t.only k h).1 g);
        all = λ k p. t.all k (subst (λ (v : ℕ). Has v k) (sym o) p.0, λ g. p.2 refl g);
      })

  row_other : (z : ℕ) → z < length links → (z ≡ a → ⊥) → (z ≡ b → ⊥) → SetOf (Left z) (get_or both z 0)
  row_other z l f g =
      let e = get_or-set_other (set rows a x) b z y 0 g ∙ get_or-set_other rows a z x 0 f ∙ c.same z l in
      subst (SetOf (Left z)) (sym e) (record {
        fits = lt_of_lt_of_le (asked.sound.low z l) (pow_mono asked.range.1);
        only = λ k h. (h, λ e i. f e, λ e i. g e);
        all = λ k p. p.0;
      })

  row : (z : ℕ) → z < length links → SetOf (Left z) (get_or (take (length links) both) z 0)
  row z l = subst (SetOf (Left z)) (sym (get_or-take (length links) both z 0 l)) (at (ℕ_discrete z a) (ℕ_discrete z b))
    where
      at : Dec (z ≡ a) → Dec (z ≡ b) → SetOf (Left z) (get_or both z 0)
      at (yes e) d = rw e row_a
      at (no f) (yes e) = rw e row_b
      at (no f) (no g) = row_other z l f g

  pub link_cut : LinkCut links a b both
  link_cut = record {
    size = length-set (set rows a x) b y ∙ length-set rows a x ∙ c.size;
    cut = record {
      even = even;
      low = λ z l. all_within 64 (length links) (get_or (take (length links) both) z 0) (row z l).fits
          (λ k h. within (length links) (get_or links z 0) k (asked.sound.low z l) ((row z l).only k h).0);
      only = λ z k h. (row z (subst (λ (n : ℕ). z < n) even (joined_known (topology (take (length links) both)) z k h))).only k h;
      all = λ z k h f g. (row z (joined_known (topology links) z k h)).all k (h, f, g);
    };
  }
    where
      even : length (take (length links) both) ≡ length links
      even = length-take-le (length links) both (omega (arith, length-set (set rows a x) b y, length-set rows a x, c.size, asked.range))

-- THE MIDDLE NODES

-- the nodes of the route from the second up to before place i are out of the set
pub record Removing (all : ℕ) (route : List ℕ) (i left : ℕ) : Type 0 where
  pub begun : 1 ≤ i
  pub place : i - 1 ≤ hop_count route - 1
  pub out : SetOf (λ (k : ℕ). Has all k × (k ∈ take (i - 1) (drop 1 route) → ⊥)) left

pub removing_more : {all : ℕ} {route : List ℕ} {i node left less : ℕ} → i + 1 < length route → get_or route i 0 ≡ node → Removing all route i left
    → SetOf (λ (k : ℕ). Has left k × (k ≡ node → ⊥)) less → Removing all route (i + 1) less
removing_more {all} {route} {i} {node} {left} {less} l at g s = record {
  begun = omega arith;
  place = omega arith;
  out = rw e record {
    fits = s.fits;
    only = λ k h. let m = g.out.only k (s.only k h).0 in (m.0, λ n. ⊎_elim m.1 (last k (s.only k h).1) (in_append k front (node ∷ []) n));
    all = λ k p. s.all k (g.out.all k (p.0, λ n. p.1 (in_left k front (node ∷ []) n)), λ f. p.1 (in_right k front (node ∷ []) (inl f)));
  };
}
  where
    front : List ℕ
    front = take (i - 1) (drop 1 route)

    e : take (i + 1 - 1) (drop 1 route) ≡ front ++ (node ∷ [])
    e =
        let n : i + 1 - 1 ≡ suc (i - 1) = omega (arith, g.begun) in
        let m : 1 + (i - 1) ≡ i = omega (arith, g.begun) in
        ap (λ (n : ℕ). take n (drop 1 route)) n ∙ take-suc (drop 1 route) (i - 1) 0 (omega (arith, length-drop 1 route, g.begun))
        ∙ ap (λ (x : ℕ). front ++ (x ∷ [])) (get_or-drop 1 route (i - 1) 0 ∙ ap (λ (n : ℕ). get_or route n 0) m ∙ at)

    last : (k : ℕ) → (k ≡ node → ⊥) → k ∈ (node ∷ []) → ⊥
    last k f (inl o) = f o
    last k f (inr o) = o

pub removing_done : {all : ℕ} {route : List ℕ} {i left : ℕ} → length route ≤ i + 1 → Removing all route i left → Without all route left
removing_done {all} {route} {i} {left} l g =
    let e : i - 1 ≡ hop_count route - 1 = omega (arith, g.place, g.begun) in
    let o = subst (λ (n : ℕ). SetOf (λ (k : ℕ). Has all k × (k ∈ take n (drop 1 route) → ⊥)) left) e g.out in
    record { only = o.only; all = λ k h m. o.all k (h, m) }
