-- A route tested node by node.
use mathlib.Core.Path.{◌≡◌, refl, sym, ap, ◌∙◌, subst}
use mathlib.Core.Logic.{◌⊎◌, inl, inr, ⊎_elim}
use mathlib.Core.List.{List, [], ◌∷◌}
use Prim.Native.Nat.{ℕ, zero, suc, ◌+◌, ◌<◌, ◌≤◌}
use native.Mathlib.Nat.{eq-or-lt_of_le}
use native.Mathlib.Omega.{arith}
use borrow.Author.Count.{below_more}
use lib.ListN.{length, get_or}
use Rattle.rules.specs.Words.{Has, Pairwise}
use Rattle.rules.specs.Topology.{Topology, nodes, Joined, all_nodes, LinkedInTurn, hop_count, Path}
use Rattle.rules.proofs.Lists.{at_in, pair_at}
use Rattle.rules.proofs.Meeting.{in_at}
use Rattle.rules.proofs.Sets.{all_has}
use Rattle.bitset.specs.Sets.{SetOf}
use Rattle.bitset.proofs.Bits.{zero_none}

-- R holds between each two places
pub pairwise_at : (R : ℕ → ℕ → Type 0) (xs : List ℕ) → ((i j : ℕ) → i < j → j < length xs → R (get_or xs i 0) (get_or xs j 0)) → Pairwise R xs
pairwise_at R [] f = tt
pairwise_at R (x ∷ xs) f = (
  λ y m. let k = in_at y xs m in subst (R x) (sym k.2) (f 0 (suc k.0) (omega arith) (omega (arith, k.1))),
  pairwise_at R xs (λ i j l m. f (suc i) (suc j) (omega arith) (omega arith)),
)

linked_at : (T : Topology) (p : List ℕ) → LinkedInTurn T p → (i : ℕ) → suc i < length p → Joined T (get_or p i 0) (get_or p (suc i) 0)
linked_at T [] h i l = absurd (omega arith)
linked_at T (a ∷ []) h i l = absurd (omega arith)
linked_at T (a ∷ b ∷ p) h zero l = h.0
linked_at T (a ∷ b ∷ p) h (suc i) l = linked_at T (b ∷ p) h.1 i (omega arith)

at_linked : (T : Topology) (p : List ℕ) → ((i : ℕ) → suc i < length p → Joined T (get_or p i 0) (get_or p (suc i) 0)) → LinkedInTurn T p
at_linked T [] f = tt
at_linked T (a ∷ []) f = tt
at_linked T (a ∷ b ∷ p) f = (f 0 (omega arith), at_linked T (b ∷ p) (λ i l. f (suc i) (omega arith)))

pub upto : (j i : ℕ) → j < i + 1 → j ≤ i
upto j i l = omega arith

-- k may be node i of the route
pub record MayFollow (T : Topology) (route : List ℕ) (i k : ℕ) : Type 0 where
  pub fresh : (j : ℕ) → j < i → get_or route j 0 ≡ k → ⊥
  pub linked : (j : ℕ) → suc j ≡ i → Joined T (get_or route j 0) k

-- node i of the route is one that may be there
pub record NodeFits (T : Topology) (route : List ℕ) (i : ℕ) : Type 0 where
  pub known : get_or route i 0 < nodes T
  pub follows : MayFollow T route i (get_or route i 0)

module _ (T : Topology) (route : List ℕ) where
  pub path_fits : Path T route → (i : ℕ) → i < length route → NodeFits T route i
  path_fits p i l = record {
    known = p.known (get_or route i 0) (at_in route i l);
    follows = record {
      fresh = λ j m. pair_at (λ (x y : ℕ). x ≡ y → ⊥) route j i p.distinct m l;
      linked = λ j e. subst (λ (n : ℕ). Joined T (get_or route j 0) (get_or route n 0)) e (linked_at T route p.linked j (omega arith));
    };
  }

  pub fits_path : 1 ≤ hop_count route → ((i : ℕ) → i < length route → NodeFits T route i) → Path T route
  fits_path some f = record {
    some = some;
    known = λ a m. let k = in_at a route m in subst (λ (x : ℕ). x < nodes T) (sym k.2) (f k.0 k.1).known;
    distinct = pairwise_at (λ (x y : ℕ). x ≡ y → ⊥) route (λ i j l m. (f j m).follows.fresh i l);
    linked = at_linked T route (λ i l. (f (suc i) l).follows.linked i refl);
  }

-- every number below 64 is in the set of all
abbrev pub every_node : ℕ
every_node = all_nodes 64

-- the loop before node i: the nodes seen, and those that may be next
pub record AtNode (T : Topology) (route : List ℕ) (i seen next : ℕ) : Type 0 where
  pub fit : (j : ℕ) → j < i → NodeFits T route j
  pub seen_are : SetOf (λ (k : ℕ). (j : ℕ) × (j < i) × (get_or route j 0 ≡ k)) seen
  pub only : (k : ℕ) → Has next k → MayFollow T route i k
  pub all : (k : ℕ) → k < nodes T → MayFollow T route i k → Has next k

module _ (T : Topology) (route : List ℕ) where
  pub at_none : nodes T ≤ 64 → AtNode T route 0 0 every_node
  at_none few = record {
    fit = λ j l. absurd (omega arith);
    seen_are = record { fits = omega arith; only = λ k h. absurd (zero_none k h); all = λ k p. absurd (omega (arith, p.1)) };
    only = λ k h. record { fresh = λ j l. absurd (omega arith); linked = λ j e. absurd (omega arith) };
    all = λ k l m. all_has 64 k (omega arith);
  }

  module _ {i seen next : ℕ} (a : AtNode T route i seen next) where
    pub at_fails : (Has next (get_or route i 0) → ⊥) → i < length route → Path T route → ⊥
    at_fails n l p = let f = path_fits T route p i l in n (a.all (get_or route i 0) f.known f.follows)

    module _ {node seen' next' : ℕ} (e : node ≡ get_or route i 0) (known : node < nodes T) (h : Has next node)
        (s : SetOf (λ (k : ℕ). Has seen k ⊎ (k ≡ node)) seen') (o : SetOf (λ (k : ℕ). Has (get_or T.rows node 0) k × (Has seen' k → ⊥)) next') where
      shown : (k : ℕ) → (j : ℕ) × (j < i + 1) × (get_or route j 0 ≡ k) → Has seen' k
      shown k (j, l, q) =
          ⊎_elim (λ (f : j ≡ i). s.all k (inr (sym q ∙ ap (λ (n : ℕ). get_or route n 0) f ∙ sym e))) (λ (m : j < i). s.all k (inl (a.seen_are.all k (j, m, q))))
          (eq-or-lt_of_le (upto j i l))

      pub at_more : AtNode T route (i + 1) seen' next'
      at_more = record {
        fit = below_more _ i a.fit (record { known = subst (λ (x : ℕ). x < nodes T) e known; follows = a.only (get_or route i 0) (subst (Has next) e h) });
        seen_are = record {
          fits = s.fits;
          only = λ k m. ⊎_elim (λ (g : Has seen k). let q = a.seen_are.only k g in (q.0, omega (arith, q.1), q.2)) (λ (g : k ≡ node). (i, omega arith, sym (g ∙ e)))
              (s.only k m);
          all = shown;
        };
        only = λ k m. record {
          fresh = λ j l q. (o.only k m).1 (shown k (j, l, q));
          linked = λ j q. let f : node ≡ get_or route j 0 = e ∙ ap (λ (n : ℕ). get_or route n 0) (omega arith) in subst (λ (n : ℕ). Joined T n k) f (o.only k m).0;
        };
        all = λ k l m. o.all k (
          subst (λ (n : ℕ). Joined T n k) (sym e) (m.linked i (omega arith)),
          λ g. ⊎_elim (λ (f : Has seen k). let q = a.seen_are.only k f in m.fresh q.0 (omega (arith, q.1)) q.2)
              (λ (f : k ≡ node). m.fresh i (omega arith) (sym (f ∙ e))) (s.only k g),
        );
      }
