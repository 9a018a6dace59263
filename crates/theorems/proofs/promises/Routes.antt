-- No node in the middle is on both routes of a stream.
use mathlib.Core.Path.{◌≡◌, sym, ap, ◌∙◌, subst}
use mathlib.Core.Logic.{◌⊎◌, inl, inr, ⊎_elim}
use mathlib.Core.List.{List}
use Prim.Native.Nat.{ℕ, suc, ◌+◌, ◌-◌, ◌<◌}
use native.Mathlib.Omega.{arith}
use lib.ListN.{length, get_or, drop, length-take, length-drop}
use lib.Seq.{get_or-take, get_or-drop}
use Rattle.rules.specs.Words.{◌∈◌}
use Rattle.rules.specs.Topology.{hop_count, middles}
use Rattle.rules.specs.Book.{Row, Book, Pair}
use Rattle.rules.proofs.Tests.{decided}
use Rattle.rules.proofs.Lists.{at_in, rising_one}
use Rattle.rules.proofs.Meeting.{in_at}
use Rattle.theorems.proofs.model.Tests.{tests_in}
use Rattle.theorems.specs.promises.Promises.{DoesWithout, LossLeavesARoute}

-- a node of a path that is none of its ends is in the middle
in_middle : (p : List ℕ) (a : ℕ) → a ∈ p → (a ≡ get_or p 0 0 → ⊥) → (a ≡ get_or p (hop_count p) 0 → ⊥) → a ∈ middles p
in_middle p a h start end =
    let (i, l, e) = in_at a p h in
    let f : i ≡ 0 → ⊥ = λ z. start (e ∙ ap (λ (n : ℕ). get_or p n 0) z) in
    let g : i ≡ hop_count p → ⊥ = λ z. end (e ∙ ap (λ (n : ℕ). get_or p n 0) z) in
    let k : i - 1 < hop_count p - 1 = omega arith in
    let m : 1 + (i - 1) ≡ i = omega arith in
    let at : get_or (middles p) (i - 1) 0 ≡ a =
    get_or-take (hop_count p - 1) (drop 1 p) (i - 1) 0 k ∙ get_or-drop 1 p (i - 1) 0 ∙ ap (λ (n : ℕ). get_or p n 0) m ∙ sym e in
    subst (λ (v : ℕ). v ∈ middles p) at (at_in (middles p) (i - 1) (omega (arith, length-take (hop_count p - 1) (drop 1 p), length-drop 1 p)))

-- a row does without a node that is not on its route
does_without : (b : Book) (a : ℕ) (r : Row) → (a ∈ r.route → ⊥) → DoesWithout b a r
does_without b a r f = record { route = f; slots = λ slot i w t. f (⊎_elim (λ e. on i e (omega (arith, w.hop))) (λ e. on (suc i) e (omega (arith, w.hop))) t) }
  where
    on : (i : ℕ) → a ≡ get_or r.route i 0 → i < length r.route → a ∈ r.route
    on i e l = subst (λ (v : ℕ). v ∈ r.route) (sym e) (at_in r.route i l)

pub loss_leaves_a_route : LossLeavesARoute
loss_leaves_a_route b l r x m n e one two = record { starts = pair.starts; ends = pair.ends; one_left = left }
  where
    pair : Pair r x
    pair =
        let (y, k, p) = l.paired x n two in
        subst (λ (v : Row). Pair v x) (rising_one b.rows y r l.rising k m (omega (arith, e, one, p.id, p.first))) p

    left : (a : ℕ) → (a ≡ get_or r.route 0 0 → ⊥) → (a ≡ get_or r.route (hop_count r.route) 0 → ⊥) → DoesWithout b a r ⊎ DoesWithout b a x
    left a start end = go (decided (tests_in a r.route))
      where
        go : Dec (a ∈ r.route) → DoesWithout b a r ⊎ DoesWithout b a x
        go (no f) = inl (does_without b a r f)
        go (yes h) =
            inr (does_without b a x (λ k. pair.beside.no_common a (in_middle r.route a h start end)
            (in_middle x.route a k (λ z. start (z ∙ sym pair.starts)) (λ z. end (z ∙ sym pair.ends)))))
