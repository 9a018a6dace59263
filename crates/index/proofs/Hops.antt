-- A hop marked, looked for and taken out, by the areas of its slots.
use mathlib.Core.Path.{◌≡◌, sym, ap, ◌∙◌, subst}
use mathlib.Core.Logic.{◌⊎◌, inl, inr, ⊎_elim}
use mathlib.Core.Bool.{Bool}
use mathlib.Core.List.{List}
use Prim.Native.Nat.{ℕ, ◌+◌, ◌*◌, ◌%◌, ◌<◌, ◌≤◌}
use native.Mathlib.Decide.{ℕ_discrete}
use native.Mathlib.Omega.{arith}
use native.Mathlib.Nat.{add-mul-mod_self_right, mod-eq_of_lt, mod-lt, mul_assoc}
use Rattle.rules.specs.Words.{Has, NoBitFrom, Tests}
use Rattle.rules.specs.Topology.{Hop}
use Rattle.rules.proofs.Tests.{alike}
use Rattle.bitset.specs.clash.Reach.{End, node_at}
use Rattle.index.specs.declared.Repeats.{Repeats}
use Rattle.index.specs.Areas.{quick_place, fold_place, index_slots, AtWork}
use Rattle.index.specs.Turns.{TakesFirst, TakesIn, LooksIn, InIndex}
use Rattle.index.specs.Turns.Places.{quick, short, folded}
use Rattle.index.specs.Turns.Looks.{in_ten, in_fold, in_hundred, once_in_ten}
use Rattle.index.specs.Marks.{Adds, Clears, FindsFirst, Finds}
use Rattle.index.specs.Folding.{InTens, Folded, Refolds, Removes}
use Rattle.index.proofs.Adding.{adds_none, adds_alike, adds_both}
use Rattle.index.proofs.Changing.{InTurn}
use Rattle.index.proofs.Turns.{quick_below, short_below, first_turn, turn_first}
use Rattle.index.proofs.Folding.{ten_low, fold_alike}

-- the hop is in all the slots where it is marked
abbrev pub InAll : Repeats → ℕ → Hop → End → ℕ → ℕ → Type 0
InAll r o h end slot node = TakesIn r o slot × (node ≡ node_at end h)

module _ {r : Repeats} {o : ℕ} (w : InIndex r o) (h : Hop) where
  -- MARKED among ten tiles,
  quick_in : (end : End) (slot node : ℕ) → InTurn r.span.0 (quick_place + o) r.few h end slot node → InAll r o h end slot node
  quick_in end slot node p = (quick (quick_below w p.0) p.0, p.1)

  in_quick : 0 < r.few → (end : End) (slot node : ℕ) → InAll r o h end slot node → InTurn r.span.0 (quick_place + o) r.few h end slot node
  in_quick some end slot node (quick l t, e) = (t, e)
  in_quick some end slot node (short z l t, e) = absurd (omega (arith, some, z))
  in_quick some end slot node (folded z m t, e) = absurd (omega (arith, some, z))

  pub put_quick : {t u : List ℕ} → 0 < r.few → Adds (InTurn r.span.0 (quick_place + o) r.few h) t u → Adds (InAll r o h) t u
  put_quick some a = adds_alike quick_in (in_quick some) a

  -- or among 100 and once in the fold,
  module _ (none : r.few ≡ 0) where
    short_in : 0 < r.turns → (end : End) (slot node : ℕ)
        → InTurn r.span.0 o r.turns h end slot node ⊎ InTurn r.span.0 (fold_place + o % r.fold.0) 1 h end slot node → InAll r o h end slot node
    short_in some end slot node (inl p) = (short none (short_below w p.0) p.0, p.1)
    short_in some end slot node (inr p) = (folded none some (first_turn r.span.0 (fold_place + o % r.fold.0) p.0), p.1)

    in_short : (end : End) (slot node : ℕ) → InAll r o h end slot node
        → InTurn r.span.0 o r.turns h end slot node ⊎ InTurn r.span.0 (fold_place + o % r.fold.0) 1 h end slot node
    in_short end slot node (quick l t, e) = absurd (omega (arith, t.within, none))
    in_short end slot node (short z l t, e) = inl (t, e)
    in_short end slot node (folded z m t, e) = inr (turn_first r.span.0 (fold_place + o % r.fold.0) t, e)

    pub put_short : {s t u : List ℕ} {f : ℕ} → 0 < r.turns → f ≡ o % r.fold.0 → Adds (InTurn r.span.0 o r.turns h) s t
        → Adds (InTurn r.span.0 (fold_place + f) 1 h) t u → Adds (InAll r o h) s u
    put_short {t = t} {u} some e a b = adds_alike (short_in some) in_short (adds_both a (subst (λ (x : ℕ). Adds (InTurn r.span.0 (fold_place + x) 1 h) t u) e b))

    -- or nowhere
    in_none : r.turns ≡ 0 → (end : End) (slot node : ℕ) → InAll r o h end slot node → ⊥
    in_none e end slot node (quick l t, q) = omega (arith, t.within, none)
    in_none e end slot node (short z l t, q) = omega (arith, t.within, e)
    in_none e end slot node (folded z m t, q) = omega (arith, m, e)

    pub put_none : (t : List ℕ) → r.turns ≡ 0 → Adds (InAll r o h) t t
    put_none t e = adds_none t (in_none e)

-- LOOKED FOR
module _ {r : Repeats} {o : ℕ} (w : InIndex r o) {C : End → ℕ → Type 0} {words : List ℕ} where
  module _ (none : r.few ≡ 0) where
    pub tests_none : r.turns ≡ 0 → Finds C words r o → ⊥
    tests_none e f = go f.looked
      where
        go : LooksIn r o f.slot → ⊥
        go (in_ten l k) = omega (arith, k.within, none)
        go (in_fold k) = omega (arith, k.within, none)
        go (in_hundred z l k) = omega (arith, k.within, e)
        go (once_in_ten z m l k) = omega (arith, m, e)

    -- it is not among 100: then what its one slot among ten says is so
    pub tests_short : {b : Bool} {f : ℕ} → 0 < r.turns → f ≡ o % r.fold.0 → (FindsFirst C words r.span.0 o r.turns → ⊥)
        → Tests b (FindsFirst C words r.span.0 (quick_place + f) 1) → Tests b (Finds C words r o)
    tests_short {b} some place miss t =
        alike (subst (λ (x : ℕ). Tests b (FindsFirst C words r.span.0 (quick_place + x) 1)) place t)
        (λ f.
        let e = first_turn r.span.0 (quick_place + o % r.fold.0) f.takes in
        let l = mod-lt o w.some in
        record { slot = f.slot; looked = once_in_ten none some (omega (arith, e, l, w.most)) e; busy = f.busy })
        (λ f. go f f.looked)
      where
        go : (f : Finds C words r o) → LooksIn r o f.slot → FindsFirst C words r.span.0 (quick_place + o % r.fold.0) 1
        go f (in_ten l k) = absurd (omega (arith, k.within, none))
        go f (in_fold k) = absurd (omega (arith, k.within, none))
        go f (in_hundred z l k) = absurd (miss (record { slot = f.slot; takes = k; busy = f.busy }))
        go f (once_in_ten z m l k) = record { slot = f.slot; takes = turn_first r.span.0 (quick_place + o % r.fold.0) k; busy = f.busy }

-- TAKEN OUT of ten tiles,
module _ {r : Repeats} {o : ℕ} (w : InIndex r o) (h : Hop) where
  pub out_quick : {t u : List ℕ} → 0 < r.few → Clears (InTurn r.span.0 (quick_place + o) r.few h) t u → Removes r.fold.0 (InAll r o h) t u
  out_quick {t} {u} some a = record {
    size = a.size;
    fits = λ end slot l n. a.fits end slot n;
    only = λ end slot node l m. let k = a.only end slot node m in (k.0, λ p. k.1 (in_quick w h some end slot node p));
    all = λ end slot node l m n. a.all end slot node m (λ p. n (quick_in w h end slot node p));
    folded = fold_alike w.most (λ end slot node k m. (a.only end slot node m).0) (λ end slot node k m. a.all end slot node m (λ p. other p.0 k));
    behind = a.behind;
  }
    where
      other : {slot : ℕ} → TakesFirst r.span.0 (quick_place + o) r.few slot → (slot < quick_place) ⊎ ((fold_place ≤ slot) × (slot < index_slots)) → ⊥
      other k (inl l) = omega (arith, k.at, l)
      other k (inr l) = omega (arith, l.0, quick_below w k)

  -- or of 100, with the slot of the fold worked out again
  module _ {s t u : List ℕ} {f₀ : ℕ} (none : r.few ≡ 0) (some : 0 < r.turns) (place : f₀ ≡ o % r.fold.0)
      (a : Clears (InTurn r.span.0 o r.turns h) s t) (b : Refolds r.fold.0 f₀ t u) where
    abbrev fold : ℕ
    fold = r.fold.0

    down : (end : End) (slot node : ℕ) → (slot ≡ fold_place + f₀ → ⊥) → AtWork u end slot node → AtWork t end slot node
    down end slot node d m = subst (λ (x : ℕ). Has x node) (b.same end slot d) m

    up : (end : End) (slot node : ℕ) → (slot ≡ fold_place + f₀ → ⊥) → AtWork t end slot node → AtWork u end slot node
    up end slot node d m = subst (λ (x : ℕ). Has x node) (sym (b.same end slot d)) m

    -- a ten of a slot that the hop takes is the one of its slot of the fold
    same_slot : (f ten : ℕ) → f < fold → TakesFirst r.span.0 o r.turns (f + ten * fold) → f ≡ f₀
    same_slot f ten l k =
        let n = w.whole none in
        let on : k.turn * r.span.0 ≡ k.turn * n.0 * fold = ap (λ (x : ℕ). k.turn * x) n.1 ∙ sym (mul_assoc k.turn n.0 fold) in
        sym (mod-eq_of_lt l) ∙ sym (add-mul-mod_self_right f ten fold) ∙ ap (λ (x : ℕ). x % fold) (k.at ∙ ap (λ (x : ℕ). o + x) on) ∙ add-mul-mod_self_right o (k.turn * n.0) fold
        ∙ sym place

    ten_other : (f ten : ℕ) → f < fold → ten < 10 → f + ten * fold ≡ fold_place + f₀ → ⊥
    ten_other f ten l few e = omega (arith, e, ten_low fold f ten w.most l few)

    refolded : Folded fold s → Folded fold u
    refolded v = record { only = λ end f node l m. only end f node l (ℕ_discrete f f₀) m; all = λ end f node l k. all end f node l (ℕ_discrete f f₀) k }
      where
        only : (end : End) (f node : ℕ) → f < fold → Dec (f ≡ f₀) → AtWork u end (fold_place + f) node → InTens fold u end f node
        only end f node l (yes e) m =
            let k = b.only end node (subst (λ (x : ℕ). AtWork u end (fold_place + x) node) e m) in
            let k' : InTens fold t end f node = subst (λ (x : ℕ). InTens fold t end x node) (sym e) k in
            record { ten = k'.ten; few = k'.few; there = up end (f + k'.ten * fold) node (ten_other f k'.ten l k'.few) k'.there }
        only end f node l (no d) m =
            let k = v.only end f node l (a.only end (fold_place + f) node (down end (fold_place + f) node (λ q. d (omega arith)) m)).0 in
            let kept = a.all end (f + k.ten * fold) node k.there (λ p. d (same_slot f k.ten l p.0)) in
            record { ten = k.ten; few = k.few; there = up end (f + k.ten * fold) node (ten_other f k.ten l k.few) kept }

        all : (end : End) (f node : ℕ) → f < fold → Dec (f ≡ f₀) → InTens fold u end f node → AtWork u end (fold_place + f) node
        all end f node l (yes e) k =
            let k' : InTens fold t end f node = record { ten = k.ten; few = k.few; there = down end (f + k.ten * fold) node (ten_other f k.ten l k.few) k.there } in
            subst (λ (x : ℕ). AtWork u end (fold_place + x) node) (sym e) (b.all end node (subst (λ (x : ℕ). InTens fold t end x node) e k'))
        all end f node l (no d) k =
            let there = (a.only end (f + k.ten * fold) node (down end (f + k.ten * fold) node (ten_other f k.ten l k.few) k.there)).0 in
            let m = v.all end f node l (record { ten = k.ten; few = k.few; there = there }) in
            up end (fold_place + f) node (λ q. d (omega arith)) (a.all end (fold_place + f) node m (λ p. omega (arith, short_below w p.0)))

    pub out_short : Removes r.fold.0 (InAll r o h) s u
    out_short = record {
      size = b.size ∙ a.size;
      fits = λ end slot l n. subst (NoBitFrom 64) (sym (b.same end slot (λ q. omega arith))) (a.fits end slot n);
      only = λ end slot node l m.
          let k = a.only end slot node (down end slot node (λ q. omega arith) m) in
          (k.0, λ p. ⊎_elim k.1 (λ q. let e = first_turn r.span.0 (fold_place + o % fold) q.0 in omega arith) (in_short w h none end slot node p));
      all = λ end slot node l m n. up end slot node (λ q. omega arith) (a.all end slot node m (λ p. n (short_in w h none some end slot node (inl p))));
      folded = refolded;
      behind = b.behind ∙ a.behind;
    }
