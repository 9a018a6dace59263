-- The index of a row less, its hops taken out one after the other.
use mathlib.Core.Path.{◌≡◌, subst, ◌∙◌}
use mathlib.Core.Logic.{◌⊎◌, inl, inr, ⊎_elim}
use mathlib.Core.List.{List, ◌∷◌}
use Prim.Native.Nat.{ℕ, ◌+◌, ◌*◌, ◌<◌}
use Rattle.rules.specs.Words.{◌∈◌}
use Rattle.rules.specs.Book.{Row, hops, row_hop, row_offset}
use Rattle.bitset.specs.clash.Reach.{End, node_at}
use Rattle.index.specs.declared.Repeats.{Repeats}
use Rattle.index.specs.Areas.{quick_tiles, fold_place, AtWork}
use Rattle.index.specs.Turns.{RepeatsOf, TakesIn}
use Rattle.index.specs.Marks.{HopsTake}
use Rattle.index.specs.Folding.{Removes}
use Rattle.index.specs.Index.{RowsTake, IndexOf}
use Rattle.index.proofs.Rows.{hops_join, hops_part, one_more, own_hop, same_slow}

removes_alike : {fold : ℕ} {P Q : End → ℕ → ℕ → Type 0} {s t : List ℕ} → ((end : End) (slot node : ℕ) → P end slot node → Q end slot node)
    → ((end : End) (slot node : ℕ) → Q end slot node → P end slot node) → Removes fold P s t → Removes fold Q s t
removes_alike f g a = record {
  size = a.size;
  fits = a.fits;
  only = λ end slot node l m. let k = a.only end slot node l m in (k.0, λ q. k.1 (g end slot node q));
  all = λ end slot node l m n. a.all end slot node l m (λ p. n (f end slot node p));
  folded = a.folded;
  behind = a.behind;
}

removes_both : {fold : ℕ} {P Q : End → ℕ → ℕ → Type 0} {s t u : List ℕ} → Removes fold P s t → Removes fold Q t u
    → Removes fold (λ (end : End) (slot node : ℕ). P end slot node ⊎ Q end slot node) s u
removes_both a b = record {
  size = b.size ∙ a.size;
  fits = λ end slot l n. b.fits end slot l (a.fits end slot l n);
  only = λ end slot node l m.
      let k = b.only end slot node l m in
      let j = a.only end slot node l k.0 in
      (j.0, λ p. ⊎_elim (λ q. j.1 q) (λ q. k.1 q) p);
  all = λ end slot node l m n. b.all end slot node l (a.all end slot node l m (λ p. n (inl p))) (λ q. n (inr q));
  folded = λ w. b.folded (a.folded w);
  behind = b.behind ∙ a.behind;
}

-- ONE HOP AFTER THE OTHER
module _ (S : ℕ) (r : Row) where
  pub unhops_more : (n : ℕ) {repeats : Repeats} {before t u : List ℕ} → RepeatsOf S r.period repeats → Removes (quick_tiles * S) (HopsTake S r n) before t
      → Removes repeats.fold.0 (λ (end : End) (slot node : ℕ). TakesIn repeats (row_offset r n) slot × (node ≡ node_at end (row_hop r n))) t u
      → Removes (quick_tiles * S) (HopsTake S r (n + 1)) before u
  unhops_more n {repeats} {before} {t} {u} w a b =
      removes_alike (hops_join S r n w) (hops_part S r n w)
      (removes_both a
      (subst (λ (fold : ℕ). Removes fold (λ (end : End) (slot node : ℕ). TakesIn repeats (row_offset r n) slot × (node ≡ node_at end (row_hop r n))) t u) w.fold_is b))

  pub unhops_done : {n : ℕ} {before t : List ℕ} → n ≡ hops r → Removes (quick_tiles * S) (HopsTake S r n) before t → Removes (quick_tiles * S) (HopsTake S r (hops r)) before t
  unhops_done {before = before} {t} e a = subst (λ (k : ℕ). Removes (quick_tiles * S) (HopsTake S r k) before t) e a

-- THE INDEX of a row less, whose ends no other row shares
pub index_less : {S : ℕ} {r : Row} {rows : List Row} {t u : List ℕ} → IndexOf S (r ∷ rows) t → Removes (quick_tiles * S) (HopsTake S r (hops r)) t u
    → ((end : End) (slot node : ℕ) → slot < fold_place → RowsTake S rows end slot node → HopsTake S r (hops r) end slot node → ⊥) → IndexOf S rows u
index_less {S} {r} {rows} {t} {u} w a apart = record {
  size = a.size ∙ w.size;
  sets = λ end slot l. record { fits = a.fits end slot l (w.sets end slot l).fits; only = only end slot l; all = all end slot l };
  folded = a.folded w.folded;
  none_slow = λ z x m. w.none_slow (same_slow t u a.behind z) x (inr m);
}
  where
    only : (end : End) (slot : ℕ) → slot < fold_place → (node : ℕ) → AtWork u end slot node → RowsTake S rows end slot node
    only end slot l node m = kept ((w.sets end slot l).only node (a.only end slot node l m).0)
      where
        kept : RowsTake S (r ∷ rows) end slot node → RowsTake S rows end slot node
        kept k = ⊎_elim (λ (e : k.row ≡ r). absurd ((a.only end slot node l m).1 (own_hop k e)))
            (λ (h : k.row ∈ rows). record { row = k.row; there = h; period = k.period; hop_takes = k.hop_takes }) k.there

    all : (end : End) (slot : ℕ) → slot < fold_place → (node : ℕ) → RowsTake S rows end slot node → AtWork u end slot node
    all end slot l node k = a.all end slot node l ((w.sets end slot l).all node (one_more k)) (apart end slot node l k)
