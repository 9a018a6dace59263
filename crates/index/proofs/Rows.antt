-- The index of a row more, its hops marked one after the other.
use mathlib.Core.Path.{◌≡◌, refl, sym, ap, ◌∙◌, subst}
use mathlib.Core.Logic.{◌⊎◌, inl, inr, ⊎_elim}
use mathlib.Core.List.{List, [], ◌∷◌}
use Prim.Native.Nat.{ℕ, ◌+◌, ◌*◌, ◌/◌, ◌%◌, ◌<◌, ◌≤◌}
use native.Mathlib.Omega.{arith}
use native.Mathlib.Nat.{eq-or-lt_of_le, mul-le-mul_right, mod-eq_of_lt, add-mul-mod_self_right}
use lib.ListN.{get_or, drop, replicate}
use lib.Seq.{get_or-drop}
use Rattle.rules.specs.Words.{Has, ◌∈◌}
use Rattle.rules.specs.Tiles.{Period, short_tiles}
use Rattle.rules.specs.Book.{Row, hops, row_hop, row_offset}
use Rattle.bitset.specs.Sets.{SetOf}
use Rattle.bitset.proofs.Bits.{zero_none}
use Rattle.bitset.specs.clash.Reach.{End, node_at}
use Rattle.index.specs.declared.Repeats.{Repeats}
use Rattle.index.specs.Areas.{quick_tiles, quick_place, fold_place, slow_place, index_length, word_at, AtWork}
use Rattle.index.specs.Turns.{RepeatsOf, MarkedAt, Places, TakesIn}
use Rattle.index.specs.Turns.Places.{quick, short, folded}
use Rattle.index.specs.Marks.{Adds, Notes, HopsTake}
use Rattle.index.specs.Folding.{InTens, Folded}
use Rattle.index.specs.Index.{RowsTake, IndexOf}
use Rattle.index.proofs.Classes.{Class, class_of, fold_short}
use Rattle.index.proofs.Adding.{adds_none, adds_alike, adds_both, all_zero}
use Rattle.index.proofs.Turns.{turn_short, in_takes, takes_in}
use Rattle.index.proofs.Folding.{ten_low, same_fold}
use Rattle.index.proofs.Lending.{slot_parts, slot_ten}

-- ONE HOP AFTER THE OTHER
module _ (S : ℕ) (r : Row) where
  pub hops_none : (t : List ℕ) → Adds (HopsTake S r 0) t t
  hops_none t = adds_none t (λ end slot node h. omega (arith, h.there))

  -- a hop more
  pub hops_join : (n : ℕ) {repeats : Repeats} → RepeatsOf S r.period repeats → (end : End) (slot node : ℕ)
      → HopsTake S r n end slot node ⊎ (TakesIn repeats (row_offset r n) slot × (node ≡ node_at end (row_hop r n))) → HopsTake S r (n + 1) end slot node
  hops_join n w end slot node (inl k) = record { hop = k.hop; there = omega (arith, k.there); takes = k.takes; is_end = k.is_end }
  hops_join n w end slot node (inr k) = record { hop = n; there = omega arith; takes = in_takes w (row_offset r n) slot k.0; is_end = k.1 }

  pub hops_part : (n : ℕ) {repeats : Repeats} → RepeatsOf S r.period repeats → (end : End) (slot node : ℕ) → HopsTake S r (n + 1) end slot node
      → HopsTake S r n end slot node ⊎ (TakesIn repeats (row_offset r n) slot × (node ≡ node_at end (row_hop r n)))
  hops_part n w end slot node k =
      ⊎_elim
      (λ (q : k.hop ≡ n).
      inr (
        takes_in w (row_offset r n) slot (subst (λ (p : ℕ). MarkedAt S r.period p slot) (ap (row_offset r) q) k.takes),
        k.is_end ∙ ap (λ (i : ℕ). node_at end (row_hop r i)) q,
      ))
      (λ (l : k.hop < n). inl (record { hop = k.hop; there = l; takes = k.takes; is_end = k.is_end })) (eq-or-lt_of_le (omega (arith, k.there)))

  pub hops_more : (n : ℕ) {repeats : Repeats} {before t u : List ℕ} → RepeatsOf S r.period repeats → Adds (HopsTake S r n) before t
      → Adds (λ (end : End) (slot node : ℕ). TakesIn repeats (row_offset r n) slot × (node ≡ node_at end (row_hop r n))) t u → Adds (HopsTake S r (n + 1)) before u
  hops_more n w a b = adds_alike (hops_join n w) (hops_part n w) (adds_both a b)

  -- all of them
  pub hops_done : {n : ℕ} {before t : List ℕ} → n ≡ hops r → Adds (HopsTake S r n) before t → Adds (HopsTake S r (hops r)) before t
  hops_done {before = before} {t} e a = subst (λ (k : ℕ). Adds (HopsTake S r k) before t) e a

-- ONE ROW AFTER THE OTHER
pub index_none : (S : ℕ) → IndexOf S [] (replicate index_length 0)
index_none S = record {
  size = refl;
  sets = λ end slot l. subst (SetOf (RowsTake S [] end slot)) (sym (all_zero index_length (word_at end slot)))
      record { fits = omega arith; only = λ k m. absurd (zero_none k m); all = λ k m. absurd m.there };
  folded = record { only = λ end slot node l m. absurd (nobody end (fold_place + slot) node m); all = λ end slot node l k. absurd (nobody end (slot + k.ten * (quick_tiles * S)) node k.there) };
  none_slow = λ z x m. absurd m;
}
  where
    nobody : (end : End) (slot node : ℕ) → AtWork (replicate index_length 0) end slot node → ⊥
    nobody end slot node m = zero_none node (subst (λ (x : ℕ). Has x node) (all_zero index_length (word_at end slot)) m)

-- what is taken by the rows is taken by one more
pub one_more : {S : ℕ} {r : Row} {rows : List Row} {end : End} {slot node : ℕ} → RowsTake S rows end slot node → RowsTake S (r ∷ rows) end slot node
one_more k = record { row = k.row; there = inr k.there; period = k.period; hop_takes = k.hop_takes }

-- what is taken by a row that is r is taken by r
pub own_hop : {S : ℕ} {r : Row} {rows : List Row} {end : End} {slot node : ℕ} → (k : RowsTake S rows end slot node) → k.row ≡ r → HopsTake S r (hops r) end slot node
own_hop {S} {end = end} {slot} {node} k e = subst (λ (x : Row). HopsTake S x (hops x) end slot node) e k.hop_takes

-- with the same words behind the slots, no period over 100 is noted in both or in neither
pub same_slow : (t u : List ℕ) → drop slow_place u ≡ drop slow_place t → get_or u slow_place 0 ≡ 0 → get_or t slow_place 0 ≡ 0
same_slow t u e z = sym (get_or-drop slow_place t 0 0) ∙ ap (λ (l : List ℕ). get_or l 0 0) (sym e) ∙ get_or-drop slow_place u 0 0 ∙ z

-- THE FOLD where the hops of a row are marked: of a hop among the 100 tiles the slot of the fold is that of its tens
module _ {S n : ℕ} {r : Row} {t u : List ℕ} (most : S ≤ 32) (period : Period r.period) (within : (i : ℕ) → i < n → row_offset r i < r.period * S)
    (a : Adds (HopsTake S r n) t u) where
  abbrev F : ℕ
  F = quick_tiles * S

  -- what is marked in the fold is marked in one of the tens
  down : (end : End) (slot node : ℕ) → HopsTake S r n end (fold_place + slot) node → InTens F u end slot node
  down end slot node h = go (row_offset r h.hop) refl h.takes.places
    where
      go : (o : ℕ) → row_offset r h.hop ≡ o → Places (r.period * S) (short_tiles / r.period) (quick_tiles / r.period) F o (fold_place + slot) → InTens F u end slot node
      go o q (quick l k) = absurd (omega (arith, l))
      go o q (short z l k) = absurd (omega (arith, l))
      go o q (folded z some e) =
          let low : o < short_tiles * S = omega (arith, q, within h.hop h.there, mul-le-mul_right S (turn_short some)) in
          let f : o ≡ slot + o / F * F = omega (arith, e, slot_parts S o low) in
          record {
            ten = o / F;
            few = slot_ten S o low;
            there = subst (λ (s : ℕ). AtWork u end s node) f (a.all end o node (record {
              hop = h.hop;
              there = h.there;
              takes = record { places = short z (omega (arith, low)) (record { turn = 0; within = some; at = omega (arith, q) }) };
              is_end = h.is_end;
            }));
          }

  -- and the other way round
  up : (end : End) (slot ten node : ℕ) → slot < F → ten < quick_tiles → HopsTake S r n end (slot + ten * F) node → AtWork u end (fold_place + slot) node
  up end slot ten node l few h = go (row_offset r h.hop) refl h.takes.places
    where
      low : slot + ten * F < quick_place
      low = ten_low F slot ten (omega arith) l few

      same : (o turn : ℕ) → quick_tiles / r.period ≡ 0 → Class r.period → slot + ten * F ≡ o + turn * (r.period * S) → slot ≡ o % F
      same o turn z (inl c) e = absurd (omega (arith, c.1, z))
      same o turn z (inr (c, (m, q))) e =
          sym (mod-eq_of_lt l) ∙ sym (add-mul-mod_self_right slot ten F) ∙ ap (λ (x : ℕ). x % F) e ∙ fold_short S r.period o m q turn

      go : (o : ℕ) → o ≡ row_offset r h.hop → Places (r.period * S) (short_tiles / r.period) (quick_tiles / r.period) F o (slot + ten * F) → AtWork u end (fold_place + slot) node
      go o q (quick m k) = absurd (omega (arith, k.at, low))
      go o q (short z m k) =
          a.all end (fold_place + slot) node (record {
            hop = h.hop;
            there = h.there;
            takes = record { places = folded z (omega (arith, k.within)) (ap (λ (x : ℕ). fold_place + x) (same o k.turn z (class_of r.period period) k.at ∙ ap (λ (x : ℕ). x % F) q)) };
            is_end = h.is_end;
          })
      go o q (folded z some e) = absurd (omega (arith, e, low))

  pub fold_more : Folded F t → Folded F u
  fold_more w = record {
    only = λ end slot node l m.
        ⊎_elim (λ k. let q = w.only end slot node l k in record { ten = q.ten; few = q.few; there = a.kept end (slot + q.ten * F) node q.there }) (down end slot node)
        (a.only end (fold_place + slot) node m);
    all = λ end slot node l k.
        ⊎_elim (λ q. a.kept end (fold_place + slot) node (w.all end slot node l (record { ten = k.ten; few = k.few; there = q }))) (up end slot k.ten node l k.few)
        (a.only end (slot + k.ten * F) node k.there);
  }

-- the row is marked, and its period noted
pub index_more : {S : ℕ} {r : Row} {rows : List Row} {t u v : List ℕ} → S ≤ 32 → IndexOf S rows t → Period r.period
    → ((i : ℕ) → i < hops r → row_offset r i < r.period * S) → Adds (HopsTake S r (hops r)) t u → Notes r.period u v → IndexOf S (r ∷ rows) v
index_more {S} {r} {rows} {t} {u} {v} most w p within a b = record {
  size = b.size ∙ a.size ∙ w.size;
  sets = λ end slot l.
      subst (SetOf (RowsTake S (r ∷ rows) end slot)) (sym (b.same end slot (omega arith)))
      (record { fits = a.fits end slot (w.sets end slot l).fits; only = only end slot l; all = all end slot l });
  folded = same_fold (omega arith) b.same (fold_more most p within a w.folded);
  none_slow = λ z x m.
      ⊎_elim (λ (e : x ≡ r). omega (arith, ap (λ (y : Row). y.period) e, b.short z)) (λ (k : x ∈ rows). w.none_slow (same_slow t u a.behind (b.kept z)) x k) m;
}
  where
    only : (end : End) (slot : ℕ) → slot < fold_place → (node : ℕ) → AtWork u end slot node → RowsTake S (r ∷ rows) end slot node
    only end slot l node m =
        ⊎_elim (λ k. one_more ((w.sets end slot l).only node k)) (λ k. record { row = r; there = inl refl; period = p; hop_takes = k }) (a.only end slot node m)

    all : (end : End) (slot : ℕ) → slot < fold_place → (node : ℕ) → RowsTake S (r ∷ rows) end slot node → AtWork u end slot node
    all end slot l node k = ⊎_elim
        (λ (e : k.row ≡ r). a.all end slot node (own_hop k e))
        (λ (m : k.row ∈ rows). a.kept end slot node ((w.sets end slot l).all node (record { row = k.row; there = m; period = k.period; hop_takes = k.hop_takes })))
        k.there

-- the order of the rows makes no difference
pub index_alike : {S : ℕ} {xs ys : List Row} {words : List ℕ} → ((x : Row) → x ∈ xs → x ∈ ys) → ((x : Row) → x ∈ ys → x ∈ xs) → IndexOf S xs words → IndexOf S ys words
index_alike {S} f g w = record {
  size = w.size;
  sets = λ end slot l. record {
    fits = (w.sets end slot l).fits;
    only = λ k m. moved f ((w.sets end slot l).only k m);
    all = λ k m. (w.sets end slot l).all k (moved g m);
  };
  folded = w.folded;
  none_slow = λ z x m. w.none_slow z x (g x m);
}
  where
    moved : {xs ys : List Row} {end : End} {slot node : ℕ} → ((x : Row) → x ∈ xs → x ∈ ys) → RowsTake S xs end slot node → RowsTake S ys end slot node
    moved f k = record { row = k.row; there = f k.row k.there; period = k.period; hop_takes = k.hop_takes }
