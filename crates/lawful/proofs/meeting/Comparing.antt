-- Each row compared with the index of the rows before it.
use mathlib.Core.Path.{◌≡◌, refl, sym, ap, ◌∙◌, subst}
use mathlib.Core.Logic.{◌⊎◌, inl, inr, ⊎_elim}
use mathlib.Core.Bool.{true, false}
use mathlib.Core.List.{List, [], ◌∷◌}
use Prim.Native.Nat.{ℕ, zero, suc, ◌+◌, ◌<◌, ◌≤◌, ◌-◌}
use native.Mathlib.Nat.{eq-or-lt_of_le}
use native.Mathlib.Numerals.{unary_clauses, add-one}
use native.Mathlib.Omega.{arith}
use lib.ListN.{length, replicate}
use Rattle.rules.specs.Words.{◌∈◌}
use Rattle.rules.specs.Book.{Row, key, RisingByKey, LawfulRow, RowsMeet, ClashingHopsMeet}
use Rattle.rules.specs.Image.{plan_of, streams_of, site_of, rows_place, RowsOf}
use Rattle.rules.proofs.Clashes.{rows_meet_turned}
use Rattle.rules.proofs.Tests.{never, said_yes, said_no}
use Rattle.rules.proofs.Reading.{rows_in, book_in}
use Rattle.index.specs.Index.{index_length}
use Rattle.index.proofs.Rows.{index_none, index_more, index_alike}
use Rattle.placing.specs.plain.Plain.{place_of, nth_row, RowThere}
use Rattle.placing.proofs.plain.Places.{place_first, place_next}
use Rattle.placing.proofs.plain.Beside.{IndexBeside, meets_some, some_meets}
use Rattle.image.specs.Places.{row_at, next_at, rows_from}
use Rattle.image.proofs.Places.{rows_in_lem}
use Rattle.rows.specs.Walk.{RowStands, RowsStand}
use Rattle.image.proofs.Hops.{offset_within}
use Rattle.rows.specs.Frame.{Framed}
use Rattle.lawful.specs.meeting.Meeting.{RowMeets, RowIn, RowBehind, RowsIndexed}
use Rattle.rows.proofs.Hops.{row_there}

-- no two of the first rows, of different keys, meet; the words are their index; and the others are from the place on
pub record Compared (s : List ℕ) (start done at left : ℕ) (words : List ℕ) : Type 0 where
  pub before : List Row
  pub count : done + left ≡ streams_of s
  pub at_is : at ≡ place_of s start done
  pub stand : RowsStand s left at
  pub rising : RisingByKey (rows_from s left at)
  pub lower : (x y : Row) → x ∈ before → y ∈ rows_from s left at → key x < key y
  pub known : (x : Row) → x ∈ before → x ∈ rows_in s
  pub behind : (x : Row) → x ∈ rows_from s left at → x ∈ rows_in s
  pub each : (x : Row) → x ∈ rows_in s → (x ∈ before) ⊎ (x ∈ rows_from s left at)
  pub never : (r x : Row) → r ∈ before → x ∈ before → (key r ≡ key x → ⊥) → RowsMeet (site_of s) r x → ⊥
  pub framed : Framed s
  pub beside : IndexBeside s start done before words

beside_none : (s : List ℕ) (start : ℕ) → Framed s → IndexBeside s start 0 [] (replicate index_length 0)
beside_none s start framed = record {
  in_range = framed.fields.plan;
  there = record { each = λ i l. absurd (omega arith); few = omega arith };
  known = λ i l. absurd (omega arith);
  nth = λ x m. absurd m;
  index = index_none (plan_of s).slots;
}

-- one row more, once it is in the words
beside_more : {s : List ℕ} {start done at : ℕ} {before : List Row} {words after : List ℕ} → IndexBeside s start done before words → done < 64 → at ≡ place_of s start done
    → RowThere s at → RowIn s (row_at s at) words after → IndexBeside s start (done + 1) (row_at s at ∷ before) after
beside_more {s} {start} {done} {at} {before} w few e row m = record {
  in_range = w.in_range;
  there = record { each = each; few = omega arith };
  known = known;
  nth = nth;
  index = index_more w.in_range.most w.index row.lawful.period (offset_within row.lawful) m.adds m.notes;
}
  where
    each : (i : ℕ) → i < done + 1 → RowThere s (place_of s start i)
    each i l =
        ⊎_elim (λ (q : i ≡ done). subst (RowThere s) (e ∙ ap (place_of s start) (sym q)) row) (λ (k : i < done). w.there.each i k) (eq-or-lt_of_le (omega arith))

    known : (i : ℕ) → i < done + 1 → nth_row s start i ∈ row_at s at ∷ before
    known i l =
        ⊎_elim (λ (q : i ≡ done). inl (ap (row_at s) (ap (place_of s start) q ∙ sym e))) (λ (k : i < done). inr (w.known i k)) (eq-or-lt_of_le (omega arith))

    nth : (x : Row) → x ∈ row_at s at ∷ before → (i : ℕ) × (i < done + 1) × (x ≡ nth_row s start i)
    nth x (inl q) = (done, omega arith, q ∙ ap (row_at s) e)
    nth x (inr k) = let r = w.nth x k in (r.0, omega (arith, r.1), r.2)

pub compared_start : (s : List ℕ) {at left : ℕ} → at ≡ rows_place s → left ≡ streams_of s → Framed s → RowsStand s (streams_of s) (rows_place s)
    → RowsOf s (rows_in s) → Compared s at 0 at left (replicate index_length 0)
compared_start s {at} e f framed stand rows =
    subst (λ (k : ℕ). Compared s at 0 at k (replicate index_length 0)) (sym f)
    (subst (λ (k : ℕ). Compared s k 0 k (streams_of s) (replicate index_length 0)) (sym e) (record {
      before = [];
      count = omega arith;
      at_is = sym (place_first s (rows_place s));
      stand = stand;
      rising = subst RisingByKey (rows_in_lem s) rows.rising;
      lower = λ x y m. absurd m;
      known = λ x m. absurd m;
      behind = λ x m. subst (λ (all : List Row). x ∈ all) (sym (rows_in_lem s)) m;
      each = λ x m. inr (subst (λ (all : List Row). x ∈ all) (rows_in_lem s) m);
      never = λ r x m. absurd m;
      framed = framed;
      beside = beside_none s (rows_place s) framed;
    }))

-- where rows are left the first of them stands at the place, and the others behind it
stand_more : (s : List ℕ) (n at : ℕ) → 0 < n → RowsStand s n at → RowStands s at × RowsStand s (n - 1) (next_at s at)
unfolding RowsStand
stand_more s zero at l h = absurd (omega arith)
stand_more s (suc n) at l h = simp unary_clauses h

rows_more : (s : List ℕ) (n at : ℕ) → 0 < n → rows_from s n at ≡ row_at s at ∷ rows_from s (n - 1) (next_at s at)
rows_more s zero at l = absurd (omega arith)
rows_more s (suc n) at l = simp unary_clauses refl

no_row : (s : List ℕ) (n at : ℕ) → n ≤ 0 → (x : Row) → x ∈ rows_from s n at → ⊥
no_row s zero at l x m = m
no_row s (suc n) at l x m = omega arith

module _ {s : List ℕ} {start done at left : ℕ} {words : List ℕ} (w : Compared s start done at left words) where
  pub compared_row : 0 < left → RowStands s at
  compared_row l = (stand_more s left at l w.stand).0

  few_done : 0 < left → done < 64
  few_done l = omega (arith, w.count, w.framed.fields.streams)

  -- the next row stands behind the first
  pub compared_behind : {moduli : List ℕ} → 0 < left → length moduli ≡ 64 → RowBehind s start done (row_at s at) words moduli
  compared_behind l e = record {
    framed = w.framed;
    row = (compared_row l).lawful;
    there = w.beside.there;
    none_slow = λ z i k. w.beside.index.none_slow z (nth_row s start i) (w.beside.known i k);
    size = w.beside.index.size;
    room = e;
  }

  module _ (l : 0 < left) where
    up : (x : Row) → x ∈ row_at s at ∷ rows_from s (left - 1) (next_at s at) → x ∈ rows_from s left at
    up x m = subst (λ (rows : List Row). x ∈ rows) (sym (rows_more s left at l)) m

    down : (x : Row) → x ∈ rows_from s left at → x ∈ row_at s at ∷ rows_from s (left - 1) (next_at s at)
    down x m = subst (λ (rows : List Row). x ∈ rows) (rows_more s left at l) m

    law : LawfulRow (site_of s) (row_at s at)
    law = (compared_row l).lawful

    -- what a hop meets is a hop of a row before
    pub compared_found : RowMeets words s start done (row_at s at) → ClashingHopsMeet (book_in s)
    compared_found h =
        let r = row_at s at in
        let q = meets_some w.beside law.period (offset_within law h.0 h.1) h.2 in
        record {
          one = r;
          other = q.0;
          one_there = w.behind r (up r (inl refl));
          other_there = w.known q.0 q.1;
          different = λ d. omega (arith, w.lower q.0 r q.1 (up r (inl refl)));
          meets = record { hop = h.0; there = h.1; meets = q.2 };
        }

    module _ (no : RowMeets words s start done (row_at s at) → ⊥) where
      missed : (r x : Row) → r ≡ row_at s at → x ∈ w.before → RowsMeet (site_of s) r x → ⊥
      missed r x e m h =
          let k = subst (λ (y : Row). RowsMeet (site_of s) y x) e h in
          no (k.hop, k.there, some_meets w.beside law.period (offset_within law k.hop k.there) x m k.meets)

      never_more : (r x : Row) → r ∈ row_at s at ∷ w.before → x ∈ row_at s at ∷ w.before → (key r ≡ key x → ⊥) → RowsMeet (site_of s) r x → ⊥
      never_more r x (inl e) (inl f) d h = d (ap key (e ∙ sym f))
      never_more r x (inl e) (inr m) d h = missed r x e m h
      never_more r x (inr m) (inl f) d h = missed x r f m (rows_meet_turned (site_of s) r x h)
      never_more r x (inr m) (inr k) d h = w.never r x m k d h

      lower_more : (x y : Row) → x ∈ row_at s at ∷ w.before → y ∈ rows_from s (left - 1) (next_at s at) → key x < key y
      lower_more x y (inl e) m = omega (arith, ap key e, (subst RisingByKey (rows_more s left at l) w.rising).0 y m)
      lower_more x y (inr k) m = w.lower x y k (up y (inr m))

      -- the row is one of those before, once it is in the words
      pub compared_next : {after : List ℕ} {next done' : ℕ} → RowIn s (row_at s at) words after → next ≡ next_at s at → done + 1 ≡ done' → Compared s start done' next (left - 1) after
      compared_next {after} {next} a e f = subst (λ (k : ℕ). Compared s start k next (left - 1) after) f (record {
        before = row_at s at ∷ w.before;
        count = omega (arith, w.count);
        at_is = e ∙ ap (next_at s) w.at_is ∙ place_next s start done ∙ ap (place_of s start) (sym (add-one done));
        stand = subst (RowsStand s (left - 1)) (sym e) (stand_more s left at l w.stand).1;
        rising = subst (λ (k : ℕ). RisingByKey (rows_from s (left - 1) k)) (sym e) (subst RisingByKey (rows_more s left at l) w.rising).1;
        lower = λ x y k m. lower_more x y k (subst (λ (p : ℕ). y ∈ rows_from s (left - 1) p) e m);
        known = λ x m. ⊎_elim (λ q. w.behind x (up x (inl q))) (λ k. w.known x k) m;
        behind = λ x m. w.behind x (up x (inr (subst (λ (p : ℕ). x ∈ rows_from s (left - 1) p) e m)));
        each = λ x m. ⊎_elim (λ k. inl (inr k)) (λ k. ⊎_elim (λ q. inl (inl q)) (λ q. inr (subst (λ (p : ℕ). x ∈ rows_from s (left - 1) p) (sym e) q)) (down x k)) (w.each x m);
        never = never_more;
        framed = w.framed;
        beside = beside_more w.beside (few_done l) w.at_is (row_there w.framed.fields (compared_row l)) a;
      })

  -- where no row is left none meet, and all are in the index
  pub compared_all : left ≤ 0 → RowsIndexed s words false
  compared_all l = record {
    met = said_no (λ m.
        w.never m.one m.other (there m.one m.one_there) (there m.other m.other_there) m.different m.meets);
    indexed = λ e. index_alike w.known there w.beside.index;
  }
    where
      there : (x : Row) → x ∈ rows_in s → x ∈ w.before
      there x k = ⊎_elim (λ q. q) (λ q. absurd (no_row s left at l x q)) (w.each x k)

-- two rows meet
pub found_meeting : {s words : List ℕ} → ClashingHopsMeet (book_in s) → RowsIndexed s words true
found_meeting m = record { met = said_yes m; indexed = λ e. never (sym e) }
