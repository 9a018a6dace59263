-- Rows that stand one after the other and fill the image are its rows.
use mathlib.Core.Path.{◌≡◌, refl, sym, ap, ◌∙◌, subst}
use mathlib.Core.Logic.{◌⊎◌, inl, inr}
use mathlib.Core.Bool.{Bool}
use mathlib.Core.List.{List, [], ◌∷◌, ◌++◌}
use Prim.Native.Nat.{ℕ, zero, suc, ◌+◌, ◌*◌, ◌<◌, ◌≤◌}
use native.Mathlib.Omega.{arith}
use lib.ListN.{length, drop, length-drop}
use lib.Seq.{drop-drop, drop-length}
use Rattle.std.specs.Prelude.{Option, None, Some, IfSome}
use Rattle.rules.specs.Words.{◌∈◌, Tests}
use Rattle.rules.specs.Book.{Row, key, RisingByKey, LawfulRow, Pair, Paired, Paid}
use Rattle.rules.specs.Image.{RowFits, row_length, in_turn, encode_row, version_of, streams_of, accounts_of, site_of, rows_place, RowsOf}
use Rattle.rules.proofs.Tests.{alike}
use Rattle.rules.proofs.Encoding.{hops_in, lawful_sized, length_rows}
use Rattle.rules.proofs.Written.{Bytes}
use Rattle.rules.proofs.Fronts.{bytes_drop, front_count, front_written}
use Rattle.rules.proofs.Reading.{rows_in}
use Rattle.image.specs.Places.{row_at, next_at, rows_from, Whole}
use Rattle.image.proofs.Places.{rows_in_lem, length_rows_from}
use Rattle.image.proofs.Stands.{read_row, whole_row, next_bytes}
use Rattle.accounts.specs.Lists.{HoldMost}
use Rattle.accounts.proofs.Sums.{most_paid}
use Rattle.rows.specs.Frame.{Framed}
use Rattle.rows.specs.Walk.{RowsStand}
use Rattle.rows.specs.Pairs.{ComesBehind}
use Rattle.rows.specs.Fill.{RowsFill, AllFill}

-- what is read is written again
pub row_written : (s : List ℕ) (at : ℕ) → Bytes s → Whole s at → drop at s ≡ encode_row (version_of s) (row_at s at) ++ drop (next_at s at) s
unfolding row_at next_at
row_written s at b w =
    let v : ℕ = version_of s in
    let e = front_count v s at in
    let l : row_length v + 3 * hops_in v (drop at s) ≤ length (drop at s) = simp length-drop (omega (arith, w.fits, e)) in
    front_written v (drop at s) (bytes_drop at s b) l
    ∙ ap (λ (t : List ℕ). encode_row v (row_at s at) ++ t) (drop-drop (row_length v + 3 * hops_in v (drop at s)) at s ∙ ap (λ (h : ℕ). drop (at + (row_length v + 3 * h)) s) e)

-- FROM THE WALK TO THE ROWS
-- the keys of those behind a row are above its key
abbrev Above : Option Row → Row → Type 0
Above None x = Unit {0}
Above (Some r) x = key r < key x

above_behind : (before : Option Row) (x : Row) → ComesBehind before x → Above before x
above_behind None x h = tt
above_behind (Some r) x h = h.0

above_later : (before : Option Row) (x y : Row) → ComesBehind before x → key x < key y → Above before y
above_later None x y h l = tt
above_later (Some r) x y h l = omega (arith, h.0)

module _ (s : List ℕ) where
  fill_fit : (n : ℕ) (before : Option Row) (at : ℕ) → RowsFill s n before at → (r : Row) → r ∈ rows_from s n at → RowFits (version_of s) r
  unfolding RowsFill
  fill_fit zero before at h r m = absurd m
  fill_fit (suc n) before at h r (inl e) = subst (RowFits (version_of s)) (sym e) h.0.fits
  fill_fit (suc n) before at h r (inr m) = fill_fit n (Some (row_at s at)) (next_at s at) h.2 r m

  fill_lawful : (n : ℕ) (before : Option Row) (at : ℕ) → RowsFill s n before at → (r : Row) → r ∈ rows_from s n at → LawfulRow (site_of s) r
  unfolding RowsFill
  fill_lawful zero before at h r m = absurd m
  fill_lawful (suc n) before at h r (inl e) = subst (LawfulRow (site_of s)) (sym e) h.0.lawful
  fill_lawful (suc n) before at h r (inr m) = fill_lawful n (Some (row_at s at)) (next_at s at) h.2 r m

  fill_above : (n : ℕ) (before : Option Row) (at : ℕ) → RowsFill s n before at → (r : Row) → r ∈ rows_from s n at → Above before r
  unfolding RowsFill
  fill_above zero before at h r m = absurd m
  fill_above (suc n) before at h r (inl e) = subst (Above before) (sym e) (above_behind before (row_at s at) h.1)
  fill_above (suc n) before at h r (inr m) = above_later before (row_at s at) r h.1 (fill_above n (Some (row_at s at)) (next_at s at) h.2 r m)

  fill_rising : (n : ℕ) (before : Option Row) (at : ℕ) → RowsFill s n before at → RisingByKey (rows_from s n at)
  unfolding RowsFill
  fill_rising zero before at h = tt
  fill_rising (suc n) before at h = (fill_above n (Some (row_at s at)) (next_at s at) h.2, fill_rising n (Some (row_at s at)) (next_at s at) h.2)

  fill_paired : (all : List Row) (n : ℕ) (before : Option Row) (at : ℕ) → IfSome before (λ (r : Row). r ∈ all) → ((r : Row) → r ∈ rows_from s n at → r ∈ all)
      → RowsFill s n before at → (x : Row) → x ∈ rows_from s n at → Paired all x
  unfolding RowsFill
  fill_paired all zero before at p q h x m = absurd m
  fill_paired all (suc n) before at p q h x (inl e) = subst (Paired all) (sym e) (λ two. first before p h.1 two)
    where
      first : (b : Option Row) → IfSome b (λ (r : Row). r ∈ all) → ComesBehind b (row_at s at) → (row_at s at).way ≡ 2 → (r : Row) × (r ∈ all) × Pair r (row_at s at)
      first None p h two = absurd (h two)
      first (Some r) p h two = (r, p, h.1 two)
  fill_paired all (suc n) before at p q h x (inr m) =
      fill_paired all n (Some (row_at s at)) (next_at s at) (q (row_at s at) (inl refl)) (λ r k. q r (inr k)) h.2 x m

  fill_bytes : Bytes s → (n : ℕ) (before : Option Row) (at : ℕ) → RowsFill s n before at → drop at s ≡ in_turn (encode_row (version_of s)) (rows_from s n at)
  unfolding RowsFill
  fill_bytes b zero before at h = ap (λ (k : ℕ). drop k s) h ∙ drop-length s
  fill_bytes b (suc n) before at h =
      row_written s at b h.0.whole ∙ ap (λ (t : List ℕ). encode_row (version_of s) (row_at s at) ++ t) (fill_bytes b n (Some (row_at s at)) (next_at s at) h.2)

  pub fill_stand : (n : ℕ) (before : Option Row) (at : ℕ) → RowsFill s n before at → RowsStand s n at
  unfolding RowsFill RowsStand
  fill_stand zero before at h = tt
  fill_stand (suc n) before at h = (h.0, fill_stand n (Some (row_at s at)) (next_at s at) h.2)

  -- FROM THE ROWS TO THE WALK
  -- a row is no later than the last that was passed
  abbrev Passed : Option Row → Row → Type 0
  Passed None r = ⊥
  Passed (Some y) r = (key r < key y) ⊎ (r ≡ y)

  -- the rows of a lawful image that are left behind the last that was passed
  record Coming (all : List Row) (before : Option Row) (rows : List Row) : Type 0 where
    lawful : (r : Row) → r ∈ rows → LawfulRow (site_of s) r
    fits : (r : Row) → r ∈ rows → RowFits (version_of s) r
    rising : RisingByKey rows
    above : (r : Row) → r ∈ rows → Above before r
    paired : (r : Row) → r ∈ rows → Paired all r
    passed : (r : Row) → r ∈ all → Passed before r ⊎ (r ∈ rows)

  -- the first way of a second is the row right before it
  right_before : {all rows : List Row} (before : Option Row) (x : Row) → Coming all before (x ∷ rows) → ComesBehind before x
  right_before {all} {rows} None x w = λ two. let p = w.paired x (inl refl) two in go two p.0 p.2 (w.passed p.0 p.1)
    where
      go : x.way ≡ 2 → (r : Row) → Pair r x → ⊥ ⊎ (r ∈ x ∷ rows) → ⊥
      go two r p (inl l) = l
      go two r p (inr (inl e)) = omega (arith, p.first, ap (λ (y : Row). y.way) e)
      go two r p (inr (inr m)) = omega (arith, w.rising.0 r m, p.id, p.first)
  right_before {all} {rows} (Some y) x w = (w.above x (inl refl), λ two. let p = w.paired x (inl refl) two in go two p.0 p.2 (w.passed p.0 p.1))
    where
      go : x.way ≡ 2 → (r : Row) → Pair r x → ((key r < key y) ⊎ (r ≡ y)) ⊎ (r ∈ x ∷ rows) → Pair y x
      go two r p (inl (inl l)) = absurd (omega (arith, w.above x (inl refl), p.id, p.first))
      go two r p (inl (inr q)) = subst (λ (y : Row). Pair y x) q p
      go two r p (inr (inl e)) = absurd (omega (arith, p.first, ap (λ (y : Row). y.way) e))
      go two r p (inr (inr m)) = absurd (omega (arith, w.rising.0 r m, p.id, p.first))

  coming_next : {all rows : List Row} (before : Option Row) (x : Row) → Coming all before (x ∷ rows) → Coming all (Some x) rows
  coming_next {all} {rows} before x w = record {
    lawful = λ r m. w.lawful r (inr m);
    fits = λ r m. w.fits r (inr m);
    rising = w.rising.1;
    above = w.rising.0;
    paired = λ r m. w.paired r (inr m);
    passed = λ r m. go before (w.above x (inl refl)) r (w.passed r m);
  }
    where
      go : (b : Option Row) → Above b x → (r : Row) → Passed b r ⊎ (r ∈ x ∷ rows) → ((key r < key x) ⊎ (r ≡ x)) ⊎ (r ∈ rows)
      go None a r (inl l) = absurd l
      go (Some y) a r (inl (inl l)) = inl (inl (omega (arith, a)))
      go (Some y) a r (inl (inr e)) = inl (inl (omega (arith, a, ap key e)))
      go b a r (inr (inl e)) = inl (inr e)
      go b a r (inr (inr m)) = inr m

  rows_fill : (all rows : List Row) (before : Option Row) (at : ℕ) → at ≤ length s → drop at s ≡ in_turn (encode_row (version_of s)) rows
      → Coming all before rows → RowsFill s (length rows) before at
  unfolding RowsFill
  rows_fill all [] before at l e w = omega (arith, length-drop at s, ap length e)
  rows_fill all (r ∷ rows) before at l e w =
      let law = w.lawful r (inl refl) in
      let u = lawful_sized law in
      let f = w.fits r (inl refl) in
      let t = in_turn (encode_row (version_of s)) rows in
      let q : r ≡ row_at s at = sym (read_row s at r t u f e) in
      let v = whole_row s at r t u f e in (
        record { whole = v; lawful = subst (LawfulRow (site_of s)) q law; fits = subst (RowFits (version_of s)) q f },
        subst (ComesBehind before) q (right_before before r w),
        subst (λ (x : Row). RowsFill s (length rows) (Some x) (next_at s at)) q
            (rows_fill all rows (Some r) (next_at s at) v.fits (next_bytes s at r t u f e) (coming_next before r w)),
      )

  module _ (f : Framed s) where
    pub all_fill : RowsOf s (rows_in s) → AllFill s
    all_fill h =
        subst (λ (n : ℕ). RowsFill s n None (rows_place s)) h.count
        (rows_fill (rows_in s) (rows_in s) None (rows_place s) (omega (arith, f.size)) h.fill (record {
          lawful = h.lawful;
          fits = h.fits;
          rising = h.rising;
          above = λ r m. tt;
          paired = h.paired;
          passed = λ r m. inr m;
        }))

    -- the rows that a walk needs
    pub all_stand : RowsOf s (rows_in s) → RowsStand s (streams_of s) (rows_place s)
    all_stand h = fill_stand (streams_of s) None (rows_place s) (all_fill h)

    fill_all : Bytes s → AllFill s → Paid (accounts_of s) (rows_from s (streams_of s) (rows_place s)) → RowsOf s (rows_in s)
    fill_all b h paid = subst (RowsOf s) (sym (rows_in_lem s)) (record {
      count = length_rows_from s (streams_of s) (rows_place s);
      lawful = lawful;
      fits = fill_fit (streams_of s) None (rows_place s) h;
      rising = fill_rising (streams_of s) None (rows_place s) h;
      paired = fill_paired rows (streams_of s) None (rows_place s) tt (λ r m. m) h;
      paid = paid;
      hops = omega (
        arith,
        f.size,
        length-drop (rows_place s) s,
        ap length bytes,
        length_rows (version_of s) rows (λ r m. lawful_sized (lawful r m)),
        ap (λ (n : ℕ). row_length (version_of s) * n) (length_rows_from s (streams_of s) (rows_place s)),
      );
      fill = bytes;
    })
      where
        rows : List Row
        rows = rows_from s (streams_of s) (rows_place s)

        lawful : (r : Row) → r ∈ rows → LawfulRow (site_of s) r
        lawful = fill_lawful (streams_of s) None (rows_place s) h

        bytes : drop (rows_place s) s ≡ in_turn (encode_row (version_of s)) rows
        bytes = fill_bytes b (streams_of s) None (rows_place s) h

    -- where all rows fill the image, accounts that hold enough for all pay for them
    pub rich_rows_of : Bytes s → AllFill s → HoldMost (accounts_of s) → RowsOf s (rows_in s)
    rich_rows_of b h rich =
        let rows : List Row = rows_from s (streams_of s) (rows_place s) in
        fill_all b h (most_paid (site_of s) (accounts_of s) rows (fill_lawful (streams_of s) None (rows_place s) h)
        (omega (arith, length_rows_from s (streams_of s) (rows_place s), f.fields.streams)) rich)

    -- otherwise it remains whether they are paid for
    pub tests_rows_of : {t : Bool} → Bytes s → AllFill s → Tests t (Paid (accounts_of s) (rows_in s)) → Tests t (RowsOf s (rows_in s))
    tests_rows_of b h t = alike t (λ p. fill_all b h (subst (Paid (accounts_of s)) (rows_in_lem s) p)) (λ w. w.paid)
