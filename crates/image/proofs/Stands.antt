-- A walk over the rows of an image, from row to row.
use mathlib.Core.Path.{◌≡◌, refl, sym, ap, ap₂, ◌∙◌, subst}
use mathlib.Core.Logic.{inl, inr}
use mathlib.Core.Bool.{cond}
use mathlib.Core.List.{List, [], ◌∷◌, ◌++◌, append_assoc}
use Prim.Native.Nat.{ℕ, zero, suc, ◌+◌, ◌*◌, ◌<◌, ◌≤◌, ◌-◌}
use native.Mathlib.Numerals.{unary_clauses}
use native.Mathlib.Omega.{arith}
use lib.ListN.{length, get_or, drop, length-append, length-drop}
use lib.Seq.{get_or-drop, drop-drop}
use Rattle.rules.specs.Words.{◌∈◌}
use Rattle.rules.specs.Book.{Row, hops, hops_in_all}
use Rattle.rules.specs.Image.{has_hearing, RowFits, hops_place, row_length, image_length, in_turn, encode_row, version_of, nodes_of, streams_of, account_count_of, links_place, rows_place}
use Rattle.rules.specs.Image.{RowsOf}
use Rattle.rules.proofs.Encoding.{hops_in, front_row, Sized, AllSized, AllFit, row_back, hops_in_lem, length_row, left_over, lawful_sized, rows_of, length_encode}
use Rattle.rules.proofs.Lists.{in_right}
use Rattle.rules.proofs.Written.{length_sets_at}
use Rattle.rules.proofs.Reading.{rows_in, book_in, LawfulImage}
use Rattle.image.specs.Places.{row_at, next_at, rows_from, Whole, Stands, RowHere}
use Rattle.image.proofs.Places.{links_counted, length_rows_from}

-- what is read of a stored image are its rows
pub stored_rows : {s : List ℕ} → LawfulImage s → RowsOf s (rows_in s)
stored_rows {s} h = subst (λ (t : List ℕ). RowsOf t (rows_in s)) (sym h.bytes) (rows_of (version_of s) h.version (book_in s) h.lawful h.fits)

-- its length is the one that its rows have
pub stored_length : {s : List ℕ} → LawfulImage s → length s ≡ image_length (version_of s) (account_count_of s) (nodes_of s) (length (rows_in s)) (hops_in_all (rows_in s))
stored_length {s} h =
    let v : ℕ = version_of s in
    ap length h.bytes ∙ length_encode v (book_in s) h.lawful
    ∙ ap₂ (λ (k N : ℕ). k + 8 * N + cond (has_hearing v) (8 * N) 0 + row_length v * length (rows_in s) + 3 * hops_in_all (rows_in s)) (links_counted s)
    (length_sets_at s (links_place s) (nodes_of s))

-- A ROW WHERE IT WAS WRITTEN
module _ (s : List ℕ) (at : ℕ) (r : Row) (t : List ℕ) (w : Sized (version_of s) r) (f : RowFits (version_of s) r) (e : drop at s ≡ encode_row (version_of s) r ++ t) where
  pub read_row : row_at s at ≡ r
  unfolding row_at
  read_row = ap (front_row (version_of s)) e ∙ row_back (version_of s) r t w f

  stated : get_or s (at + hops_place (version_of s)) 0 ≡ hops r
  stated = sym (get_or-drop at s (hops_place (version_of s)) 0) ∙ ap (hops_in (version_of s)) e ∙ hops_in_lem (version_of s) r t w

  pub next_bytes : drop (next_at s at) s ≡ t
  unfolding next_at
  next_bytes =
      let k : ℕ = row_length (version_of s) + 3 * hops r in
      ap (λ (h : ℕ). drop (at + (row_length (version_of s) + 3 * h)) s) stated ∙ sym (drop-drop k at s) ∙ ap (drop k) e ∙ left_over (version_of s) r t w

  long : length s - at ≡ row_length (version_of s) + 3 * hops r + length t
  long = sym (length-drop at s) ∙ ap length e ∙ length-append (encode_row (version_of s) r) t ∙ ap (λ (n : ℕ). n + length t) (length_row (version_of s) r t w)

  pub whole_row : Whole s at
  unfolding next_at
  whole_row = record { front = omega (arith, long); fits = omega (arith, long, stated) }

-- rows where they were written are those from the place on
written_rows : (s : List ℕ) (rows : List Row) (at : ℕ) → AllSized (version_of s) rows → AllFit (version_of s) rows → drop at s ≡ in_turn (encode_row (version_of s)) rows
    → rows ≡ rows_from s (length rows) at
written_rows s [] at w f e = refl
written_rows s (r ∷ rows) at w f e =
    let u = w r (inl refl) in
    let t = in_turn (encode_row (version_of s)) rows in
    let g = f r (inl refl) in
    ap₂ ◌∷◌ (sym (read_row s at r t u g e)) (written_rows s rows (next_at s at) (λ x m. w x (inr m)) (λ x m. f x (inr m)) (next_bytes s at r t u g e))

-- THE WALK
module _ {s : List ℕ} where
  abbrev pub stands_start : LawfulImage s → Stands s (rows_place s) (streams_of s)
  stands_start h = record {
    stored = h;
    before = [];
    rest = rows_in s;
    all = refl;
    count = (stored_rows h).count;
    inside = omega (arith, stored_length h);
    bytes = (stored_rows h).fill;
  }

  rest_in : {at left : ℕ} (w : Stands s at left) (r : Row) → r ∈ w.rest → r ∈ rows_in s
  rest_in w r m = subst (λ (rows : List Row). r ∈ rows) (sym w.all) (in_right r w.before w.rest m)

  sized : {at left : ℕ} (w : Stands s at left) → AllSized (version_of s) w.rest
  sized w r m = lawful_sized (w.stored.lawful.rows r (rest_in w r m))

  fit : {at left : ℕ} (w : Stands s at left) → AllFit (version_of s) w.rest
  fit w r m = w.stored.fits.rows r (rest_in w r m)

  -- the rows that are left are those from the place on
  pub stands_rest : {at left : ℕ} (w : Stands s at left) → w.rest ≡ rows_from s left at
  stands_rest {at} {left} w =
      written_rows s w.rest at (sized w) (fit w) w.bytes ∙ ap (λ (n : ℕ). rows_from s n at) w.count

  -- the row at the place, where rows are left
  module _ {at left : ℕ} (more : 0 < left) (w : Stands s at left) where
    pub stands_split : w.rest ≡ row_at s at ∷ rows_from s (left - 1) (next_at s at)
    stands_split = stands_rest w ∙ split left more
      where
        split : (n : ℕ) → 0 < n → rows_from s n at ≡ row_at s at ∷ rows_from s (n - 1) (next_at s at)
        split zero l = absurd (omega arith)
        split (suc n) l = simp unary_clauses refl

    pub stands_bytes : drop at s ≡ encode_row (version_of s) (row_at s at) ++ in_turn (encode_row (version_of s)) (rows_from s (left - 1) (next_at s at))
    stands_bytes = w.bytes ∙ ap (in_turn (encode_row (version_of s))) stands_split

    here : row_at s at ∈ rows_in s
    here =
        subst (λ (rows : List Row). row_at s at ∈ rows) (sym (w.all ∙ ap (λ (rows : List Row). w.before ++ rows) stands_split))
        (in_right (row_at s at) w.before (row_at s at ∷ rows_from s (left - 1) (next_at s at)) (inl refl))

    pub stands_sized : Sized (version_of s) (row_at s at)
    stands_sized = lawful_sized (w.stored.lawful.rows (row_at s at) here)

    pub stands_fit : RowFits (version_of s) (row_at s at)
    stands_fit = w.stored.fits.rows (row_at s at) here

    pub stands_row : RowHere s at
    stands_row = record {
      there = here;
      lawful = w.stored.lawful.rows (row_at s at) here;
      whole = whole_row s at (row_at s at) (in_turn (encode_row (version_of s)) (rows_from s (left - 1) (next_at s at))) stands_sized stands_fit stands_bytes;
    }

    -- and the walk goes on behind it
    abbrev pub stands_next : Stands s (next_at s at) (left - 1)
    stands_next = record {
      stored = w.stored;
      before = w.before ++ (row_at s at ∷ []);
      rest = rows_from s (left - 1) (next_at s at);
      all = w.all ∙ ap (λ (rows : List Row). w.before ++ rows) stands_split ∙ sym (append_assoc w.before (row_at s at ∷ []) (rows_from s (left - 1) (next_at s at)));
      count = length_rows_from s (left - 1) (next_at s at);
      inside = stands_row.whole.fits;
      bytes = next_bytes s at (row_at s at) (in_turn (encode_row (version_of s)) (rows_from s (left - 1) (next_at s at))) stands_sized stands_fit stands_bytes;
    }

  -- where none is left the image ends
  pub stands_end : {at left : ℕ} → left ≤ 0 → Stands s at left → at ≡ length s
  stands_end {at} {left} none w = end w.rest w.count w.bytes
    where
      end : (rest : List Row) → length rest ≡ left → drop at s ≡ in_turn (encode_row (version_of s)) rest → at ≡ length s
      end [] k e = omega (arith, w.inside, length-drop at s, ap length e)
      end (r ∷ rest) k e = absurd (omega arith)
