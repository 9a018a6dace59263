-- The book without the rows of an id, and its image.
use mathlib.Core.Path.{◌≡◌, refl, sym, ap, ◌∙◌, subst}
use mathlib.Core.Logic.{⊎_elim}
use mathlib.Core.List.{List, [], ◌∷◌, ◌++◌}
use Prim.Native.Nat.{ℕ, ◌+◌, ◌-◌, ◌≤◌}
use native.Mathlib.Omega.{arith}
use lib.ListN.{length, drop, length-append, length-drop}
use Rattle.rules.specs.Words.{◌∈◌, Reordered}
use Rattle.rules.specs.Words.Reordered.{put}
use Rattle.rules.specs.Book.{Row, Book, RisingByKey, hops, hops_in_all}
use Rattle.rules.specs.Image.{newest, header_length, longest_image, streams_of, hops_of, rows_place, in_turn, encode_row, encode}
use Rattle.rules.specs.Calls.{Closed}
use Rattle.rules.specs.Calls.Request.{Close}
use Rattle.rules.proofs.Lawful.{lawful_length}
use Rattle.rules.proofs.Lists.{with_less, reordered_same, in_append}
use Rattle.rules.proofs.Reading.{book_in, NewestImage, with_rows, newest_bytes}
use Rattle.index.specs.Beside.{Done}
use Rattle.image.proofs.Stands.{stored_rows}
use Rattle.writer.specs.Over.{over, headed}
use Rattle.writer.proofs.Laws.{length_headed, laid}
use Rattle.writer.proofs.Books.{total_append, rows_low, rows_less}
use Rattle.changing.proofs.finding.Ids.{with_middle}
use Rattle.changing.specs.declared.closing.Gone.{Gone}
use Rattle.changing.specs.closing.Gone.{GoneAt}

-- rows taken out of the middle: the others keep their order, and with them they are all
without : (xs gone ys : List Row) → RisingByKey (xs ++ (gone ++ ys)) → RisingByKey (xs ++ ys)
without xs [] ys up = up
without xs (r ∷ gone) ys up = without xs gone ys (with_less _ (with_middle r xs (gone ++ ys)) up)

put_back : (xs gone ys : List Row) → Reordered (gone ++ (xs ++ ys)) (xs ++ (gone ++ ys))
put_back xs [] ys = reordered_same (xs ++ ys)
put_back xs (r ∷ gone) ys = put (put_back xs gone ys) (with_middle r xs (gone ++ ys))

module _ {s : List ℕ} {id at : ℕ} {words : List ℕ} {g : Gone} (h : NewestImage s) (t : GoneAt s id at words g) where
  abbrev less : Book
  less = with_rows (book_in s) (t.before ++ t.rest)

  closed : Closed (book_in s) id less
  closed = record {
    gone = t.gone;
    of_id = t.of_id;
    none_left = λ r m e. ⊎_elim (λ (k : r ∈ t.before). omega (arith, t.lower r k)) (λ (k : r ∈ t.rest). omega (arith, t.higher r k)) (in_append r t.before t.rest m);
    rising = without t.before t.gone t.rest (subst RisingByKey t.all h.lawful.lawful.rising);
    plus = record {
      site = refl;
      rows = subst (Reordered (t.gone ++ (t.before ++ t.rest))) (sym t.all) (put_back t.before t.gone t.rest);
      rising = h.lawful.lawful.rising;
    };
  }

  -- COUNTS
  pub streams_more : length (t.before ++ t.rest) + g.rows ≡ streams_of s
  streams_more =
      omega (
        arith,
        (stored_rows h.lawful).count,
        ap length t.all,
        length-append t.before t.rest,
        length-append t.before (t.gone ++ t.rest),
        length-append t.gone t.rest,
        t.count,
      )

  pub hops_more : hops_in_all (t.before ++ t.rest) + g.hops ≡ hops_of s
  hops_more =
      omega (
        arith,
        (stored_rows h.lawful).hops,
        ap hops_in_all t.all,
        total_append hops t.before t.rest,
        total_append hops t.before (t.gone ++ t.rest),
        total_append hops t.gone t.rest,
        t.hops,
      )

  inside_encode : at ≤ length (encode newest (book_in s))
  inside_encode = omega (arith, t.inside, ap length (newest_bytes h))

  behind_encode : drop at (encode newest (book_in s)) ≡ in_turn (encode_row newest) (t.gone ++ t.rest)
  behind_encode = ap (drop at) (sym (newest_bytes h)) ∙ t.bytes ∙ ap (λ (v : ℕ). in_turn (encode_row v) (t.gone ++ t.rest)) h.version

  place_low : rows_place s ≤ at
  place_low = rows_low t.before (t.gone ++ t.rest) h.lawful t.all t.inside t.bytes

  -- THE IMAGE, which is no longer than the longest
  pub place_fits : (at ≤ longest_image newest) × (at + (length s - g.next) ≤ longest_image newest)
  place_fits = let l = lawful_length (book_in s) h.lawful.lawful in
      (omega (arith, t.inside, ap length (newest_bytes h), l), omega (arith, t.inside, t.next, t.fits, ap length (newest_bytes h), l))

  module _ (n k : ℕ) (f : n + g.rows ≡ streams_of s) (e : k + g.hops ≡ hops_of s) where
    parts : headed s at n k ++ drop g.next s ≡ encode newest less
    parts =
        ap (λ (x : List ℕ). headed x at n k ++ drop g.next x) (newest_bytes h)
        ∙ rows_less (book_in s) t.before t.gone t.rest t.all at g.next n k inside_encode behind_encode
        (t.next ∙ ap (λ (v : ℕ). at + length (in_turn (encode_row v) t.gone)) h.version) (omega (arith, (stored_rows h.lawful).count, t.count))
        (omega (arith, (stored_rows h.lawful).hops, t.hops))

    length_less : at + (length s - g.next) ≡ length (encode newest less)
    length_less =
        omega
        (arith, ap length parts, length-append (headed s at n k) (drop g.next s), length_headed s at n k (omega (arith, place_low)) t.inside, length-drop g.next s)

    -- the image without the rows was laid out, and the words are its index
    pub out_done : {len mains : ℕ} (d o₁ o₂ tail : List ℕ) → len ≡ at + (length s - g.next) → length d ≡ longest_image newest → o₁ ≡ over d 0 (headed s header_length n k)
        → tail ≡ drop g.next s → o₂ ≡ over o₁ at tail → Done mains s (Close id) at len o₂ words
    out_done {len} d o₁ o₂ tail e size p q r =
        let low : 16 ≤ rows_place s = omega arith in
        record {
          after = less;
          made = closed;
          laid = laid s d o₂ (drop g.next s) (encode newest less) at n k len (omega (arith, low, place_low)) t.inside (sym parts) (e ∙ length_less)
              (omega (arith, e, place_fits)) (r ∙ ap (over o₁ at) q ∙ ap (λ (o : List ℕ). over o at (drop g.next s)) p);
          index = t.index;
        }
