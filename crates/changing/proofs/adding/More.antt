-- The book with rows more, and its image.
use mathlib.Core.Path.{◌≡◌, refl, sym, ap, ◌∙◌, subst}
use mathlib.Core.Logic.{inl, inr, ⊎_elim}
use mathlib.Core.List.{List, [], ◌∷◌, ◌++◌, append_assoc}
use Prim.Native.Nat.{ℕ, ◌+◌, ◌*◌, ◌<◌, ◌≤◌}
use native.Mathlib.Omega.{arith}
use lib.ListN.{length, drop, length-append, length-drop}
use Rattle.rules.specs.Words.{◌∈◌, Reordered}
use Rattle.rules.specs.Words.Reordered.{put}
use Rattle.rules.specs.Book.{Row, Book, key, RisingByKey, hops_in_all, most_streams, most_hops, Plus}
use Rattle.rules.specs.Image.{newest, header_length, links_start, links_place, rows_start, row_length, longest_image}
use Rattle.rules.specs.Image.{nodes_of, streams_of, hops_of, account_count_of, accounts_of, rows_place, in_turn, encode_row, encode}
use Rattle.rules.proofs.Written.{length_sets_at}
use Rattle.rules.proofs.Lists.{reordered_same, in_left, in_right, in_append}
use Rattle.rules.proofs.Reading.{rows_in, book_in, NewestImage, with_rows, newest_bytes}
use Rattle.image.proofs.Places.{links_counted}
use Rattle.image.proofs.Stands.{stored_rows, stored_length}
use Rattle.writer.specs.Over.{over, headed}
use Rattle.writer.proofs.Laws.{then, length_over, length_headed, laid}
use Rattle.writer.proofs.Books.{rows_low, rows_more}
use Rattle.changing.specs.finding.Spot.{Vacant}
use Rattle.changing.proofs.finding.Ids.{with_middle}
use Rattle.changing.specs.adding.Puts.{Fresh, PutIn}

-- rows put into the middle are the rows with them in front, in another order
reordered_middle : (new xs ys : List Row) → Reordered (new ++ (xs ++ ys)) (xs ++ (new ++ ys))
reordered_middle [] xs ys = reordered_same (xs ++ ys)
reordered_middle (r ∷ new) xs ys = put (reordered_middle new xs ys) (with_middle r xs (new ++ ys))

-- rows of rising keys, before others of higher ones
rising_front : (new ys : List Row) → RisingByKey new → RisingByKey ys → ((x y : Row) → x ∈ new → y ∈ ys → key x < key y) → RisingByKey (new ++ ys)
rising_front [] ys up over high = over
rising_front (r ∷ new) ys up over high = (
  λ y m. ⊎_elim (λ (k : y ∈ new). up.0 y k) (λ (k : y ∈ ys). high r y (inl refl) k) (in_append y new ys m),
  rising_front new ys up.1 over (λ x y m k. high x y (inr m) k),
)

-- and between lower and higher ones
rising_middle : (new xs ys : List Row) → RisingByKey new → RisingByKey (xs ++ ys) → ((x y : Row) → x ∈ xs → y ∈ new → key x < key y)
    → ((x y : Row) → x ∈ new → y ∈ ys → key x < key y) → RisingByKey (xs ++ (new ++ ys))
rising_middle new [] ys up over low high = rising_front new ys up over high
rising_middle new (x ∷ xs) ys up over low high = (
  λ y m. ⊎_elim (λ (k : y ∈ xs). over.0 y (in_left y xs ys k))
      (λ (k : y ∈ new ++ ys). ⊎_elim (λ (j : y ∈ new). low x y (inl refl) j) (λ (j : y ∈ ys). over.0 y (in_right y xs ys j)) (in_append y new ys k))
      (in_append y xs (new ++ ys) m),
  rising_middle new xs ys up over.1 (λ z y m k. low z y (inr m) k) high,
)

module _ {s : List ℕ} {id at : ℕ} (h : NewestImage s) (v : Vacant s id at) where
  inside_encode : at ≤ length (encode newest (book_in s))
  inside_encode = omega (arith, v.inside, ap length (newest_bytes h))

  behind_encode : drop at (encode newest (book_in s)) ≡ in_turn (encode_row newest) v.rest
  behind_encode = ap (drop at) (sym (newest_bytes h)) ∙ v.bytes ∙ ap (λ (n : ℕ). in_turn (encode_row n) v.rest) h.version

  pub place_low : rows_place s ≤ at
  place_low = rows_low v.before v.rest h.lawful v.all v.inside v.bytes

  way_most : (x : Row) → x ∈ v.before → x.way ≤ 2
  way_most x m = (h.lawful.lawful.rows x (subst (λ (rows : List Row). x ∈ rows) (sym v.all) (in_left x v.before v.rest m))).way_most

-- with rows and hops that a book may have, the image stays within the longest
pub put_fits : {s : List ℕ} (size rows hops : ℕ) → NewestImage s → size ≡ row_length newest * rows + 3 * hops → streams_of s + rows ≤ most_streams → hops_of s + hops ≤ most_hops
    → length s + size ≤ longest_image newest
put_fits {s} size rows hops h e l m =
    let A : ℕ = account_count_of s in
    let long : length s ≡ rows_start newest A (nodes_of s) + row_length newest * length (rows_in s) + 3 * hops_in_all (rows_in s) =
    stored_length h.lawful ∙ ap (λ (v : ℕ). rows_start v A (nodes_of s) + row_length v * length (rows_in s) + 3 * hops_in_all (rows_in s)) h.version in
    let counted : links_start newest (length (accounts_of s)) ≡ links_start newest A =
    subst (λ (v : ℕ). links_start v (length (accounts_of s)) ≡ links_start v A) h.version (links_counted s) in
    let few : nodes_of s ≤ 64 = omega (arith, length_sets_at s (links_place s) (nodes_of s), h.lawful.lawful.site.nodes.1) in
    omega (arith, long, counted, h.lawful.lawful.site.accounts.most, few, (stored_rows h.lawful).count, (stored_rows h.lawful).hops)

module _ {s : List ℕ} {id at : ℕ} {bytes : List ℕ} {new : List Row} (h : NewestImage s) (f : Fresh s id at bytes new) where
  abbrev pub more : Book
  more = with_rows (book_in s) (f.vacant.before ++ (new ++ f.vacant.rest))

  pub plus : Plus (book_in s) new more
  plus = record {
    site = refl;
    rows = subst (λ (rows : List Row). Reordered (new ++ rows) (f.vacant.before ++ (new ++ f.vacant.rest))) (sym f.vacant.all)
        (reordered_middle new f.vacant.before f.vacant.rest);
    rising = rising_middle new f.vacant.before f.vacant.rest f.rising (subst RisingByKey f.vacant.all h.lawful.lawful.rising)
        (λ x y m k. omega (arith, f.vacant.lower x m, f.named y k, way_most h f.vacant x m))
        (λ x y m k. omega (arith, f.vacant.higher y k, f.named x m, f.ways x m));
  }

  module _ (n k : ℕ) (e : n ≡ streams_of s + length new) (g : k ≡ hops_of s + hops_in_all new) where
    parts : headed s at n k ++ bytes ++ drop at s ≡ encode newest more
    parts =
        let b : List ℕ = encode newest (book_in s) in
        let new' : List ℕ = in_turn (encode_row newest) new in
        let n' : n ≡ length (rows_in s) + length new = omega (arith, (stored_rows h.lawful).count) in
        let k' : k ≡ hops_in_all (rows_in s) + hops_in_all new = omega (arith, (stored_rows h.lawful).hops) in
        ap (λ (x : List ℕ). headed s at n k ++ x ++ drop at s) f.bytes_are
        ∙ ap (λ (x : List ℕ). headed x at n k ++ new' ++ drop at x) (newest_bytes h)
        ∙ ap (λ (n : ℕ). headed b at n k ++ new' ++ drop at b) n'
        ∙ ap (λ (k : ℕ). headed b at (length (rows_in s) + length new) k ++ new' ++ drop at b) k'
        ∙ rows_more (book_in s) f.vacant.before f.vacant.rest f.vacant.all at (inside_encode h f.vacant) (behind_encode h f.vacant) new

    long : length (headed s at n k) ≡ at
    long = length_headed s at n k (omega (arith, place_low h f.vacant)) f.vacant.inside

    low : 16 ≤ rows_place s
    low = omega arith

    length_more : length s + length bytes ≡ length (encode newest more)
    length_more =
        omega
        (arith, ap length parts, length-append (headed s at n k ++ bytes) (drop at s), length-append (headed s at n k) bytes, long, length-drop at s, f.vacant.inside)

    pub put_in : (d o₁ o₂ o₃ tail : List ℕ) (e len : ℕ) → length d ≡ longest_image newest → length s + length bytes ≤ longest_image newest → len ≡ length s + length bytes
        → o₂ ≡ over o₁ at bytes → o₁ ≡ over d 0 (headed s header_length n k) → e ≡ at + length bytes → tail ≡ drop at s → o₃ ≡ over o₂ e tail → PutIn s at new len o₃
    put_in d o₁ o₂ o₃ tail e len a l b q p z t u =
        let behind : 16 ≤ at = omega (arith, low, place_low h f.vacant) in
        let size : length (headed s header_length n k) ≡ 16 = length_headed s header_length n k (omega arith) (omega (arith, behind, f.vacant.inside)) in
        let long_under : length o₁ ≡ length d = ap length p ∙ length_over d 0 (headed s header_length n k) (omega (arith, size)) in
        let y = then o₁ o₂ o₃ bytes tail at e (omega (arith, long_under, f.vacant.inside)) q z u in
        record {
          after = more;
          plus = plus;
          laid = laid s d o₃ (bytes ++ drop at s) (encode newest more) at n k len behind f.vacant.inside (sym parts ∙ append_assoc (headed s at n k) bytes (drop at s))
              (b ∙ length_more) (omega arith) (y ∙ ap (λ (r : List ℕ). over o₁ at (bytes ++ r)) t ∙ ap (λ (o : List ℕ). over o at (bytes ++ drop at s)) p);
        }
