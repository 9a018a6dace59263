-- An image in the newest version is copied as it is, and an older one is written again row by row.
use mathlib.Core.Path.{◌≡◌, refl, sym, ap, ◌∙◌, subst}
use mathlib.Core.Logic.{inl}
use mathlib.Core.List.{List, [], ◌∷◌, ◌++◌, append_assoc, append-nil}
use Prim.Native.Nat.{ℕ, ◌+◌, ◌*◌, ◌≤◌}
use native.Mathlib.Omega.{arith}
use lib.ListN.{length, take, drop, length-append}
use lib.Seq.{take_at}
use Rattle.rules.specs.Words.{◌∈◌}
use Rattle.rules.specs.Book.{Row, hops}
use Rattle.rules.specs.Image.{newest, row_length, longest_image, in_turn, encode_row, encode}
use Rattle.rules.proofs.Lists.{in_right}
use Rattle.rules.proofs.Encoding.{length_row, lawful_sized, length_encode}
use Rattle.rules.proofs.Reading.{rows_in, book_in, LawfulImage, newest_bytes}
use Rattle.image.specs.Header.{HeaderOf}
use Rattle.image.specs.declared.Book as head
use Rattle.writer.specs.Over.{over}
use Rattle.writer.proofs.Laws.{then, over_front}
use Rattle.writer.proofs.Books.{in_turn_append}
use Rattle.writer.specs.transcribing.Again.{front, Put, Transcribed}

-- a row between others
split : (front : List ℕ) (xs ys : List Row) (r : Row) → front ++ in_turn (encode_row newest) (xs ++ (r ∷ ys))
    ≡ (front ++ in_turn (encode_row newest) xs) ++ (encode_row newest r ++ in_turn (encode_row newest) ys)
split front xs ys r =
    ap (λ (l : List ℕ). front ++ l) (in_turn_append (encode_row newest) xs (r ∷ ys)) ∙ sym (append_assoc front (in_turn (encode_row newest) xs) (in_turn (encode_row newest) (r ∷ ys)))

-- the front of the newest image, and these rows
abbrev up_to : List ℕ → List Row → List ℕ
up_to s rows = front (book_in s) ++ in_turn (encode_row newest) rows

-- these rows are written, up to a place
pub record Copied (s out : List ℕ) (rows : List Row) (to : ℕ) : Type 0 where
  pub buffer : List ℕ
  pub bytes : out ≡ over buffer 0 (up_to s rows)
  pub place : to ≡ length (up_to s rows)
  pub room : length out ≡ longest_image newest

-- the newest image is no longer than the longest
no_longer : {s : List ℕ} → LawfulImage s → length (encode newest (book_in s)) ≤ longest_image newest
no_longer {s} h =
    omega (arith, length_encode newest (book_in s) h.lawful, h.lawful.site.nodes.1, h.lawful.streams, h.lawful.hops)

-- AN IMAGE IN THE NEWEST VERSION
module _ {s : List ℕ} {b : head.Book} (h : LawfulImage s) (hd : HeaderOf s b) (e : b.version ≡ newest) where
  same : s ≡ encode newest (book_in s)
  same = newest_bytes (record { lawful = h; version = sym hd.version ∙ e })

  pub same_fits : length s ≤ longest_image newest
  same_fits = omega (arith, ap length same, no_longer h)

  -- its bytes are copied as they are
  pub same_put : (d : List ℕ) {out : List ℕ} → length out ≡ longest_image newest → out ≡ over d 0 s → Transcribed s (length s) out
  same_put d n p = record {
    room = n;
    fits = omega (arith, n, same_fits);
    bytes = ap (take (length s)) (p ∙ over_front d s) ∙ take_at s (drop (length s) d) (length s) refl ∙ same;
  }

-- THE START
pub copied_start : {s : List ℕ} (d : List ℕ) {out : List ℕ} {to : ℕ} → length out ≡ longest_image newest → Put (front (book_in s)) d 0 to out → Copied s out [] to
copied_start {s} d n p = record {
  buffer = d;
  bytes = p.bytes ∙ ap (over d 0) (sym (append-nil (front (book_in s))));
  place = omega (arith, p.on, ap length (append-nil (front (book_in s))));
  room = n;
}

-- A TURN: these rows are written, and the next is r
module _ {s out : List ℕ} {rows : List Row} {to : ℕ} (rest : List Row) (r : Row) (h : LawfulImage s) (all : rows_in s ≡ rows ++ (r ∷ rest)) (k : Copied s out rows to) where
  abbrev done : List ℕ
  done = up_to s rows

  size : length (encode_row newest r) ≡ row_length newest + 3 * hops r
  size = length_row newest r [] (lawful_sized (h.lawful.rows r (subst (λ (l : List Row). r ∈ l) (sym all) (in_right r rows (r ∷ rest) (inl refl)))))

  one_more : up_to s (rows ++ (r ∷ [])) ≡ done ++ encode_row newest r
  one_more = split (front (book_in s)) rows [] r ∙ ap (λ (l : List ℕ). done ++ l) (append-nil (encode_row newest r))

  pub copied_room : to + (row_length newest + 3 * hops r) ≤ length out
  copied_room =
      let tail : List ℕ = in_turn (encode_row newest) rest in
      let whole : encode newest (book_in s) ≡ done ++ (encode_row newest r ++ tail) = ap (up_to s) all ∙ split (front (book_in s)) rows rest r in
      let n : length (encode newest (book_in s)) ≡ length done + (length (encode_row newest r) + length tail) =
      ap length whole ∙ length-append done (encode_row newest r ++ tail) ∙ ap (λ (n : ℕ). length done + n) (length-append (encode_row newest r) tail) in
      omega (arith, n, k.place, k.room, size, no_longer h)

  pub copied_next : {on : ℕ} {out' : List ℕ} → length out' ≡ length out → Put (encode_row newest r) out to on out' → Copied s out' (rows ++ (r ∷ [])) on
  copied_next {on} {out'} n p = record {
    buffer = k.buffer;
    bytes = then k.buffer out out' done (encode_row newest r) 0 to (omega arith) k.bytes (omega (arith, k.place)) p.bytes ∙ ap (over k.buffer 0) (sym one_more);
    place = omega (arith, p.on, k.place, size, ap length one_more, length-append done (encode_row newest r));
    room = n ∙ k.room;
  }

-- THE END
pub copied_end : {s out : List ℕ} {rows : List Row} {to : ℕ} → LawfulImage s → rows_in s ≡ rows → Copied s out rows to → Transcribed s to out
copied_end {s} {rows = rows} {to} h e k = record {
  room = k.room;
  fits = omega (arith, k.room, k.place, ap length whole, no_longer h);
  bytes = ap (take to) (k.bytes ∙ over_front k.buffer (up_to s rows)) ∙ take_at (up_to s rows) (drop (length (up_to s rows)) k.buffer) to (sym k.place) ∙ whole;
}
  where
    whole : up_to s rows ≡ encode newest (book_in s)
    whole = ap (up_to s) (sym e)
