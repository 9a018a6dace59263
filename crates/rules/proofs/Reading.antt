-- What an image holds: its rows read one after the other, and the book of them.
use mathlib.Core.Path.{◌≡◌, refl, sym, ap, ap₂, ◌∙◌, subst}
use mathlib.Core.Logic.{inl, inr}
use mathlib.Core.List.{List, [], ◌∷◌, ◌++◌}
use Prim.Native.Nat.{ℕ, zero, suc, ◌+◌, ◌*◌}
use native.Mathlib.Omega.{arith}
use lib.ListN.{length, drop}
use Rattle.rules.specs.Book.{Row, Book, LawfulBook}
use Rattle.rules.specs.Image.{newest, RowFits, Fits, row_length, in_turn, encode_row, encode, version_of, streams_of, book_of, rows_place, RowsOf, Stored}
use Rattle.rules.proofs.Encoding.{hops_in, front_row, AllSized, AllFit, row_back, hops_in_lem, left_over, lawful_sized, version_back, rows_of, only_rows}
use Rattle.rules.proofs.Tests.{never}

-- n rows, one after the other
abbrev pub read_rows : ℕ → ℕ → List ℕ → List Row
read_rows v zero s = []
read_rows v (suc n) s = front_row v s ∷ read_rows v n (drop (row_length v + 3 * hops_in v s) s)

-- the rows that the image holds
abbrev pub rows_in : List ℕ → List Row
rows_in s = read_rows (version_of s) (streams_of s) (drop (rows_place s) s)

-- the book that it holds
abbrev pub book_in : List ℕ → Book
book_in s = book_of s (rows_in s)

-- the bytes are the image of the book that they hold
abbrev pub LawfulImage : List ℕ → Type 0
LawfulImage s = Stored s (version_of s) (book_in s)

-- and in the newest version, in which books are changed
pub record NewestImage (s : List ℕ) : Type 0 where
  pub lawful : LawfulImage s
  pub version : version_of s ≡ newest

-- the book with these rows
abbrev pub with_rows : Book → List Row → Book
with_rows b rows = record { site = b.site; rows = rows }

-- rows that were written are read again
read_back : (v : ℕ) (rows : List Row) → AllSized v rows → AllFit v rows → read_rows v (length rows) (in_turn (encode_row v) rows) ≡ rows
read_back v [] w f = refl
read_back v (r ∷ rows) w f =
    let u = w r (inl refl) in
    let t = in_turn (encode_row v) rows in
    ap₂ ◌∷◌ (row_back v r t u (f r (inl refl)))
    (ap (λ (h : ℕ). read_rows v (length rows) (drop (row_length v + 3 * h) (encode_row v r ++ t))) (hops_in_lem v r t u)
    ∙ ap (read_rows v (length rows)) (left_over v r t u) ∙ read_back v rows (λ x m. w x (inr m)) (λ x m. f x (inr m)))

pub rows_are : (s : List ℕ) (rows : List Row) → RowsOf s rows → rows_in s ≡ rows
rows_are s rows h = ap₂ (read_rows (version_of s)) (sym h.count) h.fill ∙ read_back (version_of s) rows (λ r m. lawful_sized (h.lawful r m)) h.fits

-- the bytes of an image in the newest version
pub newest_bytes : {s : List ℕ} → NewestImage s → s ≡ encode newest (book_in s)
newest_bytes {s} h = h.lawful.bytes ∙ ap (λ (v : ℕ). encode v (book_in s)) h.version

-- THE NEWEST VERSION

-- it holds every row
pub row_newest : (r : Row) → RowFits newest r
row_newest r = record { one_way = λ e. never (sym e); short = λ e. never (sym e); old_account = λ e. never (sym e) }

-- and every book
pub fits_newest : (b : Book) → Fits newest b
fits_newest b = record { rows = λ r m. row_newest r; hearing = λ e. never (sym e); accounts = λ e. never (sym e) }

-- so every lawful book can be stored in it
pub lawful_stored : (b : Book) → LawfulBook b → Stored (encode newest b) newest b
lawful_stored b l = record { version = (omega arith, omega arith); lawful = l; fits = fits_newest b; bytes = refl }

pub stored_newest : {s : List ℕ} {v : ℕ} {b : Book} → Stored s v b → Stored (encode newest b) newest b
stored_newest {b = b} h = lawful_stored b h.lawful

-- the image of a stored book holds it
pub book_back : {v : ℕ} {b : Book} → Stored (encode v b) v b → book_in (encode v b) ≡ b
book_back {v} {b} h = ap (book_of (encode v b)) (rows_are (encode v b) b.rows of) ∙ only_rows v h.version b h.lawful h.fits b.rows of
  where
    of : RowsOf (encode v b) b.rows
    of = rows_of v h.version b h.lawful h.fits

-- the image in the newest version
module _ {s : List ℕ} (h : LawfulImage s) where
  pub newest_book : book_in (encode newest (book_in s)) ≡ book_in s
  newest_book = book_back (stored_newest h)

  pub newest_image : NewestImage (encode newest (book_in s))
  newest_image = record {
    lawful = subst (λ (v : ℕ). Stored (encode newest (book_in s)) v (book_in (encode newest (book_in s)))) (sym (version_back newest (book_in s)))
        (subst (Stored (encode newest (book_in s)) newest) (sym newest_book) (stored_newest h));
    version = version_back newest (book_in s);
  }
