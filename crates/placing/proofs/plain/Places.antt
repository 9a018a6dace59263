-- Where the rows stand, one after the other.
use mathlib.Core.Path.{◌≡◌, refl, sym, ap, ◌∙◌}
use mathlib.Core.Logic.{inl, inr}
use mathlib.Core.List.{List}
use Prim.Native.Nat.{ℕ, zero, suc, ◌<◌, ◌≤◌}
use native.Mathlib.Omega.{arith}
use lib.ListN.{length, get_or}
use denote.Ref.{Bor}
use Rattle.std.specs.Prelude.{Option, Some, None}
use Rattle.std.specs.List.{zip, enumerate_from}
use Rattle.std.specs.Iterator.{Yields, YieldsFirst}
use Rattle.std.specs.Iterator.Adapters.{zip_first, zip_second, enumerate_source, enumerate_count, enumerate_steps}
use Rattle.std.specs.declared.iter.Enumerate.{Enumerate}
use Rattle.std.specs.Slice.Iter.{iter_rest}
use Rattle.std.specs.declared.iter.Zip.{Zip}
use Rattle.std.specs.declared.slice.Iter.{Iter}
use Rattle.std.proofs.iter.Yields.{fronts}
use Rattle.std.proofs.lemmas.Iterator.{YieldsList, zips, YieldsList-from_slice, YieldsList-from_zip}
use Rattle.std.proofs.lemmas.Iterator.Consumers.{YieldsList-from_first, YieldsList-from_enumerate, YieldsList-turn, YieldsList-end}
use Rattle.std.proofs.lemmas.List.{get_or_default}
use Rattle.std.proofs.lemmas.List.FromFn.{get_or-enumerate_from, length-enumerate_from}
use Rattle.std.proofs.lemmas.Slice.Zip.{get_or-zip, length-zip}
use Rattle.image.proofs.Places.{length_rows_from}
use Rattle.rules.specs.Words.{◌∈◌}
use Rattle.rules.specs.Book.{Row}
use Rattle.image.specs.Places.{next_at, rows_from, Whole, WholeRows}
use Rattle.placing.specs.plain.Plain.{place_of, nth_row, RowsThere, SmallRow}

pub place_next : (s : List ℕ) (start i : ℕ) → next_at s (place_of s start i) ≡ place_of s start (suc i)
unfolding place_of
place_next s start zero = refl
place_next s start (suc i) = place_next s (next_at s start) i

pub place_first : (s : List ℕ) (start : ℕ) → place_of s start 0 ≡ start
unfolding place_of
place_first s start = refl

-- the rows from a place on are those that stand there
pub nth_from : (s : List ℕ) (n start i : ℕ) → i < n → nth_row s start i ∈ rows_from s n start
unfolding place_of
nth_from s zero start i l = absurd (omega arith)
nth_from s (suc n) start zero l = inl refl
nth_from s (suc n) start (suc i) l = inr (nth_from s n (next_at s start) i (omega arith))

pub from_nth : (s : List ℕ) (n start : ℕ) (x : Row) → x ∈ rows_from s n start → (i : ℕ) × (i < n) × (x ≡ nth_row s start i)
unfolding place_of
from_nth s zero start x m = absurd m
from_nth s (suc n) start x (inl e) = (0, omega arith, e)
from_nth s (suc n) start x (inr m) = let r = from_nth s n (next_at s start) x m in (suc r.0, omega (arith, r.1), r.2)

-- they are whole
pub there_whole : (s : List ℕ) (n start : ℕ) → ((i : ℕ) → i < n → Whole s (place_of s start i)) → WholeRows s n start
unfolding place_of WholeRows
there_whole s zero start h = tt
there_whole s (suc n) start h = (h 0 (omega arith), there_whole s n (next_at s start) (λ i l. h (suc i) (omega arith)))

-- and each stands in its turn
pub nth_there : (s : List ℕ) (n start i : ℕ) (d : Row) → i < n → get_or (rows_from s n start) i d ≡ nth_row s start i
unfolding place_of
nth_there s zero start i d l = absurd (omega arith)
nth_there s (suc n) start zero d l = refl
nth_there s (suc n) start (suc i) d l = nth_there s n (next_at s start) i d (omega arith)

pub there_small : {s : List ℕ} {start n : ℕ} → RowsThere s start n → (i : ℕ) → i < n → SmallRow (nth_row s start i)
there_small t i l = let r = t.each i l in record { most = r.lawful.route_most; nodes = r.small }

-- IN A `for` over the rows and as many numbers beside them
abbrev Steps : Zip (List Row) (Iter ℕ) → Option (Row × Bor ℕ) → Zip (List Row) (Iter ℕ) → Type 0
Steps = zips (YieldsFirst {S = List Row} {A = Row} (λ l. l)) (fronts {A = ℕ})

module _ (s moduli : List ℕ) (n start : ℕ) (it : Zip (List Row) (Iter ℕ)) (a : zip_first it ≡ rows_from s n start) (b : iter_rest (zip_second it) ≡ moduli) (few : n ≤ length moduli) where
  road : YieldsList Steps (λ (p : Row × Bor ℕ). (p.0, p.1.now)) it (zip (rows_from s n start) moduli)
  road = YieldsList-from_zip (YieldsList-from_first (λ (x : Row). x) (λ l. l) (rows_from s n start) a) (YieldsList-from_slice moduli b)

  size : length (zip (rows_from s n start) moduli) ≡ n
  size = omega (arith, length-zip (rows_from s n start) moduli, length_rows_from s n start, few)

  module _ (xs : List (Row × Bor ℕ)) (t : Zip (List Row) (Iter ℕ)) (y : Yields Steps it xs t) (r : Option (Row × Bor ℕ)) (u : Zip (List Row) (Iter ℕ)) where
    -- a row and its number, where so many came before
    pub row_turn : (row : Row) (m : Bor ℕ) → r ≡ Some (row, m) → Steps t r u → (length xs < n) × (row ≡ nth_row s start (length xs)) × (m.now ≡ get_or moduli (length xs) 0)
    row_turn row m is p =
        let turn = YieldsList-turn road xs t y r u (row, m) is p in
        let low : length xs < n = omega (arith, turn.0, size) in
        let inside : length xs < length moduli = omega (arith, low, few) in
        let both = turn.1 ∙ get_or-zip (rows_from s n start) moduli (length xs) (row, m.now) (omega (arith, low, length_rows_from s n start)) inside in (
          low,
          ap (λ (q : Row × ℕ). q.0) both ∙ nth_there s n start (length xs) row low,
          ap (λ (q : Row × ℕ). q.1) both ∙ get_or_default moduli (length xs) m.now 0 inside,
        )

    -- and at the end all came
    pub rows_end : r ≡ None → Steps t r u → length xs ≡ n
    rows_end is p = (YieldsList-end road xs t y r u is p).1 ∙ size

-- IN A `for` over the rows and their numbers
abbrev Counted : Enumerate (List Row) → Option (ℕ × Row) → Enumerate (List Row) → Type 0
Counted = enumerate_steps (YieldsFirst {S = List Row} {A = Row} (λ l. l))

module _ (s : List ℕ) (n start : ℕ) (it : Enumerate (List Row)) (a : enumerate_source it ≡ rows_from s n start) (b : enumerate_count it ≡ 0)
    (xs : List (ℕ × Row)) (t : Enumerate (List Row)) (y : Yields Counted it xs t) (r : Option (ℕ × Row)) (u : Enumerate (List Row)) where
  counted : YieldsList {B = ℕ × Row} Counted (λ p. (p.0, p.1)) it (enumerate_from 0 (rows_from s n start))
  counted = YieldsList-from_enumerate (YieldsList-from_first (λ (x : Row). x) (λ l. l) (rows_from s n start) a) b

  many : length (enumerate_from 0 (rows_from s n start)) ≡ n
  many = length-enumerate_from 0 (rows_from s n start) ∙ length_rows_from s n start

  -- a row has the number of those that came before
  pub row_counted : (i : ℕ) (row : Row) → r ≡ Some (i, row) → Counted t r u → (i < n) × (i ≡ length xs) × (row ≡ nth_row s start i)
  row_counted i row is p =
      let turn = YieldsList-turn counted xs t y r u (i, row) is p in
      let low : length xs < n = omega (arith, turn.0, many) in
      let both = turn.1 ∙ get_or-enumerate_from 0 (rows_from s n start) (length xs) (i, row) (omega (arith, low, length_rows_from s n start)) in
      let e : i ≡ length xs = omega (arith, ap (λ (q : ℕ × Row). q.0) both) in (
        omega (arith, low, e),
        e,
        ap (λ (q : ℕ × Row). q.1) both ∙ nth_there s n start (length xs) row low ∙ ap (nth_row s start) (sym e),
      )

  -- and at the end all came
  pub counted_end : r ≡ None → Counted t r u → length xs ≡ n
  counted_end is p = (YieldsList-end counted xs t y r u is p).1 ∙ many
