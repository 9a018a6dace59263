-- The search for an id among rows that rise by id, and then by way.
use mathlib.Core.Path.{◌≡◌, sym, ◌∙◌, subst}
use mathlib.Core.Logic.{inl, inr, ⊎_elim}
use mathlib.Core.List.{List, [], ◌∷◌, ◌++◌}
use Prim.Native.Nat.{ℕ, ◌-◌, ◌<◌, ◌≤◌}
use native.Mathlib.Omega.{arith}
use native.Mathlib.Nat.{lt_of_not-le, le_of_suc-le-suc, le_antisymm}
use lib.ListN.{length}
use Rattle.rules.specs.Words.{◌∈◌, With}
use Rattle.rules.specs.Words.With.{here, there}
use Rattle.rules.specs.Book.{Row, RisingByKey, LawfulRow, Known}
use Rattle.rules.specs.Image.{rows_start, streams_of, site_of}
use Rattle.rules.proofs.Lists.{in_append, in_right}
use Rattle.rules.proofs.Reading.{book_in, LawfulImage}
use Rattle.image.specs.Header.{HeaderOf}
use Rattle.image.specs.declared.Book as head
use Rattle.image.specs.Places.{row_at, next_at, rows_from, Whole, Stands}
use Rattle.image.proofs.Stands.{stands_start, stands_split, stands_row, stands_end}
use Rattle.image.proofs.Walks.{rows_start_lem}
use Rattle.changing.specs.reader.Seeks.{Passed, Reached}
use Rattle.changing.specs.finding.Spot.{Vacant, Taken}

-- a search starts at the first row
pub passed_start : {s : List ℕ} {b : head.Book} {id at left : ℕ} → LawfulImage s → HeaderOf s b → at ≡ rows_start b.version b.accounts b.nodes → left ≡ b.streams → Passed s id at left
passed_start {s} {id = id} {at} {left} w h e f =
    subst (λ (n : ℕ). Passed s id at n) (sym (f ∙ h.streams))
    (subst (λ (n : ℕ). Passed s id n (streams_of s)) (sym (rows_start_lem h e)) record { stands = stands_start w; lower = λ r m. absurd m })

-- rows that rise do so from any of them on
later : (xs ys : List Row) → RisingByKey (xs ++ ys) → RisingByKey ys
later [] ys up = up
later (x ∷ xs) ys up = later xs ys up.1

-- the rows from a place on
module _ {s : List ℕ} {at left : ℕ} (more : 0 < left) (w : Stands s at left) where
  -- they rise,
  pub rest_rises : RisingByKey (row_at s at ∷ rows_from s (left - 1) (next_at s at))
  rest_rises = subst RisingByKey (stands_split more w) (later w.before w.rest (subst RisingByKey w.all w.stored.lawful.rising))

  -- are lawful,
  pub rest_lawful : (r : Row) → r ∈ (row_at s at ∷ rows_from s (left - 1) (next_at s at)) → LawfulRow (site_of s) r
  rest_lawful r m =
      w.stored.lawful.rows r
      (subst (λ (rows : List Row). r ∈ rows) (sym w.all) (in_right r w.before w.rest (subst (λ (rows : List Row). r ∈ rows) (sym (stands_split more w)) m)))

  -- and have higher ids where the first of them has
  pub rest_higher : {id : ℕ} → id < (row_at s at).id → (r : Row) → r ∈ (row_at s at ∷ rows_from s (left - 1) (next_at s at)) → id < r.id
  rest_higher {id} l r (inl e) = subst (λ (x : Row). id < x.id) (sym e) l
  rest_higher l r (inr m) = omega (arith, rest_rises.0 r m, (rest_lawful r (inr m)).way_most)

-- WHERE a search ends: no row is left where the image ends, and elsewhere one stands there
module _ {s : List ℕ} {id at : ℕ} (w : Reached s id at) where
  abbrev before : List Row
  before = w.passed.stands.before

  abbrev rest : List Row
  rest = w.passed.stands.rest

  vacant : ((r : Row) → r ∈ rest → id < r.id) → Vacant s id at
  vacant higher = record {
    before = before;
    rest = rest;
    all = w.passed.stands.all;
    inside = w.passed.stands.inside;
    bytes = w.passed.stands.bytes;
    lower = w.passed.lower;
    higher = higher;
  }

  none_left : length s ≤ at → w.left ≤ 0
  none_left e = le_of_suc-le-suc (lt_of_not-le (λ (more : 0 < w.left). omega (arith, (stands_row more w.passed.stands).whole.front)))

  pub vacant_end : length s ≤ at → Vacant s id at
  vacant_end e = vacant (λ r m. nothing rest w.passed.stands.count (none_left e) r m)
    where
      nothing : (rows : List Row) → length rows ≡ w.left → w.left ≤ 0 → (r : Row) → r ∈ rows → id < r.id
      nothing [] e none r m = absurd m
      nothing (x ∷ rows) e none r m = absurd (omega arith)

  one_left : at < length s → 0 < w.left
  one_left l = lt_of_not-le (λ (none : w.left ≤ 0). omega (arith, stands_end none w.passed.stands))

  pub whole_there : at < length s → Whole s at
  whole_there l = (stands_row (one_left l) w.passed.stands).whole

  pub vacant_there : at < length s → ((row_at s at).id ≡ id → ⊥) → Vacant s id at
  vacant_there l other =
      vacant (λ r m. rest_higher (one_left l) w.passed.stands (lt_of_not-le (λ (k : (row_at s at).id ≤ id). other (le_antisymm k (w.stops (one_left l))))) r
      (subst (λ (rows : List Row). r ∈ rows) (stands_split (one_left l) w.passed.stands) m))

  pub taken_there : at < length s → (row_at s at).id ≡ id → Taken s id at
  taken_there l e = record { left = w.left; more = one_left l; stands = w.passed.stands; lower = w.passed.lower; named = e }

-- in a vacant spot no row has the id, and in a taken one a row has it
pub vacant_unknown : {s : List ℕ} {id at : ℕ} → Vacant s id at → Known (book_in s) id → ⊥
vacant_unknown {s} {id} v k =
    ⊎_elim (λ (m : k.row ∈ v.before). omega (arith, v.lower k.row m, k.named)) (λ (m : k.row ∈ v.rest). omega (arith, v.higher k.row m, k.named))
    (in_append k.row v.before v.rest (subst (λ (rows : List Row). k.row ∈ rows) v.all k.there))

pub taken_known : {s : List ℕ} {id at : ℕ} → Taken s id at → Known (book_in s) id
taken_known {s} {at = at} t = record { row = row_at s at; there = (stands_row t.more t.stands).there; named = t.named }

-- a row put in between others
pub with_middle : (r : Row) (xs ys : List Row) → With r (xs ++ ys) (xs ++ (r ∷ ys))
with_middle r [] ys = here
with_middle r (x ∷ xs) ys = there (with_middle r xs ys)
