-- The rows kept so far, and what is said of one more.
use Rattle.std.specs.Prelude.{◌≡◌, List, [], ◌∷◌, ◌++◌, ℕ, ◌+◌, ◌<◌, ◌≤◌, length, Option, Some, None, IfSome, Result}
use Rattle.std.specs.Result.{result_unwrap_or}
use Rattle.rules.specs.Words.{◌∈◌}
use Rattle.rules.specs.Says.{Says}
use Rattle.rules.specs.Said.{said}
use Rattle.rules.specs.declared.refusals.Refusal.{Refusal}
use Rattle.rules.specs.Book.{Row, hops_in_all, key, most_streams, most_hops, most_accounts}
use Rattle.rules.specs.Image.{version_of, plan_of, FieldsInRange, accounts_of, book_of}
use Rattle.rules.specs.Salvage.{LawfulBeside, drop_reasons, Keep}
use Rattle.rules.proofs.Saved.{Held}
use Rattle.index.specs.Index.{IndexOf}
use Rattle.image.specs.Places.{row_at}
use Rattle.image.specs.declared.Book.{Book}
use Rattle.accounts.specs.Lists.{ListRead, LeftBy}
use Rattle.rows.specs.Frame.{ReadFrom}
use Rattle.rows.specs.Walk.{RowStands}
use Rattle.rows.specs.Pairs.{ComesBehind}
use Rattle.rows.specs.Hops.{HearingRead}
use Rattle.damaged.specs.declared.judging.Kept.{Kept}
use Rattle.damaged.specs.judging.Placed.{placed, RowsPlaced}

-- what was read of an image before its rows are judged: its header, its accounts, its links and its hearing
pub record SiteRead (s : List ℕ) (b : Book) (links hearing : List ℕ) : Type 0 where
  pub read : ReadFrom s b links
  pub heard : HearingRead s hearing

-- and before one is kept: its header and its accounts
pub record HeaderRead (s : List ℕ) (b : Book) : Type 0 where
  pub fields : FieldsInRange s
  pub list : ListRead s b

-- the key of the last row, 0 where there is none
abbrev pub last_key : List ℕ → Option ℕ → ℕ
last_key s (Some before) = key (row_at s before)
last_key s None = 0

-- these rows were kept and stand at the places, the last of them where it is said to, so much is left of each account, and the words are their index
pub record Beside (s : List ℕ) (kept : Kept) (places left words : List ℕ) (rows : List Row) : Type 0 where
  pub held : Held (version_of s) (book_of s rows)
  pub count : kept.rows ≡ length rows
  pub hops : kept.hops ≡ hops_in_all rows
  pub top : (x : Row) → x ∈ rows → key x ≤ last_key s kept.last
  pub stands : IfSome kept.last (RowStands s)
  pub there : IfSome kept.last (λ before. row_at s before ∈ rows)
  pub placed_there : RowsPlaced s places kept.rows
  pub known : (i : ℕ) → i < kept.rows → placed s places i ∈ rows
  pub nth : (x : Row) → x ∈ rows → (i : ℕ) × (i < kept.rows) × (x ≡ placed s places i)
  pub purses : LeftBy (accounts_of s) rows left
  pub all_purses : length left ≡ most_accounts
  pub index : IndexOf (plan_of s).slots rows words

-- there are such rows
abbrev pub SomeBeside : List ℕ → Kept → List ℕ → List ℕ → List ℕ → Type 0
SomeBeside s kept places left words = (rows : List Row) × Beside s kept places left words rows

-- the row may come behind the last of them, or as the first of all
abbrev pub Behind : List ℕ → Option ℕ → Row → Type 0
Behind s (Some before) r = ComesBehind (Some (row_at s before)) r
Behind s None r = ComesBehind None r

-- a book with these counts has room for a row of so many hops more
abbrev pub Room : Kept → ℕ → Type 0
Room kept hops = (kept.rows < most_streams) × (kept.hops + hops ≤ most_hops)

-- the row that stands at the place is lawful beside the rows
pub record StandsBeside (s : List ℕ) (at : ℕ) (rows : List Row) : Type 0 where
  pub row : RowStands s at
  pub lawful : LawfulBeside (version_of s) (book_of s rows) (row_at s at)

-- beside the rows kept this is said of the row at the place, and with 0 it is lawful beside them
pub record ReasonFor (s : List ℕ) (at : ℕ) (kept : Kept) (places left words : List ℕ) (reason : ℕ) : Type 0 where
  pub says : (rows : List Row) → Beside s kept places left words rows → Says (drop_reasons (version_of s) (book_of s rows) (row_at s at)) reason
  pub stays : reason ≡ 0 → (rows : List Row) → Beside s kept places left words rows → StandsBeside s at rows

-- the row at the place is kept behind the others
abbrev pub KeptMore : List ℕ → ℕ → Kept → List ℕ → List ℕ → List ℕ → Kept → List ℕ → List ℕ → List ℕ → Type 0
KeptMore s at kept places left words kept' places' left' words' =
    (rows : List Row) → Beside s kept places left words rows → Beside s kept' places' left' words' (rows ++ (row_at s at ∷ []))

-- the row at the place was judged, and after it these rows are kept
pub record JudgedBeside (s : List ℕ) (at : ℕ) (rows : List Row) (reason : ℕ) (kept : Kept) (places left words : List ℕ) : Type 0 where
  pub after : List Row
  pub keep : Keep (version_of s) (book_of s rows) (row_at s at) reason (book_of s after)
  pub beside : Beside s kept places left words after

-- where it is dropped no more is kept than before
abbrev pub Judges : List ℕ → ℕ → Kept → List ℕ → List ℕ → List ℕ → Result Kept Refusal → List ℕ → List ℕ → List ℕ → Type 0
Judges s at kept places left words judged places' left' words' =
    (rows : List Row) → Beside s kept places left words rows → JudgedBeside s at rows (said judged) (result_unwrap_or judged kept) places' left' words'
