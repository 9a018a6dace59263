-- Books damaged on laptops: the rows that can be cut out of an image, those of them that are kept, and the call that salvages them.
use mathlib.Core.{Path.◌≡◌, Logic.◌⊎◌, Bool.false, List.List, List.[], List.◌∷◌, List.◌++◌}
use Rattle.std.specs.Prelude.{ℕ, ◌+◌, ◌*◌, ◌<◌, ◌≤◌, length, get_or, drop}
use Rattle.rules.specs.Words.{◌∈◌}
use Rattle.rules.specs.Says.{Refusal, ◌when◌, Says}
use Rattle.rules.specs.Topology.{SoundTopologies, most_route_hops}
use Rattle.rules.specs.Book.{Row, Book, hops, key, LawfulRow, Paired, Paid, RowsMeet}
use Rattle.rules.specs.Placing.{Full}
use Rattle.rules.specs.Image.{has_ways, has_accounts, RowFits, hops_place, row_length, word, encode_row, encode, version_of, links_of, hearing_of, book_of, rows_place, head_refusals}
use Rattle.rules.specs.Calls.{Call, InOrder, Wrote, Unchanged}

-- CUTTING

-- by its hop count a row of the version can be cut out at the front of the bytes
pub record Cuttable (v : ℕ) (s : List ℕ) : Type 0 where
  pub reaches : hops_place v < length s
  pub some : 1 ≤ get_or s (hops_place v) 0
  pub most : get_or s (hops_place v) 0 ≤ most_route_hops
  pub whole : row_length v + 3 * get_or s (hops_place v) 0 ≤ length s

-- it is this row, before the others: as many nodes and offsets as its hops need; in a version without ways it is a first way, without accounts of account 0
pub record Cut (v : ℕ) (s : List ℕ) (r : Row) (others : List ℕ) : Type 0 where
  pub cuttable : Cuttable v s
  pub bytes : s ≡ encode_row v r ++ others
  pub nodes : length r.route ≡ hops r + 1
  pub offsets : length r.offsets ≡ hops r
  pub one_way : has_ways v ≡ false → r.way ≡ 1
  pub old_account : has_accounts v ≡ false → r.account ≡ 0

-- the rows are cut out one after the other while one can be, and the bytes behind the last are lost
abbrev pub CutAll : ℕ → List ℕ → List Row → List ℕ → Type 0
CutAll v s [] lost = (Cuttable v s → ⊥) × (lost ≡ s)
CutAll v s (r ∷ rows) lost = (others : List ℕ) × Cut v s r others × CutAll v others rows lost

-- KEEPING

-- the row is lawful beside those kept: by itself, in its version, behind all of them, a second way with its first among them, and no account overdrawn
pub record LawfulBeside (v : ℕ) (b : Book) (r : Row) : Type 0 where
  pub lawful : LawfulRow b.site r
  pub fits : RowFits v r
  pub above : (x : Row) → x ∈ b.rows → key x < key r
  pub paired : Paired b.rows r
  pub paid : Paid b.site.accounts (b.rows ++ (r ∷ []))

-- the reasons for dropping a row: 15; 8, past 64 rows or 512 hops; 16, it meets one of those kept
abbrev pub drop_reasons : ℕ → Book → Row → List Refusal
drop_reasons v b r = (15 when (LawfulBeside v b r → ⊥)) ∷ (8 when Full b (r.route ∷ [])) ∷ (16 when ((x : Row) × (x ∈ b.rows) × RowsMeet b.site r x)) ∷ []

-- the book with the row behind the others
abbrev pub kept : Book → Row → Book
kept b r = record { site = b.site; rows = b.rows ++ (r ∷ []) }

-- the row is dropped for the first reason that applies, or with 0 it is kept
abbrev pub Keep : ℕ → Book → Row → ℕ → Book → Type 0
Keep v b r reason c = Call (Says (drop_reasons v b r)) (c ≡ b) (c ≡ kept b r) reason

-- what is salvaged of an image: the rows cut out, the reason for each, the bytes lost, and the book of those kept
pub record Salvaged (s : List ℕ) (rows : List Row) (reasons lost : List ℕ) (c : Book) : Type 0 where
  pub cut : CutAll (version_of s) (drop (rows_place s) s) rows lost
  pub keep : InOrder (Keep (version_of s)) (book_of s []) rows reasons c

-- THE CALL

-- for each row cut the reason, 0 where it is kept, then its id
abbrev pub report_bytes : List Row → List ℕ → List ℕ
report_bytes [] ns = []
report_bytes (r ∷ rows) [] = []
report_bytes (r ∷ rows) (n ∷ ns) = (n ∷ word r.id) ++ report_bytes rows ns

-- P is true of what is salvaged
abbrev pub OfSalvaged : List ℕ → (List Row → List ℕ → List ℕ → Book → Type 0) → Type 0
OfSalvaged s P = (rows : List Row) × (reasons lost : List ℕ) × (c : Book) × Salvaged s rows reasons lost c × P rows reasons lost c

-- 12: the output is shorter than the book, or the report shorter than 3 bytes for each row cut
abbrev pub NoRoom : List ℕ → ℕ → ℕ → Type 0
NoRoom s room report_room =
    OfSalvaged s (λ (rows : List Row) (reasons lost : List ℕ) (c : Book). room < length (encode (version_of s) c))
    ⊎ ((rows : List Row) × (lost : List ℕ) × CutAll (version_of s) (drop (rows_place s) s) rows lost × (report_room < 3 * length rows))

-- as check gives for header and topologies, 14 only if the image ends before the topologies do; then 12
abbrev pub salvage_refusals : List ℕ → ℕ → ℕ → List Refusal
salvage_refusals s room report_room =
    head_refusals s
    ++ (14 when (length s < rows_place s))
    ∷ (11 when (SoundTopologies (links_of s) (hearing_of s) → ⊥))
    ∷ (12 when NoRoom s room report_room)
    ∷ []

-- the book was written in the version that it came in, and the report; how many rows were cut, and how many bytes lost
abbrev pub SalvageWritten : List ℕ → List ℕ → List ℕ → ℕ → List ℕ → ℕ → ℕ → List ℕ → Type 0
SalvageWritten s out report len out' rows_cut bytes_lost report' =
    OfSalvaged s (λ (rows : List Row) (reasons lost : List ℕ) (c : Book).
    Wrote (encode (version_of s) c) out len out' × Wrote (report_bytes rows reasons) report (3 * rows_cut) report' × (rows_cut ≡ length rows) × (bytes_lost ≡ length lost))

-- the image, both buffers before; the number, the length and the output after, the rows cut, the bytes lost and the report after
abbrev pub Salvage : List ℕ → List ℕ → List ℕ → ℕ → ℕ → List ℕ → ℕ → ℕ → List ℕ → Type 0
Salvage s out report number len out' rows_cut bytes_lost report' =
    Call (Says (salvage_refusals s (length out) (length report))) (Unchanged out len out' × Unchanged report rows_cut report' × (bytes_lost ≡ 0))
    (SalvageWritten s out report len out' rows_cut bytes_lost report') number
