-- Another planner's tables: whether they are entries, what they show, and the one book that expands to them.
use mathlib.Core.{Path.◌≡◌, Logic.◌⊎◌, List.List, List.[], List.◌∷◌}
use Rattle.std.specs.Prelude.{ℕ, ◌+◌, ◌*◌, ◌%◌, ◌<◌, ◌≤◌, length, get_or, take, drop}
use Rattle.rules.specs.Words.{◌∈◌, Distinct}
use Rattle.rules.specs.Says.{Refusal, ◌when◌, Says}
use Rattle.rules.specs.Tiles.{Plan, PlanInRange, short_tiles, slots_of, Control, Data, ShortPeriod}
use Rattle.rules.specs.Topology.{NodesInRange, nodes}
use Rattle.rules.specs.Book.{Site, Row, Book, key_of, most_streams, LawfulBook}
use Rattle.rules.specs.Image.{newest, old_accounts, word_at, encode}
use Rattle.rules.specs.Table.{on_way, table_length, TablePart}
use Rattle.rules.specs.Calls.{site_given, TopologiesGiven, Reply}

-- ENTRIES, counted through all the tables, node 0 first

-- how many there are
abbrev pub entries_of : Plan → ℕ → ℕ
entries_of plan N = N * slots_of plan short_tiles

-- the operation of entry i
abbrev pub operation_at : List ℕ → ℕ → ℕ
operation_at tables i = get_or tables (3 * i) 0

-- and its id
abbrev pub id_at : List ℕ → ℕ → ℕ
id_at tables i = word_at tables (3 * i + 1)

-- an operation of a stream on a way: 1 to 4 on its first route, 17 to 20 on its second
pub record OfStream (operation way : ℕ) : Type 0 where
  pub plain : ℕ
  pub some : 1 ≤ plain
  pub most : plain ≤ 4
  pub either : (way ≡ 1) ⊎ (way ≡ 2)
  pub shown : operation ≡ on_way way plain

-- control without an id in exactly the control slots; in the others sleep without an id, or an operation of a stream with one
pub data IsEntry (plan : Plan) (slot : ℕ) : ℕ → ℕ → Type 0 where
  sleep : Data plan slot → IsEntry plan slot 0 0
  works : {operation way id : ℕ} → Data plan slot → OfStream operation way → 1 ≤ id → IsEntry plan slot operation id
  control : Control plan slot → IsEntry plan slot 5 0

-- tables of 300 * S * N bytes, all entries
pub record TablesOfEntries (plan : Plan) (N : ℕ) (tables : List ℕ) : Type 0 where
  pub size : length tables ≡ 3 * entries_of plan N
  pub entries : (i : ℕ) → i < entries_of plan N → IsEntry plan (i % slots_of plan short_tiles) (operation_at tables i) (id_at tables i)

-- some entry shows the pair of id and way
pub record Shows (plan : Plan) (N : ℕ) (tables : List ℕ) (k : ℕ) : Type 0 where
  pub place : ℕ
  pub there : place < entries_of plan N
  pub way : ℕ
  pub of_stream : OfStream (operation_at tables place) way
  pub pair : k ≡ key_of (id_at tables place) way

-- over 64 different pairs of id and way
pub record TooMany (plan : Plan) (N : ℕ) (tables : List ℕ) : Type 0 where
  pub keys : List ℕ
  pub different : Distinct keys
  pub shown : (k : ℕ) → k ∈ keys → Shows plan N tables k
  pub over : most_streams < length keys

-- THE BOOK

-- the node's part of the tables
abbrev pub table_at : Plan → List ℕ → ℕ → List ℕ
table_at plan tables node = take (table_length plan short_tiles) (drop (node * table_length plan short_tiles) tables)

-- a lawful book on the site with periods up to 100 that expands to exactly these tables
pub record ShownBy (site : Site) (tables : List ℕ) (b : Book) : Type 0 where
  pub on_site : b.site ≡ site
  pub lawful : LawfulBook b
  pub short : (r : Row) → r ∈ b.rows → ShortPeriod r.period
  pub expands : (node : ℕ) → node < nodes site.links → TablePart b node 0 short_tiles (table_at site.plan tables node)

-- P is true of such a book
abbrev pub OfShown : Site → List ℕ → (Book → Type 0) → Type 0
OfShown site tables P = (b : Book) × ShownBy site tables b × P b

-- 10, 11, 19, 8, 20, 12; the site has the one account of older books
abbrev pub tables_refusals : Plan → ℕ → List ℕ → List ℕ → List ℕ → ℕ → List Refusal
tables_refusals plan N links hearing tables room =
    (10 when ((PlanInRange plan × NodesInRange N) → ⊥))
    ∷ (11 when (TopologiesGiven N links hearing → ⊥))
    ∷ (19 when (TablesOfEntries plan N tables → ⊥))
    ∷ (8 when TooMany plan N tables)
    ∷ (20 when ((b : Book) → ShownBy (site_given plan N links hearing old_accounts) tables b → ⊥))
    ∷ (12 when OfShown (site_given plan N links hearing old_accounts) tables (λ (b : Book). room < length (encode newest b)))
    ∷ []

-- it writes that book, in the newest version
abbrev pub BookOf : Plan → ℕ → List ℕ → List ℕ → List ℕ → List ℕ → ℕ → ℕ → List ℕ → Type 0
BookOf plan N links hearing tables out =
    Reply (Says (tables_refusals plan N links hearing tables (length out)))
    (λ (bytes : List ℕ). OfShown (site_given plan N links hearing old_accounts) tables (λ (b : Book). bytes ≡ encode newest b)) out
