-- The document's worked examples, P1 to P11, and two of second routes: one computed list, and what it says of the definitions.
use Rattle.std.specs.Prelude.{◌≡◌, ◌⊎◌, Bool, true, false, not, ◌&&◌, ◌||◌, List, [], ◌∷◌, ◌++◌, ℕ, suc, ◌<◌, eqb, get_or, set, take, drop}
use Rattle.rules.specs.Says.{Says}
use Rattle.rules.specs.Tiles.{Plan, Takes, Meet}
use Rattle.rules.specs.Topology.{Topology, nodes, Hop, all_nodes, Route, Clash}
use Rattle.rules.specs.Book.{Account, Row, Book, OnData}
use Rattle.rules.specs.Placing.{Asked, Planned, NewRows}
use Rattle.rules.specs.Image.{newest, old_accounts, encode, Stored}
use Rattle.rules.specs.Table.{Entry}
use Rattle.rules.specs.Calls.{Request, request_refusals, Work}
use Rattle.rules.specs.Calls.Request.{Open, Close}
use Rattle.rules.proofs.Tests.{all_below, all_of}
use Rattle.rules.proofs.Slots.{takes}
use Rattle.theorems.specs.model.Test.{same_by, same, same_row, clashes, meets, on_data}
use Rattle.theorems.specs.model.Search.{route_of}
use Rattle.theorems.specs.model.Answer.{passes, routes_of, row_on, new_rows, request_number, book_after}
use Rattle.theorems.specs.model.Table.{cell_of}
use Rattle.theorems.specs.model.Reading.{is_version, row_fits, is_lawful_book}

-- Plan A, line A, the square of P7, and two nodes
abbrev pub plan_a : Plan
plan_a = record { slots = 4; tiles = 2; kinds = 1; down = 2; up = 1 }

abbrev pub line_a : Topology
line_a = record { rows = 2 ∷ 5 ∷ 10 ∷ 4 ∷ [] }

-- who hears whom in line A where 3 hears 1
abbrev pub heard_a : Topology
heard_a = record { rows = 2 ∷ 13 ∷ 10 ∷ 6 ∷ [] }

abbrev pub square : Topology
square = record { rows = 6 ∷ 9 ∷ 9 ∷ 6 ∷ [] }

abbrev pub pair : Topology
pair = record { rows = 2 ∷ 1 ∷ [] }

-- a book of these rows, whose hearing is its links, with the account of older books
abbrev pub book_on : Plan → Topology → List Row → Book
book_on plan T rows = record { site = record { plan = plan; links = T; hearing = T; accounts = old_accounts }; rows = rows }

abbrev pub empty : Topology → Book
empty T = book_on plan_a T []

-- line A with this hearing
abbrev pub heard_as : Topology → Book
heard_as hearing = record { site = record { plan = plan_a; links = line_a; hearing = hearing; accounts = old_accounts }; rows = [] }

-- the book with these accounts
abbrev pub with_accounts : List Account → Book → Book
with_accounts accounts b = record {
  site = record { plan = b.site.plan; links = b.site.links; hearing = b.site.hearing; accounts = accounts };
  rows = b.rows;
}

-- REQUESTS, on account 0
abbrev pub asked : ℕ → ℕ → ℕ → ℕ → Asked
asked id source destination K = record { id = id; source = source; destination = destination; period = K; second = false; account = 0 }

-- by a second route too
abbrev pub asked_two : ℕ → ℕ → ℕ → ℕ → Asked
asked_two id source destination K = record { id = id; source = source; destination = destination; period = K; second = true; account = 0 }

-- on another account
abbrev pub asked_on : ℕ → Asked → Asked
asked_on account q = record { id = q.id; source = q.source; destination = q.destination; period = q.period; second = q.second; account = account }

abbrev pub opening : ℕ → ℕ → ℕ → ℕ → Request
opening id source destination K = Open (asked id source destination K)

abbrev pub opening_two : ℕ → ℕ → ℕ → ℕ → Request
opening_two id source destination K = Open (asked_two id source destination K)

-- any node of the book may stand in the middle of a route
abbrev pub any_middle : Book → ℕ
any_middle b = all_nodes (nodes b.site.links)

abbrev pub number_on : Book → Request → ℕ
number_on b q = request_number (any_middle b) b q

abbrev pub SaysOn : Book → Request → ℕ → Type 0
SaysOn b q = Says (request_refusals (any_middle b) b q)

-- the book after it
abbrev pub after : Book → Request → Book
after b q = book_after (any_middle b) b q

-- the rows on these routes with these offsets, from a way on
abbrev pub rows_on : Asked → ℕ → List (List ℕ) → List (List ℕ) → List Row
rows_on q way [] offsets = []
rows_on q way (p ∷ ps) [] = []
rows_on q way (p ∷ ps) (os ∷ offsets) = row_on q way p os ∷ rows_on q (suc way) ps offsets

-- the open is done, with these routes and their offsets
abbrev pub opens_with : Book → Asked → List (List ℕ) → List (List ℕ) → Bool
opens_with b q routes offsets =
    eqb (number_on b (Open q)) 0
    && (passes (same_by same routes) (routes_of b.site.links (any_middle b) q) && passes (same_by same_row (rows_on q 1 routes offsets)) (new_rows b q 1 routes))

-- the bytes are the image of the lawful book in the version
abbrev pub is_stored : List ℕ → ℕ → Book → Bool
is_stored s v b = is_version v && (is_lawful_book b && (all_of (row_fits v) b.rows && same s (encode v b)))

abbrev pub after2 : Book
after2 = after (empty line_a) (opening 1 3 0 2)

abbrev pub after3 : Book
after3 = after after2 (opening 2 0 3 2)

abbrev pub after7 : Book
after7 = after (empty pair) (opening 7 1 0 2)

abbrev pub after_second : Book
after_second = after (empty square) (opening_two 1 0 3 2)

abbrev pub hop : ℕ → ℕ → Hop
hop a b = record { from = a; to = b }

-- node 2's first eight operations after P2
abbrev pub operations_p9 : List ℕ
operations_p9 = 5 ∷ 5 ∷ 2 ∷ 3 ∷ 5 ∷ 0 ∷ 0 ∷ 0 ∷ []

-- in version 5: the one account of older books, and the account at the end of P11's row
abbrev pub image_p10 : List ℕ
image_p10 =
    0x53 ∷ 0x4C ∷ 0x42 ∷ 0x00 ∷ 0x05 ∷ 0x04 ∷ 0x02 ∷ 0x00 ∷ 0x01 ∷ 0x02 ∷ 0x01 ∷ 0x02 ∷ 0x00 ∷ 0x00 ∷ 0x00 ∷ 0x00
    ∷ 0x01 ∷ 0x00 ∷ 0x00 ∷ 0xFF ∷ 0xFF ∷ 0xFF ∷ 0xFF
    ∷ 0 ∷ 0 ∷ 0 ∷ 0 ∷ 0 ∷ 0 ∷ 0 ∷ 0x02 ∷ 0 ∷ 0 ∷ 0 ∷ 0 ∷ 0 ∷ 0 ∷ 0 ∷ 0x01
    ∷ 0 ∷ 0 ∷ 0 ∷ 0 ∷ 0 ∷ 0 ∷ 0 ∷ 0x02 ∷ 0 ∷ 0 ∷ 0 ∷ 0 ∷ 0 ∷ 0 ∷ 0 ∷ 0x01 ∷ []

abbrev pub image_p11 : List ℕ
image_p11 = set (set image_p10 12 0x01) 14 0x01 ++ (0x00 ∷ 0x07 ∷ 0x01 ∷ 0x00 ∷ 0x02 ∷ 0x01 ∷ 0x01 ∷ 0x00 ∷ 0x00 ∷ 0x02 ∷ 0x00 ∷ 0x00 ∷ [])

-- as they stood in version 4: no accounts
abbrev pub wide_p10 : List ℕ
wide_p10 = set (take 16 image_p10) 4 0x04 ++ drop 23 image_p10

abbrev pub wide_p11 : List ℕ
wide_p11 = set (set wide_p10 12 0x01) 14 0x01 ++ (0x00 ∷ 0x07 ∷ 0x01 ∷ 0x00 ∷ 0x02 ∷ 0x01 ∷ 0x01 ∷ 0x00 ∷ 0x00 ∷ 0x02 ∷ [])

-- in version 3: K in one byte
abbrev pub heard_p10 : List ℕ
heard_p10 = set wide_p10 4 0x03

abbrev pub heard_p11 : List ℕ
heard_p11 = set (set heard_p10 12 0x01) 14 0x01 ++ (0x00 ∷ 0x07 ∷ 0x01 ∷ 0x02 ∷ 0x01 ∷ 0x01 ∷ 0x00 ∷ 0x00 ∷ 0x02 ∷ [])

-- in version 2: the links alone
abbrev pub older_p10 : List ℕ
older_p10 = set (take 32 wide_p10) 4 0x02

abbrev pub older_p11 : List ℕ
older_p11 = set (set older_p10 12 0x01) 14 0x01 ++ (0x00 ∷ 0x07 ∷ 0x01 ∷ 0x02 ∷ 0x01 ∷ 0x01 ∷ 0x00 ∷ 0x00 ∷ 0x02 ∷ [])

-- and in version 1: no way
abbrev pub old_p10 : List ℕ
old_p10 = set older_p10 4 0x01

abbrev pub old_p11 : List ℕ
old_p11 = set (set old_p10 12 0x01) 14 0x01 ++ (0x00 ∷ 0x07 ∷ 0x02 ∷ 0x01 ∷ 0x01 ∷ 0x00 ∷ 0x00 ∷ 0x02 ∷ [])

-- THE COMPUTED LIST
abbrev pub examples : List Bool
examples =
    eqb (number_on (empty line_a) (opening 1 3 0 1)) 9
    ∷ all_below 4 (λ (o : ℕ). not (on_data plan_a 1 o) || (eqb o 2 || eqb o 3))
    ∷ on_data plan_a 1 2
    ∷ on_data plan_a 1 3
    ∷ opens_with (empty line_a) (asked 1 3 0 2) ((3 ∷ 2 ∷ 1 ∷ 0 ∷ []) ∷ []) ((2 ∷ 3 ∷ 5 ∷ []) ∷ [])
    ∷ opens_with after2 (asked 2 0 3 2) ((0 ∷ 1 ∷ 2 ∷ 3 ∷ []) ∷ []) ((2 ∷ 6 ∷ 7 ∷ []) ∷ [])
    ∷ eqb (number_on after3 (opening 3 3 2 2)) 9
    ∷ eqb (number_on after3 (Close 1)) 0
    ∷ opens_with (after after3 (Close 1)) (asked 3 3 2 2) ((3 ∷ 2 ∷ []) ∷ []) ((2 ∷ []) ∷ [])
    ∷ meets 4 2 3 5 7
    ∷ (takes 4 2 3 27 && takes 4 5 7 27)
    ∷ all_below 27 (λ (slot : ℕ). not (takes 4 2 3 slot && takes 4 5 7 slot))
    ∷ passes (same (0 ∷ 1 ∷ 3 ∷ [])) (route_of square (all_nodes 4) 0 3)
    ∷ clashes line_a (hop 0 1) (hop 2 3)
    ∷ not (clashes line_a (hop 0 1) (hop 3 2))
    ∷ all_below 8 (λ (slot : ℕ). eqb (cell_of after2 2 slot after2.rows).operation (get_or operations_p9 slot 0))
    ∷ is_stored image_p10 newest (empty pair)
    ∷ opens_with (empty pair) (asked 7 1 0 2) ((1 ∷ 0 ∷ []) ∷ []) ((2 ∷ []) ∷ [])
    ∷ is_stored image_p11 newest after7
    ∷ is_stored old_p10 1 (empty pair)
    ∷ is_stored old_p11 1 after7
    ∷ opens_with (empty square) (asked_two 1 0 3 2) ((0 ∷ 1 ∷ 3 ∷ []) ∷ (0 ∷ 2 ∷ 3 ∷ []) ∷ []) ((2 ∷ 3 ∷ []) ∷ (3 ∷ 5 ∷ []) ∷ [])
    ∷ eqb (number_on (empty line_a) (opening_two 1 3 0 2)) 18
    ∷ clashes heard_a (hop 0 1) (hop 3 2)
    ∷ is_stored older_p10 2 (empty pair)
    ∷ is_stored older_p11 2 after7
    ∷ is_stored heard_p10 3 (empty pair)
    ∷ is_stored heard_p11 3 after7
    ∷ is_stored wide_p10 4 (empty pair)
    ∷ is_stored wide_p11 4 after7
    ∷ []

-- WHAT IT SAYS

-- the request is done and leaves the book c
abbrev pub Leaves : Book → Request → Book → Type 0
Leaves b q = Work (any_middle b) b q 0

-- the open is done and leaves the book c; it is given these routes, and its rows on them have these offsets
pub record OpensWith (b : Book) (q : Asked) (routes offsets : List (List ℕ)) (c : Book) : Type 0 where
  pub leaves : Leaves b (Open q) c
  pub planned : Planned b.site.links (any_middle b) q routes
  pub placed : NewRows b q 1 routes (rows_on q 1 routes offsets)

pub record ExamplesHold : Type 0 where
  pub p1 : SaysOn (empty line_a) (opening 1 3 0 1) 9
  pub p1_only : (o : ℕ) → o < 4 → OnData plan_a 1 o → (o ≡ 2) ⊎ (o ≡ 3)
  pub p1_two : OnData plan_a 1 2
  pub p1_three : OnData plan_a 1 3
  pub p2 : OpensWith (empty line_a) (asked 1 3 0 2) ((3 ∷ 2 ∷ 1 ∷ 0 ∷ []) ∷ []) ((2 ∷ 3 ∷ 5 ∷ []) ∷ []) after2
  pub p3 : OpensWith after2 (asked 2 0 3 2) ((0 ∷ 1 ∷ 2 ∷ 3 ∷ []) ∷ []) ((2 ∷ 6 ∷ 7 ∷ []) ∷ []) after3
  pub p4 : SaysOn after3 (opening 3 3 2 2) 9
  pub p5_close : Leaves after3 (Close 1) (after after3 (Close 1))
  pub p5 : OpensWith (after after3 (Close 1)) (asked 3 3 2 2) ((3 ∷ 2 ∷ []) ∷ []) ((2 ∷ []) ∷ []) (after (after after3 (Close 1)) (opening 3 3 2 2))
  pub p6 : Meet 4 2 3 5 7
  pub p6_in : Takes 4 2 3 27 × Takes 4 5 7 27
  pub p6_first : (slot : ℕ) → slot < 27 → (Takes 4 2 3 slot × Takes 4 5 7 slot) → ⊥
  pub p7 : Route square (all_nodes 4) 0 3 (0 ∷ 1 ∷ 3 ∷ [])
  pub p8 : Clash line_a (hop 0 1) (hop 2 3)
  pub p8_not : Clash line_a (hop 0 1) (hop 3 2) → ⊥
  pub p8_heard : Clash heard_a (hop 0 1) (hop 3 2)
  pub p9 : (slot : ℕ) → slot < 8 → (id : ℕ) × Entry after2 2 slot (get_or operations_p9 slot 0) id
  pub p10 : Stored image_p10 newest (empty pair)
  pub p11 : OpensWith (empty pair) (asked 7 1 0 2) ((1 ∷ 0 ∷ []) ∷ []) ((2 ∷ []) ∷ []) after7
  pub p11_image : Stored image_p11 newest after7
  pub p10_old : Stored old_p10 1 (empty pair)
  pub p11_old : Stored old_p11 1 after7
  pub p10_older : Stored older_p10 2 (empty pair)
  pub p11_older : Stored older_p11 2 after7
  pub p10_heard : Stored heard_p10 3 (empty pair)
  pub p11_heard : Stored heard_p11 3 after7
  pub p10_wide : Stored wide_p10 4 (empty pair)
  pub p11_wide : Stored wide_p11 4 after7
  pub second : OpensWith (empty square) (asked_two 1 0 3 2) ((0 ∷ 1 ∷ 3 ∷ []) ∷ (0 ∷ 2 ∷ 3 ∷ []) ∷ []) ((2 ∷ 3 ∷ []) ∷ (3 ∷ 5 ∷ []) ∷ []) after_second
  pub no_second : SaysOn (empty line_a) (opening_two 1 3 0 2) 18
