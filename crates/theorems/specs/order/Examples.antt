-- Demand 3 in examples: lists that keep all its premises, and lists that keep all but one.
use Rattle.std.specs.Prelude.{◌≡◌, List, [], ◌∷◌, ◌++◌, ℕ, zero, suc, ◌*◌, ◌-◌, ◌≤◌, length, replicate}
use Rattle.rules.specs.Words.{NoBitFrom, ◌∈◌, Pairwise, Reordered}
use Rattle.rules.specs.Topology.{Topology, nodes}
use Rattle.rules.specs.Book.{Row, Book}
use Rattle.rules.specs.Image.{newest, longest_image, encode, plan_of, Stored}
use Rattle.rules.specs.Index.{index_length}
use Rattle.rules.specs.Calls.{Request, most_requests}
use Rattle.rules.specs.Calls.Request.{Open, Close}
use Rattle.rules.specs.Order.{IdInRange, DifferentIds, Apart, Room, Posting, Ample}
use Rattle.rules.proofs.Reading.{with_rows}
use Rattle.theorems.specs.model.Examples.{plan_a, line_a, pair, book_on, empty, with_accounts, square, asked, asked_on, opening, opening_two, any_middle}
use Rattle.theorems.specs.order.Needed.{OfBytes, OfWords}

-- a stream of one hop, on one route
abbrev pub one_hop : ℕ → ℕ → ℕ → ℕ → ℕ → Row
one_hop id K a b o = record { id = id; way = 1; period = K; route = a ∷ b ∷ []; offsets = o ∷ []; account = 0 }

-- a stream of period 2 over a or b, on both routes
abbrev pub both_ways : ℕ → ℕ → ℕ → ℕ → ℕ → List Row
both_ways id source a b destination =
    record { id = id; way = 1; period = 2; route = source ∷ a ∷ destination ∷ []; offsets = 2 ∷ 3 ∷ []; account = 0 }
    ∷ record { id = id; way = 2; period = 2; route = source ∷ b ∷ destination ∷ []; offsets = 3 ∷ 5 ∷ []; account = 0 }
    ∷ []

abbrev pub image : Book → List ℕ
image = encode newest

-- ALL PREMISES KEPT

-- an index of 100 tiles and a full-size buffer, and no word and no byte more
abbrev pub JustFull : List ℕ → List ℕ → List ℕ → Type 0
JustFull image index out = (length index ≡ index_length (plan_of image)) × (length out ≡ longest_image newest)

-- the premises hold of the requests on the image of a book, with the set, and both orders give one answer for each and one last image
pub record Met (v : ℕ) (b : Book) (mains : ℕ) (qs : List Request) (ns last : List ℕ) (ps : List Request) (ms : List ℕ) : Type 0 where
  pub held : Stored (encode v b) v b
  pub low : NoBitFrom (nodes b.site.links) mains
  pub most : length qs ≤ most_requests
  pub small : (q : Request) → q ∈ qs → IdInRange q
  pub ids : Pairwise DifferentIds qs
  pub apart : Pairwise (Apart mains b) qs
  pub room : Room mains b qs
  pub reordered : Reordered qs ps
  pub forth : Posting JustFull (encode v b) mains qs 0 ns last
  pub back : Posting JustFull (encode v b) mains ps 0 ms last

-- three pairs of linked nodes
abbrev pub three_pairs : Topology
three_pairs = record { rows = 2 ∷ 1 ∷ 8 ∷ 4 ∷ 32 ∷ 16 ∷ [] }

abbrev pub before : Book
before = book_on plan_a three_pairs (one_hop 3 2 2 3 2 ∷ one_hop 4 1 4 5 2 ∷ one_hop 5 1 5 4 3 ∷ [])

abbrev pub after : Book
after = book_on plan_a three_pairs (one_hop 1 2 0 1 2 ∷ one_hop 4 1 4 5 2 ∷ one_hop 5 1 5 4 3 ∷ [])

-- an open and a close that are done, an open without a placing, a close of nothing, an open without a route
abbrev pub requests : List Request
requests = opening 1 0 1 2 ∷ Close 3 ∷ opening 6 5 4 1 ∷ Close 9 ∷ opening 8 0 4 2 ∷ []

abbrev pub backwards : List Request
backwards = opening 8 0 4 2 ∷ Close 9 ∷ opening 6 5 4 1 ∷ Close 3 ∷ opening 1 0 1 2 ∷ []

-- two squares and a pair of linked nodes
abbrev pub two_squares : Topology
two_squares = record { rows = 6 ∷ 9 ∷ 9 ∷ 6 ∷ 96 ∷ 144 ∷ 144 ∷ 96 ∷ 512 ∷ 256 ∷ [] }

abbrev pub before_both : Book
before_both = book_on plan_a two_squares (both_ways 3 4 5 6 7)

abbrev pub after_both : Book
after_both = book_on plan_a two_squares (both_ways 1 0 1 2 3)

-- an open that is given two routes, a close of a stream that has two, an open for which there is no second
abbrev pub on_both : List Request
on_both = opening_two 1 0 3 2 ∷ Close 3 ∷ opening_two 65535 8 9 2 ∷ []

abbrev pub on_both_back : List Request
on_both_back = opening_two 65535 8 9 2 ∷ Close 3 ∷ opening_two 1 0 3 2 ∷ []

-- with only the nodes 2 and 6 on mains: of the two ways across a square the higher is open, and there is no second
abbrev pub mains_both : ℕ
mains_both = 68

abbrev pub on_mains : List Request
on_mains = opening 1 0 3 2 ∷ opening_two 2 4 7 2 ∷ Close 3 ∷ []

abbrev pub on_mains_back : List Request
on_mains_back = Close 3 ∷ opening_two 2 4 7 2 ∷ opening 1 0 3 2 ∷ []

abbrev pub across_mains : Book
across_mains = book_on plan_a two_squares (record { id = 1; way = 1; period = 2; route = 0 ∷ 2 ∷ 3 ∷ []; offsets = 2 ∷ 3 ∷ []; account = 0 } ∷ [])

-- THE LIMITS: 64 requests, 64 rows, ids up to 65,535

-- a pair of linked nodes and a square
abbrev pub pair_and_square : Topology
pair_and_square = record { rows = 2 ∷ 1 ∷ 24 ∷ 36 ∷ 36 ∷ 24 ∷ [] }

-- n streams of one hop, each a slot after the one before
abbrev pub streams : ℕ → ℕ → List Row
streams zero id = []
streams (suc n) id = one_hop (suc id) 100 0 1 id ∷ streams n (suc id)

-- 62 of them on the pair, with one slot to a tile, and all of them data
abbrev pub nearly_full : Book
nearly_full = book_on (record { slots = 1; tiles = 1; kinds = 0; down = 0; up = 0 }) pair_and_square (streams 62 0)

-- with a stream on both routes of the square: 64 rows
abbrev pub full_with : ℕ → Book
full_with id = with_rows nearly_full (streams 62 0 ++ (
    record { id = id; way = 1; period = 100; route = 2 ∷ 3 ∷ 5 ∷ []; offsets = 0 ∷ 1 ∷ []; account = 0 }
    ∷ record { id = id; way = 2; period = 100; route = 2 ∷ 4 ∷ 5 ∷ []; offsets = 1 ∷ 2 ∷ []; account = 0 }
    ∷ []))

-- n closes of ids that are not there, after an id
abbrev pub closes : ℕ → ℕ → List Request
closes zero id = []
closes (suc n) id = Close (suc id) ∷ closes n (suc id)

-- each is answered 3
abbrev pub threes : ℕ → List ℕ
threes n = replicate n 3

-- AND 512 HOPS

-- a line of 16 nodes, and one of 3
abbrev pub two_lines : Topology
two_lines = record {
  rows = 2 ∷ 5 ∷ 10 ∷ 20 ∷ 40 ∷ 80 ∷ 160 ∷ 320 ∷ 640 ∷ 1280 ∷ 2560 ∷ 5120 ∷ 10240 ∷ 20480 ∷ 40960 ∷ 16384 ∷ 131072 ∷ 327680 ∷ 131072 ∷ [];
}

-- n numbers from k on
abbrev pub from : ℕ → ℕ → List ℕ
from k zero = []
from k (suc n) = k ∷ from (suc k) n

-- n streams along the line of 16, each in the 15 slots after the one before
abbrev pub along : ℕ → ℕ → List Row
along zero id = []
along (suc n) id = record { id = suc id; way = 1; period = 100; route = from 0 16; offsets = from (id * 15) 15; account = 0 } ∷ along n (suc id)

-- 34 of them have 510 hops
abbrev pub long_ones : Book
long_ones = book_on (record { slots = 8; tiles = 1; kinds = 0; down = 0; up = 0 }) two_lines (along 34 0)

-- without the first of them, and with a stream of 2 hops along the line of 3
abbrev pub short_after : Book
short_after = with_rows long_ones (along 33 1 ++ (record { id = 65535; way = 1; period = 100; route = from 16 3; offsets = from 0 2; account = 0 } ∷ []))

abbrev pub on_long : List Request
on_long = opening 65535 16 18 100 ∷ Close 1 ∷ []

abbrev pub on_long_back : List Request
on_long_back = Close 1 ∷ opening 65535 16 18 100 ∷ []

-- AND ACCOUNTS THAT PAY FOR JUST ALL

-- a stream of one hop of period 2 from slot 2 on, on an account: it draws 500
abbrev pub drawing : ℕ → ℕ → ℕ → ℕ → Row
drawing account id a b = record { id = id; way = 1; period = 2; route = a ∷ b ∷ []; offsets = 2 ∷ []; account = account }

-- on three pairs, where account 1 has bought so much and account 9 has bought 500
abbrev pub paid_by : ℕ → List Row → Book
paid_by bought rows = with_accounts (record { number = 1; bought = bought } ∷ record { number = 9; bought = 500 } ∷ []) (book_on plan_a three_pairs rows)

abbrev pub opening_on : ℕ → ℕ → ℕ → ℕ → Request
opening_on account id source destination = Open (asked_on account (asked id source destination 2))

-- opens on both, the close of a stream that account 1 pays for, and an open on an account that is not there
abbrev pub on_accounts : List Request
on_accounts = opening_on 1 1 0 1 ∷ opening_on 9 2 4 5 ∷ Close 3 ∷ opening_on 7 8 0 4 ∷ []

abbrev pub on_accounts_back : List Request
on_accounts_back = opening_on 7 8 0 4 ∷ Close 3 ∷ opening_on 9 2 4 5 ∷ opening_on 1 1 0 1 ∷ []

-- where all premises are kept the order decides nothing
pub record Kept : Type 0 where
  -- of an image in version 1, written in the newest
  pub old : Met 1 before (any_middle before) requests (0 ∷ 0 ∷ 9 ∷ 3 ∷ 7 ∷ []) (image after) backwards (7 ∷ 3 ∷ 9 ∷ 0 ∷ 0 ∷ [])
  -- where none is done the image stays as it came
  pub refused : Met 1 before (any_middle before) (opening 6 5 4 1 ∷ Close 9 ∷ []) (9 ∷ 3 ∷ []) (encode 1 before) (Close 9 ∷ opening 6 5 4 1 ∷ []) (3 ∷ 9 ∷ [])
  -- streams on both routes come and go
  pub seconds : Met newest before_both (any_middle before_both) on_both (0 ∷ 0 ∷ 18 ∷ []) (image after_both) on_both_back (18 ∷ 0 ∷ 0 ∷ [])
  -- a set with few of the nodes
  pub mains : Met newest (book_on plan_a two_squares []) mains_both on_mains (0 ∷ 18 ∷ 3 ∷ []) (image across_mains) on_mains_back (3 ∷ 18 ∷ 0 ∷ [])
  -- 64 requests and 64 rows
  pub limits : Met newest nearly_full (any_middle nearly_full) (opening_two 65535 2 5 100 ∷ closes 63 62) (0 ∷ threes 63) (image (full_with 65535))
      (closes 63 62 ++ (opening_two 65535 2 5 100 ∷ [])) (threes 63 ++ (0 ∷ []))
  -- 512 hops before the close gives 15 of them back
  pub hops : Met newest long_ones (any_middle long_ones) on_long (0 ∷ 0 ∷ []) (image short_after) on_long_back (0 ∷ 0 ∷ [])
  -- accounts that have bought just what all opens draw before the close gives back
  pub accounts : Met newest (paid_by 1000 (drawing 1 3 2 3 ∷ [])) (any_middle (paid_by 1000 [])) on_accounts (0 ∷ 0 ∷ 0 ∷ 22 ∷ [])
      (image (paid_by 1000 (drawing 1 1 0 1 ∷ drawing 9 2 4 5 ∷ []))) on_accounts_back (22 ∷ 0 ∷ 0 ∷ 0 ∷ [])

-- ALL BUT ONE

-- two requests on a book in both orders: their answers, and the last book
pub record BothOrders (b : Book) (q q' : Request) (ns : List ℕ) (last : Book) (ns' : List ℕ) (last' : Book) : Type 0 where
  pub forth : Posting Ample (image b) (any_middle b) (q ∷ q' ∷ []) 0 ns (image last)
  pub back : Posting Ample (image b) (any_middle b) (q' ∷ q ∷ []) 0 ns' (image last')

-- a ring of five nodes, and two more linked to the node 3 of it
abbrev pub ring : Topology
ring = record { rows = 6 ∷ 17 ∷ 9 ∷ 116 ∷ 10 ∷ 8 ∷ 8 ∷ [] }

-- a stream across the node 3 of the ring
abbrev pub across : ℕ → Row
across o = record { id = 2; way = 1; period = 2; route = 5 ∷ 3 ∷ 6 ∷ []; offsets = 2 ∷ o ∷ []; account = 0 }

-- on the ring alone, and after one over the link of 0 and 1 and the long way round
abbrev pub gone_across : Book
gone_across = book_on plan_a ring (across 3 ∷ [])

abbrev pub gone_round : Book
gone_round = book_on plan_a ring (
    one_hop 1 2 0 1 2
    ∷ record { id = 1; way = 2; period = 2; route = 0 ∷ 2 ∷ 3 ∷ 4 ∷ 1 ∷ []; offsets = 3 ∷ 5 ∷ 6 ∷ 7 ∷ []; account = 0 }
    ∷ across 7
    ∷ [])

-- with one more on the pair
abbrev pub one_more : Book
one_more = with_rows nearly_full (streams 62 0 ++ (one_hop 64 100 0 1 62 ∷ []))

-- a stream over one middle of the square
abbrev pub over_square : ℕ → Book
over_square a = book_on plan_a square (record { id = 1; way = 1; period = 2; route = 0 ∷ a ∷ 3 ∷ []; offsets = 2 ∷ 3 ∷ []; account = 0 } ∷ [])

-- what just one premise less lets the order decide, or the call refuse
pub record Decides : Type 0 where
  -- one id is opened and closed
  pub ids : BothOrders (empty pair) (opening 1 0 1 2) (Close 1) (0 ∷ 0 ∷ []) (empty pair) (3 ∷ 0 ∷ []) (with_rows (empty pair) (one_hop 1 2 0 1 2 ∷ []))
  -- the receiver 1 hears the sender 2: who comes first has slot 2
  pub hearing : BothOrders (empty line_a) (opening 1 0 1 1) (opening 2 2 3 1) (0 ∷ 0 ∷ []) (with_rows (empty line_a) (one_hop 1 1 0 1 2 ∷ one_hop 2 1 2 3 3 ∷ []))
      (0 ∷ 0 ∷ []) (with_rows (empty line_a) (one_hop 1 1 0 1 3 ∷ one_hop 2 1 2 3 2 ∷ []))
  -- the first routes are apart, but the second has no placing beside a stream across it
  pub seconds : BothOrders (empty ring) (opening_two 1 0 1 2) (opening 2 5 6 2) (0 ∷ 0 ∷ []) gone_round (0 ∷ 9 ∷ []) gone_across
  -- there is room for the one that is done: the other has no placing, and after it no room
  pub room : BothOrders nearly_full (opening_two 63 2 5 100) (opening 65 0 1 1) (0 ∷ 8 ∷ []) (full_with 63) (9 ∷ 0 ∷ []) (full_with 63)
  -- there is room for a row of each, and one of them has two
  pub rows : BothOrders nearly_full (opening_two 63 2 5 100) (opening 64 0 1 100) (0 ∷ 8 ∷ []) (full_with 63) (0 ∷ 8 ∷ []) one_more
  -- the account is one hop use short of both: the open is paid for only after the close
  pub pays : BothOrders (paid_by 999 (drawing 1 3 2 3 ∷ [])) (opening_on 1 1 0 1) (Close 3) (23 ∷ 0 ∷ []) (paid_by 999 []) (0 ∷ 0 ∷ []) (paid_by 999 (drawing 1 1 0 1 ∷ []))
  -- of 65 requests the list is refused as a whole, and no record is marked
  pub most : Posting Ample (image (empty pair)) (any_middle (empty pair)) (closes 65 0) 26 (threes 65) (image (empty pair))
  -- and so it is with a buffer that is a byte shorter
  pub full_size : Posting (OfBytes (longest_image newest - 1)) (image (empty pair)) (any_middle (empty pair)) (opening 1 0 1 2 ∷ []) 12 (0 ∷ []) (image (empty pair))
  -- or an index that is a word shorter
  pub tiles : Posting (OfWords (index_length plan_a - 1)) (image (empty pair)) (any_middle (empty pair)) (opening 1 0 1 2 ∷ []) 12 (0 ∷ []) (image (empty pair))
  -- and so it is with a set that has the node 2 of two nodes
  pub low : Posting Ample (image (empty pair)) 4 (opening 1 0 1 2 ∷ []) 25 (0 ∷ []) (image (empty pair))
  -- the same open over the one middle of the square, and over the other
  pub over_1 : Posting Ample (image (empty square)) 2 (opening 1 0 3 2 ∷ []) 0 (0 ∷ []) (image (over_square 1))
  pub over_2 : Posting Ample (image (empty square)) 4 (opening 1 0 3 2 ∷ []) 0 (0 ∷ []) (image (over_square 2))
