-- More of the document, computed: the balance listing, images refused, lists posted, the errors that look reasonable, sets of mains nodes, slow probes, parts
-- of a table, accounts, nodes too far or not linked, and plans and books at their limits.
use mathlib.Core.Bool.{Bool, not}
use mathlib.Core.List.{List, [], ◌∷◌, ◌++◌}
use Prim.Native.Nat.{ℕ, zero, suc, ◌+◌, ◌-◌, ◌/◌, ◌^◌}
use lib.Dec.{T, eqb}
use lib.ListN.{set, length, get_or, take, drop, replicate}
use Rattle.rules.specs.Topology.{Topology, all_nodes}
use Rattle.rules.specs.Book.{Account, Row, Book, most_accounts}
use Rattle.rules.specs.Placing.{Asked}
use Rattle.rules.specs.Image.{newest, old_accounts, longest_image, word64, in_turn, encode_account, encode, nodes_of}
use Rattle.rules.specs.Table.{used}
use Rattle.rules.specs.Calls.{Request, most_requests}
use Rattle.rules.specs.Calls.Request.{Open, Close}
use Rattle.rules.specs.Order.{current}
use Rattle.rules.proofs.Tests.{all_of}
use Rattle.theorems.specs.model.Test.{same_by, same, meets}
use Rattle.theorems.specs.model.Answer.{passes, or_given, routes_of, rows_added, request_number}
use Rattle.theorems.specs.model.Table.{cell_of, data_count, free_count, part_of}
use Rattle.theorems.specs.model.Reading.{image_number}
use Rattle.theorems.specs.model.Calls.{Result, PostResult, new, rewrite, post, serve, purchase, balance, links, keeps, expand}
use Rattle.theorems.specs.model.Examples.{plan_a, line_a, heard_a, square, pair, book_on, empty, heard_as}
use Rattle.theorems.specs.model.Examples.{with_accounts, asked, asked_two, asked_on, opening, opening_two, any_middle, number_on, after}
use Rattle.theorems.specs.model.Examples.{after2, after3, after_second, opens_with, image_p10, image_p11, wide_p10, wide_p11, heard_p10, heard_p11, older_p10, older_p11, old_p10, old_p11}

infix 4 ◌gives◌
abbrev ◌gives◌ : ℕ → ℕ → Bool
n gives m = eqb n m

-- a full-size buffer, and one that is a byte shorter
abbrev buffer : List ℕ
buffer = replicate (longest_image newest) 0

abbrev shorter : List ℕ
shorter = drop 1 buffer

-- an index of 100 tiles of 4 slots with a word behind it, and one that is a word short
abbrev lent : List ℕ
lent = replicate 801 9

abbrev lent_short : List ℕ
lent_short = drop 2 lent

-- the image after a request, and after a list of them
abbrev last_image : List ℕ → Result → List ℕ
last_image image r = current image r.len r.out

abbrev served : List ℕ → Request → List ℕ
served image q = last_image image (serve image q buffer)

abbrev posting : List ℕ → List Request → PostResult
posting image qs = post image (all_nodes (nodes_of image)) qs lent buffer []

abbrev posted : List ℕ → List Request → List ℕ
posted image qs = last_image image (posting image qs).whole

-- the account of older books, as given with a new book
abbrev one : List ℕ
one = in_turn encode_account old_accounts

-- an open on a book
abbrev answers : Book → ℕ → ℕ → ℕ → ℕ → ℕ
answers b id source destination K = number_on b (opening id source destination K)

-- a site without streams
abbrev site : ℕ → ℕ → ℕ → ℕ → ℕ → Topology → Book
site S C kinds D U T = book_on (record { slots = S; tiles = C; kinds = kinds; down = D; up = U }) T []

-- plan A's two tiles the other way round
abbrev turned : Book
turned = site 4 2 2 2 1 line_a

-- one slot to a tile: data, and control
abbrev narrow : ℕ → Topology → Book
narrow = site 1 1 0 0

-- two opens judged against one book, and joined
abbrev alone : ℕ → ℕ → ℕ → List Row
alone id source destination = or_given (rows_added (any_middle (empty line_a)) (empty line_a) (asked id source destination 2)) []

abbrev joined : Book
joined = book_on plan_a line_a (alone 1 3 0 ++ alone 2 1 0)

-- a line of n nodes from the node a on
abbrev line : ℕ → ℕ → List ℕ
line a zero = []
line a (suc zero) = 2 ^ a / 2 ∷ []
line a (suc (suc n)) = (2 ^ a / 2 + 2 ^ (a + 1)) ∷ line (suc a) (suc n)

-- two pairs of linked nodes
abbrev two_pairs : Book
two_pairs = empty (record { rows = 2 ∷ 1 ∷ 8 ∷ 4 ∷ [] })

abbrev line17 : Book
line17 = empty (record { rows = line 0 17 })

-- a ring of n nodes
abbrev ring : ℕ → Book
ring n = empty (record { rows = set (set (line 0 n) 0 (2 + 2 ^ (n - 1))) (n - 1) (1 + 2 ^ (n - 2)) })

-- n rows that clash with none of the square
abbrev streams : ℕ → List Row
streams zero = []
streams (suc n) = record { id = n + 1; way = 1; period = 1; route = 4 ∷ 5 ∷ []; offsets = 0 ∷ []; account = 0 } ∷ streams n

-- THE BALANCE LISTING, a book without streams, and links
abbrev balances : List Bool
balances =
    (data_count after2 gives 2500)
    ∷ (used after2 0 gives 500)
    ∷ (used after2 1 gives 1000)
    ∷ (used after2 2 gives 1000)
    ∷ (used after2 3 gives 500)
    ∷ (free_count after2 2 gives 1500)
    ∷ (free_count (empty line_a) 2 gives 2500)
    ∷ ((balance (encode newest after2) 4).number gives 4)
    ∷ ((links (encode newest after2) 1).links gives 2)
    ∷ ((links (encode newest after2) 3).links gives 1)
    ∷ ((links (encode newest after2) 4).number gives 4)
    ∷ []

-- IMAGES REFUSED
abbrev images : List Bool
images =
    (image_number [] gives 14)
    ∷ (image_number image_p10 gives 0)
    ∷ (image_number image_p11 gives 0)
    ∷ (image_number (set image_p11 2 0x43) gives 13)
    ∷ (image_number (set image_p11 4 0) gives 13)
    ∷ (image_number (set image_p11 4 6) gives 13)
    ∷ (image_number (set image_p11 15 1) gives 10)
    ∷ (image_number (image_p11 ++ (0 ∷ [])) gives 14)
    ∷ (image_number (set image_p11 30 0x01) gives 11)
    ∷ (image_number (set image_p11 38 0x00) gives 11)
    ∷ (image_number (set image_p11 46 0x00) gives 11)
    ∷ (image_number (set image_p11 64 0x01) gives 15)
    ∷ (image_number (set image_p11 59 0x03) gives 15)
    ∷ []

-- ALL VERSIONS: an older one is read and written again as it is, and what is changed is written in the newest
abbrev versions : List Bool
versions =
    (image_number old_p10 gives 0)
    ∷ (image_number old_p11 gives 0)
    ∷ (image_number (set old_p11 4 2) gives 14)
    ∷ (image_number older_p11 gives 0)
    ∷ (image_number (set older_p11 4 3) gives 14)
    ∷ (image_number heard_p11 gives 0)
    ∷ (image_number (set heard_p11 4 4) gives 14)
    ∷ (image_number wide_p11 gives 0)
    ∷ (image_number (set wide_p11 4 5) gives 10)
    ∷ (image_number (set image_p11 4 4) gives 14)
    ∷ (image_number (set image_p11 4 3) gives 14)
    ∷ (image_number (set image_p11 4 2) gives 14)
    ∷ (image_number (set image_p11 4 1) gives 14)
    ∷ same (rewrite old_p11 old_p11).out old_p11
    ∷ same (rewrite older_p11 older_p11).out older_p11
    ∷ same (rewrite heard_p11 heard_p11).out heard_p11
    ∷ same (rewrite wide_p11 wide_p11).out wide_p11
    ∷ same (rewrite image_p11 image_p11).out image_p11
    ∷ same (served wide_p10 (opening 7 1 0 2)) image_p11
    ∷ same (served heard_p10 (opening 7 1 0 2)) image_p11
    ∷ same (served older_p10 (opening 7 1 0 2)) image_p11
    ∷ same (served old_p10 (opening 7 1 0 2)) image_p11
    ∷ same (served old_p10 (opening 0 1 0 2)) old_p10
    ∷ []

-- SECOND ROUTES: their rows in an image, their entries, both closed at once, and the refusals
abbrev image_second : List ℕ
image_second = encode newest after_second

abbrev operation : ℕ → ℕ → ℕ
operation node slot = (cell_of after_second node slot after_second.rows).operation

abbrev seconds : List Bool
seconds =
    (image_number image_second gives 0)
    ∷ same (drop 87 image_second) (0 ∷ 1 ∷ 1 ∷ 0 ∷ 2 ∷ 2 ∷ 0 ∷ 1 ∷ 3 ∷ 0 ∷ 2 ∷ 0 ∷ 3 ∷ 0 ∷ 0 ∷ 0 ∷ 1 ∷ 2 ∷ 0 ∷ 2 ∷ 2 ∷ 0 ∷ 2 ∷ 3 ∷ 0 ∷ 3 ∷ 0 ∷ 5 ∷ 0 ∷ 0 ∷ [])
    ∷ (image_number (set image_second 89 2) gives 15)
    ∷ (image_number (set image_second 103 2) gives 15)
    ∷ (image_number (set image_second 104 3) gives 15)
    ∷ (image_number (set image_second 106 5) gives 15)
    ∷ (image_number (set image_second 109 1) gives 15)
    ∷ (image_number (set image_second 112 2) gives 16)
    ∷ same (operation 0 2 ∷ operation 0 3 ∷ operation 2 3 ∷ operation 2 5 ∷ operation 3 3 ∷ operation 3 5 ∷ []) (1 ∷ 17 ∷ 18 ∷ 19 ∷ 4 ∷ 20 ∷ [])
    ∷ (used after_second 0 gives 1000)
    ∷ same (encode newest (after after_second (Close 1))) (encode newest (empty square))
    ∷ opens_with (empty square) (asked_two 1 0 1 2) ((0 ∷ 1 ∷ []) ∷ (0 ∷ 2 ∷ 3 ∷ 1 ∷ []) ∷ []) ((2 ∷ []) ∷ (3 ∷ 5 ∷ 6 ∷ []) ∷ [])
    ∷ (number_on (empty pair) (opening_two 1 0 1 2) gives 18)
    ∷ (number_on line17 (opening_two 1 16 0 10) gives 17)
    ∷ (number_on (ring 7) (opening_two 1 0 1 10) gives 0)
    ∷ (number_on (ring 8) (opening_two 1 0 1 10) gives 18)
    ∷ (number_on (narrow 0 square) (opening 1 0 3 2) gives 0)
    ∷ (number_on (narrow 0 square) (opening_two 1 0 3 2) gives 9)
    ∷ (number_on (book_on plan_a square (streams 62)) (opening_two 99 0 3 2) gives 0)
    ∷ (number_on (book_on plan_a square (streams 63)) (opening_two 99 0 3 2) gives 8)
    ∷ []

-- THE ERRORS THAT LOOK REASONABLE
abbrev errors : List Bool
errors =
    opens_with (after (empty line_a) (opening 1 0 1 2)) (asked 2 2 3 2) ((2 ∷ 3 ∷ []) ∷ []) ((3 ∷ []) ∷ [])
    ∷ opens_with (after (empty line_a) (opening 1 0 1 2)) (asked 2 3 2 2) ((3 ∷ 2 ∷ []) ∷ []) ((2 ∷ []) ∷ [])
    ∷ (answers turned 1 3 0 1 gives 9)
    ∷ (image_number (encode newest joined) gives 16)
    ∷ (image_number (encode newest after3) gives 0)
    ∷ []

-- THE FIRST REFUSAL THAT APPLIES
abbrev first : List Bool
first =
    (answers after2 0 9 9 3 gives 1)
    ∷ (answers after2 1 9 9 3 gives 4)
    ∷ (answers after2 1 2 2 3 gives 5)
    ∷ (answers after2 1 3 0 3 gives 6)
    ∷ (answers after2 1 3 0 2 gives 2)
    ∷ (answers (site 4 2 1 2 1 (record { rows = 2 ∷ 1 ∷ 0 ∷ [] })) 1 2 0 2 gives 7)
    ∷ ((serve image_p10 (opening 7 1 0 2) shorter).number gives 12)
    ∷ ((serve image_p10 (opening 0 1 0 2) shorter).number gives 12)
    ∷ ((serve image_p10 (opening 0 1 0 2) buffer).number gives 1)
    ∷ ((serve image_p10 (opening 7 1 0 2) buffer).number gives 0)
    ∷ []

-- LISTS: open, open and close; none; over 64 before a short buffer, marking no record; a record refused between two done; nothing done
abbrev line_image : List ℕ
line_image = encode newest (empty line_a)

abbrev many : ℕ → List Request
many n = replicate n (Close 7)

abbrev lists : List Bool
lists =
    same (posting line_image (opening 1 3 0 2 ∷ opening 2 0 3 2 ∷ Close 1 ∷ [])).answers (0 ∷ 0 ∷ 0 ∷ [])
    ∷ same (posted line_image (opening 1 3 0 2 ∷ opening 2 0 3 2 ∷ Close 1 ∷ [])) (served (served (served line_image (opening 1 3 0 2)) (opening 2 0 3 2)) (Close 1))
    ∷ ((posting image_p11 []).whole.number gives 0)
    ∷ ((posting image_p11 []).whole.len gives 0)
    ∷ same (posting image_p11 []).whole.out buffer
    ∷ ((post image_p11 3 [] lent shorter []).whole.number gives 12)
    ∷ ((post (set image_p11 38 0) 3 (many (most_requests + 1)) lent [] []).whole.number gives 11)
    ∷ ((post image_p11 3 (many (most_requests + 1)) lent [] []).whole.number gives 26)
    ∷ ((post image_p11 3 (many most_requests) lent [] []).whole.number gives 12)
    ∷ same (post image_p11 3 (Close 7 ∷ []) lent shorter (5 ∷ [])).answers (5 ∷ [])
    ∷ same (posting line_image (opening 1 3 0 2 ∷ opening 1 0 3 2 ∷ opening 2 0 3 2 ∷ [])).answers (0 ∷ 2 ∷ 0 ∷ [])
    ∷ same (posted line_image (opening 1 3 0 2 ∷ opening 1 0 3 2 ∷ opening 2 0 3 2 ∷ [])) (encode newest after3)
    ∷ same (posting image_p11 (Close 1 ∷ opening 7 1 0 2 ∷ [])).answers (3 ∷ 2 ∷ [])
    ∷ ((posting image_p11 (Close 1 ∷ opening 7 1 0 2 ∷ [])).whole.number gives 0)
    ∷ ((posting image_p11 (Close 1 ∷ opening 7 1 0 2 ∷ [])).whole.len gives 0)
    ∷ same (posting image_p11 (Close 1 ∷ opening 7 1 0 2 ∷ [])).whole.out buffer
    ∷ []

-- THE INDEX: P11's stream sends from node 1 to node 0 in slots 2, 10, ..; the word behind is left; closed it leaves its bits; an index a word short
abbrev word_in : List ℕ → List Request → ℕ → ℕ
word_in image qs i = get_or (posting image qs).index i 0

abbrev indexed : List Bool
indexed =
    (word_in image_p11 [] 4 gives 2)
    ∷ (word_in image_p11 [] 5 gives 1)
    ∷ (word_in image_p11 [] 6 gives 0)
    ∷ (word_in image_p11 [] 20 gives 2)
    ∷ (word_in image_p11 [] 789 gives 1)
    ∷ (word_in image_p11 [] 800 gives 9)
    ∷ (word_in image_p11 (Close 7 ∷ []) 20 gives 0)
    ∷ (word_in image_p10 (opening 7 1 0 2 ∷ []) 789 gives 1)
    ∷ (length (posting image_p11 []).index gives 801)
    ∷ ((post image_p11 3 [] (drop 1 lent) buffer []).whole.number gives 0)
    ∷ ((post image_p11 3 [] lent_short buffer []).whole.number gives 12)
    ∷ same (post image_p11 3 [] lent_short buffer []).index lent_short
    ∷ []

-- NO ROUTE, AND EVERY ROUTE TOO FAR: between two pairs, and on a line of 17 nodes 16 and 15 hops either way
abbrev far : List Bool
far =
    (answers two_pairs 1 0 2 2 gives 7)
    ∷ (answers two_pairs 1 3 1 2 gives 7)
    ∷ (answers line17 1 16 0 10 gives 17)
    ∷ (answers line17 1 0 16 10 gives 17)
    ∷ (answers line17 1 15 0 10 gives 0)
    ∷ (answers line17 1 1 16 10 gives 0)
    ∷ []

-- HEARING in line A: where 3 hears 1 the open of P3 has no placing; a bit from N up, a node that hears itself, one way only, a link missing; a wrong length
abbrev heard_by : List ℕ → ℕ
heard_by rows = image_number (encode newest (heard_as (record { rows = rows })))

abbrev hearings : List Bool
hearings =
    (answers (after (heard_as heard_a) (opening 1 3 0 2)) 2 0 3 2 gives 9)
    ∷ (heard_by heard_a.rows gives 0)
    ∷ (heard_by (18 ∷ 13 ∷ 10 ∷ 6 ∷ []) gives 11)
    ∷ (heard_by (3 ∷ 13 ∷ 10 ∷ 6 ∷ []) gives 11)
    ∷ (heard_by (2 ∷ 13 ∷ 10 ∷ 4 ∷ []) gives 11)
    ∷ (heard_by (0 ∷ 12 ∷ 10 ∷ 6 ∷ []) gives 11)
    ∷ ((new plan_a 4 (in_turn word64 line_a.rows) (in_turn word64 heard_a.rows) one buffer).number gives 0)
    ∷ ((new plan_a 4 (in_turn word64 line_a.rows) (drop 1 (in_turn word64 heard_a.rows)) one buffer).number gives 11)
    ∷ []

-- MAINS: in line A the ends need not be in the set, and both middles must be; in the square the route goes over the one that is; a link goes over none
abbrev over : ℕ → Topology → Request → ℕ
over mains T q = request_number mains (empty T) q

-- a line of 17 nodes, and a battery node that joins its ends
abbrev shortcut : Topology
shortcut = record { rows = set (set (line 0 17) 0 (2 + 2 ^ 17)) 16 (2 ^ 15 + 2 ^ 17) ++ ((1 + 2 ^ 16) ∷ []) }

abbrev goes : ℕ → Asked → List (List ℕ) → Bool
goes mains q routes = passes (same_by same routes) (routes_of square mains q)

abbrev mained : List Bool
mained =
    (over 6 line_a (opening 1 3 0 2) gives 0)
    ∷ (over 4 line_a (opening 1 3 0 2) gives 7)
    ∷ (over 2 line_a (opening 1 3 0 2) gives 7)
    ∷ (over 0 line_a (opening 1 0 1 2) gives 0)
    ∷ (over 131071 shortcut (opening 1 0 16 10) gives 17)
    ∷ (over 131072 shortcut (opening 1 0 16 10) gives 0)
    ∷ (over 0 shortcut (opening 1 0 16 10) gives 7)
    ∷ goes 4 (asked 1 0 3 2) ((0 ∷ 2 ∷ 3 ∷ []) ∷ [])
    ∷ goes 6 (asked_two 1 0 3 2) ((0 ∷ 1 ∷ 3 ∷ []) ∷ (0 ∷ 2 ∷ 3 ∷ []) ∷ [])
    ∷ (over 4 square (opening_two 1 0 3 2) gives 18)
    ∷ ((post line_image 16 (many (most_requests + 1)) lent [] []).whole.number gives 25)
    ∷ ((post line_image 15 (many (most_requests + 1)) lent [] []).whole.number gives 26)
    ∷ ((post (set line_image 4 6) 16 [] lent [] []).whole.number gives 13)
    ∷ same (post line_image 6 (opening 1 3 0 2 ∷ opening 2 0 3 2 ∷ []) lent buffer []).answers (0 ∷ 0 ∷ [])
    ∷ same (post line_image 2 (opening 1 3 0 2 ∷ opening 2 0 2 2 ∷ []) lent buffer []).answers (7 ∷ 0 ∷ [])
    ∷ (keeps (encode newest after2) 6).keeps
    ∷ not (keeps (encode newest after2) 4).keeps
    ∷ not (keeps (encode newest after2) 2).keeps
    ∷ (keeps image_p11 0).keeps
    ∷ ((keeps (encode newest after2) 16).number gives 25)
    ∷ not (keeps (encode newest after2) 22).keeps
    ∷ []

-- SLOW PROBES: where K has one byte 200 is refused; what the slow periods get, beside each other and beside a short one, and that a slow hop meets beyond 100 tiles
abbrev slowly : ℕ → ℕ → Book
slowly K L = after (after (narrow 0 pair) (opening 1 0 1 K)) (opening 2 0 1 L)

abbrev slow : List Bool
slow =
    (image_number (set old_p11 34 200) gives 15)
    ∷ (image_number (set older_p11 35 200) gives 15)
    ∷ (image_number (set heard_p11 51 200) gives 15)
    ∷ (image_number (set image_p11 59 200) gives 0)
    ∷ (image_number (set (set image_p11 58 0x03) 59 0xE8) gives 0)
    ∷ (image_number (set image_p11 58 0x04) gives 15)
    ∷ (answers (empty pair) 1 0 1 300 gives 6)
    ∷ opens_with (empty pair) (asked 7 1 0 500) ((1 ∷ 0 ∷ []) ∷ []) ((2 ∷ []) ∷ [])
    ∷ opens_with (after (narrow 0 pair) (opening 1 0 1 200)) (asked 2 0 1 500) ((0 ∷ 1 ∷ []) ∷ []) ((1 ∷ []) ∷ [])
    ∷ opens_with (slowly 200 1000) (asked 3 0 1 100) ((0 ∷ 1 ∷ []) ∷ []) ((2 ∷ []) ∷ [])
    ∷ meets 1 200 150 100 50
    ∷ not (meets 1 200 150 100 51)
    ∷ (used (slowly 200 500) 0 gives 7)
    ∷ []

-- ACCOUNTS: what P2's stream draws, and one with a second route, to the last hop use; unknown before known; given back by a close; refused lists; purchases
abbrev account : ℕ → ℕ → Account
account n bought = record { number = n; bought = bought }

-- account 3 has bought so much, beside an account 9 that has bought 2000
abbrev two_accounts : ℕ → List Account
two_accounts bought = account 3 bought ∷ account 9 2000 ∷ []

-- an open on account 3 of a topology
abbrev drawing : Topology → Asked → ℕ → ℕ
drawing T q bought = number_on (with_accounts (two_accounts bought) (empty T)) (Open (asked_on 3 q))

abbrev paid_image : ℕ → List ℕ
paid_image bought = encode newest (after (with_accounts (two_accounts bought) (empty line_a)) (Open (asked_on 3 (asked 1 3 0 2))))

-- the image of two routes on account 3, with this account in their rows
abbrev row_accounts : ℕ → ℕ → List ℕ
row_accounts one other =
    let image : List ℕ = encode newest (after (with_accounts (two_accounts 2000) (empty square)) (Open (asked_on 3 (asked_two 1 0 3 2)))) in
    set (set image 107 one) 122 other

-- so many accounts, from a number down
abbrev counted : ℕ → List Account
counted zero = []
counted (suc n) = counted n ++ (account n 1 ∷ [])

abbrev new_with : List ℕ → ℕ
new_with accounts = (new plan_a 4 (in_turn word64 line_a.rows) (in_turn word64 line_a.rows) accounts buffer).number

abbrev bought : List ℕ → ℕ → ℕ → List ℕ
bought image n amount = last_image image (purchase image n amount buffer)

abbrev accounts : List Bool
accounts =
    (drawing line_a (asked 1 3 0 2) 1500 gives 0)
    ∷ (drawing line_a (asked 1 3 0 2) 1499 gives 23)
    ∷ (drawing line_a (asked 1 3 0 1000) 3 gives 0)
    ∷ (drawing line_a (asked 1 3 0 1000) 2 gives 23)
    ∷ (drawing square (asked_two 1 0 3 2) 2000 gives 0)
    ∷ (drawing square (asked_two 1 0 3 2) 1999 gives 23)
    ∷ (drawing line_a (asked 1 3 0 1) 0 gives 9)
    ∷ (number_on after2 (Open (asked_on 1 (asked 1 3 0 2))) gives 22)
    ∷ (number_on after2 (Open (asked_on 1 (asked 1 3 0 3))) gives 6)
    ∷ same (posting (paid_image 1500) (Open (asked_on 3 (asked 2 0 3 2)) ∷ Close 1 ∷ Open (asked_on 3 (asked 2 0 3 2)) ∷ Open (asked_on 9 (asked 3 3 2 2)) ∷ [])).answers (23 ∷ 0 ∷ 0 ∷ 0 ∷ [])
    ∷ (image_number (paid_image 1500) gives 0)
    ∷ (image_number (set (paid_image 1500) 22 0xDB) gives 15)
    ∷ (image_number (set (paid_image 1500) 22 0xDD) gives 0)
    ∷ (image_number (set (paid_image 1500) 110 4) gives 15)
    ∷ (image_number (row_accounts 3 3) gives 0)
    ∷ (image_number (row_accounts 9 9) gives 0)
    ∷ (image_number (row_accounts 3 9) gives 15)
    ∷ (image_number (take 16 (paid_image 1500)) gives 14)
    ∷ (image_number (take 28 (paid_image 1500)) gives 14)
    ∷ (image_number (set (take 28 (paid_image 1500)) 18 9) gives 14)
    ∷ (image_number (set (take 29 (paid_image 1500)) 18 9) gives 10)
    ∷ (image_number (take 29 (paid_image 1500)) gives 14)
    ∷ (image_number (set (paid_image 1500) 16 0) gives 10)
    ∷ (image_number (set (paid_image 1500) 16 33) gives 14)
    ∷ (image_number (encode newest (with_accounts (counted 33) (empty line_a))) gives 10)
    ∷ (image_number (encode newest (with_accounts (counted most_accounts) (empty line_a))) gives 0)
    ∷ (new_with one gives 0)
    ∷ (new_with [] gives 10)
    ∷ (new_with (drop 1 one) gives 10)
    ∷ (new_with (one ++ one) gives 10)
    ∷ (new_with (in_turn encode_account (counted most_accounts)) gives 0)
    ∷ (new_with (in_turn encode_account (counted 33)) gives 10)
    ∷ same (bought (paid_image 1500) 3 1) (set (paid_image 1500) 22 0xDD)
    ∷ same (bought (paid_image 1500) 9 48) (set (set (paid_image 1500) 27 0x08) 28 0x00)
    ∷ ((purchase (paid_image 1500) 4 1 buffer).number gives 22)
    ∷ ((purchase (paid_image 1500) 3 4294965795 buffer).number gives 0)
    ∷ ((purchase (paid_image 1500) 3 4294965796 []).number gives 24)
    ∷ ((purchase (paid_image 1500) 3 1 (drop 1 (paid_image 1500))).number gives 12)
    ∷ ((purchase (paid_image 1500) 3 1 (paid_image 1500)).number gives 0)
    ∷ ((purchase old_p11 0 1 buffer).number gives 24)
    ∷ same (bought old_p11 0 0) image_p11
    ∷ []

-- PARTS of a table after P2: its last tile is tile 999, and a tile behind that, no tile and 101 tiles are refused; 4 comes before 21, and 21 before 12
abbrev expanding : ℕ → ℕ → ℕ → ℕ → Result
expanding node first tiles room = expand (encode newest after2) node first tiles (replicate room 0)

abbrev parts : List Bool
parts =
    ((expanding 2 999 1 12).number gives 0)
    ∷ ((expanding 2 999 1 13).len gives 12)
    ∷ ((expanding 2 1000 1 12).number gives 21)
    ∷ ((expanding 2 999 2 24).number gives 21)
    ∷ ((expanding 2 0 0 0).number gives 21)
    ∷ ((expanding 2 0 101 0).number gives 21)
    ∷ ((expanding 2 900 100 1199).number gives 12)
    ∷ ((expanding 4 0 0 0).number gives 4)
    ∷ same (part_of after2 2 998 1 ++ part_of after2 2 999 1) (part_of after2 2 998 2)
    ∷ []

-- LIMITS: one slot to a tile, all slots control, a period of 100, two streams that share every node, 64 nodes and 65
abbrev limits : List Bool
limits =
    opens_with (narrow 0 pair) (asked 1 0 1 1) ((0 ∷ 1 ∷ []) ∷ []) ((0 ∷ []) ∷ [])
    ∷ (answers (after (narrow 0 pair) (opening 1 0 1 1)) 2 1 0 100 gives 9)
    ∷ (answers (narrow 1 pair) 1 0 1 100 gives 9)
    ∷ (data_count (narrow 1 pair) gives 0)
    ∷ opens_with (empty line_a) (asked 1 3 0 100) ((3 ∷ 2 ∷ 1 ∷ 0 ∷ []) ∷ []) ((2 ∷ 3 ∷ 5 ∷ []) ∷ [])
    ∷ (used (after (empty line_a) (opening 1 3 0 100)) 2 gives 20)
    ∷ opens_with after2 (asked 2 3 0 10) ((3 ∷ 2 ∷ 1 ∷ 0 ∷ []) ∷ []) ((6 ∷ 7 ∷ 14 ∷ []) ∷ [])
    ∷ (answers after2 2 3 0 5 gives 9)
    ∷ (length (part_of after2 2 900 100) gives 1200)
    ∷ ((new plan_a 64 (in_turn word64 (line 0 64)) (in_turn word64 (line 0 64)) one (part_of after2 2 0 100)).number gives 0)
    ∷ ((new plan_a 64 (in_turn word64 (line 0 64)) (in_turn word64 (line 0 64)) one (part_of after2 2 0 100)).len gives 1047)
    ∷ ((new plan_a 65 [] [] one []).number gives 10)
    ∷ (longest_image newest gives 3345)
    ∷ []

pub checks : T (all_of (λ (t : Bool). t) (balances ++ images ++ versions ++ seconds ++ errors ++ first ++ lists ++ indexed ++ far ++ hearings ++ mained ++ slow ++ parts ++ accounts ++ limits))
checks = tt
