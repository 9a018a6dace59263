-- The calls on images, computed: the number, the length, and the output buffer.
use Rattle.std.specs.Prelude.{Bool, false, not, cond, ◌&&◌, ◌||◌, List, [], ◌∷◌, ◌++◌, ℕ, ◌+◌, ◌*◌, ◌/◌, ◌^◌, eqb, leb, ltb, length, get_or, drop, replicate}
use Rattle.rules.specs.Tiles.{Plan, short_tiles, cycle_tiles}
use Rattle.rules.specs.Topology.{nodes, middles, all_nodes}
use Rattle.rules.specs.Book.{Account, Row, Book}
use Rattle.rules.specs.Image.{newest, longest_image, encode, topology_at, version_of, nodes_of}
use Rattle.rules.specs.Table.{table_length, used, sum_below}
use Rattle.rules.specs.Index.{index_length}
use Rattle.rules.specs.Calls.{given_accounts, new_book, purchased, Request, most_requests, most_tiles}
use Rattle.rules.proofs.Tests.{some_of, all_of}
use Rattle.rules.proofs.Counts.{if_so}
use Rattle.rules.proofs.Reading.{book_in}
use Rattle.theorems.specs.model.Answer.{Tested, ◌if◌, first_number, when_done, answers_of, last_book}
use Rattle.theorems.specs.model.Test.{has, joined, is_known_account}
use Rattle.theorems.specs.model.Table.{data_count, free_count, part_of}
use Rattle.theorems.specs.model.Index.{index_of}
use Rattle.theorems.specs.model.Reading.{plan_fits, nodes_fit, are_sound, accounts_fit, image_number}

-- a length and a buffer: with bytes at its front, and unchanged
pub record Output : Type 0 where
  pub len : ℕ
  pub out : List ℕ

abbrev pub put : List ℕ → List ℕ → Output
put bytes out = record { len = length bytes; out = bytes ++ drop (length bytes) out }

abbrev pub kept : List ℕ → Output
kept out = record { len = 0; out = out }

-- a number, a length and a buffer
pub record Result : Type 0 where
  pub number : ℕ
  pub len : ℕ
  pub out : List ℕ

abbrev pub result : ℕ → Output → Result
result n o = record { number = n; len = o.len; out = o.out }

-- the bytes at the front of the buffer where the number is 0, and otherwise no change
abbrev pub writes : ℕ → List ℕ → List ℕ → Result
writes n bytes out = result n (when_done n (put bytes out) (kept out))

-- the image's number, or where that is 0 the number of the tests on its version and its book
abbrev pub number_of : List ℕ → (ℕ → Book → List Tested) → ℕ
number_of image tests = when_done (image_number image) (first_number (tests (version_of image) (book_in image))) (image_number image)

-- a call on an image that writes: these tests, and this answer
abbrev pub replies : List ℕ → (ℕ → Book → List Tested) → (ℕ → Book → List ℕ) → List ℕ → Result
replies image tests answer out = writes (number_of image tests) (answer (version_of image) (book_in image)) out

-- NEW BOOK
abbrev pub is_given : List ℕ → Bool
is_given accounts = eqb (length accounts) (6 * (length accounts / 6)) && accounts_fit (given_accounts accounts)

abbrev pub new_tests : Plan → ℕ → List ℕ → List ℕ → List ℕ → ℕ → List Tested
new_tests plan N links hearing accounts room =
    (10 if not (plan_fits plan && (nodes_fit N && is_given accounts)))
    ∷ (11 if not (eqb (length links) (8 * N) && (eqb (length hearing) (8 * N) && are_sound (topology_at links 0 N) (topology_at hearing 0 N))))
    ∷ (12 if ltb room (length (encode newest (new_book plan N links hearing accounts))))
    ∷ []

abbrev pub new : Plan → ℕ → List ℕ → List ℕ → List ℕ → List ℕ → Result
new plan N links hearing accounts out =
    writes (first_number (new_tests plan N links hearing accounts (length out))) (encode newest (new_book plan N links hearing accounts)) out

-- REWRITE
abbrev pub rewrite_tests : ℕ → ℕ → Book → List Tested
rewrite_tests room v b = (12 if ltb room (length (encode v b))) ∷ []

abbrev pub rewrite : List ℕ → List ℕ → Result
rewrite image out = replies image (rewrite_tests (length out)) encode out

-- POST

-- the set has a bit from N up
abbrev pub is_beyond : Book → ℕ → Bool
is_beyond b mains = not (ltb mains (2 ^ nodes b.site.links))

abbrev pub post_tests : ℕ → ℕ → ℕ → ℕ → ℕ → Book → List Tested
post_tests mains count room words v b =
    (25 if is_beyond b mains) ∷ (26 if ltb most_requests count) ∷ (12 if (ltb room (longest_image newest) || ltb words (index_length b.site.plan))) ∷ []

abbrev pub post_number : List ℕ → ℕ → List Request → List ℕ → List ℕ → ℕ
post_number image mains qs index out = number_of image (post_tests mains (length qs) (length out) (length index))

-- the image after the last record
abbrev pub image_after : ℕ → Book → List Request → List ℕ
image_after mains b qs = encode newest (last_book mains b qs)

-- whether a record was done
abbrev pub some_done : List ℕ → Bool
some_done answers = some_of (eqb 0) answers

-- the image where one was, and otherwise no change
abbrev pub post_output : ℕ → Book → List Request → List ℕ → Output
post_output mains b qs out = cond (some_done (answers_of mains b qs)) (put (image_after mains b qs) out) (kept out)

-- the index of the last book at the front of the lent words
abbrev pub index_after : ℕ → Book → List Request → List ℕ → List ℕ
index_after mains b qs index = let words : List ℕ = index_of (last_book mains b qs) in words ++ drop (length words) index

-- the number, the length, the buffer, and the records' answers and the index in place of those before
pub record PostResult : Type 0 where
  pub whole : Result
  pub answers : List ℕ
  pub index : List ℕ

abbrev pub post : List ℕ → ℕ → List Request → List ℕ → List ℕ → List ℕ → PostResult
post image mains qs index out before = record {
  whole = result (post_number image mains qs index out) (when_done (post_number image mains qs index out) (post_output mains (book_in image) qs out) (kept out));
  answers = when_done (post_number image mains qs index out) (answers_of mains (book_in image) qs) before;
  index = when_done (post_number image mains qs index out) (index_after mains (book_in image) qs index) index;
}

-- OPEN AND CLOSE: a list of one with all nodes in the set and an index of its own, whose number is the whole call's or the record's
abbrev pub own_index : List ℕ
own_index = replicate (2 * (short_tiles * 32)) 0

abbrev pub post_one : List ℕ → Request → List ℕ → PostResult
post_one image q out = post image (all_nodes (nodes_of image)) (q ∷ []) own_index out (0 ∷ [])

abbrev pub serve_number : List ℕ → Request → List ℕ → ℕ
serve_number image q out = when_done (post_one image q out).whole.number (get_or (post_one image q out).answers 0 0) (post_one image q out).whole.number

abbrev pub serve : List ℕ → Request → List ℕ → Result
serve image q out = record { number = serve_number image q out; len = (post_one image q out).whole.len; out = (post_one image q out).whole.out }

-- PURCHASE

-- the account of the number would have bought more than 32 bits hold
abbrev pub is_past : List Account → ℕ → ℕ → Bool
is_past accounts n amount = some_of (λ (a : Account). eqb a.number n && not (ltb (a.bought + amount) 4294967296)) accounts

abbrev pub purchase_tests : ℕ → ℕ → ℕ → ℕ → Book → List Tested
purchase_tests n amount room v b =
    (22 if not (is_known_account b.site.accounts n))
    ∷ (24 if is_past b.site.accounts n amount)
    ∷ (12 if ltb room (length (encode newest (purchased n amount b))))
    ∷ []

abbrev pub purchase : List ℕ → ℕ → ℕ → List ℕ → Result
purchase image n amount out = replies image (purchase_tests n amount (length out)) (λ (v : ℕ) (b : Book). encode newest (purchased n amount b)) out

-- EXPAND
abbrev pub is_part_in_range : ℕ → ℕ → Bool
is_part_in_range first tiles = leb 1 tiles && (leb tiles most_tiles && leb (first + tiles) cycle_tiles)

abbrev pub expand_tests : ℕ → ℕ → ℕ → ℕ → ℕ → Book → List Tested
expand_tests node first tiles room v b =
    (4 if leb (nodes b.site.links) node) ∷ (21 if not (is_part_in_range first tiles)) ∷ (12 if ltb room (table_length b.site.plan tiles)) ∷ []

abbrev pub expand : List ℕ → ℕ → ℕ → ℕ → List ℕ → Result
expand image node first tiles out = replies image (expand_tests node first tiles (length out)) (λ (v : ℕ) (b : Book). part_of b node first tiles) out

-- BALANCE
abbrev pub balance_tests : ℕ → ℕ → Book → List Tested
balance_tests node v b = (4 if leb (nodes b.site.links) node) ∷ []

-- the number, and data, used and free
pub record Balanced : Type 0 where
  pub number : ℕ
  pub data_slots : ℕ
  pub used_slots : ℕ
  pub free_slots : ℕ

abbrev pub balance_number : List ℕ → ℕ → ℕ
balance_number image node = number_of image (balance_tests node)

abbrev pub balance : List ℕ → ℕ → Balanced
balance image node = record {
  number = balance_number image node;
  data_slots = when_done (balance_number image node) (data_count (book_in image)) 0;
  used_slots = when_done (balance_number image node) (used (book_in image) node) 0;
  free_slots = when_done (balance_number image node) (free_count (book_in image) node) 0;
}

-- LINKS, with a balance's refusals
abbrev pub link_count : Book → ℕ → ℕ
link_count b node = sum_below (nodes b.site.links) (λ (a : ℕ). if_so (joined b.site.links node a))

-- the number, and how many links
pub record Linked : Type 0 where
  pub number : ℕ
  pub links : ℕ

abbrev pub links : List ℕ → ℕ → Linked
links image node = record { number = balance_number image node; links = when_done (balance_number image node) (link_count (book_in image) node) 0 }

-- KEEPS TO a set
abbrev pub keeps_tests : ℕ → ℕ → Book → List Tested
keeps_tests mains v b = (25 if is_beyond b mains) ∷ []

-- every row of the book keeps to it
abbrev pub book_keeps : ℕ → Book → Bool
book_keeps mains b = all_of (λ (r : Row). all_of (has mains) (middles r.route)) b.rows

-- the number, and yes or no
pub record Kept : Type 0 where
  pub number : ℕ
  pub keeps : Bool

abbrev pub keeps_number : List ℕ → ℕ → ℕ
keeps_number image mains = number_of image (keeps_tests mains)

abbrev pub keeps : List ℕ → ℕ → Kept
keeps image mains = record { number = keeps_number image mains; keeps = when_done (keeps_number image mains) (book_keeps mains (book_in image)) false }
