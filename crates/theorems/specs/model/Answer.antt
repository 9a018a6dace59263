-- What the requests answer, on a book.
use Rattle.std.specs.Prelude.{Bool, true, false, not, cond, ◌&&◌, ◌||◌, List, [], ◌∷◌, ℕ, zero, suc, ◌+◌, ◌*◌, eqb, leb, ltb, length}
use Rattle.std.proofs.Math.Option.{Option, some, none}
use Rattle.rules.specs.Words.{total}
use Rattle.rules.specs.Tiles.{periods, repeats}
use Rattle.rules.specs.Topology.{Topology, nodes, hop_count}
use Rattle.rules.specs.Book.{Account, Row, Book, key, hops_in_all, most_streams, most_hops, drawn}
use Rattle.rules.specs.Placing.{Asked, beside}
use Rattle.rules.specs.Calls.{Request}
use Rattle.rules.specs.Calls.Request.{Open, Close}
use Rattle.rules.proofs.Tests.{some_of}
use Rattle.rules.proofs.Reading.{with_rows}
use Rattle.theorems.specs.model.Test.{is_known, is_known_account}
use Rattle.theorems.specs.model.Search.{and_then, links_of, route_of, second_of, placing_of}

-- a number and whether it applies
pub record Tested : Type 0 where
  pub number : ℕ
  pub applies : Bool

infixr 5 ◌if◌
abbrev pub ◌if◌ : ℕ → Bool → Tested
n if t = record { number = n; applies = t }

-- the number of the first that applies
abbrev pub first_number : List Tested → ℕ
first_number [] = 0
first_number (t ∷ ts) = cond t.applies t.number (first_number ts)

-- whether there is an answer that passes, and whether there is none
abbrev pub passes : {A : Type 0} → (A → Bool) → Option A → Bool
passes f none = false
passes f (some x) = f x

abbrev pub is_none : {A : Type 0} → Option A → Bool
is_none none = true
is_none (some x) = false

abbrev pub or_given : {A : Type 0} → Option A → A → A
or_given none y = y
or_given (some x) y = x

-- the rows with r put in before the first of a higher key
abbrev pub insert : Row → List Row → List Row
insert r [] = r ∷ []
insert r (x ∷ xs) = cond (ltb (key r) (key x)) (r ∷ x ∷ xs) (x ∷ insert r xs)

-- the rows with all of a list put in
abbrev pub insert_all : List Row → List Row → List Row
insert_all [] rows = rows
insert_all (r ∷ rs) rows = insert r (insert_all rs rows)

-- the rows without those of the id
abbrev pub remove : ℕ → List Row → List Row
remove id [] = []
remove id (x ∷ xs) = cond (eqb x.id id) (remove id xs) (x ∷ remove id xs)

-- OPEN

-- the routes that it is given: the planner's, and the second where it asks for one
abbrev pub routes_of : Topology → ℕ → Asked → Option (List (List ℕ))
routes_of T middle q =
    and_then (route_of T middle q.source q.destination)
    (λ (p : List ℕ). cond q.second (and_then (second_of T middle q.source q.destination p) (λ (p' : List ℕ). some (p ∷ p' ∷ []))) (some (p ∷ [])))

-- it asks for a second route, and there is none beside the planner's
abbrev pub no_second : Topology → ℕ → Asked → Bool
no_second T middle q =
    passes (λ (p : List ℕ). q.second && is_none (second_of T middle q.source q.destination p)) (route_of T middle q.source q.destination)

-- the row of a way, on its route with these offsets
abbrev pub row_on : Asked → ℕ → List ℕ → List ℕ → Row
row_on q way route offsets = record { id = q.id; way = way; period = q.period; route = route; offsets = offsets; account = q.account }

-- the rows of the routes, from a way on in turn
abbrev pub new_rows : Book → Asked → ℕ → List (List ℕ) → Option (List Row)
new_rows b q way [] = some []
new_rows b q way (p ∷ ps) =
    and_then (placing_of b q.period p)
    (λ (os : List ℕ). and_then (new_rows (beside (row_on q way p os) b) q (suc way) ps) (λ (rs : List Row). some (row_on q way p os ∷ rs)))

-- the rows that it adds
abbrev pub rows_added : ℕ → Book → Asked → Option (List Row)
rows_added middle b q = and_then (routes_of b.site.links middle q) (new_rows b q 1)

abbrev pub is_full : Book → List (List ℕ) → Bool
is_full b routes = ltb most_streams (length b.rows + length routes) || ltb most_hops (hops_in_all b.rows + total hop_count routes)

-- an account of the number that is asked for has not enough left for the routes
abbrev pub is_short : Book → Asked → List (List ℕ) → Bool
is_short b q routes =
    some_of (λ (a : Account). eqb a.number q.account && ltb a.bought (drawn q.account b.rows + total hop_count routes * repeats q.period)) b.site.accounts

-- what the request makes of the book, where no refusal applies
abbrev pub made : ℕ → Book → Request → Option Book
made middle b (Open q) = and_then (rows_added middle b q) (λ (new : List Row). some (with_rows b (insert_all new b.rows)))
made middle b (Close id) = some (with_rows b (remove id b.rows))

abbrev pub open_tests : ℕ → Asked → Book → List Tested
open_tests middle q b =
    (1 if eqb q.id 0)
    ∷ (4 if leb (nodes b.site.links) q.source || leb (nodes b.site.links) q.destination)
    ∷ (5 if eqb q.source q.destination)
    ∷ (6 if not (some_of (eqb q.period) periods))
    ∷ (22 if not (is_known_account b.site.accounts q.account))
    ∷ (2 if is_known b q.id)
    ∷ (7 if is_none (links_of b.site.links middle q.source q.destination))
    ∷ (17 if is_none (route_of b.site.links middle q.source q.destination))
    ∷ (18 if no_second b.site.links middle q)
    ∷ (8 if passes (is_full b) (routes_of b.site.links middle q))
    ∷ (9 if passes (λ (ps : List (List ℕ)). is_none (new_rows b q 1 ps)) (routes_of b.site.links middle q))
    ∷ (23 if passes (is_short b q) (routes_of b.site.links middle q))
    ∷ []

-- CLOSE
abbrev pub close_tests : ℕ → Book → List Tested
close_tests id b = (1 if eqb id 0) ∷ (3 if not (is_known b id)) ∷ []

-- A REQUEST
abbrev pub request_tests : ℕ → Book → Request → List Tested
request_tests middle b (Open q) = open_tests middle q b
request_tests middle b (Close id) = close_tests id b

abbrev pub request_number : ℕ → Book → Request → ℕ
request_number middle b q = first_number (request_tests middle b q)

-- the first where the number is 0, and otherwise the second
abbrev pub when_done : {A : Type 0} → ℕ → A → A → A
when_done zero x y = x
when_done (suc n) x y = y

-- the book after it: refused it leaves the book
abbrev pub book_after : ℕ → Book → Request → Book
book_after middle b q = when_done (request_number middle b q) (or_given (made middle b q) b) b

-- A LIST OF REQUESTS, one after the other: their answers, and the book after the last
abbrev pub answers_of : ℕ → Book → List Request → List ℕ
answers_of middle b [] = []
answers_of middle b (q ∷ qs) = request_number middle b q ∷ answers_of middle (book_after middle b q) qs

abbrev pub last_book : ℕ → Book → List Request → Book
last_book middle b [] = b
last_book middle b (q ∷ qs) = last_book middle (book_after middle b q) qs
