-- What an open says of a lawful image, part by part.
use Rattle.std.specs.Prelude.{◌≡◌, List, [], ◌∷◌, ℕ, Result, Ok, Err}
use Rattle.rules.specs.Says.{Refusal, ◌when◌, Says}
use Rattle.rules.specs.Said.{number_of}
use Rattle.rules.specs.declared.refusals.Refusal as refusals
use Rattle.rules.specs.Tiles.{Period}
use Rattle.rules.specs.Topology.{NoRoute, TooFar}
use Rattle.rules.specs.Book.{Row, Book, KnownAccount, Known, Plus}
use Rattle.rules.specs.Placing.{Asked, NoSecond, Full, NewRows, NoPlacings, NotPaid}
use Rattle.rules.specs.Image.{newest, encode, site_of}
use Rattle.rules.specs.Calls.{OfRoutes, Opened, asked_refusals}
use Rattle.rules.proofs.Says.{None}
use Rattle.rules.proofs.Reading.{rows_in, book_in}
use Rattle.image.specs.Places.{Laid}
use Rattle.index.specs.Index.{Beside}

-- the image of a book with R is laid out from the place on, and the words are the index of its rows
pub record Kept (R : Book → Type 0) (s : List ℕ) (at len : ℕ) (out words : List ℕ) : Type 0 where
  pub after : Book
  pub is : R after
  pub laid : Laid s at (encode newest after) len out
  pub index : Beside (site_of s) after.rows words

-- what is wrong with a request by itself; or nothing is
abbrev pub JudgedBy : Asked → ℕ → Result Unit refusals.Refusal → Type 0
JudgedBy q N (Err r) = Says (asked_refusals q N) (number_of r)
JudgedBy q N (Ok u) = None (asked_refusals q N) × Period q.period

-- the number that the refusals say; where it is done, the image of a book with R and the index of its rows, and otherwise the index as it was
pub record Outcome (refusals : List Refusal) (R : Book → Type 0) (s : List ℕ) (at number len : ℕ) (out words : List ℕ) : Type 0 where
  pub says : Says refusals number
  pub refused : (number ≡ 0 → ⊥) → Beside (site_of s) (rows_in s) words
  pub done : number ≡ 0 → Kept R s at len out words

-- where the rows are known: the book with them in it
abbrev pub WithRows : List ℕ → List Row → Book → Type 0
WithRows s new c = Plus (book_in s) new c

-- where the routes are known: c is the book with the rows on them put in
pub record OpenedOn (b : Book) (q : Asked) (routes : List (List ℕ)) (c : Book) : Type 0 where
  pub new : List Row
  pub placed : NewRows b q 1 routes new
  pub plus : Plus b new c

abbrev pub routed_refusals : Asked → List (List ℕ) → Book → List Refusal
routed_refusals q routes b = (8 when Full b routes) ∷ (9 when NoPlacings b q 1 routes) ∷ (23 when NotPaid b q routes) ∷ []

abbrev pub Routed : List ℕ → Asked → List (List ℕ) → ℕ → ℕ → ℕ → List ℕ → List ℕ → Type 0
Routed s q routes = Outcome (routed_refusals q routes (book_in s)) (OpenedOn (book_in s) q routes) s

-- where the request is in order, its account known and its id new, with the set of nodes that may stand in the middle
abbrev pub new_refusals : ℕ → Asked → Book → List Refusal
new_refusals mains q b =
    (7 when NoRoute b.site.links mains q.source q.destination)
    ∷ (17 when TooFar b.site.links mains q.source q.destination)
    ∷ (18 when NoSecond b.site.links mains q)
    ∷ (8 when OfRoutes mains q b (Full b))
    ∷ (9 when OfRoutes mains q b (NoPlacings b q 1))
    ∷ (23 when OfRoutes mains q b (NotPaid b q))
    ∷ []

abbrev pub OpensNew : List ℕ → ℕ → Asked → ℕ → ℕ → ℕ → List ℕ → List ℕ → Type 0
OpensNew s mains q = Outcome (new_refusals mains q (book_in s)) (Opened mains (book_in s) q) s

-- where the request is in order
abbrev pub in_order_refusals : ℕ → Asked → Book → List Refusal
in_order_refusals mains q b = (22 when (KnownAccount b.site.accounts q.account → ⊥)) ∷ (2 when Known b q.id) ∷ new_refusals mains q b

abbrev pub OpensAsked : List ℕ → ℕ → Asked → ℕ → ℕ → ℕ → List ℕ → List ℕ → Type 0
OpensAsked s mains q = Outcome (in_order_refusals mains q (book_in s)) (Opened mains (book_in s) q) s
