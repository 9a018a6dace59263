-- Rows that are put into the image of a book in the newest version.
use Rattle.std.specs.Prelude.{◌≡◌, List, [], ◌∷◌, ℕ, suc, ◌+◌, ◌≤◌, length}
use Rattle.rules.specs.Words.{◌∈◌}
use Rattle.rules.specs.Topology.{most_route_hops}
use Rattle.rules.specs.Records.{the_route, the_offsets}
use Rattle.rules.specs.declared.Placed.{Placed}
use Rattle.rules.specs.Placing.{Asked}
use Rattle.rules.specs.Book.{Row, Book, RisingByKey, hops_in_all, most_streams, most_hops, Plus}
use Rattle.rules.specs.Image.{newest, in_turn, encode_row, encode, streams_of, hops_of}
use Rattle.rules.proofs.Encoding.{AllSized}
use Rattle.rules.proofs.Reading.{book_in, NewestImage}
use Rattle.image.specs.Places.{Laid}
use Rattle.changing.specs.finding.Spot.{Vacant}

-- a place where rows of some id may stand
abbrev pub SomeVacant : List ℕ → ℕ → Type 0
SomeVacant s at = (id : ℕ) × Vacant s id at

-- rows of one new id, to stand at the place, and their bytes
pub record Fresh (s : List ℕ) (id at : ℕ) (bytes : List ℕ) (new : List Row) : Type 0 where
  pub vacant : Vacant s id at
  pub named : (r : Row) → r ∈ new → r.id ≡ id
  pub ways : (r : Row) → r ∈ new → r.way ≤ 2
  pub rising : RisingByKey new
  pub sized : AllSized newest new
  pub bytes_are : bytes ≡ in_turn (encode_row newest) new

-- the image of the book with the rows in it is laid out from the place on
pub record PutIn (s : List ℕ) (at : ℕ) (new : List Row) (len : ℕ) (out : List ℕ) : Type 0 where
  pub after : Book
  pub plus : Plus (book_in s) new after
  pub laid : Laid s at (encode newest after) len out

-- the rows of these bytes were put in
abbrev pub PutsRows : List ℕ → ℕ → List ℕ → ℕ → ℕ → ℕ → List ℕ → Type 0
PutsRows s at bytes rows hops len out = (id : ℕ) (new : List Row) → Fresh s id at bytes new → length new ≡ rows → hops_in_all new ≡ hops → PutIn s at new len out

-- the row of a way
abbrev pub row_on : Asked → ℕ → List ℕ → List ℕ → Row
row_on q way route offsets = record { id = q.id; way = way; period = q.period; route = route; offsets = offsets; account = q.account }

-- an offset for each hop of a route
pub record Parts (route offsets : List ℕ) : Type 0 where
  pub count : length route ≡ length offsets + 1
  pub few : length offsets ≤ most_route_hops

-- the image has room for so many rows and hops of the stream at the place
pub record Puttable (s : List ℕ) (at : ℕ) (q : Asked) (rows hops : ℕ) : Type 0 where
  pub image : NewestImage s
  pub vacant : Vacant s q.id at
  pub streams : streams_of s + rows ≤ most_streams
  pub hops_in_all : hops_of s + hops ≤ most_hops

-- the rows on placed routes, from a way on in turn
abbrev pub rows_on : Asked → ℕ → List Placed → List Row
rows_on q way [] = []
rows_on q way (p ∷ ps) = row_on q way (the_route p.route) (the_offsets p) ∷ rows_on q (suc way) ps

-- a placed route that may be put in
pub record Held (p : Placed) : Type 0 where
  pub parts : Parts (the_route p.route) (the_offsets p)
  pub few : p.route.hops ≤ most_route_hops

-- for the rows on one placed route or on two
pub record RoutesPut (s : List ℕ) (at : ℕ) (q : Asked) (routes : List Placed) : Type 0 where
  pub room : Puttable s at q (length routes) (hops_in_all (rows_on q 1 routes))
  pub few : length routes ≤ 2
  pub each : (p : Placed) → p ∈ routes → Held p
