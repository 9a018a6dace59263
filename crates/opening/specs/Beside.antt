-- What a stream is opened beside: a lawful image in the newest version, and the index of its rows and its site.
use Rattle.std.specs.Prelude.{◌≡◌, List, ℕ, ◌<◌, ◌≤◌, Result, Ok, Err}
use Rattle.rules.specs.Book as rules
use Rattle.rules.specs.Tiles.{Period}
use Rattle.rules.specs.Topology.{Path, hop_count, most_route_hops}
use Rattle.rules.specs.Records.{the_route, the_offsets}
use Rattle.rules.specs.declared.{Slot.Slot, refusals.Refusal.Refusal}
use Rattle.rules.specs.declared.refusals.Refusal.TheVariants.{NoSlots}
use Rattle.rules.specs.declared.Route as held
use Rattle.rules.specs.Placing.{Asked, FirstPlacing, NoPlacing}
use Rattle.rules.specs.Image.{nodes_of, accounts_of, links_of}
use Rattle.rules.proofs.Reading.{rows_in}
use Rattle.image.specs.Header.{HeaderOf}
use Rattle.image.specs.declared.Book.{Book}
use Rattle.index.specs.Beside.{ImageBeside}
use Rattle.placing.specs.Covers.{Covers}
use Rattle.changing.specs.finding.Spot.{Vacant}

-- with what the header says; the request is in order
pub record AskedBeside (s words : List ℕ) (book : Book) (q : Asked) : Type 0 where
  pub image : ImageBeside s words
  pub header : HeaderOf s book
  pub source : q.source < nodes_of s
  pub destination : q.destination < nodes_of s
  pub apart : q.source ≡ q.destination → ⊥
  pub period : Period q.period

-- and its account is known, and its id new: its row would stand at the place
pub record NewBeside (s words : List ℕ) (book : Book) (q : Asked) (at : ℕ) : Type 0 where
  pub asked : AskedBeside s words book q
  pub account : rules.KnownAccount (accounts_of s) q.account
  pub vacant : Vacant s q.id at

-- with a route
pub record RouteAsked (s words : List ℕ) (book : Book) (q : Asked) (route : List ℕ) : Type 0 where
  pub asked : AskedBeside s words book q
  pub path : Path (links_of s) route
  pub few : hop_count route ≤ most_route_hops

-- the offsets of the route's first placing in the book; or it has none, and is refused by 9
abbrev pub PlacedIn : rules.Book → Asked → held.Route → Result (List Slot) Refusal → Type 0
PlacedIn c q route (Ok offsets) = FirstPlacing c q.period (the_route route) (the_offsets (record { route = route; offsets = offsets }))
PlacedIn c q route (Err r) = (r ≡ NoSlots) × NoPlacing c q.period (the_route route)

-- in each book that has the rows of the image, and beside them only one on the first route, with the offsets that it has taken
abbrev pub PlacedOn : List ℕ → Asked → held.Route → List ℕ → List ℕ → Result (List Slot) Refusal → Type 0
PlacedOn s q route first taken r = (c : rules.Book) → Covers s (rows_in s) q.period first taken c → PlacedIn c q route r
