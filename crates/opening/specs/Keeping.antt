-- Rows that are put into an image, and marked in its index.
use Rattle.std.specs.Prelude.{◌≡◌, List, [], ◌∷◌, map, ℕ, ◌≤◌, Result, Ok, Err}
use Rattle.rules.specs.Words.{◌∈◌}
use Rattle.rules.specs.Topology.{Path, hop_count, most_route_hops}
use Rattle.rules.specs.Records.{the_route, the_offsets}
use Rattle.rules.specs.declared.Placed.{Placed}
use Rattle.rules.specs.Says.{◌when◌, Says}
use Rattle.rules.specs.Said.{number_of}
use Rattle.rules.specs.declared.refusals.Refusal.{Refusal}
use Rattle.rules.specs.Book.{Row}
use Rattle.rules.specs.Placing.{Asked, Full, NewRows, NoPlacings, NotPaid}
use Rattle.rules.specs.Image.{links_of}
use Rattle.rules.proofs.Reading.{book_in}
use Rattle.image.specs.declared.Book.{Book}
use Rattle.placing.specs.Marking.{Markable}
use Rattle.opening.specs.Open.{WithRows, Outcome}
use Rattle.opening.specs.Beside.{NewBeside}
use Rattle.changing.specs.adding.Puts.{rows_on, RoutesPut}

-- the account does not pay for the routes; or the image has the rows, and the words are the index with them
abbrev pub Keeps : List ℕ → Asked → List (List ℕ) → List Row → ℕ → ℕ → ℕ → List ℕ → List ℕ → Type 0
Keeps s q routes new = Outcome ((23 when NotPaid (book_in s) q routes) ∷ []) (WithRows s new) s

-- the routes of those that are placed
abbrev pub routes_of : List Placed → List (List ℕ)
routes_of = map (λ (p : Placed). the_route p.route)

-- a placed route of the site, of as many hops as it says
pub record RouteHeld (s : List ℕ) (p : Placed) : Type 0 where
  pub path : Path (links_of s) (the_route p.route)
  pub few : hop_count (the_route p.route) ≤ most_route_hops
  pub hops_are : hop_count (the_route p.route) ≡ p.route.hops

-- the routes, each with its first placing beside the book and the rows before it; there is room for their rows
pub record RoutesPlaced (s : List ℕ) (q : Asked) (routes : List (List ℕ)) (placed : List Placed) : Type 0 where
  pub room : Full (book_in s) routes → ⊥
  pub rows : NewRows (book_in s) q 1 routes (rows_on q 1 placed)
  pub routes_are : routes ≡ routes_of placed
  pub each : (p : Placed) → p ∈ placed → RouteHeld s p

-- or they are refused by 8 or by 9
abbrev pub PlacedAll : List ℕ → Asked → List (List ℕ) → Result (List Placed) Refusal → Type 0
PlacedAll s q routes (Ok placed) = RoutesPlaced s q routes placed
PlacedAll s q routes (Err r) = Says ((8 when Full (book_in s) routes) ∷ (9 when NoPlacings (book_in s) q 1 routes) ∷ []) (number_of r)

-- the row of a new id on one placed route, or its rows on two, can be put in and marked
pub record RoutesKept (s words : List ℕ) (book : Book) (q : Asked) (at : ℕ) (routes : List Placed) : Type 0 where
  pub new : NewBeside s words book q at
  pub put : RoutesPut s at q routes
  pub hops_are : (p : Placed) → p ∈ routes → hop_count (the_route p.route) ≡ p.route.hops
  pub markable : (p : Placed) → p ∈ routes → Markable book.plan.slots.0 q.period (the_route p.route) (the_offsets p)
