-- The accounts of an image: their numbers, what a row draws from one, and what is left of each.
use Rattle.std.specs.Prelude.{◌≡◌, Bool, cond, List, [], ◌∷◌, ◌++◌, ℕ, ◌+◌, ◌*◌, ◌<◌, ◌≤◌, eqb, length, get_or, Option, IfSome, IsNone}
use Rattle.rules.specs.Words.{◌∈◌, Tests}
use Rattle.rules.specs.Tiles.{cycle_tiles}
use Rattle.rules.specs.Topology.{most_route_hops}
use Rattle.rules.specs.Book.{Account, Row, most_streams, AccountsInRange, KnownAccount, draws, drawn, Paid}
use Rattle.rules.specs.Image.{accounts_of, links_place}
use Rattle.rules.proofs.Reading.{rows_in}
use Rattle.image.specs.Header.{HeaderOf}
use Rattle.image.specs.declared.Book.{Book}

-- the numbers of the accounts,
abbrev pub numbers : List Account → List ℕ
numbers [] = []
numbers (a ∷ accounts) = a.number ∷ numbers accounts

-- and what they have bought
abbrev pub boughts : List Account → List ℕ
boughts [] = []
boughts (a ∷ accounts) = a.bought ∷ boughts accounts

-- the account of the number is the one at place i
pub record StandsAt (accounts : List Account) (n i : ℕ) : Type 0 where
  pub here : i < length accounts
  pub named : get_or (numbers accounts) i 0 ≡ n

-- the account of the number is the one at the place, and there is none where there is no place
pub record PlaceOf (accounts : List Account) (n : ℕ) (place : Option ℕ) : Type 0 where
  pub there : IfSome place (StandsAt accounts n)
  pub none : IsNone place → KnownAccount accounts n → ⊥

-- the numbers rise, and the first is no less than a least
abbrev pub RisesFrom : ℕ → List Account → Type 0
RisesFrom least [] = Unit {0}
RisesFrom least (a ∷ accounts) = (least ≤ a.number) × RisesFrom (a.number + 1) accounts

-- what the row draws from the account of the number
abbrev pub draws_from : ℕ → Row → ℕ
draws_from n r = cond (eqb r.account n) (draws r) 0

-- what is left of each account where rows draw from it: what it has bought less what they draw
pub record LeftBy (accounts : List Account) (rows : List Row) (left : List ℕ) : Type 0 where
  pub each : (i : ℕ) → i < length accounts → get_or left i 0 + drawn (get_or (numbers accounts) i 0) rows ≡ get_or (boughts accounts) i 0

-- the accounts of an image were read: its header, and a list in its range that does not end inside it
pub record ListRead (s : List ℕ) (b : Book) : Type 0 where
  pub header : HeaderOf s b
  pub inside : links_place s ≤ length s
  pub range : AccountsInRange (accounts_of s)

-- the rows of a book draw at most so much: 64 of them, of 15 hops that come 1,000 times in a cycle
abbrev pub most_drawn : ℕ
most_drawn = most_streams * (most_route_hops * cycle_tiles)

-- every account has bought that
abbrev pub HoldMost : List Account → Type 0
HoldMost accounts = (a : Account) → a ∈ accounts → most_drawn ≤ a.bought

-- with the row behind them the rows overdraw no account, whatever rows left so much
abbrev pub MayDraw : List Account → Row → List ℕ → Bool → Type 0
MayDraw accounts r left t = (rows : List Row) → LeftBy accounts rows left → Tests t (Paid accounts (rows ++ (r ∷ [])))

-- so much is left then
abbrev pub DrawsMore : List Account → Row → List ℕ → List ℕ → Type 0
DrawsMore accounts r left left' = (rows : List Row) → LeftBy accounts rows left → LeftBy accounts (rows ++ (r ∷ [])) left'

-- some rows left so much, and with the row behind them no account is overdrawn
abbrev pub CanDraw : List Account → Row → List ℕ → Type 0
CanDraw accounts r left = (rows : List Row) × LeftBy accounts rows left × Paid accounts (rows ++ (r ∷ []))

-- the account of the number, if there is one, has bought so much
abbrev pub HasBought : List Account → ℕ → ℕ → Type 0
HasBought accounts n bought = (a : Account) → a ∈ accounts → a.number ≡ n → bought ≡ a.bought

-- the account of the number pays for so many hop uses more than the rows of the image draw from it
abbrev pub Pays : List ℕ → ℕ → ℕ → Type 0
Pays s n cost = (a : Account) → a ∈ accounts_of s → a.number ≡ n → drawn n (rows_in s) + cost ≤ a.bought
