-- Two books never look alike on the air: that holds with no premise less, and examples of what looks alike.
use Rattle.std.specs.Prelude.{◌≡◌, List, [], ◌∷◌, ℕ}
use Rattle.rules.specs.Tiles.{Plan}
use Rattle.rules.specs.Topology.{Topology}
use Rattle.rules.specs.Book.{Book, LawfulBook}
use Rattle.rules.specs.Image.{newest, old_accounts, encode, version_of, plan_of, links_of, hearing_of, accounts_of}
use Rattle.theorems.specs.order.Examples.{one_hop}
use Rattle.theorems.specs.promises.OnAir.{LookAlike, SameAccounts, SameNumbers, ExpandAlike}

-- ONE PREMISE LESS

-- of images: the version, the plan, the topologies, which no version so far holds apart, the accounts, or the account numbers
abbrev pub WithoutVersion : Type 0
WithoutVersion =
    (s t : List ℕ) → plan_of s ≡ plan_of t → links_of s ≡ links_of t → hearing_of s ≡ hearing_of t → accounts_of s ≡ accounts_of t → SameNumbers s t → ExpandAlike s t → s ≡ t

abbrev pub WithoutPlan : Type 0
WithoutPlan =
    (s t : List ℕ) → version_of s ≡ version_of t → links_of s ≡ links_of t → hearing_of s ≡ hearing_of t → accounts_of s ≡ accounts_of t → SameNumbers s t → ExpandAlike s t → s ≡ t

abbrev pub WithoutTopologies : Type 0
WithoutTopologies = (s t : List ℕ) → version_of s ≡ version_of t → plan_of s ≡ plan_of t → accounts_of s ≡ accounts_of t → SameNumbers s t → ExpandAlike s t → s ≡ t

abbrev pub WithoutAccounts : Type 0
WithoutAccounts =
    (s t : List ℕ) → version_of s ≡ version_of t → plan_of s ≡ plan_of t → links_of s ≡ links_of t → hearing_of s ≡ hearing_of t → SameNumbers s t → ExpandAlike s t → s ≡ t

abbrev pub WithoutNumbers : Type 0
WithoutNumbers =
    (s t : List ℕ) → version_of s ≡ version_of t → plan_of s ≡ plan_of t → links_of s ≡ links_of t → hearing_of s ≡ hearing_of t → accounts_of s ≡ accounts_of t → ExpandAlike s t → s ≡ t

-- of books: the links, or who hears whom
abbrev pub WithoutLinks : Type 0
WithoutLinks =
    (b c : Book) → LawfulBook b → LawfulBook c → b.site.plan ≡ c.site.plan → b.site.hearing ≡ c.site.hearing → b.site.accounts ≡ c.site.accounts
    → SameAccounts b c → LookAlike b c → b ≡ c

abbrev pub WithoutHearing : Type 0
WithoutHearing =
    (b c : Book) → LawfulBook b → LawfulBook c → b.site.plan ≡ c.site.plan → b.site.links ≡ c.site.links → b.site.accounts ≡ c.site.accounts
    → SameAccounts b c → LookAlike b c → b ≡ c

pub record Needed : Type 0 where
  pub version : WithoutVersion → ⊥
  pub plan : WithoutPlan → ⊥
  pub topologies : WithoutTopologies → ⊥
  pub accounts : WithoutAccounts → ⊥
  pub numbers : WithoutNumbers → ⊥
  pub links : WithoutLinks → ⊥
  pub hearing : WithoutHearing → ⊥

-- EXAMPLES: of three nodes 0 sends to 1 in every second tile

-- 0 and 1 are joined, and 2 is alone
abbrev pub alone : Topology
alone = record { rows = 2 ∷ 1 ∷ 0 ∷ [] }

-- 1 and 2 are joined too
abbrev pub in_line : Topology
in_line = record { rows = 2 ∷ 5 ∷ 2 ∷ [] }

-- all tiles are uplink, of one slot each, and that is a data slot
abbrev pub uplink : ℕ → Plan
uplink D = record { slots = 1; tiles = 1; kinds = 0; down = D; up = 0 }

abbrev pub sold : ℕ → Topology → Topology → Book
sold D links hearing = record { site = record { plan = uplink D; links = links; hearing = hearing; accounts = old_accounts }; rows = one_hop 7 2 0 1 0 ∷ [] }

-- its stream on one of two accounts, of which the first has bought so much
abbrev pub paid : ℕ → ℕ → Book
paid bought account = record {
  site = record {
    plan = uplink 0;
    links = alone;
    hearing = alone;
    accounts = record { number = 3; bought = bought } ∷ record { number = 9; bought = 500 } ∷ [];
  };
  rows = record { id = 7; way = 1; period = 2; route = 0 ∷ 1 ∷ []; offsets = 0 ∷ []; account = account } ∷ [];
}

-- the images look alike, and are not the same
pub record TwoImages (s t : List ℕ) : Type 0 where
  pub alike : ExpandAlike s t
  pub different : s ≡ t → ⊥

-- and so do two lawful books
pub record TwoBooks (b c : Book) : Type 0 where
  pub one : LawfulBook b
  pub other : LawfulBook c
  pub alike : LookAlike b c
  pub different : b ≡ c → ⊥

pub record Examples : Type 0 where
  -- one book in two versions
  pub version : TwoImages (encode 1 (sold 0 alone alone)) (encode newest (sold 0 alone alone))
  -- another D, where no tile is downlink
  pub plan : TwoImages (encode newest (sold 0 alone alone)) (encode newest (sold 1 alone alone))
  -- a link more, which no stream goes over
  pub topologies : TwoImages (encode newest (sold 0 alone alone)) (encode newest (sold 0 in_line in_line))
  -- an account has bought one hop use more
  pub accounts : TwoImages (encode newest (paid 500 3)) (encode newest (paid 501 3))
  -- the stream belongs to another account
  pub numbers : TwoImages (encode newest (paid 500 3)) (encode newest (paid 500 9))
  -- a link more between nodes that hear each other as before
  pub links : TwoBooks (sold 0 alone in_line) (sold 0 in_line in_line)
  -- nodes more that hear each other, without a link
  pub hearing : TwoBooks (sold 0 alone alone) (sold 0 alone in_line)
