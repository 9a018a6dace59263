-- Two books never look alike on the air: what the nodes do tells what was sold.
use Rattle.std.specs.Prelude.{◌≡◌, ◌↔◌, List, [], ◌++◌, ℕ, ◌+◌, ◌<◌, take}
use Rattle.rules.specs.Words.{◌∈◌}
use Rattle.rules.specs.Tiles.{cycle_tiles}
use Rattle.rules.specs.Topology.{nodes}
use Rattle.rules.specs.Book.{Row, Book, LawfulBook}
use Rattle.rules.specs.Image.{version_of, plan_of, nodes_of, links_of, hearing_of, accounts_of, Stored}
use Rattle.rules.specs.Table.{TablePart}
use Rattle.rules.specs.Calls.{Check, Expand}

-- OVER BOOKS

-- the whole table: every slot of the cycle
abbrev pub TableOf : Book → ℕ → List ℕ → Type 0
TableOf b node table = TablePart b node 0 cycle_tiles table

-- at every node the books have one table
abbrev pub LookAlike : Book → Book → Type 0
LookAlike b c = (node : ℕ) → node < nodes b.site.links → (table : List ℕ) × TableOf b node table × TableOf c node table

-- they have equal account numbers by id
abbrev pub SameAccounts : Book → Book → Type 0
SameAccounts b c = (r x : Row) → r ∈ b.rows → x ∈ c.rows → r.id ≡ x.id → r.account ≡ x.account

-- two lawful books with the same plan, topologies and accounts, and equal account numbers by id, whose node tables are equal at every node, are the same book
abbrev pub NeverAlike : Type 0
NeverAlike = (b c : Book) → LawfulBook b → LawfulBook c → b.site ≡ c.site → SameAccounts b c → LookAlike b c → b ≡ c

-- OVER THE CALLS: a node's table as expand gives it, part by part

-- an expand of the node that is done gives these bytes for so many tiles from the first on
pub record Expands (image : List ℕ) (node first tiles : ℕ) (bytes : List ℕ) : Type 0 where
  pub out : List ℕ
  pub len : ℕ
  pub out' : List ℕ
  pub call : Expand image node first tiles out 0 len out'
  pub given : take len out' ≡ bytes

-- one expand after the other, from a tile to the end of the cycle, gives these bytes joined
pub data Joined (image : List ℕ) (node : ℕ) : ℕ → List ℕ → Type 0 where
  end : Joined image node cycle_tiles []
  part : {first tiles : ℕ} {bytes rest : List ℕ} → Expands image node first tiles bytes → Joined image node (first + tiles) rest → Joined image node first (bytes ++ rest)

-- joined parts are the whole: the table of the book that the image holds, and that table is to be had in parts
abbrev pub JoinedIsWhole : Type 0
JoinedIsWhole =
    (image : List ℕ) (v : ℕ) (b : Book) (node : ℕ) (table : List ℕ) → Stored image v b → node < nodes b.site.links → Joined image node 0 table ↔ TableOf b node table

-- a check accepts both images, and at every node the parts that expand gives are the same bytes joined
pub record ExpandAlike (s t : List ℕ) : Type 0 where
  pub one : Check s 0 0
  pub other : Check t 0 0
  pub same : (node : ℕ) → node < nodes_of s → (table : List ℕ) × Joined s node 0 table × Joined t node 0 table

-- the books that they hold have equal account numbers by id
abbrev pub SameNumbers : List ℕ → List ℕ → Type 0
SameNumbers s t = (v w : ℕ) (b c : Book) → Stored s v b → Stored t w c → SameAccounts b c

-- such images of one version, plan, topologies and accounts, with equal account numbers by id, are the same bytes
abbrev pub ImagesNeverAlike : Type 0
ImagesNeverAlike =
    (s t : List ℕ) → version_of s ≡ version_of t → plan_of s ≡ plan_of t → links_of s ≡ links_of t → hearing_of s ≡ hearing_of t → accounts_of s ≡ accounts_of t → SameNumbers s t
    → ExpandAlike s t → s ≡ t
