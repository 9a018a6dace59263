-- A row behind the one before it.
use Rattle.std.specs.Prelude.{◌≡◌, ℕ, Option, None, Some, ◌<◌, ◌≤◌, get_or}
use Rattle.rules.specs.Book.{Row, hops, key, Pair}

-- r is the first way of a stream with the id, the period and the account of x
pub record SameStream (r x : Row) : Type 0 where
  pub id : r.id ≡ x.id
  pub first : r.way ≡ 1
  pub period : r.period ≡ x.period
  pub account : r.account ≡ x.account

-- their routes have the same ends
pub record SameEnds (r x : Row) : Type 0 where
  pub starts : get_or r.route 0 0 ≡ get_or x.route 0 0
  pub ends : get_or r.route (hops r) 0 ≡ get_or x.route (hops x) 0

-- x may come behind the key `last`, of the row r, or of none where it is 0
pub record Follows (r : Row) (last : ℕ) (x : Row) : Type 0 where
  pub higher : last < key x
  pub second : x.way ≡ 2 → (1 ≤ last) × Pair r x

-- x may come behind the row before, or as the first of all, where there is none
abbrev pub ComesBehind : Option Row → Row → Type 0
ComesBehind None x = x.way ≡ 2 → ⊥
ComesBehind (Some r) x = (key r < key x) × (x.way ≡ 2 → Pair r x)
