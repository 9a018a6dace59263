-- Where a node stands in a route, what it does there, and the operations in which it works for a stream.
use Rattle.std.specs.Prelude.{◌≡◌, Bool, cond, ◌&&◌, ◌||◌, ℕ, ◌≤◌, eqb, leb, get_or, Option, Some, None}
use Rattle.rules.specs.Book.{Row, hops}

-- the operation is one of 1 to 4, in which a node works for a stream, or one of 17 to 20, in which it does so on a second route
abbrev pub is_working : ℕ → Bool
is_working operation = leb 1 operation && leb operation 4 || leb 17 operation && leb operation 20

-- n in these operations, and 0 in the others
abbrev pub where_working : ℕ → ℕ → ℕ
where_working operation n = cond (is_working operation) n 0

-- the node stands at the place of the row's route, and at no other
pub record StopsAt (node : ℕ) (r : Row) (place : ℕ) : Type 0 where
  pub within : place ≤ hops r
  pub here : node ≡ get_or r.route place 0
  pub only : (k : ℕ) → k ≤ hops r → node ≡ get_or r.route k 0 → k ≡ place

-- it stands nowhere in the route
pub record NoStop (node : ℕ) (r : Row) : Type 0 where
  pub nowhere : (k : ℕ) → k ≤ hops r → node ≡ get_or r.route k 0 → ⊥

-- where it stands
abbrev pub StopOf : ℕ → Row → Option ℕ → Type 0
StopOf node r (Some place) = StopsAt node r place
StopOf node r None = NoStop node r

-- in the hop to its place a node receives: for above at the last place, and else to its buffer
abbrev pub arrival : ℕ → ℕ → ℕ
arrival place last = cond (eqb place last) 4 2

-- in the hop from its place it sends: from above at the first place, and else from its buffer
abbrev pub departure : ℕ → ℕ
departure place = cond (eqb place 0) 1 3
