-- What a placing is one beside: the rows of an image, and perhaps one more of the same period.
use Rattle.std.specs.Prelude.{◌≡◌, ◌⊎◌, List, ℕ, ◌*◌, ◌<◌, length}
use Rattle.rules.specs.Words.{◌∈◌}
use Rattle.rules.specs.Topology.{hop_count}
use Rattle.rules.specs.Book.{Row, Book}
use Rattle.rules.specs.Image.{plan_of, site_of}

-- the row is on the route, with these offsets
pub record RowOn (K : ℕ) (route offsets : List ℕ) (x : Row) : Type 0 where
  pub period_is : x.period ≡ K
  pub route_is : x.route ≡ route
  pub offsets_are : x.offsets ≡ offsets

-- the book has the rows, and beside them only one on the route, where that has offsets
pub record Covers (s : List ℕ) (rows : List Row) (K : ℕ) (first taken : List ℕ) (c : Book) : Type 0 where
  pub site : c.site ≡ site_of s
  pub known : (x : Row) → x ∈ rows → x ∈ c.rows
  pub each : (x : Row) → x ∈ c.rows → (x ∈ rows) ⊎ RowOn K first taken x
  pub other : 0 < length taken → (x : Row) × (x ∈ c.rows) × RowOn K first taken x
  pub count : length taken ≡ hop_count first
  pub within : (o : ℕ) → o ∈ taken → o < K * (plan_of s).slots
