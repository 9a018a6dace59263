-- The plain test: what a hop meets by its period and offset, of rows that the index leaves out.
use Rattle.std.specs.Prelude.{◌≡◌, ◌⊎◌, List, ℕ, zero, suc, ◌*◌, ◌%◌, ◌<◌, ◌≤◌, length, get_or}
use Rattle.rules.specs.Tiles.{short_tiles, Meet, Gcd}
use Rattle.rules.specs.Topology.{Hop, hop_at, most_route_hops}
use Rattle.rules.specs.Book.{Row, hops, row_hop, row_offset, LawfulRow}
use Rattle.rules.specs.Image.{plan_of, site_of}
use Rattle.bitset.specs.clash.Reach.{End, node_at}
use Rattle.image.specs.Places.{row_at, next_at, Whole}

-- of two periods the index leaves one out: it is over 100
abbrev pub LeftOut : ℕ → ℕ → Type 0
LeftOut K L = (short_tiles < K) ⊎ (short_tiles < L)

-- hops of these periods meet exactly if their offsets agree modulo m: it is g * S, g the greatest common divisor of the periods
pub record ModulusOf (S K L m : ℕ) : Type 0 where
  pub divisor : ℕ
  pub greatest : Gcd K L divisor
  pub is : m ≡ divisor * S

-- beside hops of period K a row of period L has this modulus, or 0 where the index leaves neither out
pub data Weighed (S K L m : ℕ) : Type 0 where
  weighs : LeftOut K L → 0 < m → ModulusOf S K L m → Weighed S K L m
  indexed : (LeftOut K L → ⊥) → m ≡ 0 → Weighed S K L m

-- where row i stands, counted from the start on
unfoldable pub place_of : List ℕ → ℕ → ℕ → ℕ
place_of s start zero = start
place_of s start (suc i) = place_of s (next_at s start) i

-- that row
abbrev pub nth_row : List ℕ → ℕ → ℕ → Row
nth_row s start i = row_at s (place_of s start i)

-- the row has at most 15 hops, over nodes below 64
pub record SmallRow (r : Row) : Type 0 where
  pub most : hops r ≤ most_route_hops
  pub nodes : (j : ℕ) → j ≤ hops r → get_or r.route j 0 < 64

-- a lawful row of at most 64 nodes is at the place
pub record RowThere (s : List ℕ) (at : ℕ) : Type 0 where
  pub whole : Whole s at
  pub lawful : LawfulRow (site_of s) (row_at s at)
  pub small : (j : ℕ) → j ≤ hops (row_at s at) → get_or (row_at s at).route j 0 < 64

-- from the start on stand n of them
pub record RowsThere (s : List ℕ) (start n : ℕ) : Type 0 where
  pub each : (i : ℕ) → i < n → RowThere s (place_of s start i)
  pub few : n ≤ 64

-- of the n rows from the start on, the first so many have these moduli beside hops of period K, and the index leaves none of the others out
pub record Weighs (s : List ℕ) (start n K : ℕ) (moduli : List ℕ) (rows : ℕ) : Type 0 where
  pub most : rows ≤ n
  pub each : (i : ℕ) → i < rows → Weighed (plan_of s).slots K (nth_row s start i).period (get_or moduli i 0)
  pub others : (i : ℕ) → rows ≤ i → i < n → LeftOut K (nth_row s start i).period → ⊥
  pub room : length moduli ≡ 64

-- the hop has a node with C at an end
pub record HasEnd (C : End → ℕ → Type 0) (h : Hop) : Type 0 where
  pub end : End
  pub sought : C end (node_at end h)

-- so has hop i of the row, and its offset agrees with o modulo m
pub record AgreesHop (C : End → ℕ → Type 0) (r : Row) (m o i : ℕ) : Type 0 where
  pub sought : HasEnd C (row_hop r i)
  pub agrees : o % m ≡ row_offset r i % m

-- some hop of the row does
pub record AgreesRow (C : End → ℕ → Type 0) (r : Row) (m o : ℕ) : Type 0 where
  pub hop : ℕ
  pub there : hop < hops r
  pub hop_agrees : AgreesHop C r m o hop

-- of the first so many rows one with a modulus has such a hop
pub record Agrees (C : End → ℕ → Type 0) (s : List ℕ) (start rows : ℕ) (moduli : List ℕ) (o : ℕ) : Type 0 where
  pub row : ℕ
  pub there : row < rows
  pub weighed : 0 < get_or moduli row 0
  pub row_agrees : AgreesRow C (nth_row s start row) (get_or moduli row 0) o

-- a hop of period K and offset o meets a hop of the row that has a node with C at an end
pub record MeetsRow (C : End → ℕ → Type 0) (S K : ℕ) (r : Row) (o : ℕ) : Type 0 where
  pub hop : ℕ
  pub there : hop < hops r
  pub sought : HasEnd C (row_hop r hop)
  pub meet : Meet S K o r.period (row_offset r hop)

-- of the n rows from the start on it meets one that the index leaves out
pub record MeetsPlain (C : End → ℕ → Type 0) (s : List ℕ) (start n K o : ℕ) : Type 0 where
  pub row : ℕ
  pub there : row < n
  pub left_out : LeftOut K (nth_row s start row).period
  pub meets : MeetsRow C (plan_of s).slots K (nth_row s start row) o

-- hop i of the route has a node with C at an end, and the offset
pub record MeetsRouteHop (C : End → ℕ → Type 0) (route offsets : List ℕ) (o i : ℕ) : Type 0 where
  pub sought : HasEnd C (hop_at route i)
  pub is : get_or offsets i 0 ≡ o

-- some hop of it does
pub record MeetsRoute (C : End → ℕ → Type 0) (route offsets : List ℕ) (o : ℕ) : Type 0 where
  pub hop : ℕ
  pub there : hop < length offsets
  pub meets : MeetsRouteHop C route offsets o hop
