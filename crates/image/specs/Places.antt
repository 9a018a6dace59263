-- Places in an image: the row that stands at a place, and the rows that stand from there on.
use Rattle.std.specs.Prelude.{◌≡◌, cond, List, [], ◌∷◌, ◌++◌, ℕ, zero, suc, ◌+◌, ◌*◌, ◌<◌, ◌≤◌, ◌-◌, length, get_or, take, drop, replicate}
use Rattle.rules.specs.Words.{◌∈◌}
use Rattle.rules.specs.Tiles.{Period}
use Rattle.rules.specs.Topology.{most_route_hops}
use Rattle.rules.specs.Book.{Row, hops, row_offset, LawfulRow}
use Rattle.rules.specs.Image.{has_hearing, header_length, links_start, hops_place, row_length, word, in_turn, encode_row, sets_at, version_of, site_of}
use Rattle.rules.proofs.Encoding.{front_row}
use Rattle.rules.proofs.Reading.{rows_in, LawfulImage}

-- where the hearing stands: in a version that holds none, where the links do
abbrev pub hearing_place : ℕ → ℕ → ℕ → ℕ
hearing_place v A N = cond (has_hearing v) (links_start v A + 8 * N) (links_start v A)

-- the row at the place
unfoldable pub row_at : List ℕ → ℕ → Row
row_at s at = front_row (version_of s) (drop at s)

-- the place after it
unfoldable pub next_at : List ℕ → ℕ → ℕ
next_at s at = at + (row_length (version_of s) + 3 * get_or s (at + hops_place (version_of s)) 0)

-- n rows from the place on
abbrev pub rows_from : List ℕ → ℕ → ℕ → List Row
rows_from s zero at = []
rows_from s (suc n) at = row_at s at ∷ rows_from s n (next_at s at)

-- a whole row, as long as it says, is at the place
pub record Whole (s : List ℕ) (at : ℕ) : Type 0 where
  pub front : at + row_length (version_of s) ≤ length s
  pub fits : next_at s at ≤ length s

-- the whole row at a place, whose nodes stand so many bytes behind its start, has so many hops
pub record RowRead (s : List ℕ) (at nodes h : ℕ) : Type 0 where
  pub whole : Whole s at
  pub nodes_behind : nodes ≡ hops_place (version_of s) + 1
  pub hops_are : h ≡ hops (row_at s at)
  pub few : h < 256

-- the bytes of a row from its hop count up to its account
abbrev pub hop_bytes : Row → List ℕ
hop_bytes r = hops r ∷ (r.route ++ in_turn word r.offsets)

-- the numbers of a row are in the ranges of a lawful book
pub record InRange (r : Row) : Type 0 where
  pub period : Period r.period
  pub some : 1 ≤ hops r
  pub most : hops r ≤ most_route_hops
  pub nodes : (i : ℕ) → i ≤ hops r → get_or r.route i 0 < 64
  pub offsets : (i : ℕ) → i < hops r → row_offset r i < r.period * 32

-- n whole rows stand from the place on
unfoldable pub WholeRows : List ℕ → ℕ → ℕ → Type 0
WholeRows s zero at = Unit {0}
WholeRows s (suc n) at = Whole s at × WholeRows s n (next_at s at)

-- the image of a lawful book, of whose rows the last `left` stand from the place on
pub record Stands (s : List ℕ) (at left : ℕ) : Type 0 where
  pub stored : LawfulImage s
  pub before : List Row
  pub rest : List Row
  pub all : rows_in s ≡ before ++ rest
  pub count : length rest ≡ left
  pub inside : at ≤ length s
  pub bytes : drop at s ≡ in_turn (encode_row (version_of s)) rest

-- the array is n topology rows from the place on, then zeros
pub record Sets (s : List ℕ) (at n : ℕ) (sets : List ℕ) : Type 0 where
  pub rows : take n sets ≡ sets_at s at n
  pub rest : drop n sets ≡ replicate (64 - n) 0

-- what is known of the row at a place where one of the book's rows stands
pub record RowHere (s : List ℕ) (at : ℕ) : Type 0 where
  pub there : row_at s at ∈ rows_in s
  pub lawful : LawfulRow (site_of s) (row_at s at)
  pub whole : Whole s at

-- an image that up to a place is as s but for its header, laid out so: its header, and what it has from the place on
pub record Laid (s : List ℕ) (at : ℕ) (image : List ℕ) (len : ℕ) (out : List ℕ) : Type 0 where
  pub low : header_length ≤ at
  pub inside : at ≤ length s
  pub long : len ≡ length image
  pub fits : len ≤ length out
  pub whole : image ≡ take header_length (take len out) ++ (take (at - header_length) (drop header_length s) ++ drop at (take len out))
