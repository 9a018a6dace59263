-- The index of a book, computed.
use Rattle.std.specs.Prelude.{Bool, ◌&&◌, List, [], ◌∷◌, ℕ, zero, suc, ◌+◌, ◌*◌, eqb, leb}
use Rattle.rules.specs.Tiles.{slots_of, short_tiles}
use Rattle.rules.specs.Topology.{Hop}
use Rattle.rules.specs.Book.{Row, Book, hops, row_hop, row_offset}
use Rattle.rules.proofs.Tests.{some_below, some_of}
use Rattle.rules.proofs.Counts.{if_so}
use Rattle.rules.proofs.Slots.{takes}

-- the set of the numbers below w that pass the test
abbrev pub set_below : ℕ → (ℕ → Bool) → ℕ
set_below zero f = 0
set_below (suc w) f = if_so (f 0) + 2 * set_below w (λ (k : ℕ). f (suc k))

-- whether a hop of a row with a period up to 100 takes the slot, with the node at this end
abbrev pub marks : (Hop → ℕ) → Book → ℕ → ℕ → Bool
marks end b slot node =
    some_of (λ (r : Row). leb r.period short_tiles
    && some_below (hops r) (λ (i : ℕ). takes b.site.plan.slots r.period (row_offset r i) slot && eqb node (end (row_hop r i)))) b.rows

-- the two words of each of the n slots from a slot on
abbrev pub words_from : Book → ℕ → ℕ → List ℕ
words_from b zero slot = []
words_from b (suc n) slot =
    set_below 64 (marks (λ (h : Hop). h.from) b slot) ∷ set_below 64 (marks (λ (h : Hop). h.to) b slot) ∷ words_from b n (suc slot)

abbrev pub index_of : Book → List ℕ
index_of b = words_from b (slots_of b.site.plan short_tiles) 0
