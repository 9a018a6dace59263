-- A book of 510 hops is lawful: each row is in slots of its own.
use mathlib.Core.Path.{◌≡◌, sym, ap, ◌∙◌, subst}
use mathlib.Core.Bool.{Bool, ◌&&◌}
use Prim.Native.Nat.{ℕ, ◌+◌, ◌*◌, ◌/◌, ◌<◌}
use native.Mathlib.Omega.{arith}
use lib.Dec.{eqb}
use lib.ListN.{length}
use Rattle.rules.specs.Words.{◌∈◌, Tests}
use Rattle.rules.specs.Tiles.{Meet}
use Rattle.rules.specs.Book.{Row, Book, hops_in_all, most_streams, most_hops, row_offset, LawfulRow, Paired, ClashingHopsMeet, LawfulBook}
use Rattle.rules.specs.Image.{newest, encode, Stored}
use Rattle.rules.proofs.Tests.{tests_and, tests_eq, tests_le, all_of, tests_every}
use Rattle.rules.proofs.Lists.{at_in}
use Rattle.rules.proofs.Meeting.{same_place}
use Rattle.rules.proofs.Reading.{lawful_stored}
use Rattle.theorems.specs.model.Reading.{is_lawful, is_paired}
use Rattle.theorems.proofs.model.Reading.{tests_site, tests_lawful, tests_rising, tests_paired, tests_paid}
use Rattle.theorems.specs.order.Examples.{long_ones}
use Rattle.theorems.proofs.order.Premises.{so}

-- hops of one period meet in their offset
meet_once : (S K o p : ℕ) → o < K * S → p < K * S → Meet S K o K p → o ≡ p
meet_once S K o p l k m = same_place (K * S) o p m.left.turn m.right.turn l k (sym m.left.at ∙ m.right.at)

-- the row has the period 100, and its offsets are 15 that its id tells
abbrev OwnSlots : Row → Type 0
OwnSlots r = (r.period ≡ 100) × ((r.way ≡ 1) × ((o : ℕ) → o ∈ r.offsets → o / 15 + 1 ≡ r.id))

abbrev own_slots : Row → Bool
own_slots r = eqb r.period 100 && (eqb r.way 1 && all_of (λ (o : ℕ). eqb (o / 15 + 1) r.id) r.offsets)

tests_own : (r : Row) → Tests (own_slots r) (OwnSlots r)
tests_own r =
    tests_and (tests_eq r.period 100)
    (tests_and (tests_eq r.way 1) (tests_every (λ o. eqb (o / 15 + 1) r.id) (λ o. tests_eq (o / 15 + 1) r.id) r.offsets))

-- no two such rows meet
own_apart : (b : Book) → ((r : Row) → r ∈ b.rows → LawfulRow b.site r) → ((r : Row) → r ∈ b.rows → OwnSlots r) → ClashingHopsMeet b → ⊥
own_apart b lawful own m =
    let f = own m.one m.one_there in
    let g = own m.other m.other_there in
    let i : m.meets.hop < length m.one.offsets = omega (arith, (lawful m.one m.one_there).offsets.count, m.meets.there) in
    let j : m.meets.meets.hop < length m.other.offsets = omega (arith, (lawful m.other m.other_there).offsets.count, m.meets.meets.there) in
    let S : ℕ = b.site.plan.slots in
    let o : ℕ = row_offset m.one m.meets.hop in
    let p : ℕ = row_offset m.other m.meets.meets.hop in
    let k = at_in m.one.offsets m.meets.hop i in
    let l = at_in m.other.offsets m.meets.meets.hop j in
    let once : m.other.period ≡ m.one.period = g.0 ∙ sym f.0 in
    let e : o ≡ p = meet_once S m.one.period o p ((lawful m.one m.one_there).offsets.within o k)
    (subst (λ (K : ℕ). p < K * S) once ((lawful m.other m.other_there).offsets.within p l))
    (subst (λ (L : ℕ). Meet S m.one.period o L p) once m.meets.meets.meet) in
    let ids : m.one.id ≡ m.other.id = sym (f.1.1 o k) ∙ ap (λ (x : ℕ). x / 15 + 1) e ∙ g.1.1 p l in
    m.different (omega (arith, ids, f.1.0, g.1.0))

rows_lawful : (r : Row) → r ∈ long_ones.rows → LawfulRow long_ones.site r
rows_lawful = (tests_every (is_lawful long_ones.site) (tests_lawful long_ones.site) long_ones.rows).yes (so tt)

rows_own : (r : Row) → r ∈ long_ones.rows → OwnSlots r
rows_own = (tests_every own_slots tests_own long_ones.rows).yes (so tt)

rows_paired : (r : Row) → r ∈ long_ones.rows → Paired long_ones.rows r
rows_paired = (tests_every (is_paired long_ones.rows) (tests_paired long_ones.rows) long_ones.rows).yes (so tt)

long_lawful : LawfulBook long_ones
long_lawful = record {
  site = (tests_site long_ones.site).yes (so tt);
  streams = (tests_le (length long_ones.rows) most_streams).yes (so tt);
  hops = (tests_le (hops_in_all long_ones.rows) most_hops).yes (so tt);
  rows = rows_lawful;
  rising = (tests_rising long_ones.rows).yes (so tt);
  paired = rows_paired;
  paid = (tests_paid long_ones.site.accounts long_ones.rows).yes (so tt);
  never_meet = own_apart long_ones rows_lawful rows_own;
}

pub long_held : Stored (encode newest long_ones) newest long_ones
long_held = lawful_stored long_ones long_lawful
