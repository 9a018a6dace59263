-- A balance adds up.
use mathlib.Core.Path.{refl, sym, subst}
use mathlib.Core.Bool.{Bool, ◌&&◌, ◌||◌}
use Prim.Native.Nat.{ℕ}
use lib.Dec.{leb}
use Rattle.rules.specs.Words.{Count, Tests}
use Rattle.rules.specs.Tiles.{cycle_slots}
use Rattle.rules.specs.Book.{Book, LawfulBook}
use Rattle.rules.specs.Table.{used}
use Rattle.rules.proofs.Tests.{alike, tests_and, tests_or, tests_le}
use Rattle.rules.proofs.Counts.{counted}
use Rattle.rules.proofs.Entries.{Working, entry_unique}
use Rattle.rules.proofs.Balances.{entry_exists, Works, used_entries, used_and_free}
use Rattle.theorems.specs.promises.Promises.{BalanceAddsUp}

abbrev is_working : ℕ → Bool
is_working operation = (leb 1 operation && leb operation 4) || (leb 17 operation && leb operation 20)

tests_working : (operation : ℕ) → Tests (is_working operation) (Working operation)
tests_working operation = tests_or (tests_and (tests_le 1 operation) (tests_le operation 4)) (tests_and (tests_le 17 operation) (tests_le operation 20))

-- used counts the entries of a stream
used_count : (b : Book) (w : LawfulBook b) (node : ℕ) → Count (Works b w node) (cycle_slots b.site.plan) (used b node)
used_count b w node =
    let c = counted (λ slot. is_working (entry_exists b w node slot).0) tests (cycle_slots b.site.plan) in
    subst (Count (Works b w node) (cycle_slots b.site.plan)) (used_entries b w node _ c) c
  where
    tests : (slot : ℕ) → Tests (is_working (entry_exists b w node slot).0) (Works b w node slot)
    tests slot =
        let (operation, id, h) = entry_exists b w node slot in
        alike (tests_working operation) (λ k. (operation, id, h, k)) (λ k. subst Working (entry_unique b w node slot k.2 h).0 k.3)

pub balance_adds_up : BalanceAddsUp
balance_adds_up image node d u f h =
    let (v, b, s, k) = h.done refl in (
      used_and_free b s.lawful node d u f k,
      (v, b, s, subst (Count (Works b s.lawful node) (cycle_slots b.site.plan)) (sym k.all_used) (used_count b s.lawful node)),
    )
