-- A row keeps to the set by its middles, and a book by its rows.
use mathlib.Core.Path.{◌≡◌, sym, subst}
use mathlib.Core.List.{List}
use Prim.Native.Nat.{ℕ}
use lib.Dec.{eqb}
use Rattle.std.specs.Prelude.{All, IsTrue, ◌↔◌, Bool}
use Rattle.rules.specs.Words.{Has, ◌∈◌, Tests}
use Rattle.rules.specs.Topology.{middles, KeepsTo}
use Rattle.rules.specs.Book.{Row}
use Rattle.rules.specs.Calls.{BookKeepsTo}
use Rattle.rules.proofs.Tests.{alike, tests_eq}
use Rattle.rules.proofs.Lists.{in_all, all_in}
use Rattle.rules.proofs.Reading.{rows_in, book_in}
use Rattle.bitset.specs.Sets.{SetOf}
use Rattle.bitset.proofs.Bits.{has_or_not, zero_none}
use Rattle.bitset.proofs.Members.{none_zero}

-- ONE ROUTE: no middle is outside the set
pub tests_keeps : {all outside : ℕ} (p : List ℕ) (mains : ℕ) → SetOf (λ (a : ℕ). a ∈ middles p) all → SetOf (λ (a : ℕ). Has all a × (Has mains a → ⊥)) outside
    → Tests (eqb outside 0) (KeepsTo mains p)
tests_keeps {all} {outside} p mains s o =
    alike (tests_eq outside 0) (λ e a m. go e a m (has_or_not mains a))
    (λ k. none_zero outside o.fits (λ a l h. let q = o.only a h in q.1 (k a (s.only a q.0))))
  where
    go : outside ≡ 0 → (a : ℕ) → a ∈ middles p → Dec (Has mains a) → Has mains a
    go e a m (yes h) = h
    go e a m (no f) = absurd (zero_none a (subst (λ (z : ℕ). Has z a) e (o.all a (s.all a m, f))))

-- ALL ROWS: the book keeps to the set exactly if each does
pub rows_tested : (s : List ℕ) (mains : ℕ) {rows : List Row} {t : Bool} → rows ≡ rows_in s → (IsTrue t ↔ All (λ (r : Row). KeepsTo mains r.route) rows)
    → Tests t (BookKeepsTo mains (book_in s))
rows_tested s mains e h = record {
  yes = λ q. all_in (λ (r : Row). KeepsTo mains r.route) (rows_in s) (subst (All (λ (r : Row). KeepsTo mains r.route)) e (h.0 q));
  back = λ k. h.1 (subst (All (λ (r : Row). KeepsTo mains r.route)) (sym e) (in_all (λ (r : Row). KeepsTo mains r.route) (rows_in s) k));
}
