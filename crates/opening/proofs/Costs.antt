-- Whether an account does not pay for the routes of an open.
use mathlib.Core.Path.{◌≡◌, sym, ap, subst}
use mathlib.Core.Bool.{Bool, not, ◌&&◌}
use mathlib.Core.List.{List}
use Prim.Native.Nat.{ℕ, ◌+◌, ◌*◌, ◌<◌}
use native.Mathlib.Omega.{arith}
use lib.Dec.{eqb, ltb}
use Rattle.rules.specs.Words.{◌∈◌, Tests, total}
use Rattle.rules.specs.Tiles.{repeats}
use Rattle.rules.specs.Topology.{hop_count}
use Rattle.rules.specs.Book.{Account, drawn}
use Rattle.rules.specs.Placing.{Asked, NotPaid}
use Rattle.rules.specs.Image.{accounts_of}
use Rattle.rules.proofs.Tests.{alike, tests_not, tests_and, tests_eq, tests_lt, tests_member, decided}
use Rattle.rules.proofs.Reading.{rows_in, book_in}
use Rattle.accounts.specs.Lists.{Pays}

module _ (s : List ℕ) (q : Asked) (routes : List (List ℕ)) where
  least : ℕ
  least = drawn q.account (rows_in s) + total hop_count routes * repeats q.period

  short : Account → Bool
  short a = eqb a.number q.account && ltb a.bought least

  not_enough : (Pays s q.account (total hop_count routes * repeats q.period) → ⊥) → NotPaid (book_in s) q routes
  unfolding least short
  not_enough f = go (decided (tests_member short (λ a. tests_and (tests_eq a.number q.account) (tests_lt a.bought least)) (accounts_of s)))
    where
      go : Dec ((a : Account) × (a ∈ accounts_of s) × ((a.number ≡ q.account) × (a.bought < least))) → NotPaid (book_in s) q routes
      go (yes h) = record { known = record { account = h.0; there = h.1; named = h.2.0 }; short = h.2.1 }
      go (no g) = absurd (f (λ a m n. let k : (a.bought < least) → ⊥ = λ l. g (a, m, (n, l)) in omega arith))

  pub tests_short : (hops : ℕ) {t : Bool} → total hop_count routes ≡ hops → Tests t (Pays s q.account (hops * repeats q.period)) → Tests (not t) (NotPaid (book_in s) q routes)
  tests_short hops {t} e w =
      alike (tests_not (subst (λ (n : ℕ). Tests t (Pays s q.account n)) (ap (λ (h : ℕ). h * repeats q.period) (sym e)) w)) not_enough
      (λ n f. omega (arith, f n.known.account n.known.there n.known.named, n.short))
