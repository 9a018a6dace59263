-- What is said is 0 exactly where it is done.
use Rattle.std.specs.Prelude.{ℕ, Option, None, Result, Ok, Err}
use Rattle.std.specs.Option.{ok_or}
use mathlib.Core.Path.{◌≡◌, refl, ap, ◌∙◌}
use native.Mathlib.Omega.{arith}
use Rattle.rules.specs.declared.refusals.Refusal.{Refusal}
use Rattle.rules.specs.declared.refusals.Refusal.TheVariants.{ZeroId, IdTaken, NoSuchStream, NoSuchNode, SameNode, NoSuchPeriod, NoRoute, BookFull, NoSlots, OutOfRange, UnsoundTopology, NoRoom, NoBook, WrongLength, UnlawfulRows, Clash, TooFar, NoSecondRoute, UnsoundTables, NoBookOfTables, NoSuchTiles, NoSuchAccount, NotEnoughLeft, AccountFull, NoSuchMember, TooManyRequests}
use Rattle.rules.specs.Said.{number_of, said, written}

-- no refusal has the number 0
pub refuses : (r : Refusal) → number_of r ≡ 0 → ⊥
refuses ZeroId e = absurd (omega (arith, e))
refuses IdTaken e = absurd (omega (arith, e))
refuses NoSuchStream e = absurd (omega (arith, e))
refuses NoSuchNode e = absurd (omega (arith, e))
refuses SameNode e = absurd (omega (arith, e))
refuses NoSuchPeriod e = absurd (omega (arith, e))
refuses NoRoute e = absurd (omega (arith, e))
refuses BookFull e = absurd (omega (arith, e))
refuses NoSlots e = absurd (omega (arith, e))
refuses OutOfRange e = absurd (omega (arith, e))
refuses UnsoundTopology e = absurd (omega (arith, e))
refuses NoRoom e = absurd (omega (arith, e))
refuses NoBook e = absurd (omega (arith, e))
refuses WrongLength e = absurd (omega (arith, e))
refuses UnlawfulRows e = absurd (omega (arith, e))
refuses Clash e = absurd (omega (arith, e))
refuses TooFar e = absurd (omega (arith, e))
refuses NoSecondRoute e = absurd (omega (arith, e))
refuses UnsoundTables e = absurd (omega (arith, e))
refuses NoBookOfTables e = absurd (omega (arith, e))
refuses NoSuchTiles e = absurd (omega (arith, e))
refuses NoSuchAccount e = absurd (omega (arith, e))
refuses NotEnoughLeft e = absurd (omega (arith, e))
refuses AccountFull e = absurd (omega (arith, e))
refuses NoSuchMember e = absurd (omega (arith, e))
refuses TooManyRequests e = absurd (omega (arith, e))

-- what is refused writes nothing
pub none_written : (r : Result ℕ Refusal) → (said r ≡ 0 → ⊥) → written r ≡ 0
none_written (Ok n) f = absurd (f refl)
none_written (Err r) f = refl

-- the refusal where nothing was found
pub refused_by : {A : Type 0} (o : Option A) (r e : Refusal) → o ≡ None → Err r ≡ ok_or o e → r ≡ e
refused_by {A} o r e n v = ap error (v ∙ ap (λ (o : Option A). ok_or o e) n)
  where
    error : Result A Refusal → Refusal
    error (Ok x) = e
    error (Err r) = r
