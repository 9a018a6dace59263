-- A refusal is known by its number.
use mathlib.Core.Path.{◌≡◌, refl, sym, ap, ◌∙◌}
use mathlib.Core.List.{List, [], ◌∷◌}
use Prim.Native.Nat.{ℕ}
use lib.ListN.{get_or}
use Rattle.rules.specs.declared.refusals.Refusal.{Refusal}
use Rattle.rules.specs.declared.refusals.Refusal.TheVariants.{ZeroId, IdTaken, NoSuchStream, NoSuchNode, SameNode, NoSuchPeriod, NoRoute, BookFull, NoSlots, OutOfRange, UnsoundTopology, NoRoom, NoBook, WrongLength, UnlawfulRows, Clash, TooFar, NoSecondRoute, UnsoundTables, NoBookOfTables, NoSuchTiles, NoSuchAccount, NotEnoughLeft, AccountFull, NoSuchMember, TooManyRequests}
use Rattle.rules.specs.Said.{number_of}

-- each at the place of its number, behind one at 0
abbrev in_turn : List Refusal
in_turn =
    ZeroId ∷ ZeroId ∷ IdTaken ∷ NoSuchStream ∷ NoSuchNode ∷ SameNode ∷ NoSuchPeriod ∷ NoRoute ∷ BookFull ∷ NoSlots ∷ OutOfRange ∷ UnsoundTopology ∷
    NoRoom ∷ NoBook ∷ WrongLength ∷ UnlawfulRows ∷ Clash ∷ TooFar ∷ NoSecondRoute ∷ UnsoundTables ∷ NoBookOfTables ∷ NoSuchTiles ∷ NoSuchAccount ∷
    NotEnoughLeft ∷ AccountFull ∷ NoSuchMember ∷ TooManyRequests ∷ []

abbrev of_number : ℕ → Refusal
of_number n = get_or in_turn n ZeroId

same : (r : Refusal) → of_number (number_of r) ≡ r
same ZeroId = refl
same IdTaken = refl
same NoSuchStream = refl
same NoSuchNode = refl
same SameNode = refl
same NoSuchPeriod = refl
same NoRoute = refl
same BookFull = refl
same NoSlots = refl
same OutOfRange = refl
same UnsoundTopology = refl
same NoRoom = refl
same NoBook = refl
same WrongLength = refl
same UnlawfulRows = refl
same Clash = refl
same TooFar = refl
same NoSecondRoute = refl
same UnsoundTables = refl
same NoBookOfTables = refl
same NoSuchTiles = refl
same NoSuchAccount = refl
same NotEnoughLeft = refl
same AccountFull = refl
same NoSuchMember = refl
same TooManyRequests = refl

pub one_refusal : (r s : Refusal) → number_of r ≡ number_of s → r ≡ s
one_refusal r s e = sym (same r) ∙ ap of_number e ∙ same s
