-- What a call that is refused or done says: a number, and the length of what was written.
use Rattle.std.specs.Prelude.{ℕ, Result, Ok, Err}
use Rattle.rules.specs.declared.refusals.Refusal.{Refusal}
use Rattle.rules.specs.declared.refusals.Refusal.TheVariants.{ZeroId, IdTaken, NoSuchStream, NoSuchNode, SameNode, NoSuchPeriod, NoRoute, BookFull, NoSlots, OutOfRange, UnsoundTopology, NoRoom, NoBook, WrongLength, UnlawfulRows, Clash, TooFar, NoSecondRoute, UnsoundTables, NoBookOfTables, NoSuchTiles, NoSuchAccount, NotEnoughLeft, AccountFull, NoSuchMember, TooManyRequests}

-- the number of a refusal
abbrev pub number_of : Refusal → ℕ
number_of ZeroId = 1
number_of IdTaken = 2
number_of NoSuchStream = 3
number_of NoSuchNode = 4
number_of SameNode = 5
number_of NoSuchPeriod = 6
number_of NoRoute = 7
number_of BookFull = 8
number_of NoSlots = 9
number_of OutOfRange = 10
number_of UnsoundTopology = 11
number_of NoRoom = 12
number_of NoBook = 13
number_of WrongLength = 14
number_of UnlawfulRows = 15
number_of Clash = 16
number_of TooFar = 17
number_of NoSecondRoute = 18
number_of UnsoundTables = 19
number_of NoBookOfTables = 20
number_of NoSuchTiles = 21
number_of NoSuchAccount = 22
number_of NotEnoughLeft = 23
number_of AccountFull = 24
number_of NoSuchMember = 25
number_of TooManyRequests = 26

-- the number that is said: 0 where it is done
abbrev pub said : {A : Type 0} → Result A Refusal → ℕ
said (Ok x) = 0
said (Err r) = number_of r

-- the length of what was written: 0 where it is refused
abbrev pub written : Result ℕ Refusal → ℕ
written (Ok n) = n
written (Err r) = 0
