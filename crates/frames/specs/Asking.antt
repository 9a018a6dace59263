-- The numbers of the calls.
use Rattle.std.specs.Prelude.{◌≡◌, ℕ, ◌<◌, Result, MatchResult}
use Rattle.frames.specs.declared.asking.Call.{Call}
use Rattle.frames.specs.declared.asking.Call.TheVariants.{NewBook, Check, Rewrite, OpenStream, CloseStream, Expand, Balance, Routes, Post, Keeps, Purchase, Salvage, BookOf, Links}
use Rattle.frames.specs.declared.asking.NoCall.{NoCall}

-- the number of a call
abbrev pub number_of : Call → ℕ
number_of NewBook = 0
number_of Check = 1
number_of Rewrite = 2
number_of OpenStream = 3
number_of CloseStream = 4
number_of Expand = 5
number_of Balance = 6
number_of Routes = 7
number_of Post = 8
number_of Keeps = 9
number_of Purchase = 10
number_of Salvage = 11
number_of BookOf = 12
number_of Links = 13

-- the call of this number, or that no call has it
abbrev pub Decodes : ℕ → Result Call NoCall → Type 0
Decodes number r = MatchResult r (λ call. number_of call ≡ number) (λ e. (e.0 ≡ number) × (13 < number))
