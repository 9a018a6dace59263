-- How a sink ends behind its buffer that it lent.
use Rattle.std.specs.Prelude.{ℕ, List}
use Rattle.std.specs.Borrow.{Lends, Fml, RattleType, MutBor, Array, u8}
use Rattle.streams.specs.contracts.Sink.{the_row}

-- the buffer is what was left behind the loan, and nothing else changes
abbrev pub LendsBuffer : (W N : RattleType) → MutBor (the_row W N).Denot → MutBor (List ℕ) → Fml
LendsBuffer W N s r = Lends (the_row W N) (Array u8 0) s r (λ bytes. record s.now { buffer = bytes })
