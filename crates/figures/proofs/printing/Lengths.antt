-- How long the lines of a statement are.
use Rattle.std.proofs.Common.{◌≡◌, ◌*◌, ◌-◌, ◌+◌, ◌^◌, ◌<◌, ◌≤◌, ℕ, ℤ, zero, suc, pos, negsuc, Bool, true, false, cond, ltb}
use Rattle.std.proofs.Common.{List, [], ◌∷◌, ◌++◌, length, length-append, get_or, decimal, ap, refl, arith}
use Rattle.std.proofs.lemmas.Fmt.{length-decimal-le, decimal_digit}
use Rattle.figures.specs.printing.Room.{number_room, line_room, nodes_room}
use Rattle.figures.specs.printing.Lines.{line_text, moved_text, behind_space, movement, movements_text}
use Rattle.figures.specs.statements.Figures.{most_nodes}

-- zero has one digit
pub zero_digits : decimal 0 ≡ 48 ∷ []
zero_digits = decimal_digit 0 (omega arith)

-- a number of 64 bits
number : (n : ℕ) → n < 2 ^ 64 → length (decimal n) ≤ number_room
number n l = length-decimal-le 20 n (omega arith) (omega arith) l

-- a line of three numbers of 64 bits
pub line_fits : (a b c : ℕ) → a < 2 ^ 64 → b < 2 ^ 64 → c < 2 ^ 64 → length (line_text a b c) < line_room
line_fits a b c k l m =
    omega (arith, number a k, number b l, number c m, length-append (decimal a) (32 ∷ (decimal b ++ 32 ∷ decimal c)), length-append (decimal b) (32 ∷ decimal c))

-- the movements of one node more, in 22 bytes at most, and those of the first in less
pub more_fits : (n : ℕ) (z : ℤ) (old new : List ℕ) → length old ≤ 22 * n - 1 → new ≡ old ++ behind_space n z → length (moved_text z) ≤ 1 + number_room
    → length new ≤ 22 * (n + 1) - 1
more_fits zero z old new l e m = omega (arith, l, m, ap length e, length-append old (moved_text z))
more_fits (suc n) z old new l e m = omega (arith, l, m, ap length e, length-append old (32 ∷ moved_text z))

-- a movement between numbers of 32 bits, up, down and either
positive : (n : ℕ) → n < 2 ^ 32 → length (moved_text (pos n)) ≤ 1 + number_room
positive zero l = omega (arith, number zero (omega arith))
positive (suc n) l = omega (arith, number (suc n) (omega arith))

negative : (n : ℕ) → n < 2 ^ 32 → length (moved_text (negsuc n)) ≤ 1 + number_room
negative n l = omega (arith, number (suc n) (omega arith))

either : (b : Bool) (n m : ℕ) → n < 2 ^ 32 → m < 2 ^ 32 → length (moved_text (cond b (negsuc n) (pos m))) ≤ 1 + number_room
either true n m k l = negative n k
either false n m k l = positive m l

moved_fits : (was is : ℕ) → was < 2 ^ 32 → is < 2 ^ 32 → length (moved_text (movement was is)) ≤ 1 + number_room
moved_fits zero is k l = positive (is + 0) (omega arith)
moved_fits (suc was) is k l = either (ltb is (suc was)) _ _ (omega arith) (omega arith)

-- the movements of so many nodes, whose free slots are numbers of 32 bits
module _ (was is : List ℕ) (k : (i : ℕ) → get_or was i 0 < 2 ^ 32) (l : (i : ℕ) → get_or is i 0 < 2 ^ 32) where
  so_far : (n : ℕ) → length (movements_text was is n) ≤ 22 * n - 1
  so_far zero = omega arith
  so_far (suc n) = omega (arith, more_fits n _ _ _ (so_far n) refl (moved_fits (get_or was n 0) (get_or is n 0) (k n) (l n)))

  pub movements_fit : (n : ℕ) → n ≤ most_nodes → length (movements_text was is n) < nodes_room
  movements_fit n few = omega (arith, so_far n)
