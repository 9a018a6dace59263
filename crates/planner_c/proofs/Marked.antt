-- A list of routes as a number, a length and a mark.
use mathlib.Core.Path.{◌≡◌, refl, sym, ap, ◌∙◌, subst₂}
use mathlib.Core.Bool.{Bool, true, false}
use mathlib.Core.List.{List}
use mir.Val.{bool_byte}
use Rattle.std.specs.Prelude.{ℕ, Result, Ok, Err}
use Rattle.std.specs.Result.{result_unwrap_or}
use Rattle.rules.specs.Calls.{Routes}
use Rattle.rules.specs.Said.{said}
use Rattle.rules.specs.declared.refusals.Refusal.{Refusal}
use Rattle.routes.specs.declared.choices.Listed.{Listed}
use Rattle.routes.specs.choices.Listing.{listed, more}
use Rattle.planner.specs.Marks.{mark_byte, RoutesMarked}

-- the list where there is none
abbrev none : Listed
none = record { length = 0; more = false }

length_is : (r : Result Listed Refusal) → (result_unwrap_or r none).length ≡ listed r
length_is (Ok l) = refl
length_is (Err e) = refl

byte_is : (b : Bool) → bool_byte b ≡ mark_byte b
byte_is true = refl
byte_is false = refl

mark_is : (r : Result Listed Refusal) → bool_byte (result_unwrap_or r none).more ≡ mark_byte (more r)
mark_is (Ok l) = byte_is l.more
mark_is (Err e) = refl

pub routes_marked : (image out out' : List ℕ) (mains source destination : ℕ) (r : Result Listed Refusal) (l : Listed) (n m : ℕ) → n ≡ said r
    → l ≡ result_unwrap_or r none → m ≡ bool_byte l.more → Routes image mains source destination out (said r) (listed r) out' (more r)
    → RoutesMarked image mains source destination out n l.length out' m
routes_marked image out out' mains source destination r l n m e u f h = (
  more r,
  f ∙ ap (λ (l : Listed). bool_byte l.more) u ∙ mark_is r,
  subst₂ (λ (n k : ℕ). Routes image mains source destination out n k out' (more r)) (sym e) (sym (ap (λ (l : Listed). l.length) u ∙ length_is r)) h,
)
