-- Tests of a slot and of a hop: data, taken, touched.
use mathlib.Core.Path.{◌≡◌, sym, ap, ◌∙◌, subst}
use mathlib.Core.Bool.{Bool, ◌&&◌}
use Prim.Native.Nat.{ℕ, zero, suc, ◌+◌, ◌*◌, ◌-◌, ◌/◌, ◌%◌, ◌<◌}
use native.Mathlib.Omega.{arith}
use native.Mathlib.Nat.{div-zero, mul-div_cancel}
use lib.Dec.{eqb, leb, ltb}
use Rattle.rules.specs.Words.{Tests}
use Rattle.rules.specs.Tiles.{Plan, control_slots, Data, Takes, repeats}
use Rattle.rules.specs.Topology.{Hop, Touches}
use Rattle.rules.specs.Table.{touches}
use Rattle.rules.proofs.Tests.{alike, tests_and, tests_or, tests_eq, tests_le, tests_lt}

abbrev pub is_data : Plan → ℕ → Bool
is_data plan slot = leb (control_slots plan (slot / plan.slots)) (slot % plan.slots)

-- in the turn that the slot would be, it is before the repeats end, and the slot is that turn's
abbrev pub takes : ℕ → ℕ → ℕ → ℕ → Bool
takes S K o slot = ltb ((slot - o) / (K * S)) (repeats K) && eqb slot (o + (slot - o) / (K * S) * (K * S))

pub tests_data : (plan : Plan) (slot : ℕ) → Tests (is_data plan slot) (Data plan slot)
tests_data plan slot = tests_le _ _

pub tests_touches : (a : ℕ) (h : Hop) → Tests (touches a h) (Touches a h)
tests_touches a h = tests_or (tests_eq a h.from) (tests_eq a h.to)

-- the turn of a slot that is taken
turn_of : (M o turn slot : ℕ) → slot ≡ o + turn * M → slot ≡ o + (slot - o) / M * M
turn_of zero o turn slot e = omega arith
turn_of (suc m) o turn slot e =
    let f : slot - o ≡ turn * suc m = omega arith in
    let g : (slot - o) / suc m ≡ turn = ap (λ (x : ℕ). x / suc m) f ∙ mul-div_cancel turn (omega arith) in
    e ∙ ap (λ (x : ℕ). o + x * suc m) (sym g)

turn_most : (M o turn slot R : ℕ) → slot ≡ o + turn * M → turn < R → (slot - o) / M < R
turn_most zero o turn slot R e l = subst (λ (x : ℕ). x < R) (sym (div-zero (slot - o))) (omega arith)
turn_most (suc m) o turn slot R e l =
    let f : slot - o ≡ turn * suc m = omega arith in
    subst (λ (x : ℕ). x < R) (sym (ap (λ (x : ℕ). x / suc m) f ∙ mul-div_cancel turn (omega arith))) l

pub tests_takes : (S K o slot : ℕ) → Tests (takes S K o slot) (Takes S K o slot)
tests_takes S K o slot =
    alike (tests_and (tests_lt ((slot - o) / (K * S)) (repeats K)) (tests_eq slot (o + (slot - o) / (K * S) * (K * S))))
    (λ p. record { turn = (slot - o) / (K * S); within = p.0; at = p.1 })
    (λ t. (turn_most (K * S) o t.turn slot (repeats K) t.at t.within, turn_of (K * S) o t.turn slot t.at))
