-- A table without streams: sleep everywhere, and over it the control slots of each tile.
use mathlib.Core.Path.{◌≡◌, refl, sym, ap, ◌∙◌, subst, subst₂}
use mathlib.Core.Logic.{◌⊎◌, inl, inr}
use mathlib.Core.List.{List}
use Prim.Native.Nat.{ℕ, ◌+◌, ◌*◌, ◌/◌, ◌%◌, ◌-◌, ◌<◌, ◌≤◌}
use native.Mathlib.Decide.{dec_lt}
use native.Mathlib.Omega.{arith}
use native.Mathlib.Nat.{le_antisymm}
use lib.Arith.{digits_mod, digits_div}
use Rattle.rules.specs.Tiles.{Plan, slots_of, control_slots, Control}
use Rattle.tables.specs.Entries.{From, Now, Over, Stretch, Idle, ControlBelow}
use Rattle.tables.specs.Entries.Now.{given, kept}
use Rattle.tables.specs.Entries.Idle.{sleeps, controls}
use Rattle.tables.proofs.Writing.{Gives, over_then}

-- a tile more, in a part from the first tile on
module _ (plan : Plan) (first tile start control : ℕ) (e : start ≡ tile * plan.slots) (f : control ≡ control_slots plan (first + tile)) where
  abbrev base : ℕ
  base = slots_of plan first

  module _ (place : ℕ) (l : place < plan.slots) where
    in_tile : base + (start + place) ≡ (first + tile) * plan.slots + place
    in_tile = omega (arith, e)

    in_place : (base + (start + place)) % plan.slots ≡ place
    in_place = ap (λ (x : ℕ). x % plan.slots) in_tile ∙ digits_mod (first + tile) l

    its_control : control_slots plan ((base + (start + place)) / plan.slots) ≡ control
    its_control = ap (control_slots plan) (ap (λ (x : ℕ). x / plan.slots) in_tile ∙ digits_div (first + tile) l) ∙ sym f

  pub control_tile : {n : ℕ} {old mid new : List ℕ} → control ≤ plan.slots → Over n (ControlBelow plan base start) old mid → Over n (Stretch start 5 control) mid new
      → Over n (ControlBelow plan base (start + plan.slots)) old new
  control_tile few a b =
      over_then a b (λ s o i h. record { below = omega (arith, h.below); control = h.control; operation_is = h.operation_is; id_is = h.id_is }) now back
    where
      now : (s o i : ℕ) → Stretch start 5 control s o i → ControlBelow plan base (start + plan.slots) s o i
      now s o i h =
          let l : h.turn < plan.slots = omega (arith, h.within) in
          record {
            below = omega (arith, h.slot_is);
            control = subst (λ (x : ℕ). Control plan (base + x)) (sym h.slot_is) (omega (arith, in_place h.turn l, its_control h.turn l, h.within));
            operation_is = h.operation_is;
            id_is = h.id_is;
          }

      back : (s o i : ℕ) → ControlBelow plan base (start + plan.slots) s o i → Gives (ControlBelow plan base start) s ⊎ Gives (Stretch start 5 control) s
      back s o i h = go (dec_lt s start)
        where
          go : Dec (s < start) → Gives (ControlBelow plan base start) s ⊎ Gives (Stretch start 5 control) s
          go (yes l) = inl (o, i, record { below = l; control = h.control; operation_is = h.operation_is; id_is = h.id_is })
          go (no l) =
              let q : s ≡ start + (s - start) = omega arith in
              let m : s - start < plan.slots = omega (arith, h.below) in
              let c = subst (λ (x : ℕ). Control plan (base + x)) q h.control in
              inr (5, 0, record { turn = s - start; within = omega (arith, c, in_place (s - start) m, its_control (s - start) m); slot_is = q; operation_is = refl; id_is = refl })

-- all tiles over sleep
blank_all : {plan : Plan} {base n : ℕ} {old mid new : List ℕ} → Over n (Stretch 0 0 n) old mid → Over n (ControlBelow plan base n) mid new
    → Over n (From base (Idle plan)) old new
blank_all {plan} {base} {n} {old} {mid} {new} a b = record { entries = λ slot l. both slot l (a.entries slot l) (b.entries slot l); beyond = b.beyond ∙ a.beyond }
  where
    both : (slot : ℕ) → slot < n → Now (Stretch 0 0 n) old mid slot → Now (ControlBelow plan base n) mid new slot → Now (From base (Idle plan)) old new slot
    both slot l x (given y q) = given record { there = subst₂ (Idle plan (base + slot)) (sym y.operation_is) (sym y.id_is) (controls y.control) } q
    both slot l (given x p) (kept f q) =
        let none : (base + slot) % plan.slots < control_slots plan ((base + slot) / plan.slots) → ⊥ =
        λ c. f 5 0 record { below = l; control = c; operation_is = refl; id_is = refl } in
        given record { there = subst₂ (Idle plan (base + slot)) (sym x.operation_is) (sym x.id_is) (sleeps (omega arith)) } (q ∙ p)
    both slot l (kept g p) (kept f q) = absurd (g 0 0 record { turn = slot; within = l; slot_is = omega arith; operation_is = refl; id_is = refl })

pub blank_done : {plan : Plan} (first : ℕ) {tiles len tile start : ℕ} {old mid new : List ℕ} → len ≡ slots_of plan tiles → tile ≤ tiles → tiles ≤ tile → start ≡ tile * plan.slots
    → ((n : ℕ) → 0 + len ≤ n → Over n (Stretch 0 0 len) old mid) → Over (slots_of plan tiles) (ControlBelow plan (slots_of plan first) start) mid new
    → Over (slots_of plan tiles) (From (slots_of plan first) (Idle plan)) old new
blank_done {plan} first {tiles} {old} {mid} {new} e l m f a b =
    blank_all (subst (λ (x : ℕ). Over (slots_of plan tiles) (Stretch 0 0 x) old mid) e (a (slots_of plan tiles) (omega (arith, e))))
    (subst (λ (x : ℕ). Over (slots_of plan tiles) (ControlBelow plan (slots_of plan first) x) mid new) (f ∙ ap (λ (t : ℕ). t * plan.slots) (le_antisymm l m)) b)
