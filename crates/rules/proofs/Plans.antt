-- The control slots of a tile, and offsets on data slots in all repeats.
use mathlib.Core.Path.{◌≡◌, refl, sym, ap, ◌∙◌, subst}
use mathlib.Core.Logic.{◌⊎◌, inl, inr}
use mathlib.Core.Bool.{Bool, true, false, cond}
use Prim.Native.Nat.{ℕ, ◌+◌, ◌*◌, ◌/◌, ◌%◌, ◌<◌, ◌≤◌}
use native.Mathlib.Omega.{arith}
use native.Mathlib.Nat.{mod-lt, mul_assoc, add-mul-mod_self_right, add-mul-div_right, div-add-mod', zero-mod}
use borrow.Author.Tests.{eq-eqb, ne_eqb}
use lib.Dec.{eqb, leb}
use Rattle.rules.specs.Words.{◌∈◌, bit, Tests}
use Rattle.rules.specs.Tiles.{Plan, PlanInRange, tile_counts, control_slots, Data, Period, repeats}
use Rattle.rules.specs.Book.{OnData}
use Rattle.rules.proofs.Tests.{alike, tests_le}
use Rattle.rules.proofs.Bytes.{tiles_small}
use Rattle.rules.proofs.Periods.{repeats_some}

-- a plan has 1 to 10 tiles
pub tiles_some : (C : ℕ) → C ∈ tile_counts → 0 < C
tiles_some C (inl e) = omega arith
tiles_some C (inr (inl e)) = omega arith
tiles_some C (inr (inr (inl e))) = omega arith
tiles_some C (inr (inr (inr (inl e)))) = omega arith
tiles_some C (inr (inr (inr (inr (inl e))))) = omega arith
tiles_some C (inr (inr (inr (inr (inr e))))) = absurd e

pub tile_place : (plan : Plan) (tile : ℕ) → PlanInRange plan → tile % plan.tiles < 16
tile_place plan tile h =
    let some = tiles_some plan.tiles h.tiles in
    let most = tiles_small plan.tiles h.tiles in
    omega (arith, mod-lt tile some)

-- a downlink tile's are D, and an uplink tile's U
pub control_down : (plan : Plan) (tile : ℕ) → bit plan.kinds (tile % plan.tiles) ≡ 1 → plan.down ≡ control_slots plan tile
control_down plan tile e = sym (ap (λ (t : Bool). cond t plan.down plan.up) (eq-eqb _ 1 e))

pub control_up : (plan : Plan) (tile : ℕ) → (bit plan.kinds (tile % plan.tiles) ≡ 1 → ⊥) → plan.up ≡ control_slots plan tile
control_up plan tile f = sym (ap (λ (t : Bool). cond t plan.down plan.up) (ne_eqb _ 1 f))

pub tests_data_slot : (plan : Plan) (slot n : ℕ) → n ≡ control_slots plan (slot / plan.slots) → Tests (leb n (slot % plan.slots)) (Data plan slot)
tests_data_slot plan slot n e =
    alike (tests_le n (slot % plan.slots)) (λ l. subst (λ (x : ℕ). x ≤ slot % plan.slots) e l) (λ l. subst (λ (x : ℕ). x ≤ slot % plan.slots) (sym e) l)

-- they come again after C turns
pub tiles_again : (C K : ℕ) → (C * K) % C ≡ 0
tiles_again C K = ap (λ (x : ℕ). x % C) (omega arith) ∙ add-mul-mod_self_right 0 K C ∙ zero-mod C

-- ALL REPEATS
module _ (plan : Plan) (some : 0 < plan.slots) (K o : ℕ) where
  turn_tile : (turn : ℕ) → (o + turn * (K * plan.slots)) / plan.slots ≡ o / plan.slots + turn * K
  turn_tile turn = ap (λ (x : ℕ). (o + x) / plan.slots) (sym (mul_assoc turn K plan.slots)) ∙ add-mul-div_right o (turn * K) some

  turn_place : (turn : ℕ) → (o + turn * (K * plan.slots)) % plan.slots ≡ o % plan.slots
  turn_place turn = ap (λ (x : ℕ). (o + x) % plan.slots) (sym (mul_assoc turn K plan.slots)) ∙ add-mul-mod_self_right o (turn * K) plan.slots

  -- after so many turns the kinds of the tiles come again
  module _ (n : ℕ) (round : (n * K) % plan.tiles ≡ 0) where
    same_tile : (turn : ℕ) → (o / plan.slots + turn * K) % plan.tiles ≡ (o / plan.slots + turn % n * K) % plan.tiles
    same_tile turn =
        let C : ℕ = plan.tiles in
        let all : n * K ≡ n * K / C * C = omega (arith, round, div-add-mod' (n * K) C) in
        let whole : turn / n * (n * K) ≡ turn / n * (n * K / C) * C = ap (λ (x : ℕ). turn / n * x) all ∙ sym (mul_assoc (turn / n) (n * K / C) C) in
        let e : o / plan.slots + turn * K ≡ o / plan.slots + turn % n * K + turn / n * (n * K / C) * C =
        omega (arith, whole, mul_assoc (turn / n) n K, ap (λ (x : ℕ). x * K) (div-add-mod' turn n)) in
        ap (λ (x : ℕ). x % C) e ∙ add-mul-mod_self_right (o / plan.slots + turn % n * K) (turn / n * (n * K / C)) C

    again : (turn : ℕ) → Data plan (o + turn % n * (K * plan.slots)) → Data plan (o + turn * (K * plan.slots))
    again turn d =
        let kind : ℕ → ℕ = λ (x : ℕ). cond (eqb (bit plan.kinds x) 1) plan.down plan.up in
        let e : control_slots plan ((o + turn * (K * plan.slots)) / plan.slots) ≡ control_slots plan ((o + turn % n * (K * plan.slots)) / plan.slots) =
        ap kind (ap (λ (x : ℕ). x % plan.tiles) (turn_tile turn) ∙ same_tile turn ∙ sym (ap (λ (x : ℕ). x % plan.tiles) (turn_tile (turn % n)))) in
        let f = turn_place turn in
        let g = turn_place (turn % n) in
        omega (arith, e, f, g, d)

  -- the first turns, as many as there are or until the kinds of the tiles come again
  pub on_data_tests : (turns : ℕ) → 0 < turns → ((turns ≡ repeats K) ⊎ ((turns * K) % plan.tiles ≡ 0))
      → ((turn : ℕ) → turn < turns → Data plan (o + turn * (K * plan.slots))) → OnData plan K o
  on_data_tests turns some_turn (inl e) h slot t = subst (Data plan) (sym t.at) (h t.turn (omega (arith, t.within)))
  on_data_tests turns some_turn (inr e) h slot t = subst (Data plan) (sym t.at) (again turns e t.turn (h (t.turn % turns) (mod-lt t.turn some_turn)))

  pub not_on_data : (turn : ℕ) → turn < repeats K → (Data plan (o + turn * (K * plan.slots)) → ⊥) → OnData plan K o → ⊥
  not_on_data turn l f h = f (h _ record { turn = turn; within = l; at = refl })

-- a tile has no more control slots than both counts allow
pub control_most : (plan : Plan) (tile most : ℕ) → plan.down ≤ most → plan.up ≤ most → control_slots plan tile ≤ most
control_most plan tile most d u = either (eqb (bit plan.kinds (tile % plan.tiles)) 1)
  where
    either : (b : Bool) → cond b plan.down plan.up ≤ most
    either true = d
    either false = u

-- an offset behind the control slots of both kinds of tile takes only data slots
pub behind_control : (plan : Plan) → 0 < plan.slots → (K o : ℕ) → plan.down ≤ o % plan.slots → plan.up ≤ o % plan.slots → OnData plan K o
behind_control plan some K o d u slot t =
    let e = turn_place plan some K o t.turn in
    subst (Data plan) (sym t.at) (control_most plan _ _ (omega (arith, e, d)) (omega (arith, e, u)))

-- and one that is a control slot of both kinds does not
pub before_control : (plan : Plan) {K o : ℕ} → Period K → o % plan.slots < plan.down → o % plan.slots < plan.up → OnData plan K o → ⊥
before_control plan {K} {o} p d u f =
    either (eqb (bit plan.kinds (o / plan.slots % plan.tiles)) 1) (f o (record { turn = 0; within = repeats_some K p; at = omega arith }))
  where
    either : (b : Bool) → cond b plan.down plan.up ≤ o % plan.slots → ⊥
    either true l = omega (arith, l, d)
    either false l = omega (arith, l, u)
