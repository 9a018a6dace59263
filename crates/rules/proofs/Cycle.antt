-- What a cycle of 1000 tiles says of periods up to 100, one of 100 tiles says.
use mathlib.Core.Path.{◌≡◌, sym, ap, ◌∙◌, subst}
use mathlib.Core.Bool.{cond}
use Prim.Native.Nat.{ℕ, ◌+◌, ◌*◌, ◌/◌, ◌%◌, ◌<◌, ◌≤◌}
use native.Mathlib.Nat.{add-mul-div_right, add-mul-mod_self_right, mod-lt, div-add-mod', mul-le-mul, le_refl, mul_assoc, add-mul}
use native.Mathlib.Omega.{arith}
use lib.Dec.{eqb, leb, eqb→eq, leb→le}
use Rattle.rules.specs.Words.{bit, ◌∈◌}
use Rattle.rules.specs.Tiles.{Plan, PlanInRange, tile_counts, short_tiles, short_periods, ShortPeriod, repeats, control_slots, Data, Takes, Meet}
use Rattle.rules.specs.Book.{OnData}
use Rattle.rules.proofs.Meeting.{member, same_place}

-- how often a period up to 100 comes in 100 tiles: a whole number of times, and ten times as often in 1000
pub record Whole (K : ℕ) : Type 0 where
  pub some : 1 ≤ short_tiles / K
  pub whole : short_tiles / K * K ≡ short_tiles
  pub ten : repeats K ≡ short_tiles / K * 10

pub whole_of : (K : ℕ) → ShortPeriod K → Whole K
whole_of K h = record {
  some = leb→le _ _ (member (λ (x : ℕ). leb 1 (short_tiles / x)) short_periods tt K h);
  whole = eqb→eq _ _ (member (λ (x : ℕ). eqb (short_tiles / x * x) short_tiles) short_periods tt K h);
  ten = eqb→eq _ _ (member (λ (x : ℕ). eqb (repeats x) (short_tiles / x * 10)) short_periods tt K h);
}

-- the kinds of the tiles come round in 100 tiles
pub kinds_round : (C x n : ℕ) → C ∈ tile_counts → (x + n * short_tiles) % C ≡ x % C
kinds_round C x n h =
    let k : ℕ = short_tiles / C in
    let e : k * C ≡ short_tiles = eqb→eq _ _ (member (λ (c : ℕ). eqb (short_tiles / c * c) short_tiles) tile_counts tt C h) in
    ap (λ (m : ℕ). (x + m) % C) (ap (λ (m : ℕ). n * m) (sym e) ∙ sym (mul_assoc n k C)) ∙ add-mul-mod_self_right x (n * k) C

-- so do the data slots
pub data_round : (plan : Plan) → PlanInRange plan → (slot n : ℕ) → Data plan slot → Data plan (slot + n * (short_tiles * plan.slots))
data_round plan w slot n d =
    let e : n * (short_tiles * plan.slots) ≡ n * short_tiles * plan.slots = sym (mul_assoc n short_tiles plan.slots) in
    let tile : (slot + n * short_tiles * plan.slots) / plan.slots ≡ slot / plan.slots + n * short_tiles = add-mul-div_right slot (n * short_tiles) {z = plan.slots} w.some in
    let place : (slot + n * short_tiles * plan.slots) % plan.slots ≡ slot % plan.slots = add-mul-mod_self_right slot (n * short_tiles) plan.slots in
    let kind : control_slots plan ((slot + n * short_tiles * plan.slots) / plan.slots) ≡ control_slots plan (slot / plan.slots) =
    ap (λ (t : ℕ). cond (eqb (bit plan.kinds t) 1) plan.down plan.up) (ap (λ (t : ℕ). t % plan.tiles) tile ∙ kinds_round plan.tiles (slot / plan.slots) n w.tiles) in
    subst (λ (k : ℕ). Data plan (slot + k)) (sym e) (omega (arith, d))

-- a turn in 1000 tiles is a turn in 100 tiles, and so many times 100 tiles on
pub record Round (S K o slot : ℕ) : Type 0 where
  pub turn : ℕ
  pub within : turn < short_tiles / K
  pub times : ℕ
  pub at : slot ≡ o + turn * (K * S) + times * (short_tiles * S)

pub round_of : (S K o slot : ℕ) → ShortPeriod K → Takes S K o slot → Round S K o slot
round_of S K o slot p t =
    let w = whole_of K p in
    let e : t.turn / (short_tiles / K) * (short_tiles / K) + t.turn % (short_tiles / K) ≡ t.turn = div-add-mod' t.turn (short_tiles / K) in
    let f : t.turn / (short_tiles / K) * (short_tiles / K) * (K * S) ≡ t.turn / (short_tiles / K) * (short_tiles * S) =
    mul_assoc (t.turn / (short_tiles / K)) (short_tiles / K) (K * S) ∙ ap (λ (x : ℕ). t.turn / (short_tiles / K) * x) (sym (mul_assoc (short_tiles / K) K S) ∙ ap (λ (x : ℕ). x * S) w.whole) in
    let g : t.turn * (K * S) ≡ t.turn / (short_tiles / K) * (short_tiles / K) * (K * S) + t.turn % (short_tiles / K) * (K * S) =
    ap (λ (x : ℕ). x * (K * S)) (sym e) ∙ add-mul (t.turn / (short_tiles / K) * (short_tiles / K)) (t.turn % (short_tiles / K)) (K * S) in
    record { turn = t.turn % (short_tiles / K); within = mod-lt t.turn w.some; times = t.turn / (short_tiles / K); at = omega (arith, t.at) }

-- an offset is on data slots exactly if it is in the first 100 tiles
pub on_data_short : (plan : Plan) → PlanInRange plan → (K o : ℕ) → ShortPeriod K → ((turn : ℕ) → turn < short_tiles / K → Data plan (o + turn * (K * plan.slots))) → OnData plan K o
on_data_short plan w K o p f slot t =
    let r = round_of plan.slots K o slot p t in
    subst (Data plan) (sym r.at) (data_round plan w (o + r.turn * (K * plan.slots)) r.times (f r.turn r.within))

-- two hops of periods up to 100 that meet do so in the first 100 tiles
pub meet_short : (S K o L p : ℕ) → 1 ≤ S → ShortPeriod K → ShortPeriod L → o < K * S → p < L * S → Meet S K o L p
    → (a c : ℕ) × (a < short_tiles / K) × (c < short_tiles / L) × (o + a * (K * S) ≡ p + c * (L * S)) × (o + a * (K * S) < short_tiles * S)
meet_short S K o L p some k l within within' m =
    let r = round_of S K o m.slot k m.left in
    let s = round_of S L p m.slot l m.right in
    let x = below K o r.turn k within r.within in
    let y = below L p s.turn l within' s.within in
    (r.turn, s.turn, r.within, s.within, same_place (short_tiles * S) (o + r.turn * (K * S)) (p + s.turn * (L * S)) r.times s.times x y (sym r.at ∙ s.at), x)
  where
    below : (K o a : ℕ) → ShortPeriod K → o < K * S → a < short_tiles / K → o + a * (K * S) < short_tiles * S
    below K o a k h l =
        let w = whole_of K k in
        let e : short_tiles / K * (K * S) ≡ short_tiles * S = sym (mul_assoc (short_tiles / K) K S) ∙ ap (λ (x : ℕ). x * S) w.whole in
        let f : (a + 1) * (K * S) ≤ short_tiles / K * (K * S) = mul-le-mul (omega arith) (le_refl (K * S)) in
        let g : (a + 1) * (K * S) ≡ a * (K * S) + K * S = omega arith in
        omega arith
