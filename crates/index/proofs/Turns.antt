-- The slots of a hop's turns, and its marks there.
use mathlib.Core.Path.{◌≡◌, sym, ap, ◌∙◌, subst₂}
use mathlib.Core.Logic.{◌⊎◌, inl, inr, ⊎_elim}
use Prim.Native.Nat.{ℕ, zero, suc, ◌+◌, ◌*◌, ◌/◌, ◌%◌, ◌<◌, ◌≤◌}
use native.Mathlib.Omega.{arith}
use native.Mathlib.Nat.{eq-or-lt_of_le, mul-le-mul_right, div-add-mod', div-zero, zero-mul, mul-div_cancel}
use lib.Ieee.Nearest.{div_mono}
use Rattle.rules.specs.Tiles.{Period, Takes, cycle_tiles, short_tiles}
use Rattle.index.specs.declared.Repeats.{Repeats}
use Rattle.index.specs.Areas.{quick_tiles, quick_place, fold_place, index_slots}
use Rattle.index.specs.Turns.{RepeatsOf, TakesFirst, Places, Looks, MarkedAt, LooksAt, TakesIn, LooksIn, InTurns, InIndex}
use Rattle.index.proofs.Classes.{Class, class_of}

-- a period that has a turn in so many tiles has a tile
turn_some : (T K : ℕ) {t : ℕ} → t < T / K → 0 < K
turn_some T zero l = absurd (omega (arith, l, div-zero T))
turn_some T (suc K) l = omega arith

-- in more tiles it has as many turns or more
more_turns : (a b K : ℕ) {t : ℕ} → a ≤ b → t < a / K → t < b / K
more_turns a b K h l = omega (arith, l, div_mono a K b K (turn_some a K l) (turn_some a K l) (mul-le-mul_right K h))

-- the slots of T tiles
pub inside : (S K o T turn : ℕ) → o < K * S → turn < T / K → o + turn * (K * S) < T * S
inside S K o T turn l h =
    let whole : (T / K * K + T % K) * S ≡ T * S = ap (λ (x : ℕ). x * S) (div-add-mod' T K) in
    omega (arith, whole, mul-le-mul_right (K * S) h)

-- a turn in 100 tiles is one in the cycle,
pub short_takes : (S K o : ℕ) {slot : ℕ} → TakesFirst (K * S) o (short_tiles / K) slot → Takes S K o slot
short_takes S K o h = record { turn = h.turn; within = more_turns short_tiles cycle_tiles K (omega arith) h.within; at = h.at }

-- and one in ten tiles one in 100
pub quick_turn : (K : ℕ) {t : ℕ} → t < quick_tiles / K → t < short_tiles / K
quick_turn K l = more_turns quick_tiles short_tiles K (omega arith) l

-- so many tens on it is one in 100 still
pub ten_turn : (K : ℕ) → quick_tiles / K * K ≡ quick_tiles → {t ten : ℕ} → t < quick_tiles / K → ten < quick_tiles → t + ten * (quick_tiles / K) < short_tiles / K
ten_turn K whole {t} {ten} l few =
    let c : ℕ = quick_tiles / K in
    let all : short_tiles / K ≡ quick_tiles * c = div_whole (quick_tiles * c) K (turn_some quick_tiles K l) (omega (arith, whole)) in
    omega (arith, all, mul-le-mul_right c few)
  where
    div_whole : (n K : ℕ) → 0 < K → short_tiles ≡ n * K → short_tiles / K ≡ n
    div_whole n K some e = ap (λ (x : ℕ). x / K) e ∙ mul-div_cancel n some

-- a hop that has a turn in 100 tiles is of a period up to 100
pub turn_short : {K n : ℕ} → n < short_tiles / K → K ≤ short_tiles
turn_short {K} {n} l = omega (arith, div-add-mod' short_tiles K, mul-le-mul_right K l)

alike4 : {a b c d e f g h : ℕ} (F : ℕ → ℕ → ℕ → ℕ → Type 0) → a ≡ e → b ≡ f → c ≡ g → d ≡ h → F a b c d → F e f g h
alike4 {a} {b} {c} {d} {e} {f} {g} {h} F p q r s x = subst₂ (λ (m n : ℕ). F e f m n) r s (subst₂ (λ (m n : ℕ). F m n c d) p q x)

module _ {S K : ℕ} {r : Repeats} (w : RepeatsOf S K r) (o slot : ℕ) where
  abbrev Placed : ℕ → ℕ → ℕ → ℕ → Type 0
  Placed span turns few fold = Places span turns few fold o slot

  abbrev Looked : ℕ → ℕ → ℕ → ℕ → Type 0
  Looked span turns few fold = Looks span turns few fold o slot

  pub in_takes : TakesIn r o slot → MarkedAt S K o slot
  in_takes h = record { places = alike4 Placed w.span_is w.turns_are w.few_are w.fold_is h }

  pub takes_in : MarkedAt S K o slot → TakesIn r o slot
  takes_in h = alike4 Placed (sym w.span_is) (sym w.turns_are) (sym w.few_are) (sym w.fold_is) h.places

  pub in_looks : LooksIn r o slot → LooksAt S K o slot
  in_looks h = record { looks = alike4 Looked w.span_is w.turns_are w.few_are w.fold_is h }

  pub looks_in : LooksAt S K o slot → LooksIn r o slot
  looks_in h = alike4 Looked (sym w.span_is) (sym w.turns_are) (sym w.few_are) (sym w.fold_is) h.looks

module _ {S K : ℕ} {r : Repeats} (w : RepeatsOf S K r) where
  pub in_index : {o : ℕ} → S ≤ 32 → Period K → o < K * S → InIndex r o
  in_index {o} most p l = record {
    apart = omega (arith, w.span_is);
    in_hundred = λ turn h.
        let low = inside S K o short_tiles turn l (omega (arith, h, w.turns_are)) in
        let e : turn * r.span.0 ≡ turn * (K * S) = ap (λ (x : ℕ). turn * x) w.span_is in
        omega (arith, low, e, most);
    in_ten = λ turn h.
        let low = inside S K o quick_tiles turn l (omega (arith, h, w.few_are)) in
        let e : turn * r.span.0 ≡ turn * (K * S) = ap (λ (x : ℕ). turn * x) w.span_is in
        omega (arith, low, e, most);
    some = omega (arith, w.fold_is, slots_some S K l);
    most = omega (arith, w.fold_is);
    whole = λ e. whole (class_of K p) (sym w.few_are ∙ e);
  }
    where
      slots_some : (S K : ℕ) → o < K * S → 0 < S
      slots_some zero K h = absurd (omega (arith, h))
      slots_some (suc S) K h = omega arith

      whole : Class K → quick_tiles / K ≡ 0 → (n : ℕ) × (r.span.0 ≡ n * r.fold.0)
      whole (inl k) e = absurd (omega (arith, k.1, e))
      whole (inr (k, (n, q))) e =
          (n, w.span_is ∙ ap (λ (x : ℕ). x * S) q ∙ omega arith ∙ ap (λ (x : ℕ). n * x) (sym w.fold_is))

-- THE AREAS of a hop that is in the index
module _ {r : Repeats} {o : ℕ} (w : InIndex r o) where
  pub quick_below : {slot : ℕ} → TakesFirst r.span.0 (quick_place + o) r.few slot → slot < fold_place
  quick_below h = omega (arith, h.at, w.in_ten h.turn h.within)

  pub short_below : {slot : ℕ} → TakesFirst r.span.0 o r.turns slot → slot < quick_place
  short_below h = omega (arith, h.at, w.in_hundred h.turn h.within)

  -- one slot of the fold, or of ten tiles
  pub one_turn : (start : ℕ) → start < index_slots → InTurns r.span.0 start 1
  one_turn start l = record { apart = w.apart; inside = λ turn h. let none : turn * r.span.0 ≡ 0 = ap (λ (x : ℕ). x * r.span.0) (omega (arith, h)) ∙ zero-mul r.span.0 in omega arith }

-- the first turn is at the start
pub first_turn : (span start : ℕ) {slot : ℕ} → TakesFirst span start 1 slot → slot ≡ start
first_turn span start h = let none : h.turn * span ≡ 0 = ap (λ (x : ℕ). x * span) (omega (arith, h.within)) ∙ zero-mul span in omega (arith, h.at)

pub turn_first : (span start : ℕ) {slot : ℕ} → slot ≡ start → TakesFirst span start 1 slot
turn_first span start e = record { turn = 0; within = omega arith; at = omega (arith, e) }

-- ONE TURN AFTER THE OTHER: no turn before takes its slot, and with it they are the turns up to the next
module _ {span o turn : ℕ} where
  pub turn_new : 0 < span → TakesFirst span o turn (o + turn * span) → ⊥
  turn_new some h = omega (arith, h.at, mul-le-mul_right span h.within)

  pub turn_more : {t : ℕ} → TakesFirst span o turn t ⊎ (t ≡ o + turn * span) → TakesFirst span o (turn + 1) t
  turn_more (inl h) = record { turn = h.turn; within = omega (arith, h.within); at = h.at }
  turn_more (inr e) = record { turn = turn; within = omega arith; at = e }

  pub turn_split : {t : ℕ} → TakesFirst span o (turn + 1) t → TakesFirst span o turn t ⊎ (t ≡ o + turn * span)
  turn_split h =
      ⊎_elim (λ (e : h.turn ≡ turn). inr (h.at ∙ ap (λ (x : ℕ). o + x * span) e))
      (λ (k : h.turn < turn). inl (record { turn = h.turn; within = k; at = h.at })) (eq-or-lt_of_le (omega (arith, h.within)))
