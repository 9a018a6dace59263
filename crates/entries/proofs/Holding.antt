-- Entries tile by tile are entries through all the tables: the kinds of the tiles come round with every node.
use mathlib.Core.Path.{◌≡◌, refl, sym, ap, ap₂, ◌∙◌, subst, subst₂}
use mathlib.Core.Bool.{Bool, true, false, cond}
use mathlib.Core.List.{List}
use Prim.Native.Nat.{ℕ, ◌+◌, ◌*◌, ◌/◌, ◌%◌, ◌<◌, ◌≤◌}
use native.Mathlib.Nat.{add-mul-div_right, add-mul-mod_self_right, mod-lt, div-add-mod', div-lt_iff_lt-mul, div-eq_of_lt, mod-eq_of_lt, mul_assoc, mul-le-mul, le_refl}
use native.Mathlib.Omega.{arith}
use lib.Dec.{ltb, eqb}
use lib.ListN.{length, get_or}
use Rattle.std.specs.Bool.{MatchBool}
use Rattle.std.specs.List.{AllWithin, HoldsAt, range_with_len}
use Rattle.std.proofs.lemmas.List.FromFn.{length-range_with_len, get_or-range_with_len}
use Rattle.rules.specs.Words.{bit, Tests}
use Rattle.rules.specs.Tiles.{Plan, PlanInRange, short_tiles, slots_of, control_slots, Data}
use Rattle.rules.specs.Tables.{entries_of, operation_at, id_at, IsEntry, TablesOfEntries}
use Rattle.rules.specs.Tables.IsEntry.{sleep, works, control}
use Rattle.rules.proofs.Tests.{never, alike, tests_lt, said_yes, said_no}
use Rattle.rules.proofs.Cycle.{kinds_round}
use Rattle.entries.specs.Entries.{EntryIn, EntriesIn}
use Rattle.entries.specs.Entries.EntryIn.{control as in_control, sleep as in_sleep, works as in_works}

-- all of a range
pub tests_range : (r : Bool) (P : ℕ → Type 0) (n : ℕ)
    → MatchBool r (AllWithin P (range_with_len 0 n) 0 (length (range_with_len 0 n))) ((k : ℕ) × (k < length (range_with_len 0 n)) × HoldsAt (λ i. P i → ⊥) (range_with_len 0 n) k)
    → Tests r ((i : ℕ) → i < n → P i)
tests_range true P n f = said_yes (λ i l. subst P (get_or-range_with_len 0 n i 0 l ∙ omega arith) (f i 0 (omega arith) (omega (arith, length-range_with_len 0 n))))
tests_range false P n (k, m, g) =
    let l : k < n = omega (arith, length-range_with_len 0 n) in
    said_no (λ h. g 0 (h (get_or (range_with_len 0 n) k 0) (omega (arith, get_or-range_with_len 0 n k 0 l))))

-- a tile is inside the tables of so many
pub tile_inside : {size tiles tile S first slots : ℕ} → first ≡ tile * S → slots ≡ S → tile < tiles → 3 * (tiles * S) ≤ size → 3 * (first + slots) ≤ size
tile_inside {size} {tiles} {tile} {S} e f l h = let k : (tile + 1) * S ≤ tiles * S = mul-le-mul (omega arith) (le_refl S) in omega arith

-- BY THE SLOT: its place in its tile, and how many slots of that are control
module _ (plan : Plan) (slot : ℕ) {p n : ℕ} (e : p ≡ slot % plan.slots) (f : n ≡ control_slots plan (slot / plan.slots)) where
  data_when : (p < n → ⊥) → Data plan slot
  data_when g = omega arith

  entry_is : {operation id : ℕ} → EntryIn (ltb p n) operation id → IsEntry plan slot operation id
  entry_is h = go (ltb p n) (tests_lt p n) h
    where
      go : {operation id : ℕ} (c : Bool) → Tests c (p < n) → EntryIn c operation id → IsEntry plan slot operation id
      go true t in_control = control (omega (arith, t.yes refl))
      go false t in_sleep = sleep (data_when (λ l. never (t.back l)))
      go false t (in_works s l) = works (data_when (λ l. never (t.back l))) s l

  entry_back : {operation id : ℕ} → IsEntry plan slot operation id → EntryIn (ltb p n) operation id
  entry_back h = go (ltb p n) (tests_lt p n) h
    where
      go : {operation id : ℕ} (c : Bool) → Tests c (p < n) → IsEntry plan slot operation id → EntryIn c operation id
      go true t (sleep d) = absurd (omega (arith, t.yes refl))
      go false t (sleep d) = in_sleep
      go true t (works d s l) = absurd (omega (arith, t.yes refl))
      go false t (works d s l) = in_works s l
      go true t (control d) = in_control
      go false t (control d) = never (t.back (omega arith))

-- THROUGH ALL THE TABLES, the tiles of which are counted on from node to node
module _ (plan : Plan) (w : PlanInRange plan) where
  abbrev S : ℕ
  S = plan.slots

  abbrev L : ℕ
  L = slots_of plan short_tiles

  on_from_node : (i : ℕ) → i ≡ i % L + i / L * short_tiles * S
  on_from_node i = omega (arith, div-add-mod' i L, mul_assoc (i / L) short_tiles S)

  place_round : (i : ℕ) → i % S ≡ i % L % S
  place_round i = ap (λ (x : ℕ). x % S) (on_from_node i) ∙ add-mul-mod_self_right (i % L) (i / L * short_tiles) S

  control_round : (i : ℕ) → control_slots plan (i / S) ≡ control_slots plan (i % L / S)
  control_round i =
      ap (λ (t : ℕ). cond (eqb (bit plan.kinds t) 1) plan.down plan.up)
      (ap (λ (x : ℕ). x / S % plan.tiles) (on_from_node i) ∙ ap (λ (x : ℕ). x % plan.tiles) (add-mul-div_right (i % L) (i / L * short_tiles) {z = S} w.some)
      ∙ kinds_round plan.tiles (i % L / S) (i / L) w.tiles)

  module _ (N : ℕ) (tables : List ℕ) where
    abbrev Tiles : Type 0
    Tiles = (t : ℕ) → t < short_tiles * N → EntriesIn tables (t * S) S (control_slots plan t)

    tiles_entries : Tiles → (i : ℕ) → i < entries_of plan N → IsEntry plan (i % L) (operation_at tables i) (id_at tables i)
    tiles_entries h i l =
        let t : i / S < short_tiles * N = (div-lt_iff_lt-mul {k = S} {x = i} {y = short_tiles * N} w.some).1 (omega arith) in
        let e : i / S * S + i % S ≡ i = div-add-mod' i S in
        entry_is plan (i % L) (place_round i) (control_round i)
        (subst (λ (j : ℕ). EntryIn (ltb (i % S) (control_slots plan (i / S))) (operation_at tables j) (id_at tables j)) e (h (i / S) t (i % S) (mod-lt i w.some)))

    entries_tiles : ((i : ℕ) → i < entries_of plan N → IsEntry plan (i % L) (operation_at tables i) (id_at tables i)) → Tiles
    entries_tiles h t l p m =
        let i : ℕ = t * S + p in
        let e : p + t * S ≡ i = omega arith in
        let place : i % S ≡ p = ap (λ (x : ℕ). x % S) (sym e) ∙ add-mul-mod_self_right p t S ∙ mod-eq_of_lt m in
        let tile : i / S ≡ t = ap (λ (x : ℕ). x / S) (sym e) ∙ add-mul-div_right p t {z = S} w.some ∙ ap (λ (x : ℕ). x + t) (div-eq_of_lt m) ∙ omega arith in
        let k : (t + 1) * S ≤ short_tiles * N * S = mul-le-mul (omega arith) (le_refl S) in
        subst₂ (λ (q u : ℕ). EntryIn (ltb q (control_slots plan u)) (operation_at tables i) (id_at tables i)) place tile
        (entry_back plan (i % L) (place_round i) (control_round i) (h i (omega arith)))

    pub tests_entries : {t : Bool} → length tables ≡ 3 * entries_of plan N → Tests t Tiles → Tests t (TablesOfEntries plan N tables)
    tests_entries e h = alike h (λ g. record { size = e; entries = tiles_entries g }) (λ g. entries_tiles g.entries)

-- THE LENGTH, as it is worked out
pub size_fits : (a b : ℕ) → a < 65536 → b < 65536 → a * b ≤ 65536 * 65536
size_fits a b l m = let k : a ≤ 65536 = omega arith in let n : b ≤ 65536 = omega arith in mul-le-mul k n

pub size_is : (plan : Plan) (N : ℕ) {a b n : ℕ} → a ≡ short_tiles * N → b ≡ plan.slots → n ≡ 3 * (a * b) → n ≡ 3 * entries_of plan N
size_is plan N e f g = g ∙ ap₂ (λ (x y : ℕ). 3 * (x * y)) e f ∙ omega arith

pub size_not : (plan : Plan) (N : ℕ) {a b n : ℕ} → a ≡ short_tiles * N → b ≡ plan.slots → n ≡ 3 * entries_of plan N → n ≡ 3 * (a * b)
size_not plan N e f g = let k : 3 * entries_of plan N ≡ 3 * (short_tiles * N * plan.slots) = omega arith in g ∙ k ∙ sym (ap₂ (λ (x y : ℕ). 3 * (x * y)) e f)
