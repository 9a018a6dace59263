-- The counts without a table are the node's balance.
use mathlib.Core.Path.{◌≡◌, refl, sym, ap, ap₂, ◌∙◌, subst}
use mathlib.Core.Logic.{inl, inr, ⊎_elim}
use mathlib.Core.Bool.{Bool, true, false, cond}
use Prim.Native.Nat.{ℕ, zero, suc, ◌+◌, ◌*◌, ◌-◌, ◌/◌, ◌%◌, ◌^◌, ◌<◌, ◌≤◌}
use native.Mathlib.Decide.{dec_lt, ℕ_discrete}
use native.Mathlib.Numerals.{add-one}
use native.Mathlib.Omega.{arith}
use native.Mathlib.Nat.{add_comm, mul_comm, mod-eq_of_lt}
use borrow.Author.Tests.{le-leb, lt-leb}
use Rattle.std.specs.List.{sum, range_with_len}
use Rattle.std.proofs.lemmas.List.FromFn.{sum_by-map-range_with_len_more}
use lib.Arith.{digits_mod, digits_div}
use lib.Dec.{eqb, leb, ltb}
use lib.ListN.{get_or}
use mathlib.Core.List.{map}
use Rattle.rules.specs.Words.{◌∈◌, Count, Tests}
use Rattle.rules.specs.Tiles.{Plan, PlanInRange, tile_counts, control_slots, cycle_tiles, cycle_slots, Data, repeats}
use Rattle.rules.specs.Topology.{Touches}
use Rattle.rules.specs.Book.{Row, Book, hops, row_hop, LawfulBook}
use Rattle.rules.specs.Table.{BalanceOf, touches, sum_below, used}
use Rattle.rules.proofs.Tests.{tests_eq, tests_lt}
use Rattle.rules.proofs.Slots.{is_data, tests_data, tests_touches}
use Rattle.rules.proofs.Sums.{sum_ext, sum_all, sum_none, sum_add, sum_one, sum_blocks}
use Rattle.rules.proofs.Counts.{if_so, so, not_so, counted, count_most}
use Rattle.rules.proofs.Balances as balances
use Rattle.operations.specs.Operations.{StopsAt, NoStop}
use Rattle.operations.specs.balances.Counts.{row_used, ends_at, DataSlots}
use Rattle.operations.proofs.Stops.{its_hops}

-- DATA SLOTS
-- of the numbers below n those from c on
from_on : (c n : ℕ) → sum_below n (λ (i : ℕ). cond (leb c i) 1 0) ≡ n - c
from_on c zero = omega arith
from_on c (suc n) = go (dec_lt n c) (from_on c n)
  where
    go : Dec (n < c) → sum_below n (λ (i : ℕ). cond (leb c i) 1 0) ≡ n - c → cond (leb c n) 1 0 + sum_below n (λ (i : ℕ). cond (leb c i) 1 0) ≡ suc n - c
    go (yes l) h = let e : ◌≡◌ {A = ℕ} (cond (leb c n) 1 0) 0 = ap (λ (t : Bool). cond t 1 0) (lt-leb c n l) in omega arith
    go (no l) h = let e : ◌≡◌ {A = ℕ} (cond (leb c n) 1 0) 1 = ap (λ (t : Bool). cond t 1 0) (le-leb c n (omega arith)) in omega arith

-- the plan comes a whole number of times in the cycle
whole_plans : (C : ℕ) → C ∈ tile_counts → cycle_tiles / C * C ≡ cycle_tiles
whole_plans C (inl e) = subst (λ (x : ℕ). cycle_tiles / x * x ≡ cycle_tiles) (sym e) refl
whole_plans C (inr (inl e)) = subst (λ (x : ℕ). cycle_tiles / x * x ≡ cycle_tiles) (sym e) refl
whole_plans C (inr (inr (inl e))) = subst (λ (x : ℕ). cycle_tiles / x * x ≡ cycle_tiles) (sym e) refl
whole_plans C (inr (inr (inr (inl e)))) = subst (λ (x : ℕ). cycle_tiles / x * x ≡ cycle_tiles) (sym e) refl
whole_plans C (inr (inr (inr (inr (inl e))))) = subst (λ (x : ℕ). cycle_tiles / x * x ≡ cycle_tiles) (sym e) refl
whole_plans C (inr (inr (inr (inr (inr e))))) = absurd e

module _ (plan : Plan) where
  -- the data slots of a tile
  abbrev pub data_in : ℕ → ℕ
  data_in tile = plan.slots - control_slots plan tile

  in_tile : (tile : ℕ) → sum_below plan.slots (λ (i : ℕ). cond (is_data plan (tile * plan.slots + i)) 1 0) ≡ data_in tile
  in_tile tile =
      sum_ext plan.slots _ _ (λ i l. ap₂ (λ (x y : ℕ). cond (leb (control_slots plan x) y) 1 0) (digits_div tile l) (digits_mod tile l))
      ∙ from_on (control_slots plan tile) plan.slots

  module _ (w : PlanInRange plan) where
    -- the plan's tiles come again
    again : (b i : ℕ) → i < plan.tiles → data_in (b * plan.tiles + i) ≡ data_in i
    again b i l =
        ap (λ (x : ℕ). plan.slots - cond (eqb (plan.kinds / 2 ^ x % 2) 1) plan.down plan.up) (digits_mod b l ∙ sym (mod-eq_of_lt l))

    pub data_slots : {sum : ℕ} → sum ≡ sum_below plan.tiles data_in → DataSlots plan (sum * (cycle_tiles / plan.tiles))
    data_slots {sum} e = record { all_data = all; most = count_most all }
      where
        total_is : sum_below (cycle_slots plan) (λ (t : ℕ). if_so (is_data plan t)) ≡ sum * (cycle_tiles / plan.tiles)
        total_is =
            ap (λ (n : ℕ). sum_below (n * plan.slots) (λ (t : ℕ). if_so (is_data plan t))) (sym (whole_plans plan.tiles w.tiles))
            ∙ sum_blocks (cycle_tiles / plan.tiles * plan.tiles) plan.slots (λ (t : ℕ). if_so (is_data plan t))
            ∙ sum_ext (cycle_tiles / plan.tiles * plan.tiles) _ data_in (λ tile l. in_tile tile)
            ∙ sum_blocks (cycle_tiles / plan.tiles) plan.tiles data_in
            ∙ sum_all (cycle_tiles / plan.tiles) (sum_below plan.tiles data_in) _ (λ b l. sum_ext plan.tiles _ data_in (λ i k. again b i k))
            ∙ ap (λ (x : ℕ). cycle_tiles / plan.tiles * x) (sym e) ∙ mul_comm (cycle_tiles / plan.tiles) sum

        all : Count (Data plan) (cycle_slots plan) (sum * (cycle_tiles / plan.tiles))
        all = subst (Count (Data plan) (cycle_slots plan)) total_is (counted (is_data plan) (tests_data plan) (cycle_slots plan))

-- one more is added
pub sum_more : {sum x n : ℕ} (f : ℕ → ℕ) → sum ≡ sum_below n f → x ≡ f n → sum + x ≡ sum_below (n + 1) f
sum_more {sum} {x} {n} f e g = ap₂ (λ (a b : ℕ). a + b) e g ∙ add_comm (sum_below n f) (f n) ∙ ap (λ (k : ℕ). sum_below k f) (sym (add-one n))

-- a sum over a range
pub sum_range : (n : ℕ) (f : ℕ → ℕ) → sum (map f (range_with_len 0 n)) ≡ sum_below n f
sum_range zero f = refl
sum_range (suc n) f =
    ap (λ (k : ℕ). sum (map f (range_with_len 0 k))) (sym (add-one n)) ∙ omega (arith, sum_by-map-range_with_len_more (λ (x : ℕ). x) f 0 n n (omega arith), sum_range n f)

-- it has at most 32 for each tile
pub sum_few : (n c : ℕ) (f : ℕ → ℕ) → ((i : ℕ) → f i ≤ c) → sum_below n f ≤ c * n
sum_few zero c f l = omega arith
sum_few (suc n) c f l = omega (arith, l n, sum_few n c f l)

-- USED
-- a number counts where the test passes, and nothing else
pub counts : {t : Bool} {P : Type 0} (n : ℕ) → Tests t P → P → cond t n 0 ≡ n
counts n a p = ap (λ (t : Bool). cond t n 0) (a.back p)

pub counts_not : {t : Bool} {P : Type 0} (n : ℕ) → Tests t P → (P → ⊥) → cond t n 0 ≡ 0
counts_not {t = true} n a f = absurd (f (a.yes refl))
counts_not {t = false} n a f = refl

module _ {node place : ℕ} {r : Row} (s : StopsAt node r place) where
  abbrev n : ℕ
  n = repeats r.period

  -- the hop from the place, and the hop to it
  abbrev from : ℕ → ℕ
  from i = cond (eqb i place) n 0

  abbrev to : ℕ → ℕ
  to i = cond (eqb (suc i) place) n 0

  apart : (i : ℕ) → i < hops r → cond (touches node (row_hop r i)) n 0 ≡ from i + to i
  apart i l = go (ℕ_discrete i place) (ℕ_discrete (suc i) place)
    where
      it : Tests (touches node (row_hop r i)) (Touches node (row_hop r i))
      it = tests_touches node (row_hop r i)

      here : (k : ℕ) → k ≡ place → node ≡ get_or r.route k 0
      here k e = s.here ∙ ap (λ (x : ℕ). get_or r.route x 0) (sym e)

      go : Dec (i ≡ place) → Dec (suc i ≡ place) → cond (touches node (row_hop r i)) n 0 ≡ from i + to i
      go (yes e) (yes f) = absurd (omega arith)
      go (yes e) (no f) = omega (arith, counts n it (inl (here i e)), counts n (tests_eq i place) e, counts_not n (tests_eq (suc i) place) f)
      go (no e) (yes f) = omega (arith, counts n it (inr (here (suc i) f)), counts_not n (tests_eq i place) e, counts n (tests_eq (suc i) place) f)
      go (no e) (no f) =
          omega (arith, counts_not n it (λ t. ⊎_elim e f (its_hops s l t)), counts_not n (tests_eq i place) e, counts_not n (tests_eq (suc i) place) f)

  from_all : sum_below (hops r) from ≡ n * if_so (ltb place (hops r))
  from_all = go (dec_lt place (hops r))
    where
      go : Dec (place < hops r) → sum_below (hops r) from ≡ n * if_so (ltb place (hops r))
      go (yes l) =
          let one = sum_one (hops r) place n from l (counts n (tests_eq place place) refl) (λ i m f. counts_not n (tests_eq i place) f) in
          omega (arith, one, ap (λ (x : ℕ). n * x) (so (tests_lt place (hops r)) l))
      go (no l) =
          let none = sum_none (hops r) from (λ i m. counts_not n (tests_eq i place) (λ e. l (omega arith))) in
          omega (arith, none, ap (λ (x : ℕ). n * x) (not_so (tests_lt place (hops r)) l))

  to_all : sum_below (hops r) to ≡ n * if_so (ltb 0 place)
  to_all = go (dec_lt 0 place)
    where
      go : Dec (0 < place) → sum_below (hops r) to ≡ n * if_so (ltb 0 place)
      go (yes l) =
          let one = sum_one (hops r) (place - 1) n to (omega (arith, s.within)) (counts n (tests_eq (suc (place - 1)) place) (omega arith))
          (λ i m f. counts_not n (tests_eq (suc i) place) (λ e. f (omega arith))) in
          omega (arith, one, ap (λ (x : ℕ). n * x) (so (tests_lt 0 place) l))
      go (no l) =
          let none = sum_none (hops r) to (λ i m. counts_not n (tests_eq (suc i) place) (λ e. l (omega arith))) in
          omega (arith, none, ap (λ (x : ℕ). n * x) (not_so (tests_lt 0 place) l))

  pub row_used_lem : {turns last ends : ℕ} → turns ≡ n → last ≡ hops r → ends ≡ ends_at place last → turns * ends ≡ row_used node r
  row_used_lem e f g =
      ap₂ ◌*◌ e (g ∙ ap (ends_at place) f) ∙ omega (arith, from_all, to_all, sum_add (hops r) from to)
      ∙ sym (sum_ext (hops r) (λ (i : ℕ). cond (touches node (row_hop r i)) n 0) (λ (i : ℕ). from i + to i) apart)

pub row_unused : {node : ℕ} {r : Row} → NoStop node r → 0 ≡ row_used node r
row_unused {node} {r} f =
    sym (sum_none (hops r) _ (λ i l. counts_not (repeats r.period) (tests_touches node (row_hop r i))
    (λ t. ⊎_elim (f.nowhere i (omega arith)) (f.nowhere (suc i) (omega arith)) t)))

module _ (b : Book) (w : LawfulBook b) (node : ℕ) where
  pub used_most : used b node ≤ cycle_slots b.site.plan
  used_most =
      let all = counted (is_data b.site.plan) (tests_data b.site.plan) (cycle_slots b.site.plan) in
      omega (arith, (balances.balance_of b w node _ all).0, count_most all)

  module _ {plan : Plan} {d u : ℕ} (p : plan ≡ b.site.plan) (h : DataSlots plan d) (e : u ≡ used b node) where
    balance : (used b node ≤ d) × BalanceOf b node d (used b node) (d - used b node)
    balance = balances.balance_of b w node d (subst (λ (x : Plan). DataSlots x d) p h).all_data

    pub used_fits : u ≤ d
    used_fits = omega (arith, balance.0)

    pub balance_of : BalanceOf b node d u (d - u)
    balance_of = subst (λ (x : ℕ). BalanceOf b node d x (d - x)) (sym e) balance.1
