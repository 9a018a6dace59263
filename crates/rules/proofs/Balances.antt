-- Every slot has an entry; used is the entries 1 to 4 and 17 to 20 of a node's table, and used + free = data.
use mathlib.Core.Path.{◌≡◌, refl, sym, ap, ap₂, ◌∙◌, subst, subst₂}
use mathlib.Core.Logic.{inl, inr}
use mathlib.Core.Bool.{Bool, true, false, cond, ◌&&◌}
use mathlib.Core.List.{List, [], ◌∷◌}
use Prim.Native.Nat.{ℕ, ◌+◌, ◌*◌, ◌-◌, ◌/◌, ◌%◌, ◌<◌, ◌≤◌}
use native.Mathlib.Omega.{arith}
use native.Mathlib.Nat.{mul_assoc, add-mul-mod_self_right, mod-eq_of_lt, div-add-mod', div-lt_iff_lt-mul, lt_of_not-le}
use lib.Arith.{digits_mod}
use lib.Dec.{eqb}
use Rattle.rules.specs.Words.{◌∈◌, total, Count, Tests}
use Rattle.rules.specs.Tiles.{cycle_tiles, cycle_slots, Data, Takes, repeats, Period}
use Rattle.rules.specs.Topology.{Touches}
use Rattle.rules.specs.Book.{Row, Book, key, hops, row_hop, row_offset, RisingByKey, LawfulBook}
use Rattle.rules.specs.Table.{Active, on_way, Entry, BalanceOf, touches, sum_below, used}
use Rattle.rules.specs.Table.Entry.{sleep, works, control}
use Rattle.rules.proofs.Tests.{never, decided, tests_and, tests_eq, some_below, tests_some, tests_member}
use Rattle.rules.proofs.Lists.{at_in}
use Rattle.rules.proofs.Meeting.{cycle_period}
use Rattle.rules.proofs.Sums.{sum_ext, sum_all, sum_none, sum_add, sum_swap, sum_one, sum_blocks}
use Rattle.rules.proofs.Counts.{if_so, so, not_so, counted, count_sum, count_rest}
use Rattle.rules.proofs.Slots.{takes, tests_data, tests_takes, tests_touches}
use Rattle.rules.proofs.Entries.{does_touches, does_work, touches_does, Working, on_way_works, idle_not_working, one_row, one_hop, on_data, entry_unique}

-- TOTALS
total_ext : (f g : Row → ℕ) (rows : List Row) → ((r : Row) → r ∈ rows → f r ≡ g r) → total f rows ≡ total g rows
total_ext f g [] e = refl
total_ext f g (r ∷ rows) e = ap₂ ◌+◌ (e r (inl refl)) (total_ext f g rows (λ x m. e x (inr m)))

total_none : (f : Row → ℕ) (rows : List Row) → ((r : Row) → r ∈ rows → f r ≡ 0) → total f rows ≡ 0
total_none f [] e = refl
total_none f (r ∷ rows) e = ap₂ ◌+◌ (e r (inl refl)) (total_none f rows (λ x m. e x (inr m)))

total_swap : (n : ℕ) (f : ℕ → Row → ℕ) (rows : List Row) → sum_below n (λ (t : ℕ). total (f t) rows) ≡ total (λ (r : Row). sum_below n (λ (t : ℕ). f t r)) rows
total_swap n f [] = sum_none n (λ (t : ℕ). 0) (λ t l. refl)
total_swap n f (r ∷ rows) =
    sum_add n (λ (t : ℕ). f t r) (λ (t : ℕ). total (f t) rows) ∙ ap (λ (x : ℕ). sum_below n (λ (t : ℕ). f t r) + x) (total_swap n f rows)

-- one row counts, and no other
total_one : (f : Row → ℕ) (rows : List Row) (r : Row) → RisingByKey rows → r ∈ rows → f r ≡ 1 → ((x : Row) → x ∈ rows → (x ≡ r → ⊥) → f x ≡ 0) → total f rows ≡ 1
total_one f [] r up m e z = absurd m
total_one f (y ∷ rows) r up (inl m) e z =
    let rest : total f rows ≡ 0 = total_none f rows (λ x k. z x (inr k) (λ q. omega (arith, up.0 x k, ap key (q ∙ m)))) in
    let here : f y ≡ 1 = ap f (sym m) ∙ e in
    omega arith
total_one f (y ∷ rows) r up (inr m) e z =
    let rest : total f rows ≡ 1 = total_one f rows r up.1 m e (λ x k. z x (inr k)) in
    let here : f y ≡ 0 = z y (inl refl) (λ q. omega (arith, up.0 r m, ap key q)) in
    omega arith

-- HOW OFTEN A HOP COMES
-- the numbers below n * m that are o modulo m
every_mth : (n m o : ℕ) → o < m → sum_below (n * m) (λ (t : ℕ). if_so (eqb (t % m) o)) ≡ n
every_mth n m o l =
    sum_blocks n m (λ (t : ℕ). if_so (eqb (t % m) o))
    ∙ sum_all n 1 _ (λ b k. sum_one m o 1 _ l (so (tests_eq ((b * m + o) % m) o) (digits_mod b l))
    (λ i s f. not_so (tests_eq ((b * m + i) % m) o) (λ e. f (sym (digits_mod b s) ∙ e))))
    ∙ omega arith

module _ (S K o : ℕ) (some : 0 < K * S) (low : o < K * S) (t : ℕ) (within : t < repeats K * (K * S)) where
  taken : if_so (takes S K o t) ≡ if_so (eqb (t % (K * S)) o)
  taken = go (eqb (t % (K * S)) o) (tests_eq (t % (K * S)) o)
    where
      go : (s : Bool) → Tests s (t % (K * S) ≡ o) → if_so (takes S K o t) ≡ if_so s
      go true a = so (tests_takes S K o t) record {
        turn = t / (K * S);
        within = (div-lt_iff_lt-mul some).1 within;
        at = let e = a.yes refl in omega (arith, div-add-mod' t (K * S));
      }
      go false a = not_so (tests_takes S K o t) (λ h. never (a.back (ap (λ (x : ℕ). x % (K * S)) h.at ∙ add-mul-mod_self_right o h.turn (K * S) ∙ mod-eq_of_lt low)))

comes : (S K o : ℕ) → Period K → o < K * S → sum_below (cycle_tiles * S) (λ (t : ℕ). if_so (takes S K o t)) ≡ repeats K
comes S K o p low =
    let e : cycle_tiles * S ≡ repeats K * (K * S) = ap (λ (x : ℕ). x * S) (sym (cycle_period K p)) ∙ mul_assoc (repeats K) K S in
    ap (λ (n : ℕ). sum_below n (λ (t : ℕ). if_so (takes S K o t))) e
    ∙ sum_ext (repeats K * (K * S)) _ _ (λ t l. taken S K o (omega arith) low t l) ∙ every_mth (repeats K) (K * S) o low

module _ (b : Book) (w : LawfulBook b) (node : ℕ) where
  -- hop i of the row has the node at an end, and takes the slot
  abbrev hit : ℕ → Row → ℕ → Bool
  hit slot r i = touches node (row_hop r i) && takes b.site.plan.slots r.period (row_offset r i) slot

  abbrev row_load : ℕ → Row → ℕ
  row_load slot r = sum_below (hops r) (λ (i : ℕ). if_so (hit slot r i))

  abbrev load : ℕ → ℕ
  load slot = total (row_load slot) b.rows

  tests_hit : (slot : ℕ) (r : Row) (i : ℕ) → Tests (hit slot r i) (Touches node (row_hop r i) × Takes b.site.plan.slots r.period (row_offset r i) slot)
  tests_hit slot r i = tests_and (tests_touches node (row_hop r i)) (tests_takes b.site.plan.slots r.period (row_offset r i) slot)

  load_none : (slot : ℕ) → ((r : Row) (i : ℕ) → Active b slot r i → Touches node (row_hop r i) → ⊥) → load slot ≡ 0
  load_none slot f =
      total_none (row_load slot) b.rows (λ r m. sum_none (hops r) (λ (i : ℕ). if_so (hit slot r i)) (λ i l.
      not_so (tests_hit slot r i) (λ h. f r i record { row = m; hop = l; takes = h.1 } h.0)))

  load_one : (slot : ℕ) (r : Row) (i : ℕ) → Active b slot r i → Touches node (row_hop r i) → load slot ≡ 1
  load_one slot r i a t =
      total_one (row_load slot) b.rows r w.rising a.row
      (sum_one (hops r) i 1 (λ (i : ℕ). if_so (hit slot r i)) a.hop (so (tests_hit slot r i) (t, a.takes))
      (λ j l f. not_so (tests_hit slot r j) (λ h. f (one_hop b w node slot r j i record { row = a.row; hop = l; takes = h.1 } a))))
      (λ x m f. sum_none (hops x) (λ (i : ℕ). if_so (hit slot x i)) (λ j l.
      not_so (tests_hit slot x j) (λ h. f (one_row b w node slot x r j i record { row = m; hop = l; takes = h.1 } a h.0 t))))

  -- over the cycle each hop that touches the node counts its repeats
  loads : sum_below (cycle_slots b.site.plan) load ≡ used b node
  loads =
      total_swap (cycle_slots b.site.plan) row_load b.rows
      ∙ total_ext _ _ b.rows (λ r m. sum_swap (cycle_slots b.site.plan) (hops r) (λ t i. if_so (hit t r i)) ∙ sum_ext (hops r) _ _ (λ i l. hop r m i l))
    where
      hop : (r : Row) → r ∈ b.rows → (i : ℕ) → i < hops r
          → sum_below (cycle_slots b.site.plan) (λ (t : ℕ). if_so (hit t r i)) ≡ cond (touches node (row_hop r i)) (repeats r.period) 0
      hop r m i l = go (touches node (row_hop r i))
        where
          go : (s : Bool)
              → sum_below (cycle_slots b.site.plan) (λ (t : ℕ). if_so (s && takes b.site.plan.slots r.period (row_offset r i) t))
              ≡ cond s (repeats r.period) 0
          go true =
              comes b.site.plan.slots r.period (row_offset r i) (w.rows r m).period
              ((w.rows r m).offsets.within (row_offset r i) (at_in r.offsets i (omega (arith, (w.rows r m).offsets.count))))
          go false = sum_none (cycle_slots b.site.plan) (λ (t : ℕ). 0) (λ t k. refl)

  -- IN EACH SLOT: a hop that has the node at an end makes it work, and without one it sleeps or the slot is control
  abbrev Busy : ℕ → Type 0
  Busy slot = (r : Row) × (r ∈ b.rows) × ((i : ℕ) × (i < hops r) × (Touches node (row_hop r i) × Takes b.site.plan.slots r.period (row_offset r i) slot))

  busy : (slot : ℕ) → Dec (Busy slot)
  busy slot = decided (tests_member (λ r. some_below (hops r) (hit slot r)) (λ r. tests_some (hit slot r) (tests_hit slot r) (hops r)) b.rows)

  pub entry_exists : (slot : ℕ) → (operation id : ℕ) × Entry b node slot operation id
  entry_exists slot = go (busy slot) (decided (tests_data b.site.plan slot))
    where
      go : Dec (Busy slot) → Dec (Data b.site.plan slot) → (operation id : ℕ) × Entry b node slot operation id
      go (yes h) d =
          let o = touches_does h.2.1 h.2.2.0 in
          (on_way h.0.way o.0, h.0.id, works record { row = h.1; hop = h.2.1; takes = h.2.2.1 } o.1)
      go (no f) (yes d) = (0, 0, sleep d (λ r i a t. f (r, a.row, (i, a.hop, (t, a.takes)))))
      go (no f) (no d) = (5, 0, control (lt_of_not-le d))

  -- in the slot the node works on one of the ways
  abbrev pub Works : ℕ → Type 0
  Works slot = (operation id : ℕ) × Entry b node slot operation id × Working operation

  idle : {slot o id : ℕ} → Entry b node slot o id → (Works slot → ⊥) → load slot ≡ 0
  idle {slot} (sleep d f) n = load_none slot f
  idle (works {r} {operation = operation} a d) n = absurd (n (_, _, works a d, on_way_works r.way operation (does_work d)))
  idle {slot} (control c) n = load_none slot (λ r i a t. omega (arith, on_data b w node slot r i a))

  loaded : {slot o id : ℕ} → Entry b node slot o id → Working o → load slot ≡ 1
  loaded (sleep d f) l = absurd (idle_not_working 0 l (inl refl))
  loaded {slot} (works {r} {i} a d) l = load_one slot r i a (does_touches d)
  loaded (control c) l = absurd (idle_not_working 5 l (inr refl))

  -- the entries 1 to 4 and 17 to 20 are as many as used
  pub used_entries : (k : ℕ) → Count Works (cycle_slots b.site.plan) k → k ≡ used b node
  used_entries k c = count_sum load (λ i p. loaded p.2 p.3) (λ i n. idle (entry_exists i).2 n) c ∙ loads

  asleep : {slot o id : ℕ} → Entry b node slot o id → o ≡ 0 → Data b.site.plan slot × (id ≡ 0) × (load slot ≡ 0)
  asleep {slot} (sleep d f) e = (d, refl, load_none slot f)
  asleep (works {r} {operation = operation} a d) e = absurd (idle_not_working _ (on_way_works r.way operation (does_work d)) (inl e))
  asleep (control c) e = absurd (omega arith)

  awake : {slot o id : ℕ} → Entry b node slot o id → Data b.site.plan slot → (Entry b node slot 0 0 → ⊥) → load slot ≡ 1
  awake (sleep d f) l n = absurd (n (sleep d f))
  awake {slot} (works {r} {i} a d) l n = load_one slot r i a (does_touches d)
  awake (control c) l n = absurd (omega arith)

  pub used_and_free : (d u f : ℕ) → BalanceOf b node d u f → u + f ≡ d
  used_and_free d u f h =
      let k = count_rest load (λ i s. (asleep s refl).0) (λ i p n. awake (entry_exists i).2 p n) (λ i s. (asleep s refl).2)
      (λ i n. load_none i (λ r j a t. n (on_data b w node i r j a))) h.all_data h.all_free in
      omega (arith, k, loads, h.all_used)

  tests_sleep : (slot : ℕ) → Tests (eqb (entry_exists slot).0 0) (Entry b node slot 0 0)
  tests_sleep slot =
      let t = tests_eq (entry_exists slot).0 0 in
      let c = (entry_exists slot).2 in
      record {
        yes = λ e. subst₂ (Entry b node slot) (t.yes e) (asleep c (t.yes e)).1 c;
        back = λ s. t.back (entry_unique b w node slot c s).0;
      }

  -- what is not used of the data slots is free
  pub balance_of : (d : ℕ) → Count (Data b.site.plan) (cycle_slots b.site.plan) d → (used b node ≤ d) × BalanceOf b node d (used b node) (d - used b node)
  balance_of d c = (omega (arith, even), subst (BalanceOf b node d (used b node)) rest whole)
    where
      free : ℕ
      free = sum_below (cycle_slots b.site.plan) (λ (slot : ℕ). if_so (eqb (entry_exists slot).0 0))

      whole : BalanceOf b node d (used b node) free
      whole = record { all_data = c; all_used = refl; all_free = counted (λ slot. eqb (entry_exists slot).0 0) tests_sleep (cycle_slots b.site.plan) }

      even : used b node + free ≡ d
      even = used_and_free d (used b node) free whole

      rest : free ≡ d - used b node
      rest = omega (arith, even)
