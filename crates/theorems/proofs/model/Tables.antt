-- The table and the balance that are computed are the node's.
use mathlib.Core.Path.{◌≡◌, refl, sym, ap, ◌∙◌, subst, subst₂}
use mathlib.Core.Logic.{◌⊎◌, inl, inr, ⊎_elim}
use mathlib.Core.Bool.{Bool, true, false, cond}
use mathlib.Core.List.{List, [], ◌∷◌}
use mathlib.Core.Option.{Option, some, none}
use Prim.Native.Nat.{ℕ, zero, suc, ◌+◌, ◌*◌, ◌<◌, ◌≤◌}
use native.Mathlib.Omega.{arith}
use native.Mathlib.Nat.{lt_of_not-le, add-zero}
use lib.Dec.{eqb}
use lib.ListN.{length, take, drop}
use Rattle.rules.specs.Words.{◌∈◌, Tests}
use Rattle.rules.specs.Tiles.{Takes, Data, slots_of, cycle_slots}
use Rattle.rules.specs.Topology.{Touches}
use Rattle.rules.specs.Book.{Row, Book, hops, row_hop, row_offset, LawfulBook}
use Rattle.rules.specs.Image.{word}
use Rattle.rules.specs.Table.{Does, on_way, Entry, TablePart, BalanceOf, used}
use Rattle.rules.specs.Table.Does.{sends, receives, forwards, delivers}
use Rattle.rules.specs.Table.Entry.{sleep, works, control}
use Rattle.rules.proofs.Entries.{does_work, on_way_works, idle_not_working, entry_unique}
use Rattle.rules.proofs.Tests.{never, tests_eq}
use Rattle.rules.proofs.Counts.{counted}
use Rattle.rules.proofs.Slots.{is_data, takes, tests_data, tests_takes}
use Rattle.theorems.specs.model.Search.{and_then}
use Rattle.theorems.specs.model.Answer.{or_given}
use Rattle.theorems.specs.model.Table.{Cell, operation_of, cell_in, cell_of, table_from, part_of, data_count, free_count}
use Rattle.theorems.proofs.model.Searches.{Found, FirstAt, first_found}

module _ (b : Book) (node slot : ℕ) where
  abbrev At : Row → ℕ → Type 0
  At r i = Takes b.site.plan.slots r.period (row_offset r i) slot

  -- the cell is what the node does in hop i of the row, on its way
  abbrev Works : Row → ℕ → Cell → Type 0
  Works r i c = At r i × ((o : ℕ) × (i < hops r → Does node r i o) × (c.operation ≡ on_way r.way o)) × (c.stream ≡ r.id)

  abbrev Idle : Row → ℕ → Type 0
  Idle r i = At r i → Touches node (row_hop r i) → ⊥

  operation : (r : Row) (i : ℕ) → Found (λ (o : ℕ). i < hops r → Does node r i o) (Touches node (row_hop r i) → ⊥) (operation_of node r i)
  operation r i = from (eqb node (row_hop r i).from) (tests_eq node (row_hop r i).from)
    where
      sent : (t : Bool) → Tests t (i ≡ 0) → node ≡ (row_hop r i).from → Does node r i (cond t 1 3)
      sent true a e = sends e (a.yes refl)
      sent false a e = forwards e (lt_of_not-le (λ l. never (a.back (omega arith))))

      received : (t : Bool) → Tests t (suc i ≡ hops r) → node ≡ (row_hop r i).to → i < hops r → Does node r i (cond t 4 2)
      received true a e l = delivers e (a.yes refl)
      received false a e l = receives e (lt_of_not-le (λ k. never (a.back (omega arith))))

      to : (t : Bool) → Tests t (node ≡ (row_hop r i).to) → (node ≡ (row_hop r i).from → ⊥)
          → Found (λ (o : ℕ). i < hops r → Does node r i o) (Touches node (row_hop r i) → ⊥) (cond t (some (cond (eqb (suc i) (hops r)) 4 2)) none)
      to true a f = received (eqb (suc i) (hops r)) (tests_eq (suc i) (hops r)) (a.yes refl)
      to false a f = λ h. ⊎_elim f (λ (e : node ≡ (row_hop r i).to). never (a.back e)) h

      from : (t : Bool) → Tests t (node ≡ (row_hop r i).from)
          → Found (λ (o : ℕ). i < hops r → Does node r i o) (Touches node (row_hop r i) → ⊥)
          (cond t (some (cond (eqb i 0) 1 3)) (cond (eqb node (row_hop r i).to) (some (cond (eqb (suc i) (hops r)) 4 2)) none))
      from true a = λ l. sent (eqb i 0) (tests_eq i 0) (a.yes refl)
      from false a = to (eqb node (row_hop r i).to) (tests_eq node (row_hop r i).to) (λ e. never (a.back e))

  tried : (r : Row) (i : ℕ) → Found (Works r i) (Idle r i)
      (cond (takes b.site.plan.slots r.period (row_offset r i) slot)
      (and_then (operation_of node r i) (λ (o : ℕ). some (record { operation = on_way r.way o; stream = r.id }))) none)
  tried r i =
      go (takes b.site.plan.slots r.period (row_offset r i) slot) (tests_takes b.site.plan.slots r.period (row_offset r i) slot) (operation_of node r i)
      (operation r i)
    where
      go : (t : Bool) → Tests t (At r i) → (o : Option ℕ) → Found (λ (o : ℕ). i < hops r → Does node r i o) (Touches node (row_hop r i) → ⊥) o
          → Found (Works r i) (Idle r i) (cond t (and_then o (λ (o : ℕ). some (record { operation = on_way r.way o; stream = r.id }))) none)
      go true a none f = λ h. f
      go true a (some o) f = (a.yes refl, (o, f, refl), refl)
      go false a o f = λ h. never (a.back h)

  -- the cell comes from one of the rows, or none of them has the node in the slot
  abbrev CellOf : List Row → Cell → Type 0
  CellOf rs c =
      ((r : Row) × (i : ℕ) × (r ∈ rs) × (i < hops r) × At r i × ((o : ℕ) × Does node r i o × (c.operation ≡ on_way r.way o)) × (c.stream ≡ r.id))
      ⊎ (((r : Row) → r ∈ rs → (i : ℕ) → i < hops r → Idle r i) × (c.operation ≡ cond (is_data b.site.plan slot) 0 5) × (c.stream ≡ 0))

  cell_of_lem : (rs : List Row) → CellOf rs (cell_of b node slot rs)
  cell_of_lem [] = inr (λ r m. absurd m, refl, refl)
  cell_of_lem (r ∷ rs) = go (cell_in b node slot r) (first_found (Works r) (Idle r) _ (tried r) (hops r) 0) (cell_of_lem rs)
    where
      go : (o : Option Cell) → Found (FirstAt (Works r) (Idle r) 0 (0 + hops r)) ((i : ℕ) → 0 ≤ i → i < 0 + hops r → Idle r i) o
          → CellOf rs (cell_of b node slot rs) → CellOf (r ∷ rs) (or_given o (cell_of b node slot rs))
      go none g (inl h) = inl (h.0, h.1, inr h.2, h.3, h.4, h.5, h.6)
      go none g (inr h) =
          let none_of : (x : Row) → x ∈ r ∷ rs → (i : ℕ) → i < hops x → Idle x i =
          λ x m i l. ⊎_elim (λ (e : x ≡ r). subst (λ (v : Row). i < hops v → Idle v i) (sym e) (λ k. g i (omega arith) (omega arith)) l) (λ (k : x ∈ rs). h.0 x k i l) m in
          inr (none_of, h.1, h.2)
      go (some c) g h =
          let l : g.at < hops r = omega (arith, g.below) in
          inl (r, g.at, inl refl, l, g.here.0, (g.here.1.0, g.here.1.1 l, g.here.1.2), g.here.2)

  pub entry_computed : Entry b node slot (cell_of b node slot b.rows).operation (cell_of b node slot b.rows).stream
  entry_computed = go (cell_of b node slot b.rows) (cell_of_lem b.rows)
    where
      rest : (t : Bool) → Tests t (Data b.site.plan slot) → ((r : Row) → r ∈ b.rows → (i : ℕ) → i < hops r → Idle r i) → Entry b node slot (cond t 0 5) 0
      rest true a f = sleep (a.yes refl) (λ r i x h. f r x.row i x.hop x.takes h)
      rest false a f = control (lt_of_not-le (λ l. never (a.back l)))

      go : (c : Cell) → CellOf b.rows c → Entry b node slot c.operation c.stream
      go c (inl h) = subst₂ (Entry b node slot) (sym h.5.2) (sym h.6) (works record { row = h.2; hop = h.3; takes = h.4 } h.5.1)
      go c (inr h) =
          subst₂ (Entry b node slot) (sym h.1) (sym h.2) (rest (is_data b.site.plan slot) (tests_data b.site.plan slot) h.0)

-- THE TABLE
module _ (b : Book) (node : ℕ) where
  -- the 3 bytes of a slot
  abbrev cell : ℕ → List ℕ
  cell slot = (cell_of b node slot b.rows).operation ∷ word (cell_of b node slot b.rows).stream

  table_length_lem : (n slot : ℕ) → length (table_from b node n slot) ≡ 3 * n
  table_length_lem zero slot = refl
  table_length_lem (suc n) slot = let h = table_length_lem n (suc slot) in omega arith

  table_at : (n slot k : ℕ) → k < n → take 3 (drop (3 * k) (table_from b node n slot)) ≡ cell (slot + k)
  table_at zero slot k l = absurd (omega arith)
  table_at (suc n) slot zero l = ap cell (sym (add-zero slot))
  table_at (suc n) slot (suc k) l =
      let e : 3 * suc k ≡ suc (suc (suc (3 * k))) = omega arith in
      let f : suc slot + k ≡ slot + suc k = omega arith in
      ap (λ (x : ℕ). take 3 (drop x (table_from b node (suc n) slot))) e ∙ table_at n (suc slot) k (omega arith)
      ∙ ap cell f

  pub part_computed : (first tiles : ℕ) → TablePart b node first tiles (part_of b node first tiles)
  part_computed first tiles = record {
    size = table_length_lem (slots_of b.site.plan tiles) (slots_of b.site.plan first);
    entries = λ slot l.
        (_, _, entry_computed b node (slots_of b.site.plan first + slot), table_at (slots_of b.site.plan tiles) (slots_of b.site.plan first) slot l);
  }

-- THE BALANCE
module _ (b : Book) (w : LawfulBook b) (node : ℕ) where
  stream_none : {slot o id : ℕ} → Entry b node slot o id → o ≡ 0 → id ≡ 0
  stream_none (sleep d f) e = refl
  stream_none (works {r} {operation = operation} a d) e = absurd (idle_not_working _ (on_way_works r.way operation (does_work d)) (inl e))
  stream_none (control c) e = refl

  tests_sleep : (slot : ℕ) → Tests (eqb (cell_of b node slot b.rows).operation 0) (Entry b node slot 0 0)
  tests_sleep slot =
      let t = tests_eq (cell_of b node slot b.rows).operation 0 in
      let c = entry_computed b node slot in
      record {
        yes = λ e. subst₂ (Entry b node slot) (t.yes e) (stream_none c (t.yes e)) c;
        back = λ s. t.back (entry_unique b w node slot c s).0;
      }

  pub balance_computed : BalanceOf b node (data_count b) (used b node) (free_count b node)
  balance_computed = record {
    all_data = counted (is_data b.site.plan) (tests_data b.site.plan) (cycle_slots b.site.plan);
    all_used = refl;
    all_free = counted (λ slot. eqb (cell_of b node slot b.rows).operation 0) tests_sleep (cycle_slots b.site.plan);
  }
