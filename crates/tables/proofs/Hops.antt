-- The entries of hops and rows, one after the other, are a part of the node's table.
use mathlib.Core.Path.{◌≡◌, refl, sym, ap, ◌∙◌, subst, subst₂}
use mathlib.Core.Logic.{◌⊎◌, inl, inr, ⊎_elim, ◌↔◌}
use mathlib.Core.List.{List, [], ◌∷◌, ◌++◌}
use Prim.Native.Nat.{ℕ, suc, ◌+◌, ◌*◌, ◌/◌, ◌%◌, ◌-◌, ◌<◌, ◌≤◌}
use native.Mathlib.Decide.{dec_lt}
use native.Mathlib.Omega.{arith}
use native.Mathlib.Nat.{mul-le-mul_right, add_assoc, add-mul-mod_self_right, div-add-mod'}
use lib.ListN.{length, get_or, take, drop, take-append-drop, length-take, length-drop}
use lib.Seq.{length-take-le, get_or-take, get_or-drop, ext_get_or}
use Rattle.rules.specs.Words.{◌∈◌}
use Rattle.rules.specs.Tiles.{Plan, Takes, cycle_tiles, slots_of, control_slots}
use Rattle.rules.specs.Book.{Site, Row, hops, row_offset, Offsets, LawfulRow}
use Rattle.rules.specs.Image.{word, plan_of}
use Rattle.rules.specs.Table.{Does, on_way, Entry, table_length}
use Rattle.rules.specs.Table.Entry.{sleep, works, control}
use Rattle.rules.proofs.Lists.{at_in, in_left, in_right}
use Rattle.rules.proofs.Saved.{last_or}
use Rattle.rules.proofs.Meeting.{period_divides, takes_iff}
use Rattle.rules.proofs.Entries.{does_touches, does_work, Working, on_way_works, touches_does}
use Rattle.rules.proofs.Reading.{rows_in, book_in}
use Rattle.operations.specs.Operations.{where_working, StopsAt, NoStop}
use Rattle.tables.specs.Entries.{entry_at, From, Now, Over, Repeated, Idle, HopEntry, ToEntry, FromEntry, RowEntry, RowsEntry, RowOn, PartFits, StreamOf, Filled}
use Rattle.tables.specs.declared.Part.{Part}
use Rattle.tables.specs.declared.Stream.{Stream}
use Rattle.tables.specs.Entries.Now.{given, kept}
use Rattle.tables.specs.Entries.Idle.{sleeps, controls}
use Rattle.operations.proofs.Working.{working}
use Rattle.operations.proofs.Stops.{its_hops}
use Rattle.tables.proofs.Writing.{Gives, over_none, over_then, over_same}

-- THE PART
-- so many tiles from the first on, all in the cycle
pub part_fits : (s : List ℕ) {out : List ℕ} {plan : Plan} {part : Part} (first tiles : ℕ) → plan ≡ plan_of s → (plan_of s).slots ≤ 32
    → (part.slots.0 ≡ plan.slots) × (part.start.0 ≡ slots_of plan first) × (part.count.0 ≡ slots_of plan tiles) → first + tiles ≤ cycle_tiles
    → table_length (plan_of s) tiles ≤ length out → PartFits part out
part_fits s {plan} first tiles e most p l room =
    let f : plan.slots ≡ (plan_of s).slots = ap (λ (x : Plan). x.slots) e in
    let g : slots_of plan tiles ≡ slots_of (plan_of s) tiles = ap (λ (x : Plan). slots_of x tiles) e in
    record {
      slots_most = omega (arith, p.0, f, most);
      inside = omega (arith, p.1, p.2, mul-le-mul_right plan.slots l, ap (λ (x : ℕ). cycle_tiles * x) p.0);
      room = omega (arith, p.2, g, room);
    }

-- a lawful row stands on its site
pub row_on : {site : Site} {r : Row} (S : ℕ) → S ≡ site.plan.slots → LawfulRow site r → RowOn S r
row_on {r} S e w = record {
  period = w.period;
  some = w.route.some;
  distinct = w.route.distinct;
  offsets = subst (λ (S : ℕ). Offsets S r.period (hops r) r.offsets) (sym e) w.offsets;
}

-- ONE HOP
-- what is known of a hop that is written in a part from a start on
pub record HopFacts (S : ℕ) (r : Row) (start i offset step late id : ℕ) : Type 0 where
  pub offset_is : offset ≡ row_offset r i
  pub step_is : step ≡ r.period * S
  pub late_is : late ≡ start % step
  pub id_is : id ≡ r.id

pub hop_facts : {r : Row} {i offset : ℕ} {part : Part} {stream : Stream} → StreamOf r part stream → offset ≡ row_offset r i
    → HopFacts part.slots.0 r part.start.0 i offset stream.step.0 stream.late.0 stream.id
hop_facts h e = record { offset_is = e; step_is = h.step_is; late_is = h.late_is; id_is = h.id_is }

-- a row's period has slots, and no more than the cycle
pub step_some : {S : ℕ} {r : Row} → RowOn S r → 0 < r.period * S
step_some {r} w = omega (arith, w.offsets.within (row_offset r 0) (at_in r.offsets 0 (omega (arith, w.offsets.count, w.some))))

-- two numbers that are the same modulo m, the lower of them below m, are some turns apart
turns_apart : (m late place slot o : ℕ) → place < m → (late + place) % m ≡ o → (late + slot) % m ≡ o → (turn : ℕ) × (slot ≡ place + turn * m)
turns_apart m late place slot o l e f = go (dec_lt ((late + slot) / m) ((late + place) / m))
  where
    p : (late + place) / m * m + (late + place) % m ≡ late + place
    p = div-add-mod' (late + place) m

    s : (late + slot) / m * m + (late + slot) % m ≡ late + slot
    s = div-add-mod' (late + slot) m

    go : Dec ((late + slot) / m < (late + place) / m) → (turn : ℕ) × (slot ≡ place + turn * m)
    go (yes k) = absurd (omega (arith, p, s, mul-le-mul_right m k))
    go (no k) =
        let d : ℕ = (late + slot) / m - (late + place) / m in
        let q : (late + slot) / m ≡ (late + place) / m + d = omega arith in
        (d, omega (arith, p, s, ap (λ (x : ℕ). x * m) q))

module _ {S : ℕ} {r : Row} {start i offset step late id : ℕ} (w : RowOn S r) (h : HopFacts S r start i offset step late id) where
  pub first_turn : i < hops r → offset < step
  first_turn l = omega (arith, h.offset_is, h.step_is, w.offsets.within (row_offset r i) (at_in r.offsets i (omega (arith, w.offsets.count))))

  module _ {node operation written place : ℕ} (count : ℕ) (low : offset < step) (near : (place < step) × ((late + place) % step ≡ offset))
      (inside : start + count ≤ cycle_tiles * S) (d : Does node r i operation) (e : written ≡ on_way r.way operation) where
    its_id : id ≡ where_working written id
    its_id = working written id (subst Working (sym e) (on_way_works r.way operation (does_work d)))

    taken : (slot : ℕ) → Takes S r.period (row_offset r i) slot ↔ ((slot % (r.period * S) ≡ row_offset r i) × (slot < cycle_tiles * S))
    taken slot = takes_iff S r.period (row_offset r i) slot (period_divides r.period w.period) (omega (arith, h.offset_is, h.step_is))

    -- a slot of the part is as late in the period as the part starts, and so much later
    later : (slot : ℕ) → (start + slot) % step ≡ (late + slot) % step
    later slot = ap (λ (x : ℕ). (x + slot) % step) (sym (div-add-mod' start step)) ∙ ap (λ (x : ℕ). x % step) turn ∙ add-mul-mod_self_right (late + slot) (start / step) step
      where
        turn : start / step * step + start % step + slot ≡ late + slot + start / step * step
        turn = omega (arith, h.late_is)

    now : (slot o name : ℕ) → slot < count → Repeated place step written (where_working written id) slot o name → From start (HopEntry i S node r) slot o name
    now slot o name l x = record {
      there = record {
        takes = (taken (start + slot)).1 (
          subst₂ (λ (m p : ℕ). (start + slot) % m ≡ p) h.step_is h.offset_is
              (later slot ∙ ap (λ (y : ℕ). (late + y) % step) x.slot_is ∙ ap (λ (y : ℕ). y % step) (sym (add_assoc late place (x.turn * step)))
              ∙ add-mul-mod_self_right (late + place) x.turn step ∙ near.1),
          omega (arith, inside),
        );
        work = operation;
        does = d;
        operation_is = x.operation_is ∙ e;
        id_is = x.id_is ∙ sym its_id ∙ h.id_is;
      };
    }

    back : (slot o name : ℕ) → slot < count → From start (HopEntry i S node r) slot o name → Gives (Repeated place step written (where_working written id)) slot
    back slot o name l x =
        let t = subst₂ (λ (m p : ℕ). (start + slot) % m ≡ p) (sym h.step_is) (sym h.offset_is) ((taken (start + slot)).0 x.there.takes).0 in
        let u = turns_apart step late place slot offset near.0 near.1 (sym (later slot) ∙ t) in
        (written, where_working written id, record { turn = u.0; slot_is = u.1; operation_is = refl; id_is = refl })

    pub hop_done : {end by : ℕ} {old new : List ℕ} → end ≡ count → by ≡ place → Over end (Repeated by step written (where_working written id)) old new
        → Over count (From start (HopEntry i S node r)) old new
    hop_done {end} {old} {new} n q a = over_same n now back (subst (λ (x : ℕ). Over end (Repeated x step written (where_working written id)) old new) q a)

-- ONE ROW: the hop to the node's place, and the hop from it
module _ {n start S node place : ℕ} {r : Row} where
  pub to_done : {old new : List ℕ} → 0 < place → Over n (From start (HopEntry (place - 1) S node r)) old new → Over n (From start (ToEntry place S node r)) old new
  to_done l a =
      over_same refl (λ slot o id k h. record { there = record { hop = place - 1; leads = omega arith; entry = h.there } })
      (λ slot o id k h. let e : h.there.hop ≡ place - 1 = omega (arith, h.there.leads) in
      (o, id, record { there = subst (λ (k : ℕ). HopEntry k S node r (start + slot) o id) e h.there.entry })) a

  pub from_done : {old new : List ℕ} → place < hops r → Over n (From start (HopEntry place S node r)) old new → Over n (From start (FromEntry place S node r)) old new
  from_done l a = over_same refl (λ slot o id k h. record { there = record { within = l; entry = h.there } }) (λ slot o id k h. (o, id, record { there = h.there.entry })) a

  pub row_visited : {old mid new : List ℕ} → StopsAt node r place → Over n (From start (ToEntry place S node r)) old mid
      → Over n (From start (FromEntry place S node r)) mid new → Over n (From start (RowEntry S node r)) old new
  row_visited s a b =
      over_then a b (λ slot o id h. record { there = record { hop = h.there.hop; within = omega (arith, h.there.leads, s.within); entry = h.there.entry } })
      (λ slot o id h. record { there = record { hop = place; within = h.there.within; entry = h.there.entry } })
      (λ slot o id h. split slot o id h.there (its_hops s h.there.within (does_touches h.there.entry.does)))
    where
      split : (slot o id : ℕ) (h : RowEntry S node r (start + slot) o id)
          → (h.hop ≡ place) ⊎ (suc h.hop ≡ place) → Gives (From start (ToEntry place S node r)) slot ⊎ Gives (From start (FromEntry place S node r)) slot
      split slot o id h (inl e) =
          inr (o, id, record { there = record { within = omega (arith, h.within); entry = subst (λ (k : ℕ). HopEntry k S node r (start + slot) o id) e h.entry } })
      split slot o id h (inr e) = inl (o, id, record { there = record { hop = h.hop; leads = e; entry = h.entry } })

-- a node that stands nowhere in the route has no entries
pub row_none : {n start S node : ℕ} {r : Row} {out : List ℕ} → NoStop node r → Over n (From start (RowEntry S node r)) out out
row_none f =
    over_none (λ slot o id h. ⊎_elim (f.nowhere h.there.hop (omega (arith, h.there.within)))
    (f.nowhere (suc h.there.hop) (omega (arith, h.there.within))) (does_touches h.there.entry.does))

-- THE ROWS
pub rows_none : {n start S node : ℕ} {out : List ℕ} → Over n (From start (RowsEntry S node [])) out out
rows_none = over_none (λ slot o id h. h.there.there)

pub rows_more : {n start S node : ℕ} {r : Row} {rows : List Row} {old mid new : List ℕ} → Over n (From start (RowsEntry S node rows)) old mid
    → Over n (From start (RowEntry S node r)) mid new → Over n (From start (RowsEntry S node (rows ++ (r ∷ [])))) old new
rows_more {start} {S} {node} {r} {rows} a b =
    over_then a b (λ slot o id h. record { there = record { row = h.there.row; there = in_left h.there.row rows (r ∷ []) h.there.there; entry = h.there.entry } })
    (λ slot o id h. record { there = record { row = r; there = in_right r rows (r ∷ []) (inl refl); entry = h.there } })
    (λ slot o id h. split slot o id h.there (last_or h.there.row r rows h.there.there))
  where
    split : (slot o id : ℕ) (h : RowsEntry S node (rows ++ (r ∷ [])) (start + slot) o id) → h.row ∈ (r ∷ rows)
        → Gives (From start (RowsEntry S node rows)) slot ⊎ Gives (From start (RowEntry S node r)) slot
    split slot o id h (inl e) = inr (o, id, record { there = subst (λ (x : Row). RowEntry S node x (start + slot) o id) e h.entry })
    split slot o id h (inr m) = inl (o, id, record { there = record { row = h.row; there = m; entry = h.entry } })

-- THE TABLE
-- an entry is the same in the front of a buffer
front_entry : (n slot : ℕ) (l : List ℕ) → slot < n → entry_at (take (3 * n) l) slot ≡ entry_at l slot
front_entry n slot l h = ext_get_or 0 (entry_at (take (3 * n) l) slot) (entry_at l slot) size at
  where
    size : length (entry_at (take (3 * n) l) slot) ≡ length (entry_at l slot)
    size = simp (length-take, length-drop) (omega arith)

    at : (i : ℕ) → i < length (entry_at (take (3 * n) l) slot) → get_or (entry_at (take (3 * n) l) slot) i 0 ≡ get_or (entry_at l slot) i 0
    at i k =
        let u : i < 3 = omega (arith, length-take 3 (drop (3 * slot) (take (3 * n) l))) in
        get_or-take 3 (drop (3 * slot) (take (3 * n) l)) i 0 u ∙ get_or-drop (3 * slot) (take (3 * n) l) i 0 ∙ get_or-take (3 * n) l (3 * slot + i) 0 (omega arith)
        ∙ sym (get_or-take 3 (drop (3 * slot) l) i 0 u ∙ get_or-drop (3 * slot) l i 0)

module _ (s : List ℕ) (node first tiles : ℕ) where
  abbrev n : ℕ
  n = slots_of (plan_of s) tiles

  abbrev start : ℕ
  start = slots_of (plan_of s) first

  module _ {old blank new : List ℕ} (a : Over n (From start (Idle (plan_of s))) old blank) (b : Over n (From start (RowsEntry (plan_of s).slots node (rows_in s))) blank new) where
    its_entry : (slot : ℕ) → slot < n → (operation id : ℕ) × Entry (book_in s) node (start + slot) operation id × (entry_at new slot ≡ operation ∷ word id)
    its_entry slot l = go (a.entries slot l) (b.entries slot l)
      where
        alone : ((o id : ℕ) → From start (RowsEntry (plan_of s).slots node (rows_in s)) slot o id → ⊥) → {o id : ℕ} → Idle (plan_of s) (start + slot) o id → Entry (book_in s) node (start + slot) o id
        alone f (sleeps d) = sleep d (λ r i x t. let q = touches_does x.hop t in f (on_way r.way q.0) r.id record {
          there = record {
            row = r;
            there = x.row;
            entry = record { hop = i; within = x.hop; entry = record { takes = x.takes; work = q.0; does = q.1; operation_is = refl; id_is = refl } };
          };
        })
        alone f (controls c) = control c

        never_kept : Dec ((start + slot) % (plan_of s).slots < control_slots (plan_of s) ((start + slot) / (plan_of s).slots)) → ((o id : ℕ) → From start (Idle (plan_of s)) slot o id → ⊥) → ⊥
        never_kept (yes c) g = g 5 0 record { there = controls c }
        never_kept (no c) g = g 0 0 record { there = sleeps (omega arith) }

        go : Now (From start (Idle (plan_of s))) old blank slot → Now (From start (RowsEntry (plan_of s).slots node (rows_in s))) blank new slot
            → (operation id : ℕ) × Entry (book_in s) node (start + slot) operation id × (entry_at new slot ≡ operation ∷ word id)
        go x (given {operation} {id} y q) = (
          operation,
          id,
          subst₂ (Entry (book_in s) node (start + slot)) (sym y.there.entry.entry.operation_is) (sym y.there.entry.entry.id_is)
              (works record { row = y.there.there; hop = y.there.entry.within; takes = y.there.entry.entry.takes } y.there.entry.entry.does),
          q,
        )
        go (given {operation} {id} x p) (kept f q) = (operation, id, alone f x.there, q ∙ p)
        go (kept g p) (kept f q) = absurd (never_kept (dec_lt ((start + slot) % (plan_of s).slots) (control_slots (plan_of s) ((start + slot) / (plan_of s).slots))) g)

    all_filled : 3 * n ≤ length new → Filled s node first tiles old new
    all_filled h =
        let e : length (take (3 * n) new) ≡ 3 * n = length-take-le (3 * n) new h in
        record {
          table = take (3 * n) new;
          part_of = record { size = e; entries = λ slot l. let x = its_entry slot l in (x.0, x.1, x.2, front_entry n slot new l ∙ x.3) };
          buffer = sym (take-append-drop (3 * n) new) ∙ ap (λ (l : List ℕ). take (3 * n) new ++ l) (b.beyond ∙ a.beyond ∙ ap (λ (k : ℕ). drop k old) (sym e));
        }

  -- sleep and control slots by the header's plan, and the rows over them in the part of so many tiles from the first on
  pub filled : {plan : Plan} {part : Part} {rows : List Row} {old blank new : List ℕ} → plan ≡ plan_of s
      → (part.slots.0 ≡ plan.slots) × (part.start.0 ≡ slots_of plan first) × (part.count.0 ≡ slots_of plan tiles) → rows_in s ≡ rows
      → Over (slots_of plan tiles) (From (slots_of plan first) (Idle plan)) old blank
      → Over part.count.0 (From part.start.0 (RowsEntry part.slots.0 node rows)) blank new → 3 * n ≤ length new → Filled s node first tiles old new
  filled {plan} {part} {rows} {old} {blank} {new} e p q a b h =
      all_filled (subst (λ (p : Plan). Over (slots_of p tiles) (From (slots_of p first) (Idle p)) old blank) e a)
      (subst (λ (p : Plan). Over (slots_of p tiles) (From (slots_of p first) (RowsEntry p.slots node (rows_in s))) blank new) e (
      subst (λ (rows : List Row). Over (slots_of plan tiles) (From (slots_of plan first) (RowsEntry plan.slots node rows)) blank new) (sym q) (
      subst (λ (S : ℕ). Over (slots_of plan tiles) (From (slots_of plan first) (RowsEntry S node rows)) blank new) p.0
      (subst₂ (λ (k m : ℕ). Over k (From m (RowsEntry part.slots.0 node rows)) blank new) p.2 p.1 b)
      )
      )) h
