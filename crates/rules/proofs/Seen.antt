-- What the tables show of a row of the book that expands to them: where its source sends, who receives, who forwards, and nothing else.
use mathlib.Core.Path.{◌≡◌, refl, sym, ap, ap₂, ◌∙◌, subst, subst₂}
use mathlib.Core.Logic.{◌⊎◌, inl, inr, ⊎_elim}
use mathlib.Core.List.{List}
use Prim.Native.Nat.{ℕ, zero, suc, ◌+◌, ◌*◌, ◌-◌, ◌/◌, ◌%◌, ◌<◌, ◌≤◌}
use native.Mathlib.Decide.{dec_lt}
use native.Mathlib.Nat.{div-add-mod', div-lt_iff_lt-mul, mul-le-mul, mod-lt}
use native.Mathlib.Omega.{arith}
use lib.ListN.{get_or, take, drop}
use lib.Seq.{get_or-drop, get_or-take}
use Rattle.rules.specs.Words.{◌∈◌}
use Rattle.rules.specs.Tiles.{short_tiles, slots_of, Takes}
use Rattle.rules.specs.Topology.{nodes}
use Rattle.rules.specs.Book.{Site, Row, Book, hops, row_offset, LawfulRow}
use Rattle.rules.specs.Image.{word_at}
use Rattle.rules.specs.Table.{Active, Does, on_way, Entry, table_length}
use Rattle.rules.specs.Table.Does.{sends, receives, forwards, delivers}
use Rattle.rules.specs.Table.Entry.{works}
use Rattle.rules.specs.Tables.{operation_at, id_at, OfStream, table_at, ShownBy}
use Rattle.rules.proofs.Lists.{at_in, pair_at, rising_one}
use Rattle.rules.proofs.Entries.{does_work, Working, on_way_works, one_hop, entry_unique}
use Rattle.rules.proofs.Air.{Fit, fit_short, first_inside, second_inside, first_turn, second_turn}
use Rattle.rules.proofs.Alike.{way_and_operation, worker, sender, receiver, received}

-- entry i of the tables is this operation and id
pub record Has (tables : List ℕ) (i operation id : ℕ) : Type 0 where
  pub operation_is : operation_at tables i ≡ operation
  pub id_is : id_at tables i ≡ id

-- the first entry from one on with the operation and the id, before another; that other where there is none
pub record Next (tables : List ℕ) (from to operation id i : ℕ) : Type 0 where
  pub low : from ≤ i
  pub high : i ≤ to
  pub found : i < to → Has tables i operation id
  pub first : (j : ℕ) → from ≤ j → j < to → Has tables j operation id → i ≤ j

-- r is a row of a book that the tables, of n nodes with so many slots each, show
pub record Seen (tables : List ℕ) (n slots : ℕ) (r : Row) : Type 0 where
  pub site : Site
  pub book : Book
  pub shown : ShownBy site tables book
  pub there : r ∈ book.rows
  pub nodes_are : nodes site.links ≡ n
  pub slots_are : slots_of site.plan short_tiles ≡ slots

-- ENTRIES
module _ {site : Site} {tables : List ℕ} {b : Book} (g : ShownBy site tables b) where
  -- the node's entry in the slot is what the tables say
  pub entry_shown : (node slot : ℕ) → node < nodes site.links → slot < slots_of site.plan short_tiles
      → Entry b node slot (operation_at tables (node * slots_of site.plan short_tiles + slot)) (id_at tables (node * slots_of site.plan short_tiles + slot))
  entry_shown node slot k l =
      let x = (g.expands node k).entries slot (subst (λ (t : Site). slot < slots_of t.plan short_tiles) (sym g.on_site) l) in
      let e : slots_of b.site.plan 0 + slot ≡ slot = omega arith in
      let i : ℕ = node * slots_of site.plan short_tiles + slot in
      let f : operation_at tables i ≡ x.0 = read 0 (3 * i) (omega arith) (omega arith) ∙ ap (λ (s : List ℕ). get_or s 0 0) x.3 in
      let h : id_at tables i ≡ x.1 = ap₂ (λ (a c : ℕ). a * 256 + c) (read 1 (3 * i + 1) (omega arith) (omega arith)) (read 2 (3 * i + 1 + 1) (omega arith) (omega arith))
      ∙ ap (λ (s : List ℕ). word_at s 1) x.3 ∙ div-add-mod' x.1 256 in
      subst₂ (Entry b node slot) (sym f) (sym h) (subst (λ (t : ℕ). Entry b node t x.0 x.1) e x.2)
    where
      read : (j at : ℕ) → j < 3 → at ≡ 3 * (node * slots_of site.plan short_tiles + slot) + j → get_or tables at 0 ≡ get_or (take 3 (drop (3 * slot) (table_at site.plan tables node))) j 0
      read j at m e =
          let T : ℕ = table_length site.plan short_tiles in
          let p : at ≡ node * T + (3 * slot + j) = omega arith in
          ap (λ (x : ℕ). get_or tables x 0) p ∙ sym (get_or-drop (node * T) tables (3 * slot + j) 0) ∙ sym (get_or-take T (drop (node * T) tables) (3 * slot + j) 0 (omega arith))
          ∙ sym (get_or-drop (3 * slot) (table_at site.plan tables node) j 0) ∙ sym (get_or-take 3 (drop (3 * slot) (table_at site.plan tables node)) j 0 m)

  -- an entry of a stream is some row's
  pub entry_row : {way : ℕ} (i : ℕ) → i < nodes site.links * slots_of site.plan short_tiles → OfStream (operation_at tables i) way
      → (r : Row) × (r ∈ b.rows) × (r.id ≡ id_at tables i) × (r.way ≡ way)
  entry_row {way} i l s =
      let L : ℕ = slots_of site.plan short_tiles in
      let some : 1 ≤ site.plan.slots = subst (λ (t : Site). 1 ≤ t.plan.slots) g.on_site g.lawful.site.plan.some in
      let whole : i / L * L + i % L ≡ i = div-add-mod' i L in
      let wide : 1 ≤ L = omega arith in
      let entry : Entry b (i / L) (i % L) (operation_at tables i) (id_at tables i) = subst (λ (j : ℕ). Entry b (i / L) (i % L) (operation_at tables j) (id_at tables j)) whole
      (entry_shown (i / L) (i % L) ((div-lt_iff_lt-mul {k = L} {x = i} {y = nodes site.links} wide).1 l) (mod-lt i wide)) in
      let w = worker entry (subst Working (sym s.shown) (on_way_works way s.plain (s.some, s.most))) in
      let lx = g.lawful.rows w.row w.active.row in
      let p = way_and_operation w.row.way way w.operation s.plain lx.way_some lx.way_most (way_some s) (way_most s) (does_work w.does).1 s.most (sym w.shown ∙ s.shown) in
      (w.row, w.active.row, sym w.named, p.0)
    where
      way_some : {o : ℕ} → OfStream o way → 1 ≤ way
      way_some s = ⊎_elim (λ (e : way ≡ 1). omega arith) (λ (e : way ≡ 2). omega arith) s.either

      way_most : {o : ℕ} → OfStream o way → way ≤ 2
      way_most s = ⊎_elim (λ (e : way ≡ 1). omega arith) (λ (e : way ≡ 2). omega arith) s.either

-- what a node does in a slot for the row
pub record Works (book : Book) (node slot : ℕ) (r : Row) (o : ℕ) : Type 0 where
  pub hop : ℕ
  pub active : Active book slot r hop
  pub does : Does node r hop o

module _ {tables : List ℕ} {n L : ℕ} {r : Row} (e : Seen tables n L r) where
  abbrev S : ℕ
  S = e.site.plan.slots

  pub lawful : LawfulRow e.site r
  lawful = subst (λ (t : Site). LawfulRow t r) e.shown.on_site (e.shown.lawful.rows r e.there)

  pub wide : 1 ≤ S
  wide = subst (λ (t : Site). 1 ≤ t.plan.slots) e.shown.on_site e.shown.lawful.site.plan.some

  pub fit : Fit short_tiles r.period
  fit = fit_short r.period (e.shown.short r e.there)

  -- an entry of the row's way and id is the row's
  pub seen_works : {o : ℕ} (node slot : ℕ) → node < n → slot < L → 1 ≤ o → o ≤ 4 → Has tables (node * L + slot) (on_way r.way o) r.id → Works e.book node slot r o
  seen_works {o} node slot k l some most h =
      let entry : Entry e.book node slot (on_way r.way o) r.id =
      subst₂ (Entry e.book node slot) h.operation_is h.id_is
      (subst (λ (m : ℕ). Entry e.book node slot (operation_at tables (node * m + slot)) (id_at tables (node * m + slot))) e.slots_are
      (entry_shown e.shown node slot (omega (arith, e.nodes_are)) (omega (arith, e.slots_are)))) in
      let w = worker entry (on_way_works r.way o (some, most)) in
      let lx = e.shown.lawful.rows w.row w.active.row in
      let p = way_and_operation r.way w.row.way o w.operation lawful.way_some lawful.way_most lx.way_some lx.way_most most (does_work w.does).1 w.shown in
      let same : w.row ≡ r = rising_one e.book.rows w.row r e.shown.lawful.rising w.active.row e.there (omega (arith, w.named, p.0)) in
      record {
        hop = w.hop;
        active = subst (λ (x : Row). Active e.book slot x w.hop) same w.active;
        does = subst₂ (λ (x : Row) (q : ℕ). Does node x w.hop q) same (sym p.1) w.does;
      }

  plan_same : e.book.site.plan.slots ≡ S
  plan_same = ap (λ (t : Site). t.plan.slots) e.shown.on_site

  -- and what the row does is shown
  pub seen_has : {o : ℕ} (node slot i : ℕ) → node < n → slot < L → i < hops r → Takes S r.period (row_offset r i) slot → Does node r i o
      → Has tables (node * L + slot) (on_way r.way o) r.id
  seen_has {o} node slot i k l h t d =
      let entry = subst (λ (m : ℕ). Entry e.book node slot (operation_at tables (node * m + slot)) (id_at tables (node * m + slot))) e.slots_are
      (entry_shown e.shown node slot (omega (arith, e.nodes_are)) (omega (arith, e.slots_are))) in
      let active : Active e.book slot r i = record { row = e.there; hop = h; takes = subst (λ (s : ℕ). Takes s r.period (row_offset r i) slot) (sym plan_same) t } in
      let u = entry_unique e.book e.shown.lawful node slot entry (works active d) in
      record { operation_is = u.0; id_is = u.1 }

  -- the place of the row's node i, its hop i
  pub node_known : (i : ℕ) → i ≤ hops r → get_or r.route i 0 < n
  node_known i l = let m = lawful.route.some in subst (λ (k : ℕ). get_or r.route i 0 < k) e.nodes_are (lawful.route.known _ (at_in r.route i (omega arith)))

  pub offset_inside : (i : ℕ) → i < hops r → row_offset r i < L
  offset_inside i l = subst (λ (k : ℕ). row_offset r i < k) e.slots_are (first_inside e.site wide r lawful fit i l)

  node_apart : (i j : ℕ) → i ≤ hops r → j ≤ hops r → get_or r.route i 0 ≡ get_or r.route j 0 → i ≡ j
  node_apart i j k l same = go (dec_lt i j) (dec_lt j i)
    where
      some : 1 ≤ hops r
      some = lawful.route.some

      go : Dec (i < j) → Dec (j < i) → i ≡ j
      go (yes h) q = absurd (pair_at (λ (x y : ℕ). x ≡ y → ⊥) r.route i j lawful.route.distinct h (omega arith) same)
      go (no h) (yes q) = absurd (pair_at (λ (x y : ℕ). x ≡ y → ⊥) r.route j i lawful.route.distinct q (omega arith) (sym same))
      go (no h) (no q) = omega arith

  -- a slot in which the row's hop works is no sooner than its offset
  takes_from : {node slot o : ℕ} (w : Works e.book node slot r o) → (turn : ℕ) × (slot ≡ row_offset r w.hop + turn * (r.period * S))
  takes_from {slot = slot} w = (w.active.takes.turn, subst (λ (s : ℕ). slot ≡ row_offset r w.hop + w.active.takes.turn * (r.period * s)) plan_same w.active.takes.at)

  -- THE SOURCE
  pub sends_there : Has tables (get_or r.route 0 0 * L + row_offset r 0) (on_way r.way 1) r.id
  sends_there =
      let some = lawful.route.some in
      seen_has (get_or r.route 0 0) (row_offset r 0) 0 (node_known 0 (omega arith)) (offset_inside 0 some) some (first_turn lawful.period) (sends refl refl)

  -- it sends in the turns of the first offset
  sends_when : (node slot : ℕ) → node < n → slot < L → Has tables (node * L + slot) (on_way r.way 1) r.id
      → (node ≡ get_or r.route 0 0) × (turn : ℕ) × (slot ≡ row_offset r 0 + turn * (r.period * S))
  sends_when node slot k l h =
      let w = seen_works {o = 1} node slot k l (omega arith) (omega arith) h in
      let d = sender w.does (inl refl) in
      let t = takes_from w in
      (d.0 ∙ ap (λ (i : ℕ). get_or r.route i 0) (d.1 refl), t.0, t.1 ∙ ap (λ (i : ℕ). row_offset r i + t.0 * (r.period * S)) (d.1 refl))

  pub sends_first : (i : ℕ) → i < n * L → Has tables i (on_way r.way 1) r.id → get_or r.route 0 0 * L + row_offset r 0 ≤ i
  sends_first i l h =
      let some : 1 ≤ L = omega (arith, offset_inside 0 lawful.route.some) in
      let whole : i / L * L + i % L ≡ i = div-add-mod' i L in
      let slot : i % L < L = mod-lt i some in
      let node : i / L < n = (div-lt_iff_lt-mul {k = L} {x = i} {y = n} some).1 l in
      let w = sends_when (i / L) (i % L) node slot (subst (λ (j : ℕ). Has tables j (on_way r.way 1) r.id) (sym whole) h) in
      omega (arith, ap (λ (x : ℕ). x * L) w.0, w.2)

  -- where it sends again tells the period
  pub period_read : {start end again : ℕ} → start ≡ get_or r.route 0 0 * L + row_offset r 0 → end ≡ get_or r.route 0 0 * L + L
      → Next tables (start + 1) end (on_way r.way 1) r.id again → ((again ≡ end) × (r.period ≡ short_tiles)) ⊎ ((again < end) × (again ≡ start + r.period * S))
  period_read {start} {end} {again} at until next = ⊎_elim once twice fit.often
    where
      later : again < end → (turn : ℕ) × (again ≡ start + suc turn * (r.period * S))
      later l =
          let low = next.low in
          let e' : get_or r.route 0 0 * L + (again - get_or r.route 0 0 * L) ≡ again = omega arith in
          let w = sends_when (get_or r.route 0 0) (again - get_or r.route 0 0 * L) (node_known 0 (omega arith)) (omega arith)
          (subst (λ (j : ℕ). Has tables j (on_way r.way 1) r.id) (sym e') (next.found l)) in
          go w.1 (omega (arith, w.2))
        where
          go : (turn : ℕ) → again ≡ start + turn * (r.period * S) → (turn : ℕ) × (again ≡ start + suc turn * (r.period * S))
          go zero z = absurd (omega (arith, next.low))
          go (suc turn) z = (turn, z)

      once : r.period ≡ short_tiles → ((again ≡ end) × (r.period ≡ short_tiles)) ⊎ ((again < end) × (again ≡ start + r.period * S))
      once k = inl (go (dec_lt again end), k)
        where
          go : Dec (again < end) → again ≡ end
          go (yes l) = let (turn, z) = later l in absurd (omega (arith, ap (λ (x : ℕ). x * S) k, e.slots_are))
          go (no l) = omega (arith, next.high)

      twice : 2 * r.period ≤ short_tiles → ((again ≡ end) × (r.period ≡ short_tiles)) ⊎ ((again < end) × (again ≡ start + r.period * S))
      twice k =
          let some = lawful.route.some in
          let inside : row_offset r 0 + r.period * S < L = subst (λ (m : ℕ). row_offset r 0 + r.period * S < m) e.slots_are (second_inside e.site wide r lawful k 0 some) in
          let h = seen_has (get_or r.route 0 0) (row_offset r 0 + r.period * S) 0 (node_known 0 (omega arith)) inside some (second_turn e.site wide r (omega arith) fit k 0) (sends refl refl) in
          let step : 1 * 1 ≤ r.period * S = mul-le-mul fit.some wide in
          let l : again ≤ get_or r.route 0 0 * L + (row_offset r 0 + r.period * S) = next.first _ (omega arith) (omega arith) h in
          let (turn, z) = later (omega arith) in
          inr (omega arith, omega arith)

  -- A HOP
  module _ (i : ℕ) (inside : i < hops r) where
    abbrev to : ℕ
    to = get_or r.route (suc i) 0

    pub receives_there : (o : ℕ) × Has tables (to * L + row_offset r i) (on_way r.way o) r.id × ((o ≡ 2) ⊎ (o ≡ 4))
    receives_there =
        let t = received r i inside in
        (t.0, seen_has to (row_offset r i) i (node_known (suc i) inside) (offset_inside i inside) inside (first_turn lawful.period) t.1, t.2)

    hop_is : {node o : ℕ} → (w : Works e.book node (row_offset r i) r o) → w.hop ≡ i
    hop_is {node} w =
        one_hop e.book e.shown.lawful node (row_offset r i) r w.hop i w.active record { row = e.there; hop = inside; takes = first_turn lawful.period }

    -- who receives in its slot is its end, and whether for above tells whether it is the last
    pub receiver_is : {o : ℕ} (node : ℕ) → node < n → (o ≡ 2) ⊎ (o ≡ 4) → Has tables (node * L + row_offset r i) (on_way r.way o) r.id
        → (node ≡ to) × ((o ≡ 4) ⊎ (suc i < hops r)) × (o ≡ 4 → suc i ≡ hops r)
    receiver_is {o} node k two h =
        let w = seen_works node (row_offset r i) k (offset_inside i inside) (some two) (most two) h in
        let j = hop_is w in
        let l = last (subst (λ (x : ℕ). Does node r x o) j w.does) two in
        (receiver w.does two ∙ ap (λ (x : ℕ). get_or r.route (suc x) 0) j, l.0, l.1)
      where
        some : (o ≡ 2) ⊎ (o ≡ 4) → 1 ≤ o
        some (inl z) = omega arith
        some (inr z) = omega arith

        most : (o ≡ 2) ⊎ (o ≡ 4) → o ≤ 4
        most (inl z) = omega arith
        most (inr z) = omega arith

        last : {o : ℕ} → Does node r i o → (o ≡ 2) ⊎ (o ≡ 4) → ((o ≡ 4) ⊎ (suc i < hops r)) × (o ≡ 4 → suc i ≡ hops r)
        last (sends p q) (inl z) = absurd (omega arith)
        last (sends p q) (inr z) = absurd (omega arith)
        last (receives p q) z = (inr q, λ y. absurd (omega arith))
        last (forwards p q) (inl z) = absurd (omega arith)
        last (forwards p q) (inr z) = absurd (omega arith)
        last (delivers p q) z = (inl refl, λ y. q)

    -- its end forwards in the turns of the next offset
    forwards_when : (slot : ℕ) → slot < L → Has tables (to * L + slot) (on_way r.way 3) r.id → (turn : ℕ) × (slot ≡ row_offset r (suc i) + turn * (r.period * S))
    forwards_when slot l h =
        let w = seen_works {o = 3} to slot (node_known (suc i) inside) l (omega arith) (omega arith) h in
        let d = sender w.does (inr refl) in
        let j : suc i ≡ w.hop = node_apart (suc i) w.hop inside (omega (arith, w.active.hop)) d.0 in
        let t = takes_from w in
        (t.0, t.1 ∙ ap (λ (x : ℕ). row_offset r x + t.0 * (r.period * S)) (sym j))

    -- so the next hop is where it forwards first
    pub forward_read : {from until at : ℕ} → suc i < hops r → from ≡ to * L + row_offset r i + 1 → until ≡ to * L + L → Next tables from until (on_way r.way 3) r.id at
        → at ≡ to * L + row_offset r (suc i)
    forward_read {from} {until} {at} more begins ends next =
        let rises : row_offset r i < row_offset r (suc i) = pair_at ◌<◌ r.offsets i (suc i) lawful.offsets.rising (omega arith) (omega (arith, lawful.offsets.count)) in
        let h = seen_has to (row_offset r (suc i)) (suc i) (node_known (suc i) inside) (offset_inside (suc i) more) more (first_turn lawful.period) (forwards refl (omega arith)) in
        let m = offset_inside (suc i) more in
        let l : at ≤ to * L + row_offset r (suc i) = next.first _ (omega arith) (omega arith) h in
        let low = next.low in
        let e' : to * L + (at - to * L) ≡ at = omega arith in
        let w = forwards_when (at - to * L) (omega arith) (subst (λ (j : ℕ). Has tables j (on_way r.way 3) r.id) (sym e') (next.found (omega arith))) in
        omega (arith, w.1)
