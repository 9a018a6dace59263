-- Hop by hop, what is read of a row is its front.
use mathlib.Core.Path.{◌≡◌, refl, sym, ap, ap₂, ◌∙◌, subst, subst₂}
use mathlib.Core.Logic.{◌⊎◌, ⊎_elim}
use mathlib.Core.List.{List, [], ◌∷◌, ◌++◌, map}
use Prim.Native.Nat.{ℕ, suc, ◌+◌, ◌*◌, ◌/◌, ◌%◌, ◌-◌, ◌<◌, ◌≤◌}
use native.Mathlib.Nat.{add-mul-div_right, add-mul-mod_self_right, div-eq_of_lt, mod-eq_of_lt, div-add-mod', mod-lt, div-lt_iff_lt-mul, mul-le-mul, le_refl}
use native.Mathlib.Numerals.{add-one}
use native.Mathlib.Omega.{arith}
use lib.ListN.{length, get_or, set, take, length-map}
use lib.Seq.{take-suc, take-suc-set, take_all}
use Rattle.rules.specs.Tiles.{short_tiles}
use Rattle.rules.specs.Book.{Row, hops, row_offset}
use Rattle.rules.specs.Table.{on_way}
use Rattle.rules.specs.Tables.{operation_at}
use Rattle.rules.specs.Records.{node_numbers, slot_numbers, the_route, the_offsets}
use Rattle.rules.specs.declared.{Node.Node, Slot.Slot, Placed.Placed}
use Rattle.rules.proofs.Records.{map_set}
use Rattle.rules.proofs.Seen.{Has, Next, lawful, period_read, offset_inside, node_known, receives_there, receiver_is, forward_read}
use Rattle.rules.proofs.Alike.{way_and_operation}
use Rattle.entries.specs.Entries.{Receives, Receiver}
use Rattle.entries.specs.tracing.Rows.{RowFrom, PeriodRead, RouteRead, Traced}

-- the node and the slot of an entry
pub node_of : (L v o : ℕ) → o < L → (v * L + o) / L ≡ v
node_of L v o l =
    let e : v * L + o ≡ o + v * L = omega arith in
    ap (λ (x : ℕ). x / L) e ∙ add-mul-div_right o v {z = L} (omega arith) ∙ ap (λ (x : ℕ). x + v) (div-eq_of_lt l) ∙ omega arith

pub slot_of : (L v o : ℕ) → o < L → (v * L + o) % L ≡ o
slot_of L v o l =
    let e : v * L + o ≡ o + v * L = omega arith in
    ap (λ (x : ℕ). x % L) e ∙ add-mul-mod_self_right o v L ∙ mod-eq_of_lt l

-- one more behind the same front
front_more : {A : Type 0} (number : A → ℕ) (l : List A) (m : List ℕ) (h : ℕ) (v : A) → h < length l → h < length m → take h (map number l) ≡ take h m → number v ≡ get_or m h 0
    → take (h + 1) (map number (set l h v)) ≡ take (h + 1) m
front_more number l m h v j k e f =
    let long = length-map l number in
    ap (take (h + 1)) (map_set number l h v) ∙ ap (λ (n : ℕ). take n (set (map number l) h (number v))) (add-one h) ∙ take-suc-set (map number l) h (number v) (omega arith)
    ∙ ap₂ (λ (xs : List ℕ) (x : ℕ). xs ++ (x ∷ [])) e f ∙ sym (take-suc m h 0 k) ∙ ap (λ (n : ℕ). take n m) (sym (add-one h))

-- so far the front of the row was read, and its next hop starts in the entry
pub record Along (h at L : ℕ) (nodes : List Node) (offsets : List Slot) (r : Row) : Type 0 where
  pub more : h < hops r
  pub at_is : at ≡ get_or r.route h 0 * L + row_offset r h
  pub route_is : take (h + 1) (node_numbers nodes) ≡ take (h + 1) r.route
  pub offsets_are : take h (slot_numbers offsets) ≡ take h r.offsets

-- and of the node that receives in the hop: it is the row's next, and what it receives for tells whether it is the last
pub record Heard (tables : List ℕ) (h at node L way : ℕ) (r : Row) : Type 0 where
  pub node_is : node ≡ get_or r.route (suc h) 0
  pub slot_is : at % L ≡ row_offset r h
  pub last : operation_at tables (node * L + at % L) ≡ on_way way 4 → suc h ≡ hops r
  pub on : (operation_at tables (node * L + at % L) ≡ on_way way 4 → ⊥) → suc h < hops r

module _ {tables : List ℕ} {n L start way id : ℕ} {r : Row} (f : RowFrom tables n L start way id r) where
  nodes_long : length r.route ≡ hops r + 1
  nodes_long = omega (arith, (lawful f.seen).route.some)

  pub along_first : (rest : List Node) (offsets : List Slot) → Along 0 start L (record { 0 = start / L } ∷ rest) offsets r
  along_first rest offsets =
      let some = (lawful f.seen).route.some in
      record {
        more = some;
        at_is = f.start_is;
        route_is = front_more (λ (n : Node). n.0) (record { 0 = 0 } ∷ rest) r.route 0 (record { 0 = start / L }) (omega arith) (omega (arith, nodes_long)) refl
            (ap (λ (x : ℕ). x / L) f.start_is ∙ node_of L (get_or r.route 0 0) (row_offset r 0) (offset_inside f.seen 0 some));
        offsets_are = refl;
      }

  module _ {h at : ℕ} {nodes : List Node} {offsets : List Slot} (a : Along h at L nodes offsets r) where
    slot : at % L ≡ row_offset r h
    slot = ap (λ (x : ℕ). x % L) a.at_is ∙ slot_of L (get_or r.route h 0) (row_offset r h) (offset_inside f.seen h a.more)

    there : Receives tables (get_or r.route (suc h) 0 * L + at % L) way id
    there =
        let t = receives_there f.seen h a.more in
        subst₂ (λ (w k : ℕ). Receives tables (get_or r.route (suc h) 0 * L + at % L) w k) f.way_is f.id_is
        (subst (λ (s : ℕ). Receives tables (get_or r.route (suc h) 0 * L + s) r.way r.id) (sym slot) record { operation = t.0; has = t.1; two = t.2 })

    -- someone receives
    pub not_lost : {node : ℕ} → Receiver tables n L (at % L) way id node → node ≡ n → ⊥
    not_lost g e = omega (arith, e, g.first (get_or r.route (suc h) 0) (node_known f.seen (suc h) a.more) there, node_known f.seen (suc h) a.more)

    pub heard : {node : ℕ} → Receiver tables n L (at % L) way id node → node < n → Heard tables h at node L way r
    heard {node} g l =
        let w = g.found l in
        let has : Has tables (node * L + row_offset r h) (on_way r.way w.operation) r.id =
        subst₂ (λ (u k : ℕ). Has tables (node * L + row_offset r h) (on_way u w.operation) k) (sym f.way_is) (sym f.id_is)
        (subst (λ (s : ℕ). Has tables (node * L + s) (on_way way w.operation) id) slot w.has) in
        let is = receiver_is f.seen h a.more node l w.two has in
        record {
          node_is = is.0;
          slot_is = slot;
          last = λ e. is.2 (plain w.operation w.two (sym w.has.operation_is ∙ e));
          on = λ z. ⊎_elim (λ (e : w.operation ≡ 4). absurd (z (w.has.operation_is ∙ ap (on_way way) e))) (λ (k : suc h < hops r). k) is.1;
        }
      where
        plain : (o : ℕ) → (o ≡ 2) ⊎ (o ≡ 4) → on_way way o ≡ on_way way 4 → o ≡ 4
        plain o two e' =
            let w = lawful f.seen in
            let e : on_way r.way o ≡ on_way r.way 4 = subst (λ (u : ℕ). on_way u o ≡ on_way u 4) (sym f.way_is) e' in
            let few : o ≤ 4 = ⊎_elim (λ (z : o ≡ 2). omega arith) (λ (z : o ≡ 4). omega arith) two in
            (way_and_operation r.way r.way o 4 w.way_some w.way_most w.way_some w.way_most few (omega arith) e).1

    -- a route has no more hops
    pub out_of_hops : 15 ≤ h → ⊥
    out_of_hops l = omega (arith, a.more, (lawful f.seen).route_most)

    module _ {node : ℕ} (d : Heard tables h at node L way r) (long : length nodes ≡ 16) (wide : length offsets ≡ 15) where
      hops_few : hops r ≤ 15
      hops_few = (lawful f.seen).route_most

      route_more : take (h + 1 + 1) (node_numbers (set nodes (h + 1) (record { 0 = node }))) ≡ take (h + 1 + 1) r.route
      route_more =
          let l = a.more in
          front_more (λ (n : Node). n.0) nodes r.route (h + 1) (record { 0 = node }) (omega (arith, hops_few)) (omega (arith, nodes_long)) a.route_is
          (d.node_is ∙ ap (λ (i : ℕ). get_or r.route i 0) (sym (add-one h)))

      offsets_more : take (h + 1) (slot_numbers (set offsets h (record { 0 = at % L }))) ≡ take (h + 1) r.offsets
      offsets_more =
          let l = a.more in
          front_more (λ (s : Slot). s.0) offsets r.offsets h (record { 0 = at % L }) (omega (arith, hops_few)) (omega (arith, (lawful f.seen).offsets.count)) a.offsets_are d.slot_is

      -- the last hop
      pub read_last : operation_at tables (node * L + at % L) ≡ on_way way 4
          → RouteRead (record { route = record { hops = h + 1; nodes = set nodes (h + 1) (record { 0 = node }) }; offsets = set offsets h (record { 0 = at % L }) }) r
      unfolding the_route the_offsets
      read_last e =
          let z = d.last e in
          record {
            hops_are = omega arith;
            route_is = route_more ∙ take_all (h + 1 + 1) r.route (omega (arith, nodes_long));
            offsets_are = offsets_more ∙ take_all (h + 1) r.offsets (omega (arith, (lawful f.seen).offsets.count));
          }

      -- or the next
      forwards_next : {next end forward : ℕ} → (operation_at tables (node * L + at % L) ≡ on_way way 4 → ⊥) → end ≡ (node + 1) * L → forward ≡ on_way way 3
          → Next tables (node * L + at % L + 1) end forward id next → next ≡ node * L + row_offset r (suc h)
      forwards_next {next} {end} {forward} z e g t =
          let k : next ≡ get_or r.route (suc h) 0 * L + row_offset r (suc h) =
          forward_read f.seen h a.more (d.on z) (ap₂ (λ (v s : ℕ). v * L + s + 1) d.node_is d.slot_is) (ap (λ (v : ℕ). (v + 1) * L) d.node_is ∙ omega arith)
          (subst₂ (λ (o k : ℕ). Next tables (node * L + at % L + 1) ((node + 1) * L) o k next) (g ∙ ap (λ (w : ℕ). on_way w 3) (sym f.way_is)) (sym f.id_is)
          (subst (λ (x : ℕ). Next tables (node * L + at % L + 1) x forward id next) e t)) in
          k ∙ ap (λ (v : ℕ). v * L + row_offset r (suc h)) (sym d.node_is)

      pub not_ended : {next end forward : ℕ} → (operation_at tables (node * L + at % L) ≡ on_way way 4 → ⊥) → end ≡ (node + 1) * L → forward ≡ on_way way 3
          → Next tables (node * L + at % L + 1) end forward id next → next ≡ end → ⊥
      not_ended {next} {end} z e g t k =
          let m : end ≡ node * L + L = e ∙ omega arith in
          omega (arith, forwards_next z e g t, offset_inside f.seen (suc h) (d.on z))

      pub along_more : {next end forward : ℕ} → (operation_at tables (node * L + at % L) ≡ on_way way 4 → ⊥) → end ≡ (node + 1) * L → forward ≡ on_way way 3
          → Next tables (node * L + at % L + 1) end forward id next → Along (h + 1) next L (set nodes (h + 1) (record { 0 = node })) (set offsets h (record { 0 = at % L })) r
      along_more z e g t = record {
        more = omega (arith, d.on z);
        at_is = forwards_next z e g t ∙ ap₂ (λ (v i : ℕ). v * L + row_offset r i) d.node_is (sym (add-one h)) ∙ ap (λ (i : ℕ). get_or r.route i 0 * L + row_offset r (h + 1)) (sym (add-one h));
        route_is = route_more;
        offsets_are = offsets_more;
      }

-- it leads nowhere, and there is no such row
pub traced_none : {tables : List ℕ} {n L start way id : ℕ} {p : Placed} → (p.route.hops ≡ 0) × (length p.route.nodes ≡ 16) × (length p.offsets ≡ 15)
    → ((r : Row) → RowFrom tables n L start way id r → ⊥) → Traced tables n L start way id p
traced_none e f = record { short = omega (arith, e.0); nodes_hold = e.1; hops_hold = e.2; read = λ r g. absurd (f r g) }

-- a node's entry in a slot is in its table, and that is inside the tables
pub record Within (n L node slot : ℕ) : Type 0 where
  pub entry : node * L + slot + 1 ≤ (node + 1) * L
  pub table : (node + 1) * L ≤ n * L

pub within_tables : {n L node slot : ℕ} → node < n → slot < L → Within n L node slot
within_tables {n} {L} {node} {slot} l m = record { entry = omega arith; table = mul-le-mul (omega arith) (le_refl L) }

pub nodes_few : (n L at : ℕ) → n ≤ 64 → at < n * L → 1 ≤ L → at / L < 64
nodes_few n L at l m k = let q : at / L < n = (div-lt_iff_lt-mul {k = L} {x = at} {y = n} k).1 m in omega arith

pub entries_few : (n L : ℕ) → n ≤ 64 → L ≤ 3200 → n * L ≤ 64 * 3200
entries_few n L l m = mul-le-mul l m

-- THE PERIOD
pub end_after : (L start : ℕ) → 1 ≤ L → (start + 1 ≤ (start / L + 1) * L) × ((start / L + 1) * L ≤ start + L)
end_after L start l = let k = mod-lt start l in let e = div-add-mod' start L in (omega arith, omega arith)

pub distance_few : (L S start again : ℕ) → 1 ≤ S → L ≡ short_tiles * S → again ≤ (start / L + 1) * L → (again - start) / S ≤ short_tiles
distance_few L S start again l e m =
    let k = (end_after L start (omega arith)).1 in
    let d : again - start < (short_tiles + 1) * S = omega arith in
    let q : (again - start) / S < short_tiles + 1 = (div-lt_iff_lt-mul {k = S} {x = again - start} {y = short_tiles + 1} l).1 d in
    omega arith

pub factor_few : (a L size : ℕ) → 1 ≤ L → 3 * (a * L) ≤ size → a ≤ size
factor_few a L size l h = let k : a * 1 ≤ a * L = mul-le-mul (le_refl a) l in omega arith

module _ {tables : List ℕ} {S L start way id end again send : ℕ} (wide_tile : 1 ≤ S) (slots : L ≡ short_tiles * S) (ends : end ≡ (start / L + 1) * L) (sends : send ≡ on_way way 1)
    (next : Next tables (start + 1) end send id again) where
  what : (n : ℕ) (r : Row) → RowFrom tables n L start way id r → ((again ≡ end) × (r.period ≡ short_tiles)) ⊎ ((again < end) × (again ≡ start + r.period * S))
  what n r f =
      let inside = offset_inside f.seen 0 (lawful f.seen).route.some in
      let v : start / L ≡ get_or r.route 0 0 = ap (λ (x : ℕ). x / L) f.start_is ∙ node_of L (get_or r.route 0 0) (row_offset r 0) inside in
      let e : end ≡ get_or r.route 0 0 * L + L = ends ∙ ap (λ (x : ℕ). (x + 1) * L) v ∙ omega arith in
      let s : f.seen.site.plan.slots ≡ S = omega (arith, f.seen.slots_are) in
      subst (λ (x : ℕ). ((again ≡ end) × (r.period ≡ short_tiles)) ⊎ ((again < end) × (again ≡ start + r.period * x))) s
      (period_read f.seen f.start_is e
      (subst₂ (λ (o k : ℕ). Next tables (start + 1) end o k again) (sends ∙ ap (λ (w : ℕ). on_way w 1) (sym f.way_is)) (sym f.id_is) next))

  pub read_once : again ≡ end → PeriodRead tables L start way id short_tiles
  read_once e = record {
    short = omega arith;
    read = λ n r f. ⊎_elim (λ (p : (again ≡ end) × (r.period ≡ short_tiles)). sym p.1) (λ (p : (again < end) × (again ≡ start + r.period * S)). absurd (omega (arith, p.0))) (what n r f);
  }

  pub read_again : (again ≡ end → ⊥) → PeriodRead tables L start way id ((again - start) / S)
  read_again z = record {
    short = distance_few L S start again wide_tile slots (omega (arith, next.high));
    read = λ n r f. ⊎_elim (λ (p : (again ≡ end) × (r.period ≡ short_tiles)). absurd (z p.0)) (λ (p : (again < end) × (again ≡ start + r.period * S)). apart r.period p.1) (what n r f);
  }
    where
      apart : (K : ℕ) → again ≡ start + K * S → (again - start) / S ≡ K
      apart K e =
          let d : again - start ≡ 0 + K * S = omega arith in
          ap (λ (x : ℕ). x / S) d ∙ add-mul-div_right 0 K {z = S} wide_tile ∙ ap (λ (x : ℕ). x + K) (div-eq_of_lt wide_tile) ∙ omega arith
