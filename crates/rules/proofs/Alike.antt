-- What a table shows tells the rows: books that show the same in so many tiles, in which their periods come round, have the same rows.
use mathlib.Core.Path.{◌≡◌, refl, sym, ap, ap₂, ◌∙◌, subst, subst₂}
use mathlib.Core.Logic.{◌⊎◌, inl, inr}
use mathlib.Core.Bool.{Bool, true, false, cond}
use mathlib.Core.List.{List, ◌∷◌}
use Prim.Native.Nat.{ℕ, zero, suc, ◌+◌, ◌<◌, ◌≤◌}
use native.Mathlib.Decide.{dec_lt}
use native.Mathlib.Nat.{div-add-mod'}
use native.Mathlib.Omega.{arith}
use lib.Dec.{eqb}
use lib.ListN.{length, get_or}
use Rattle.rules.specs.Words.{◌∈◌, Tests}
use Rattle.rules.specs.Tiles.{cycle_tiles, slots_of}
use Rattle.rules.specs.Topology.{nodes}
use Rattle.rules.specs.Book.{Site, Row, Book, key, hops, row_hop, row_offset, LawfulBook}
use Rattle.rules.specs.Image.{word, word_at}
use Rattle.rules.specs.Table.{Active, Does, on_way, Entry, TablePart}
use Rattle.rules.specs.Table.Does.{sends, receives, forwards, delivers}
use Rattle.rules.specs.Table.Entry.{sleep, works, control}
use Rattle.rules.proofs.Tests.{never, tests_eq}
use Rattle.rules.proofs.Lists.{at_in, rising_one, rising_unique}
use Rattle.rules.proofs.Entries.{does_work, Working, on_way_works, idle_not_working, one_hop, entry_unique}
use Rattle.rules.proofs.Lawful.{same_site}
use Rattle.rules.proofs.Air.{Fit, Follow, Follows, first_inside, first_turn, row_same}

-- OPERATIONS

-- what is shown tells the way and the operation
pub way_and_operation : (w u o p : ℕ) → 1 ≤ w → w ≤ 2 → 1 ≤ u → u ≤ 2 → o ≤ 4 → p ≤ 4 → on_way w o ≡ on_way u p → (w ≡ u) × (o ≡ p)
way_and_operation w u o p some_w most_w some_u most_u few_o few_p = go (eqb w 2) (eqb u 2) (tests_eq w 2) (tests_eq u 2)
  where
    go : (s t : Bool) → Tests s (w ≡ 2) → Tests t (u ≡ 2) → cond s (16 + o) o ≡ cond t (16 + p) p → (w ≡ u) × (o ≡ p)
    go true true f g e = (f.yes refl ∙ sym (g.yes refl), omega arith)
    go true false f g e = absurd (omega arith)
    go false true f g e = absurd (omega arith)
    go false false f g e =
        let k : w ≡ 2 → ⊥ = λ h. never (f.back h) in
        let l : u ≡ 2 → ⊥ = λ h. never (g.back h) in
        (omega arith, e)

-- who sends, and in operation 1 in the first hop
pub sender : {node i o : ℕ} {r : Row} → Does node r i o → (o ≡ 1) ⊎ (o ≡ 3) → (node ≡ (row_hop r i).from) × (o ≡ 1 → i ≡ 0)
sender (sends e z) h = (e, λ k. z)
sender (receives e l) (inl h) = absurd (omega arith)
sender (receives e l) (inr h) = absurd (omega arith)
sender (forwards e l) h = (e, λ k. absurd (omega arith))
sender (delivers e l) (inl h) = absurd (omega arith)
sender (delivers e l) (inr h) = absurd (omega arith)

-- who receives
pub receiver : {node i o : ℕ} {r : Row} → Does node r i o → (o ≡ 2) ⊎ (o ≡ 4) → node ≡ (row_hop r i).to
receiver (sends e z) (inl h) = absurd (omega arith)
receiver (sends e z) (inr h) = absurd (omega arith)
receiver (receives e l) h = e
receiver (forwards e l) (inl h) = absurd (omega arith)
receiver (forwards e l) (inr h) = absurd (omega arith)
receiver (delivers e l) h = e

-- the sender's operation in a hop, and the receiver's
pub sent : (r : Row) (i : ℕ) → (o : ℕ) × Does (row_hop r i).from r i o × ((o ≡ 1) ⊎ (o ≡ 3)) × (i ≡ 0 → o ≡ 1)
sent r zero = (1, sends refl refl, inl refl, λ e. refl)
sent r (suc i) = (3, forwards refl (omega arith), inr refl, λ e. absurd (omega arith))

pub received : (r : Row) (i : ℕ) → i < hops r → (o : ℕ) × Does (row_hop r i).to r i o × ((o ≡ 2) ⊎ (o ≡ 4))
received r i l = go (dec_lt (suc i) (hops r))
  where
    go : Dec (suc i < hops r) → (o : ℕ) × Does (row_hop r i).to r i o × ((o ≡ 2) ⊎ (o ≡ 4))
    go (yes h) = (2, receives refl h, inl refl)
    go (no h) = (4, delivers refl (omega arith), inr refl)

-- an entry of a stream is some row's
pub record Worker (c : Book) (node slot o id : ℕ) : Type 0 where
  pub row : Row
  pub hop : ℕ
  pub operation : ℕ
  pub active : Active c slot row hop
  pub does : Does node row hop operation
  pub shown : o ≡ on_way row.way operation
  pub named : id ≡ row.id

pub worker : {c : Book} {node slot o id : ℕ} → Entry c node slot o id → Working o → Worker c node slot o id
worker (sleep d n) w = absurd (idle_not_working 0 w (inl refl))
worker (control d) w = absurd (idle_not_working 5 w (inr refl))
worker (works {r} {i} {operation} a d) w = record { row = r; hop = i; operation = operation; active = a; does = d; shown = refl; named = refl }

-- THE TABLES OF TWO BOOKS

-- the book of these rows on the site
abbrev on : Site → List Row → Book
on site rows = record { site = site; rows = rows }

-- at every node the books have one table of so many tiles
abbrev pub AlikeIn : ℕ → Book → Book → Type 0
AlikeIn tiles b c = (node : ℕ) → node < nodes b.site.links → (table : List ℕ) × TablePart b node 0 tiles table × TablePart c node 0 tiles table

-- every period comes round in so many tiles
abbrev pub AllFit : ℕ → List Row → Type 0
AllFit tiles rows = (r : Row) → r ∈ rows → Fit tiles r.period

-- equal account numbers by id
abbrev pub SameNumbers : List Row → List Row → Type 0
SameNumbers xs ys = (r x : Row) → r ∈ xs → x ∈ ys → r.id ≡ x.id → r.account ≡ x.account

-- ROWS OF ONE BOOK IN THE OTHER
module _ (site : Site) (xs ys : List Row) (lb : LawfulBook (on site xs)) (lc : LawfulBook (on site ys)) (tiles : ℕ) (look : AlikeIn tiles (on site xs) (on site ys)) where
  abbrev S : ℕ
  S = site.plan.slots

  -- what the one book shows, the other shows
  shares : (node slot o id : ℕ) → node < nodes site.links → slot < slots_of site.plan tiles → Entry (on site xs) node slot o id → Entry (on site ys) node slot o id
  shares node slot o id k m e =
      let (table, t, u) = look node k in
      let x = t.entries slot m in
      let y = u.entries slot m in
      let from_start : slots_of site.plan 0 + slot ≡ slot = omega arith in
      let v = entry_unique (on site xs) lb node slot e (subst (λ (i : ℕ). Entry (on site xs) node i x.0 x.1) from_start x.2) in
      let bytes : x.0 ∷ word x.1 ≡ y.0 ∷ word y.1 = sym x.3 ∙ y.3 in
      let f : x.0 ≡ y.0 = ap (λ (s : List ℕ). get_or s 0 0) bytes in
      let g : x.1 ≡ y.1 = sym (div-add-mod' x.1 256) ∙ ap (λ (s : List ℕ). word_at s 1) bytes ∙ div-add-mod' y.1 256 in
      subst₂ (Entry (on site ys) node slot) (sym (v.0 ∙ f)) (sym (v.1 ∙ g)) (subst (λ (i : ℕ). Entry (on site ys) node i y.0 y.1) from_start y.2)

  -- a row of the other book that does the same, of the same id and way
  record Found (node slot : ℕ) (r : Row) (o : ℕ) : Type 0 where
    row : Row
    hop : ℕ
    active : Active (on site ys) slot row hop
    does : Does node row hop o
    id : r.id ≡ row.id
    way : r.way ≡ row.way

  found : (node slot : ℕ) (r : Row) (i o : ℕ) → node < nodes site.links → slot < slots_of site.plan tiles → Active (on site xs) slot r i → Does node r i o → Found node slot r o
  found node slot r i o k inside a d =
      let lr = lb.rows r a.row in
      let w = worker (shares node slot (on_way r.way o) r.id k inside (works a d)) (on_way_works r.way o (does_work d)) in
      let lx = lc.rows w.row w.active.row in
      let e = way_and_operation r.way w.row.way o w.operation lr.way_some lr.way_most lx.way_some lx.way_most
      (does_work d).1 (does_work w.does).1 w.shown in
      record { row = w.row; hop = w.hop; active = w.active; does = subst (Does node w.row w.hop) (sym e.1) w.does; id = w.named; way = e.0 }

  same_key : (r x : Row) → r.id ≡ x.id → r.way ≡ x.way → key r ≡ key x
  same_key r x e f = omega (arith, e, f)

  -- in a slot the row's hop is a hop of a row of the same id and way
  record Partner (r : Row) (i slot : ℕ) : Type 0 where
    row : Row
    there : row ∈ ys
    id : r.id ≡ row.id
    way : r.way ≡ row.way
    follow : Follow S r row i slot

  partner : (r : Row) (i slot : ℕ) → slot < slots_of site.plan tiles → Active (on site xs) slot r i → Partner r i slot
  partner r i slot inside a =
      let known : (k : ℕ) → k < length r.route → get_or r.route k 0 < nodes site.links = λ k l. (lb.rows r a.row).route.known _ (at_in r.route k l) in
      let h = a.hop in
      let s = sent r i in
      let t = received r i a.hop in
      let f = found (row_hop r i).from slot r i s.0 (known i (omega arith)) inside a s.1 in
      let g = found (row_hop r i).to slot r i t.0 (known (suc i) (omega arith)) inside a t.1 in
      let e : g.row ≡ f.row =
      rising_one ys g.row f.row lc.rising g.active.row f.active.row (sym (same_key r g.row g.id g.way) ∙ same_key r f.row f.id f.way) in
      let j : g.hop ≡ f.hop =
      one_hop (on site ys) lc (row_hop r i).from slot f.row g.hop f.hop (subst (λ (x : Row). Active (on site ys) slot x g.hop) e g.active) f.active in
      let p = sender f.does s.2 in
      record {
        row = f.row;
        there = f.active.row;
        id = f.id;
        way = f.way;
        follow = record {
          hop = f.hop;
          there = f.active.hop;
          takes = f.active.takes;
          from_same = p.0;
          to_same = receiver g.does t.2 ∙ ap₂ (λ (x : Row) (k : ℕ). (row_hop x k).to) e j;
          first = λ z. p.1 (s.3 z);
        };
      }

  follows : (r x : Row) → r ∈ xs → x ∈ ys → key r ≡ key x → Follows S tiles r x
  follows r x m n k i slot l takes inside =
      let p = partner r i slot inside record { row = m; hop = l; takes = takes } in
      let e : p.row ≡ x = rising_one ys p.row x lc.rising p.there n (sym (same_key r p.row p.id p.way) ∙ k) in
      subst (λ (v : Row). Follow S r v i slot) e p.follow

module _ (site : Site) (xs ys : List Row) (lb : LawfulBook (on site xs)) (lc : LawfulBook (on site ys))
    (tiles : ℕ) (most : tiles ≤ cycle_tiles) (fb : AllFit tiles xs) (fc : AllFit tiles ys) (numbers : SameNumbers xs ys) (look : AlikeIn tiles (on site xs) (on site ys))
    (back : AlikeIn tiles (on site ys) (on site xs)) where
  each_there : (r : Row) → r ∈ xs → r ∈ ys
  each_there r m =
      let lr = lb.rows r m in
      let wide = lb.site.plan.some in
      let inside = first_inside site wide r lr (fb r m) 0 lr.route.some in
      let p = partner site xs ys lb lc tiles look r 0 (row_offset r 0) inside record { row = m; hop = lr.route.some; takes = first_turn lr.period } in
      let k : key r ≡ key p.row = omega (arith, p.id, p.way) in
      let e : p.row ≡ r =
      sym (row_same site wide tiles most r p.row lr (lc.rows p.row p.there) (fb r m) (fc p.row p.there) (follows site xs ys lb lc tiles look r p.row m p.there k)
      (follows site ys xs lc lb tiles back p.row r p.there m (sym k)) p.id p.way (numbers r p.row m p.there p.id)) in
      subst (λ (x : Row). x ∈ ys) e p.there

-- THE THEOREM
pub alike_same : (tiles : ℕ) → tiles ≤ cycle_tiles → (b c : Book) → LawfulBook b → LawfulBook c → b.site ≡ c.site → AllFit tiles b.rows → AllFit tiles c.rows
    → SameNumbers b.rows c.rows → AlikeIn tiles b c → b ≡ c
alike_same tiles most b c lb lc e fb fc numbers look = λ i. record { site = e i; rows = rows i }
  where
    same : c ≡ on b.site c.rows
    same = sym (same_site b c (sym e))

    lc' : LawfulBook (on b.site c.rows)
    lc' = subst LawfulBook same lc

    look' : AlikeIn tiles b (on b.site c.rows)
    look' = subst (AlikeIn tiles b) same look

    back : AlikeIn tiles (on b.site c.rows) b
    back node l = let (table, t, u) = look' node l in (table, u, t)

    rows : b.rows ≡ c.rows
    rows =
        rising_unique b.rows c.rows lb.rising lc.rising (each_there b.site b.rows c.rows lb lc' tiles most fb fc numbers look' back)
        (each_there b.site c.rows b.rows lc' lb tiles most fc fb (λ x r m k e. sym (numbers r x k m (sym e))) back look')
