-- An open and a close leave a lawful book, in which no account is overdrawn, and a full-size buffer holds its image.
use mathlib.Core.Path.{◌≡◌, refl, sym, ap, ◌∙◌, subst}
use mathlib.Core.Logic.{◌⊎◌, inl, inr, ⊎_elim}
use mathlib.Core.List.{List, [], ◌∷◌, ◌++◌}
use Prim.Native.Nat.{ℕ, suc, ◌+◌, ◌*◌, ◌<◌, ◌≤◌}
use native.Mathlib.Omega.{arith}
use native.Mathlib.Decide.{ℕ_discrete}
use lib.ListN.{length, get_or}
use Rattle.rules.specs.Words.{TwoBytes, ◌∈◌, total}
use Rattle.rules.specs.Tiles.{Period, periods}
use Rattle.rules.specs.Topology.{hop_count, hop_at, most_route_hops, Path, PathBetween, PathWithin, Beside, SecondPath}
use Rattle.rules.specs.Book.{Site, Row, Book, key, hops, hops_in_all, most_streams, most_hops, row_hop, row_offset, OnData, KnownAccount, LawfulRow, Pair, Paired}
use Rattle.rules.specs.Book.{MeetsClashing, RowsMeet, LawfulBook}
use Rattle.rules.specs.Placing.{Asked, Planned, Full, NewRow, beside, NewRows, NotPaid}
use Rattle.rules.specs.Placing.Planned.{one, two}
use Rattle.rules.specs.Image.{newest, longest_image, encode}
use Rattle.rules.specs.Calls.{OfRoutes, Opened, Closed, open_refusals, Request, Made, request_refusals, Work, InOrder}
use Rattle.rules.specs.Calls.Request.{Open, Close}
use Rattle.rules.specs.Says.{Says}
use Rattle.rules.proofs.Says.{says_none}
use Rattle.rules.proofs.Lists.{reordered_in, reordered_back, in_append, in_left, in_right, joined_length, joined_total}
use Rattle.rules.proofs.Clashes.{rows_meet_turned}
use Rattle.rules.proofs.Meeting.{in_at}
use Rattle.rules.proofs.Encoding.{length_encode}
use Rattle.rules.proofs.Added.{second_within, new_count, new_hops}
use Rattle.rules.proofs.Reading.{with_rows}
use Rattle.rules.proofs.Accounts.{known_account, opened_paid, closed_paid}

-- the longest image of each version
pub longest_images : (longest_image 1 ≡ 2384) × (longest_image 2 ≡ 2448) × (longest_image 3 ≡ 2960) × (longest_image 4 ≡ 3024) × (longest_image 5 ≡ 3345)
longest_images = (refl, refl, refl, refl, refl)

-- a full-size buffer holds the image of every lawful book
pub lawful_length : (c : Book) → LawfulBook c → length (encode newest c) ≤ longest_image newest
lawful_length c l = omega (arith, length_encode newest c l, l.site.accounts.most, l.site.nodes.1, l.streams, l.hops)

-- a book of the same site differs in its rows alone
pub same_site : (b c : Book) → c.site ≡ b.site → with_rows b c.rows ≡ c
same_site b c s = λ i. record { site = sym s i; rows = c.rows }

-- no two of the rows with different keys meet
abbrev pub Quiet : Site → List Row → Type 0
Quiet site rows = (x y : Row) → x ∈ rows → y ∈ rows → (key x ≡ key y → ⊥) → RowsMeet site x y → ⊥

pub lawful_quiet : (b : Book) → LawfulBook b → Quiet b.site b.rows
lawful_quiet b l x y m n d h = l.never_meet record { one = x; other = y; one_there = m; other_there = n; different = d; meets = h }

module _ (site : Site) (r : Row) (rows : List Row) (q : Quiet site rows) (new : (x : Row) → x ∈ rows → RowsMeet site r x → ⊥) where
  pub quiet_more : Quiet site (r ∷ rows)
  quiet_more x y (inl m) (inl n) d h = d (ap key (m ∙ sym n))
  quiet_more x y (inl m) (inr n) d h = new y n (subst (λ (v : Row). RowsMeet site v y) m h)
  quiet_more x y (inr m) (inl n) d h = new x m (rows_meet_turned site x r (subst (RowsMeet site x) n h))
  quiet_more x y (inr m) (inr n) d h = q x y m n d h

module _ (q : Asked) where
  new_quiet : (b : Book) (way : ℕ) (p : List ℕ) (r : Row) → NewRow b q way p r → (x : Row) → x ∈ b.rows → RowsMeet b.site r x → ⊥
  new_quiet b way p r new x h m =
      let e : hops r ≡ hop_count p = ap hop_count new.on in
      (new.placed.placing.free m.hop (omega (arith, m.there))).never_meet x h
      (subst (λ (route : List ℕ). MeetsClashing b.site x q.period (hop_at route m.hop) (row_offset r m.hop)) new.on
      (subst (λ (k : ℕ). MeetsClashing b.site x k (row_hop r m.hop) (row_offset r m.hop)) new.every m.meets))

  moved : (r x : Row) (rs rows : List Row) → x ∈ ((r ∷ rs) ++ rows) → x ∈ (rs ++ (r ∷ rows))
  moved r x rs rows (inl e) = in_right x rs (r ∷ rows) (inl e)
  moved r x rs rows (inr h) = ⊎_elim (λ (k : x ∈ rs). in_left x rs (r ∷ rows) k) (λ (k : x ∈ rows). in_right x rs (r ∷ rows) (inr k)) (in_append x rs rows h)

  all_quiet : (b : Book) (way : ℕ) (ps : List (List ℕ)) (rs : List Row) → NewRows b q way ps rs → Quiet b.site b.rows → Quiet b.site (rs ++ b.rows)
  all_quiet b way [] [] n quiet = quiet
  all_quiet b way [] (r ∷ rs) n quiet = absurd n
  all_quiet b way (p ∷ ps) [] n quiet = absurd n
  all_quiet b way (p ∷ ps) (r ∷ rs) n quiet = λ x y m k.
      let more = quiet_more b.site r b.rows quiet (new_quiet b way p r n.0) in
      all_quiet (beside r b) (suc way) ps rs n.1 more x y (moved r x rs b.rows m) (moved r y rs b.rows k)

-- a row whose first way is among the rows has it among more rows
pub paired_more : (rows more : List Row) (x : Row) → ((r : Row) → r ∈ rows → r ∈ more) → Paired rows x → Paired more x
paired_more rows more x f p e = let t = p e in (t.0, f t.0 t.1, t.2)

module _ (b : Book) (l : LawfulBook b) (middle : ℕ) where
  -- AN OPEN
  module _ (q : Asked) (small : TwoBytes q.id) (some : q.id ≡ 0 → ⊥) (period : Period q.period)
      (account : KnownAccount b.site.accounts q.account) (room : OfRoutes middle q b (Full b) → ⊥) (pays : OfRoutes middle q b (NotPaid b q) → ⊥) where
    row_lawful : (rows : List Row) (way : ℕ) (p : List ℕ) (r : Row) → 1 ≤ way → way ≤ 2 → PathWithin most_route_hops b.site.links middle q.source q.destination p
        → NewRow (with_rows b rows) q way p r → LawfulRow b.site r
    row_lawful rows way p r low high path new = record {
      id_some = omega (arith, new.named, some);
      id_most = omega (arith, new.named);
      way_some = omega (arith, new.nth);
      way_most = omega (arith, new.nth);
      period = subst Period (sym new.every) period;
      route = subst (Path b.site.links) (sym new.on) path.between.path;
      route_most = omega (arith, even, path.most);
      offsets = record {
        count = new.placed.placing.offsets_hold.count ∙ sym even;
        rising = new.placed.placing.offsets_hold.rising;
        within = λ o m. subst (λ (k : ℕ). o < k * b.site.plan.slots) (sym new.every) (new.placed.placing.offsets_hold.within o m);
      };
      on_data = λ o m.
          let i = in_at o r.offsets m in
          subst (λ (k : ℕ). OnData b.site.plan k o) (sym new.every)
          (subst (OnData b.site.plan q.period) (sym i.2)
          (new.placed.placing.free i.0 (omega (arith, i.1, new.placed.placing.offsets_hold.count))).on_data);
      account = subst (KnownAccount b.site.accounts) (sym new.paid_by) account;
    }
      where
        even : hops r ≡ hop_count p
        even = ap hop_count new.on

    -- the second beside the first
    row_pair : (rows : List Row) (p p' : List ℕ) (r x : Row) → PathBetween b.site.links middle q.source q.destination p
        → SecondPath b.site.links middle q.source q.destination p p' → NewRow b q 1 p r → NewRow (with_rows b rows) q 2 p' x → Pair r x
    row_pair rows p p' r x f g m n = record {
      id = m.named ∙ sym n.named;
      first = m.nth;
      period = m.every ∙ sym n.every;
      starts = ap (λ (z : List ℕ). get_or z 0 0) m.on ∙ f.starts ∙ sym (ap (λ (z : List ℕ). get_or z 0 0) n.on ∙ g.0.starts);
      ends = ap (λ (z : List ℕ). get_or z (hop_count z) 0) m.on ∙ f.ends ∙ sym (ap (λ (z : List ℕ). get_or z (hop_count z) 0) n.on ∙ g.0.ends);
      beside = subst (λ (z : List ℕ). Beside z x.route) (sym m.on) (subst (Beside p) (sym n.on) g.1);
      account = m.paid_by ∙ sym n.paid_by;
    }

    -- so each new row is lawful, and a second has its first
    rows_lawful : (ps : List (List ℕ)) (rs : List Row) → Planned b.site.links middle q ps → NewRows b q 1 ps rs
        → (x : Row) → x ∈ rs → LawfulRow b.site x × Paired rs x
    rows_lawful ps [] (one s g) n x h = absurd h
    rows_lawful ps (r ∷ []) (one {p} s g) n x (inl e) =
        subst (λ (v : Row). LawfulRow b.site v × Paired (r ∷ []) v) (sym e)
        (row_lawful b.rows 1 p r (omega arith) (omega arith) g.is n.0, λ w. absurd (omega (arith, n.0.nth)))
    rows_lawful ps (r ∷ []) (one s g) n x (inr h) = absurd h
    rows_lawful ps (r ∷ y ∷ rs) (one s g) n x h = absurd n.1
    rows_lawful ps [] (two s g k) n x h = absurd h
    rows_lawful ps (r ∷ []) (two s g k) n x h = absurd n.1
    rows_lawful ps (r ∷ y ∷ z ∷ rs) (two s g k) n x h = absurd n.1.1
    rows_lawful ps (r ∷ y ∷ []) (two {p} {p'} s g k) n x (inl e) =
        subst (λ (v : Row). LawfulRow b.site v × Paired (r ∷ y ∷ []) v) (sym e)
        (row_lawful b.rows 1 p r (omega arith) (omega arith) g.is n.0, λ w. absurd (omega (arith, n.0.nth)))
    rows_lawful ps (r ∷ y ∷ []) (two {p} {p'} s g k) n x (inr (inl e)) =
        subst (λ (v : Row). LawfulRow b.site v × Paired (r ∷ y ∷ []) v) (sym e) (
          row_lawful (r ∷ b.rows) 2 p' y (omega arith) (omega arith) (second_within k) n.1.0,
          λ w. (r, inl refl, row_pair (r ∷ b.rows) p p' r y g.is.between k.is n.0 n.1.0),
        )
    rows_lawful ps (r ∷ y ∷ []) (two s g k) n x (inr (inr h)) = absurd h

    -- new rows for which there is room leave the book lawful
    pub opened_lawful : (c : Book) → Opened middle b q c → LawfulBook c
    opened_lawful c o = subst LawfulBook (same_site b c o.plus.site) record {
      site = l.site;
      streams = omega (arith, joined_length o.new b.rows o.plus.rows, new_count q b 1 o.routes o.new o.placed, few);
      hops = omega (arith, joined_total hops o.new b.rows o.plus.rows, new_hops q b 1 o.routes o.new o.placed, short);
      rows = λ x m. ⊎_elim (λ (k : x ∈ o.new). (lawful x k).0) (λ (k : x ∈ b.rows). l.rows x k) (from x m);
      rising = o.plus.rising;
      paired = λ x m. ⊎_elim (λ (k : x ∈ o.new). paired_more o.new c.rows x (λ r h. to r (in_left r o.new b.rows h)) (lawful x k).1)
          (λ (k : x ∈ b.rows). paired_more b.rows c.rows x (λ r h. to r (in_right r o.new b.rows h)) (l.paired x k)) (from x m);
      paid = opened_paid middle b l.paid q c o (λ n. pays (o.routes, o.planned, n));
      never_meet = λ m. all_quiet q b 1 o.routes o.new o.placed (lawful_quiet b l) m.one m.other
          (reordered_in m.one o.plus.rows m.one_there) (reordered_in m.other o.plus.rows m.other_there) m.different m.meets;
    }
      where
        from : (x : Row) → x ∈ c.rows → (x ∈ o.new) ⊎ (x ∈ b.rows)
        from x m = in_append x o.new b.rows (reordered_in x o.plus.rows m)

        to : (x : Row) → x ∈ (o.new ++ b.rows) → x ∈ c.rows
        to x m = reordered_back x o.plus.rows m

        lawful : (x : Row) → x ∈ o.new → LawfulRow b.site x × Paired o.new x
        lawful = rows_lawful o.routes o.new o.planned o.placed

        few : most_streams < length b.rows + length o.routes → ⊥
        few k = room (o.routes, o.planned, inl k)

        short : most_hops < hops_in_all b.rows + total hop_count o.routes → ⊥
        short k = room (o.routes, o.planned, inr k)

  -- A CLOSE
  pub closed_lawful : (id : ℕ) (c : Book) → Closed b id c → LawfulBook c
  closed_lawful id c o = subst LawfulBook (same_site b c (sym o.plus.site)) record {
    site = l.site;
    streams = omega (arith, l.streams, joined_length o.gone c.rows o.plus.rows);
    hops = omega (arith, l.hops, joined_total hops o.gone c.rows o.plus.rows);
    rows = λ x m. l.rows x (there x m);
    rising = o.rising;
    paired = λ x m w. let t = l.paired x (there x m) w in (t.0, stays x t.0 m t.1 t.2.id, t.2);
    paid = closed_paid b l.paid id c o;
    never_meet = λ m. lawful_quiet b l m.one m.other (there m.one m.one_there) (there m.other m.other_there) m.different m.meets;
  }
    where
      there : (x : Row) → x ∈ c.rows → x ∈ b.rows
      there x m = reordered_back x o.plus.rows (in_right x o.gone c.rows m)

      stays : (x r : Row) → x ∈ c.rows → r ∈ b.rows → r.id ≡ x.id → r ∈ c.rows
      stays x r m h e =
          ⊎_elim (λ (g : r ∈ o.gone). absurd (o.none_left x m (sym e ∙ o.of_id r g))) (λ (k : r ∈ c.rows). k)
          (in_append r o.gone c.rows (reordered_in r o.plus.rows h))

-- a period that is not none of them is one
is_one : (K : ℕ) (xs : List ℕ) → ((K ∈ xs → ⊥) → ⊥) → K ∈ xs
is_one K [] f = f (λ z. z)
is_one K (x ∷ xs) f = go (ℕ_discrete K x) (is_one K xs)
  where
    go : Dec (K ≡ x) → (((K ∈ xs → ⊥) → ⊥) → K ∈ xs) → K ∈ x ∷ xs
    go (yes e) rest = inl e
    go (no n) rest = inr (rest (λ g. f (λ k. ⊎_elim n g k)))

-- A REQUEST that is done leaves a lawful book
pub made_lawful : (b : Book) → LawfulBook b → (middle : ℕ) (q : Request) → ((a : Asked) → q ≡ Open a → TwoBytes a.id) → Says (request_refusals middle b q) 0
    → (c : Book) → Made middle b q c → LawfulBook c
made_lawful b l middle (Open q) small h =
    let none = says_none (open_refusals middle q b) (omega arith) h in
    opened_lawful b l middle q (small q refl) none.0 (is_one q.period periods none.1.1.1.0)
    (known_account q.account b.site.accounts none.1.1.1.1.0) none.1.1.1.1.1.1.1.1.1.0 none.1.1.1.1.1.1.1.1.1.1.1.0
made_lawful b l middle (Close id) small h = closed_lawful b l middle id

-- and no request changes the site
pub made_site : (middle : ℕ) (b : Book) (q : Request) (c : Book) → Made middle b q c → c.site ≡ b.site
made_site middle b (Open q) c g = g.plus.site
made_site middle b (Close id) c g = sym g.plus.site

-- A RECORD, done or refused, leaves the site
pub work_site : (middle : ℕ) (b : Book) (q : Request) (n : ℕ) (c : Book) → Work middle b q n c → c.site ≡ b.site
work_site middle b q n c w = go (ℕ_discrete n 0)
  where
    go : Dec (n ≡ 0) → c.site ≡ b.site
    go (yes z) = made_site middle b q c (w.done z)
    go (no f) = ap (λ (d : Book). d.site) (w.refused f)

-- and so do all of a list
pub in_order_site : (middle : ℕ) (b : Book) (qs : List Request) (ns : List ℕ) (c : Book) → InOrder (Work middle) b qs ns c → c.site ≡ b.site
in_order_site middle b [] [] c h = ap (λ (d : Book). d.site) h
in_order_site middle b [] (n ∷ ns) c h = absurd h
in_order_site middle b (q ∷ qs) [] c h = absurd h
in_order_site middle b (q ∷ qs) (n ∷ ns) c (d, w, h) = in_order_site middle d qs ns c h ∙ work_site middle b q n d w
