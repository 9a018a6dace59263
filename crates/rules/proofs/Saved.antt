-- What is salvaged is a lawful book of the same version, made of rows that stand in the image as they were; a lawful book comes through whole.
use mathlib.Core.Path.{◌≡◌, refl, sym, ap, ◌∙◌, subst}
use mathlib.Core.Logic.{inl, inr, ⊎_elim}
use mathlib.Core.Bool.{cond}
use mathlib.Core.List.{List, [], ◌∷◌, ◌++◌, append_assoc, append-nil}
use Prim.Native.Nat.{ℕ, suc, ◌+◌, ◌<◌, ◌≤◌}
use native.Mathlib.Decide.{ℕ_discrete}
use native.Mathlib.Omega.{arith}
use lib.Dec.{eqb}
use lib.ListN.{length, drop, length-append}
use Rattle.rules.specs.Words.{◌∈◌, Pairwise, total, Each}
use Rattle.rules.specs.Says.{Says}
use Rattle.rules.specs.Topology.{hop_count, most_route_hops}
use Rattle.rules.specs.Book.{Site, Row, Book, key, hops, hops_in_all, most_streams, most_hops, LawfulSite, LawfulRow, Paired, RisingByKey, draws, drawn, RowsMeet, LawfulBook}
use Rattle.rules.specs.Placing.{Full}
use Rattle.rules.specs.Image.{Version, has_hearing, has_accounts, RowFits, Fits, in_turn, encode_row, encode, version_of, site_of, book_of, rows_place, Stored}
use Rattle.rules.specs.Calls.{InOrder}
use Rattle.rules.specs.Salvage.{CutAll, LawfulBeside, drop_reasons, kept, Keep, Salvaged}
use Rattle.rules.proofs.Says.{says_none}
use Rattle.rules.proofs.Lists.{in_append, in_left, in_right, total_append}
use Rattle.rules.proofs.Encoding.{hops_in, Sized, AllSized, all_sized, length_row, hops_in_lem, version_back, site_back, rows_back}
use Rattle.rules.proofs.Lawful.{quiet_more, lawful_quiet, paired_more}
use Rattle.rules.proofs.Written.{older}

-- LISTS with one more behind
behind : {A : Type 0} (R : A → A → Type 0) (xs : List A) (y : A) → Pairwise R xs → ((x : A) → x ∈ xs → R x y) → Pairwise R (xs ++ (y ∷ []))
behind R [] y p f = (λ z h. absurd h, tt)
behind {A} R (x ∷ xs) y p f = (next, behind R xs y p.1 (λ z h. f z (inr h)))
  where
    next : (z : A) → z ∈ (xs ++ (y ∷ [])) → R x z
    next z h =
        ⊎_elim (λ (m : z ∈ xs). p.0 z m)
        (λ (m : z ∈ (y ∷ [])). ⊎_elim (λ (e : z ≡ y). subst (R x) (sym e) (f x (inl refl))) (λ (n : ⊥). absurd n) m) (in_append z xs (y ∷ []) h)

pub last_or : {A : Type 0} (z y : A) (xs : List A) → z ∈ (xs ++ (y ∷ [])) → z ∈ (y ∷ xs)
last_or z y xs h = ⊎_elim (λ (m : z ∈ xs). inr m) (λ (m : z ∈ (y ∷ [])). ⊎_elim (λ (e : z ≡ y). inl e) (λ (n : ⊥). absurd n) m) (in_append z xs (y ∷ []) h)

-- THE BOOK OF THOSE KEPT
-- it is lawful, and the version holds it
abbrev pub Held : ℕ → Book → Type 0
Held v b = LawfulBook b × ((r : Row) → r ∈ b.rows → RowFits v r)

-- a row that no reason is given against leaves it so
pub keep_held : (v : ℕ) (b : Book) (r : Row) → Held v b → LawfulBeside v b r → (Full b (r.route ∷ []) → ⊥) → (((x : Row) × (x ∈ b.rows) × RowsMeet b.site r x) → ⊥) → Held v (kept b r)
keep_held v b r (l, f) w room quiet = (
  record {
    site = l.site;
    streams = omega (arith, length-append b.rows (r ∷ []), few);
    hops = omega (arith, total_append hops b.rows (r ∷ []), short);
    rows = λ x m. ⊎_elim (λ (e : x ≡ r). subst (LawfulRow b.site) (sym e) w.lawful) (λ (k : x ∈ b.rows). l.rows x k) (last_or x r b.rows m);
    rising = behind (λ (a c : Row). key a < key c) b.rows r l.rising w.above;
    paired = λ x m. paired_more b.rows (b.rows ++ (r ∷ [])) x (λ z k. in_left z b.rows (r ∷ []) k)
        (⊎_elim (λ (e : x ≡ r). subst (Paired b.rows) (sym e) w.paired) (λ (k : x ∈ b.rows). l.paired x k) (last_or x r b.rows m));
    paid = w.paid;
    never_meet = λ m. quiet_more b.site r b.rows (lawful_quiet b l) (λ x i k. quiet (x, i, k)) m.one m.other
        (last_or m.one r b.rows m.one_there) (last_or m.other r b.rows m.other_there) m.different m.meets;
  },
  λ x m. ⊎_elim (λ (e : x ≡ r). subst (RowFits v) (sym e) w.fits) (λ (k : x ∈ b.rows). f x k) (last_or x r b.rows m),
)
  where
    few : most_streams < length b.rows + 1 → ⊥
    few k = room (inl k)

    short : most_hops < hops_in_all b.rows + (hop_count r.route + 0) → ⊥
    short k = room (inr k)

-- where it can be decided whether a row is lawful beside the others
module _ (v : ℕ) (decide : (b : Book) (r : Row) → Dec (LawfulBeside v b r)) where
  step_held : (b : Book) (r : Row) (n : ℕ) (c : Book) → Held v b → Keep v b r n c → Held v c × (c.site ≡ b.site)
  step_held b r n c h k = go (ℕ_discrete n 0)
    where
      go : Dec (n ≡ 0) → Held v c × (c.site ≡ b.site)
      go (no z) = let e = k.refused z in (subst (Held v) (sym e) h, ap (λ (d : Book). d.site) e)
      go (yes z) = lawful (decide b r)
        where
          lawful : Dec (LawfulBeside v b r) → Held v c × (c.site ≡ b.site)
          lawful (yes w) =
              let said = says_none (drop_reasons v b r) (omega arith) (subst (Says (drop_reasons v b r)) z k.says) in
              (subst (Held v) (sym (k.done z)) (keep_held v b r h w said.1.0 said.1.1.0), ap (λ (d : Book). d.site) (k.done z))
          lawful (no f) = absurd ((says_none (drop_reasons v b r) (omega arith) (subst (Says (drop_reasons v b r)) z k.says)).0 f)

  all_held : (b : Book) (rows : List Row) (ns : List ℕ) (c : Book) → Held v b → InOrder (Keep v) b rows ns c → Held v c × (c.site ≡ b.site)
  all_held b [] [] c h k = (subst (Held v) (sym k) h, ap (λ (d : Book). d.site) k)
  all_held b [] (n ∷ ns) c h k = absurd k
  all_held b (r ∷ rows) [] c h k = absurd k
  all_held b (r ∷ rows) (n ∷ ns) c h k =
      let s = step_held b r n k.0 h k.1 in
      let t = all_held k.0 rows ns c s.0 k.2 in
      (t.0, t.1 ∙ s.1)

-- a book without rows
pub none_lawful : (s : List ℕ) → LawfulSite (site_of s) → LawfulBook (book_of s [])
none_lawful s site = record {
  site = site;
  streams = omega arith;
  hops = omega arith;
  rows = λ r m. absurd m;
  rising = tt;
  paired = λ r m. absurd m;
  paid = λ a m. omega arith;
  never_meet = λ m. absurd m.one_there;
}

-- what the version of an image holds of its site
pub held_fits : (s : List ℕ) (rows : List Row) → ((r : Row) → r ∈ rows → RowFits (version_of s) r) → Fits (version_of s) (book_of s rows)
held_fits s rows f = record { rows = f; hearing = older (has_hearing (version_of s)) _ _; accounts = older (has_accounts (version_of s)) _ _ }

-- the output is a lawful book of the same version
pub salvaged_stored : (s : List ℕ) (rows : List Row) (reasons lost : List ℕ) (c : Book) → ((b : Book) (r : Row) → Dec (LawfulBeside (version_of s) b r))
    → Version (version_of s) → LawfulSite (site_of s) → Salvaged s rows reasons lost c → Stored (encode (version_of s) c) (version_of s) c
salvaged_stored s rows reasons lost c decide known site g =
    let t = all_held (version_of s) decide (book_of s []) rows reasons c (none_lawful s site, λ r m. absurd m) g.keep in
    record {
      version = known;
      lawful = t.0.0;
      fits = subst (λ (p : Site). Fits (version_of s) (record { site = p; rows = c.rows })) (sym t.1) (held_fits s c.rows t.0.1);
      bytes = refl;
    }

-- EACH ROW
-- its reason is the first that applies beside rows that all are kept, and with 0 it is kept itself
pub record Judged (v : ℕ) (c : Book) (r : Row) (reason : ℕ) : Type 0 where
  pub beside : Book
  pub says : Says (drop_reasons v beside r) reason
  pub before : (x : Row) → x ∈ beside.rows → x ∈ c.rows
  pub stays : reason ≡ 0 → r ∈ c.rows

module _ (v : ℕ) where
  -- no row that was kept is dropped again
  stay : (b : Book) (rows : List Row) (ns : List ℕ) (c : Book) → InOrder (Keep v) b rows ns c → (x : Row) → x ∈ b.rows → x ∈ c.rows
  stay b [] [] c k x m = subst (λ (d : Book). x ∈ d.rows) (sym k) m
  stay b [] (n ∷ ns) c k x m = absurd k
  stay b (r ∷ rows) [] c k x m = absurd k
  stay b (r ∷ rows) (n ∷ ns) c k x m = stay k.0 rows ns c k.2 x (go (ℕ_discrete n 0))
    where
      go : Dec (n ≡ 0) → x ∈ k.0.rows
      go (yes z) = subst (λ (d : Book). x ∈ d.rows) (sym (k.1.done z)) (in_left x b.rows (r ∷ []) m)
      go (no z) = subst (λ (d : Book). x ∈ d.rows) (sym (k.1.refused z)) m

  -- a row is dropped only for the reason given
  pub each_judged : (b : Book) (rows : List Row) (ns : List ℕ) (c : Book) → InOrder (Keep v) b rows ns c → Each (Judged v c) rows ns
  each_judged b [] [] c k = tt
  each_judged b [] (n ∷ ns) c k = absurd k
  each_judged b (r ∷ rows) [] c k = absurd k
  each_judged b (r ∷ rows) (n ∷ ns) c k = (
    record {
      beside = b;
      says = k.1.says;
      before = stay b (r ∷ rows) (n ∷ ns) c k;
      stays = λ z. stay k.0 rows ns c k.2 r (subst (λ (d : Book). r ∈ d.rows) (sym (k.1.done z)) (in_right r b.rows (r ∷ []) (inl refl)));
    },
    each_judged k.0 rows ns c k.2,
  )

  -- only rows that were cut out are kept
  pub kept_cut : (b : Book) (rows : List Row) (ns : List ℕ) (c : Book) → InOrder (Keep v) b rows ns c → (x : Row) → x ∈ c.rows → x ∈ (b.rows ++ rows)
  kept_cut b [] [] c k x m = in_left x b.rows [] (subst (λ (d : Book). x ∈ d.rows) k m)
  kept_cut b [] (n ∷ ns) c k x m = absurd k
  kept_cut b (r ∷ rows) [] c k x m = absurd k
  kept_cut b (r ∷ rows) (n ∷ ns) c k x m =
      ⊎_elim (λ (i : x ∈ k.0.rows). go (ℕ_discrete n 0) i) (λ (i : x ∈ rows). in_right x b.rows (r ∷ rows) (inr i))
      (in_append x k.0.rows rows (kept_cut k.0 rows ns c k.2 x m))
    where
      go : Dec (n ≡ 0) → x ∈ k.0.rows → x ∈ (b.rows ++ (r ∷ rows))
      go (yes z) i =
          ⊎_elim (λ (e : x ≡ r). in_right x b.rows (r ∷ rows) (inl e)) (λ (j : x ∈ b.rows). in_left x b.rows (r ∷ rows) j)
          (last_or x r b.rows (subst (λ (d : Book). x ∈ d.rows) (k.1.done z) i))
      go (no z) i = in_left x b.rows (r ∷ rows) (subst (λ (d : Book). x ∈ d.rows) (k.1.refused z) i)

  -- the rows cut out and the bytes lost are all there is
  pub cut_whole : (s : List ℕ) (rows : List Row) (lost : List ℕ) → CutAll v s rows lost → s ≡ in_turn (encode_row v) rows ++ lost
  cut_whole s [] lost g = sym g.1
  cut_whole s (r ∷ rows) lost (others, c, g) =
      c.bytes ∙ ap (λ (t : List ℕ). encode_row v r ++ t) (cut_whole others rows lost g) ∙ sym (append_assoc (encode_row v r) (in_turn (encode_row v) rows) lost)

-- A LAWFUL BOOK
-- every row is cut out
cut_rows : (v : ℕ) (rows : List Row) → AllSized v rows → ((r : Row) → r ∈ rows → RowFits v r) → ((r : Row) → r ∈ rows → (1 ≤ hops r) × (hops r ≤ most_route_hops))
    → CutAll v (in_turn (encode_row v) rows) rows []
cut_rows v [] w f h = (λ c. omega (arith, c.reaches), refl)
cut_rows v (r ∷ rows) w f h =
    let z : Sized v r = w r (inl refl) in
    let k = h r (inl refl) in
    let e : hops_in v (encode_row v r ++ in_turn (encode_row v) rows) ≡ hops r = hops_in_lem v r (in_turn (encode_row v) rows) z in
    let l = length-append (encode_row v r) (in_turn (encode_row v) rows) in
    let m = length_row v r (in_turn (encode_row v) rows) z in (
      in_turn (encode_row v) rows,
      record {
        cuttable = record { reaches = omega arith; some = omega (arith, k.0); most = omega (arith, k.1); whole = omega arith };
        bytes = refl;
        nodes = z.nodes;
        offsets = z.offsets;
        one_way = (f r (inl refl)).one_way;
        old_account = (f r (inl refl)).old_account;
      },
      cut_rows v rows (λ x i. w x (inr i)) (λ x i. f x (inr i)) (λ x i. h x (inr i)),
    )

-- none of them is dropped
abbrev pub zeros : List Row → List ℕ
zeros [] = []
zeros (r ∷ rows) = 0 ∷ zeros rows

before : (front rows : List Row) (r : Row) → RisingByKey (front ++ (r ∷ rows)) → (x : Row) → x ∈ front → key x < key r
before [] rows r p x h = absurd h
before (y ∷ front) rows r p x (inl e) = let k = p.0 r (in_right r front (r ∷ rows) (inl refl)) in omega (arith, ap key e)
before (y ∷ front) rows r p x (inr h) = before front rows r p.1 x h

after : (front rows : List Row) (r : Row) → RisingByKey (front ++ (r ∷ rows)) → (x : Row) → x ∈ rows → key r < key x
after [] rows r p x h = p.0 x h
after (y ∷ front) rows r p x h = after front rows r p.1 x h

module _ (v : ℕ) (b : Book) (l : LawfulBook b) (f : (r : Row) → r ∈ b.rows → RowFits v r) where
  keep_rows : (front rows : List Row) → front ++ rows ≡ b.rows → InOrder (Keep v) (record { site = b.site; rows = front }) rows (zeros rows) b
  keep_rows front [] e = λ i. record { site = b.site; rows = (sym e ∙ append-nil front) i }
  keep_rows front (r ∷ rows) e = (
    record { site = b.site; rows = front ++ (r ∷ []) },
    record {
      says = inr (λ g. g lawful, inr (full, inr (alone, refl)));
      refused = λ z. absurd (z refl);
      done = λ z. refl;
    },
    keep_rows (front ++ (r ∷ [])) rows (append_assoc front (r ∷ []) rows ∙ e),
  )
    where
      up : RisingByKey (front ++ (r ∷ rows))
      up = subst RisingByKey (sym e) l.rising

      old : (x : Row) → x ∈ front → x ∈ b.rows
      old x h = subst (λ (xs : List Row). x ∈ xs) e (in_left x front (r ∷ rows) h)

      this : r ∈ b.rows
      this = subst (λ (xs : List Row). r ∈ xs) e (in_right r front (r ∷ rows) (inl refl))

      alone : ((x : Row) × (x ∈ front) × RowsMeet b.site r x) → ⊥
      alone m = lawful_quiet b l r m.0 this (old m.0 m.1) (λ k. omega (arith, before front rows r up m.0 m.1, k)) m.2

      -- the first way stands before
      first : (x : Row) → x ∈ b.rows → key x < key r → x ∈ front
      first x h k =
          ⊎_elim (λ (m : x ∈ front). m)
          (λ (m : x ∈ (r ∷ rows)). ⊎_elim (λ (d : x ≡ r). absurd (omega (arith, ap key d))) (λ (n : x ∈ rows). absurd (omega (arith, after front rows r up x n))) m)
          (in_append x front (r ∷ rows) (subst (λ (xs : List Row). x ∈ xs) (sym e) h))

      count : length b.rows ≡ length front + suc (length rows)
      count = ap length (sym e) ∙ length-append front (r ∷ rows)

      sum : hops_in_all b.rows ≡ hops_in_all front + (hops r + hops_in_all rows)
      sum = ap hops_in_all (sym e) ∙ total_append hops front (r ∷ rows)

      -- the rows up to this one draw no more than all of them
      drawn_front : (n : ℕ) → drawn n (front ++ (r ∷ [])) ≤ drawn n b.rows
      drawn_front n =
          let part : Row → ℕ = λ (x : Row). cond (eqb x.account n) (draws x) 0 in
          omega (arith, total_append part front (r ∷ []), ap (total part) (sym e) ∙ total_append part front (r ∷ rows))

      full : Full (record { site = b.site; rows = front }) (r.route ∷ []) → ⊥
      full (inl k) = omega (arith, l.streams, count)
      full (inr k) = omega (arith, l.hops, sum)

      lawful : LawfulBeside v (record { site = b.site; rows = front }) r
      lawful = record {
        lawful = l.rows r this;
        fits = f r this;
        above = before front rows r up;
        paired = λ w. let t = l.paired r this w in (t.0, first t.0 t.1 (omega (arith, t.2.id, t.2.first)), t.2);
        paid = λ a m. omega (arith, l.paid a m, drawn_front a.number);
      }

-- it comes through with every row kept and no byte lost
pub stored_salvaged : (s : List ℕ) (v : ℕ) (b : Book) → Stored s v b → Salvaged s b.rows (zeros b.rows) [] b
stored_salvaged s v b g = subst (λ (t : List ℕ). Salvaged t b.rows (zeros b.rows) [] b) (sym g.bytes) here
  where
    site : site_of (encode v b) ≡ b.site
    site = site_back v b g.lawful.site.topologies.even g.fits

    same : version_of (encode v b) ≡ v
    same = version_back v b

    few : (r : Row) → r ∈ b.rows → (1 ≤ hops r) × (hops r ≤ most_route_hops)
    few r m = let w = g.lawful.rows r m in (w.route.some, w.route_most)

    here : Salvaged (encode v b) b.rows (zeros b.rows) [] b
    here = record {
      cut = subst (λ (u : ℕ). CutAll u (drop (rows_place (encode v b)) (encode v b)) b.rows []) (sym same)
          (subst (λ (t : List ℕ). CutAll v t b.rows []) (sym (rows_back v b g.lawful.site.topologies.even)) (cut_rows v b.rows (all_sized b g.lawful) g.fits.rows few));
      keep = subst (λ (u : ℕ). InOrder (Keep u) (book_of (encode v b) []) b.rows (zeros b.rows) b) (sym same)
          (subst (λ (p : Site). InOrder (Keep v) (record { site = p; rows = [] }) b.rows (zeros b.rows) b) (sym site)
          (keep_rows v b g.lawful g.fits.rows [] b.rows refl));
    }
