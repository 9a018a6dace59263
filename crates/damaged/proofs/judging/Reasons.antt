-- A row beside the rows kept: what each test says of it, and the rows once it is one of them.
use mathlib.Core.Path.{◌≡◌, refl, sym, ap, ◌∙◌, subst, subst₂}
use mathlib.Core.Logic.{inl, inr, ⊎_elim}
use mathlib.Core.Bool.{Bool, false}
use mathlib.Core.List.{List, [], ◌∷◌, ◌++◌}
use Rattle.std.specs.Prelude.{Option, Some, None as Nothing, IfSome, MatchOption, IsSomeAnd, Ok, Err}
use Prim.Native.Nat.{ℕ, ◌+◌, ◌<◌, ◌≤◌}
use native.Mathlib.Omega.{arith}
use native.Mathlib.Decide.{dec_lt}
use lib.ListN.{length, get_or, set, length-append, length-set}
use lib.Seq.{get_or-set_same, get_or-set_other}
use Rattle.rules.specs.Words.{◌∈◌}
use Rattle.rules.specs.Said.{number_of}
use Rattle.rules.specs.declared.refusals.Refusal.{Refusal}
use Rattle.rules.specs.Book.{Row, key, hops, most_accounts, LawfulRow, Pair, Paired, Paid, RowsMeet}
use Rattle.rules.specs.Placing.{Full}
use Rattle.rules.specs.Image.{RowFits, version_of, plan_of, FieldsInRange, accounts_of, site_of, book_of}
use Rattle.rules.specs.Salvage.{LawfulBeside, drop_reasons}
use Rattle.rules.proofs.Tests.{fails}
use Rattle.rules.proofs.Says.{None, says_none}
use Rattle.rules.proofs.Lists.{rising_one, total_append, in_left, in_right}
use Rattle.rules.proofs.Saved.{last_or, keep_held}
use Rattle.index.specs.Marks.{Adds, Notes, HopsTake}
use Rattle.index.proofs.Rows.{index_more, index_alike}
use Rattle.image.specs.Places.{row_at, InRange}
use Rattle.image.proofs.Hops.{offset_within}
use Rattle.accounts.specs.Lists.{LeftBy, MayDraw, DrawsMore, CanDraw}
use Rattle.placing.specs.Marking.{Markable}
use Rattle.placing.specs.plain.Plain.{RowThere}
use Rattle.rows.specs.Walk.{RowStands}
use Rattle.rows.proofs.Walks.{nodes_few, stands_in_range}
use Rattle.rows.proofs.Hops.{row_there}
use Rattle.damaged.specs.declared.judging.Kept.{Kept}
use Rattle.damaged.specs.judging.Placed.{placed, RowMeets, RowBeside}
use Rattle.damaged.specs.judging.Keeping.{Beside, SomeBeside, last_key, Behind, Room, ReasonFor, KeptMore, Judges}
use Rattle.damaged.proofs.judging.Holding.{each_set, found_row, row_found}

-- with the row behind them the rows overdraw no account, whatever rows left so much
abbrev pub PaidWith : List ℕ → ℕ → List ℕ → Type 0
PaidWith s at left = (rows : List Row) → LeftBy (accounts_of s) rows left → Paid (accounts_of s) (rows ++ (row_at s at ∷ []))

module _ {s : List ℕ} (at : ℕ) {kept : Kept} {places left words : List ℕ} {rows : List Row} (w : Beside s kept places left words rows) where
  -- BEHIND THE OTHERS
  follows_beside : RowStands s at → Behind s kept.last (row_at s at) → PaidWith s at left → LawfulBeside (version_of s) (book_of s rows) (row_at s at)
  follows_beside r f p = record {
    lawful = r.lawful;
    fits = r.fits;
    above = λ x m. omega (arith, w.top x m, above kept.last f);
    paired = second kept.last f w.there;
    paid = p rows w.purses;
  }
    where
      above : (last : Option ℕ) → Behind s last (row_at s at) → last_key s last < key (row_at s at)
      above (Some before) f = f.0
      above Nothing f = omega (arith, r.lawful.id_some)

      second : (last : Option ℕ) → Behind s last (row_at s at) → IfSome last (λ before. row_at s before ∈ rows) → Paired rows (row_at s at)
      second (Some before) f m two = (row_at s before, m, f.1 two)
      second Nothing f m two = absurd (f two)

  beside_follows : LawfulBeside (version_of s) (book_of s rows) (row_at s at) → Behind s kept.last (row_at s at)
  beside_follows l = go kept.last w.top w.there
    where
      go : (last : Option ℕ) → ((x : Row) → x ∈ rows → key x ≤ last_key s last) → IfSome last (λ before. row_at s before ∈ rows) → Behind s last (row_at s at)
      go (Some before) top m = (l.above (row_at s before) m, λ two. let p = l.paired two in second p.0 p.1 p.2 two)
        where
          second : (r : Row) → r ∈ rows → Pair r (row_at s at) → (row_at s at).way ≡ 2 → Pair (row_at s before) (row_at s at)
          second r n p two =
              let t = top r n in
              let h = l.above (row_at s before) m in
              let e : r ≡ row_at s before = rising_one rows r (row_at s before) w.held.0.rising n m (omega (arith, t, h, p.id, p.first, two)) in
              subst (λ (x : Row). Pair x (row_at s at)) e p
      go Nothing top m = λ two. let p = l.paired two in omega (arith, top p.0 p.1, p.2.first)

  -- ROOM
  full : (Room kept (hops (row_at s at)) → ⊥) → Full (book_of s rows) ((row_at s at).route ∷ [])
  full n = go (dec_lt kept.rows 64)
    where
      go : Dec (kept.rows < 64) → Full (book_of s rows) ((row_at s at).route ∷ [])
      go (no f) = inl (omega (arith, w.count))
      go (yes f) = short (dec_lt 512 (kept.hops + hops (row_at s at)))
        where
          short : Dec (512 < kept.hops + hops (row_at s at)) → Full (book_of s rows) ((row_at s at).route ∷ [])
          short (yes h) = inr (omega (arith, w.hops))
          short (no h) = absurd (n (f, omega arith))

  not_full : Room kept (hops (row_at s at)) → Full (book_of s rows) ((row_at s at).route ∷ []) → ⊥
  not_full r (inl h) = omega (arith, w.count, r.0)
  not_full r (inr h) = omega (arith, w.hops, r.1)

  -- MEETING
  module _ (fields : FieldsInRange s) (r : RowStands s at) where
    found : RowMeets words s places kept.rows (row_at s at) → (x : Row) × (x ∈ rows) × RowsMeet (site_of s) (row_at s at) x
    found m = found_row fields r.lawful w.placed_there w.known w.nth w.index m

    missed : (RowMeets words s places kept.rows (row_at s at) → ⊥) → ((x : Row) × (x ∈ rows) × RowsMeet (site_of s) (row_at s at) x) → ⊥
    missed n (x, m, k) = n (row_found fields r.lawful w.placed_there w.known w.nth w.index x m k)

-- the last row kept is in the ranges
pub last_ranged : {s : List ℕ} (last : Option ℕ) (before : Option Row) (P : ℕ → Row → Type 0) → FieldsInRange s → IfSome last (RowStands s)
    → MatchOption last (before ≡ Nothing) (λ at. IsSomeAnd before (P at)) → ((at : ℕ) (r : Row) → P at r → r ≡ row_at s at) → IfSome before InRange
last_ranged Nothing before P f w e g = subst (λ (b : Option Row). IfSome b InRange) (sym e) tt
last_ranged (Some at) (Some r) P f w e g = subst InRange (sym (g at r e)) (stands_in_range f w)
last_ranged (Some at) Nothing P f w e g = absurd e

-- a row is held against those kept
pub beside_row : {s : List ℕ} {r : Row} {kept : Kept} {places left words : List ℕ} → FieldsInRange s → LawfulRow (site_of s) r → SomeBeside s kept places left words
    → RowBeside s places kept.rows r words
beside_row {s} {places = places} fields row (rows, w) =
    record { fields = fields; row = row; there = w.placed_there; none_slow = λ z i k. w.index.none_slow z (placed s places i) (w.known i k) }

-- THE REASONS
module _ {s : List ℕ} {at : ℕ} {kept : Kept} {places left words : List ℕ} where
  pub not_lawful : (LawfulRow (site_of s) (row_at s at) → RowFits (version_of s) (row_at s at) → ⊥) → ReasonFor s at kept places left words 15
  not_lawful n = record { says = λ rows w. inl (λ l. n l.lawful l.fits, refl); stays = λ e. absurd (omega arith) }

  pub not_behind : (Behind s kept.last (row_at s at) → ⊥) → ReasonFor s at kept places left words 15
  not_behind n = record { says = λ rows w. inl (λ l. n (beside_follows at w l), refl); stays = λ e. absurd (omega arith) }

  pub not_paid : {r : Row} {t : Bool} → r ≡ row_at s at → MayDraw (accounts_of s) r left t → t ≡ false → ReasonFor s at kept places left words 15
  not_paid q m e = record {
    says = λ rows w. inl (λ l. fails (m rows w.purses) e (subst (λ (r : Row). Paid (accounts_of s) (rows ++ (r ∷ []))) (sym q) l.paid), refl);
    stays = λ e. absurd (omega arith);
  }

  module _ (r : RowStands s at) (f : Behind s kept.last (row_at s at)) (paid : PaidWith s at left) where
    pub no_room : (Room kept (hops (row_at s at)) → ⊥) → ReasonFor s at kept places left words 8
    no_room n = record { says = λ rows w. inr (λ g. g (follows_beside at w r f paid), inl (full at w n, refl)); stays = λ e. absurd (omega arith) }

    module _ (room : Room kept (hops (row_at s at))) (fields : FieldsInRange s) where
      pub meets : RowMeets words s places kept.rows (row_at s at) → ReasonFor s at kept places left words 16
      meets m = record {
        says = λ rows w. inr (λ g. g (follows_beside at w r f paid), inr (not_full at w room, inl (found at w fields r m, refl)));
        stays = λ e. absurd (omega arith);
      }

      pub stays : (RowMeets words s places kept.rows (row_at s at) → ⊥) → ReasonFor s at kept places left words 0
      stays n = record {
        says = λ rows w. inr (λ g. g (follows_beside at w r f paid), inr (not_full at w room, inr (missed at w fields r n, refl)));
        stays = λ e rows w. record { row = r; lawful = follows_beside at w r f paid };
      }

-- a lawful row can be marked
pub markable : {s : List ℕ} {r : Row} {S : ℕ} → FieldsInRange s → LawfulRow (site_of s) r → S ≡ (plan_of s).slots → Markable S r.period r.route r.offsets
markable {r = r} fields law e = subst (λ (S : ℕ). Markable S r.period r.route r.offsets) (sym e) (record {
  few = fields.plan.most;
  period = law.period;
  count = omega (arith, law.offsets.count, law.route.some);
  known = λ a m. omega (arith, law.route.known a m, nodes_few fields);
  within = law.offsets.within;
})

-- ONE MORE
module _ {s : List ℕ} {at : ℕ} {kept : Kept} {places left words : List ℕ} (reason : ReasonFor s at kept places left words 0) where
  pub row_stands : SomeBeside s kept places left words → RowStands s at
  row_stands (rows, w) = (reason.stays refl rows w).row

  -- its account pays for it
  pub can_draw : {r : Row} → r ≡ row_at s at → SomeBeside s kept places left words → CanDraw (accounts_of s) r left
  can_draw q (rows, w) = (rows, w.purses, subst (λ (r : Row). Paid (accounts_of s) (rows ++ (r ∷ []))) (sym q) (reason.stays refl rows w).lawful.paid)

  -- there is a place for it
  pub place_left : SomeBeside s kept places left words → kept.rows < 64
  place_left (rows, w) = room (dec_lt kept.rows 64)
    where
      room : Dec (kept.rows < 64) → kept.rows < 64
      room (yes l) = l
      room (no f) = absurd ((says_none (drop_reasons (version_of s) (book_of s rows) (row_at s at)) (omega arith) (reason.says rows w)).1.0 (inl (omega (arith, w.count))))

  -- and it is kept
  pub kept_more : FieldsInRange s → {row : Row} {count total S K : ℕ} {places' left' words' words'' : List ℕ} → row ≡ row_at s at → count ≡ kept.rows + 1
      → total ≡ kept.hops + hops row → places' ≡ set places kept.rows at
      → S ≡ (plan_of s).slots → Adds (HopsTake S row (hops row)) words words' → K ≡ row.period → Notes K words' words''
      → DrawsMore (accounts_of s) row left left' → length left' ≡ most_accounts
      → KeptMore s at kept places left words (record { rows = count; hops = total; last = Some at }) places' left' words''
  kept_more fields {row} {count} {places' = places'} {left'} {words'} {words''} row-is count_is total set_there S-is adds K-is notes more all rows w = record {
    held = keep_held (version_of s) (book_of s rows) r w.held l said.1.0 said.1.1.0;
    count = omega (arith, count_is, w.count, length-append rows (r ∷ []));
    hops = omega (arith, total, ap hops row-is, w.hops, total_append hops rows (r ∷ []));
    top = λ x m. ⊎_elim (λ (e : x ≡ r). omega (arith, ap key e)) (λ (k : x ∈ rows). omega (arith, l.above x k)) (last_or x r rows m);
    stands = (reason.stays refl rows w).row;
    there = in_right r rows (r ∷ []) (inl refl);
    placed_there = record { each = λ i k. each i (omega (arith, k, count_is)); few = omega (arith, count_is, free, w.placed_there.room); room = size };
    known = λ i k. known i (omega (arith, k, count_is));
    nth = λ x m. nth x (last_or x r rows m);
    purses = subst (λ (x : Row). LeftBy (accounts_of s) (rows ++ (x ∷ [])) left') row-is (more rows w.purses);
    all_purses = all;
    index = index_alike turned back
        (index_more fields.plan.most w.index l.lawful.period (offset_within l.lawful)
        (subst₂ (λ (S : ℕ) (x : Row). Adds (HopsTake S x (hops x)) words words') S-is row-is adds)
        (subst (λ (K : ℕ). Notes K words' words'') (K-is ∙ ap (λ (x : Row). x.period) row-is) notes));
  }
    where
      r : Row
      r = row_at s at

      l : LawfulBeside (version_of s) (book_of s rows) r
      l = (reason.stays refl rows w).lawful

      said : None (drop_reasons (version_of s) (book_of s rows) r)
      said = says_none (drop_reasons (version_of s) (book_of s rows) r) (omega arith) (reason.says rows w)

      free : kept.rows < length places
      free = omega (arith, place_left (rows, w), w.placed_there.room)

      size : length places' ≡ 64
      size = ap length set_there ∙ length-set places kept.rows at ∙ w.placed_there.room

      each : (i : ℕ) → i < kept.rows + 1 → RowThere s (get_or places' i 0)
      each i k = subst (λ (ps : List ℕ). RowThere s (get_or ps i 0)) (sym set_there)
          (each_set (λ (j p : ℕ). RowThere s p) places kept.rows at free w.placed_there.each (row_there fields (reason.stays refl rows w).row) i k)

      known : (i : ℕ) → i < kept.rows + 1 → placed s places' i ∈ (rows ++ (r ∷ []))
      known i k = subst (λ (ps : List ℕ). placed s ps i ∈ (rows ++ (r ∷ []))) (sym set_there)
          (each_set (λ (j p : ℕ). row_at s p ∈ (rows ++ (r ∷ []))) places kept.rows at free (λ j h. in_left (placed s places j) rows (r ∷ []) (w.known j h))
          (in_right r rows (r ∷ []) (inl refl)) i k)

      nth : (x : Row) → x ∈ (r ∷ rows) → (i : ℕ) × (i < count) × (x ≡ placed s places' i)
      nth x (inl e) = (
        kept.rows,
        omega (arith, count_is),
        e ∙ ap (row_at s) (sym (get_or-set_same places kept.rows at 0 free)) ∙ ap (λ (ps : List ℕ). placed s ps kept.rows) (sym set_there),
      )
      nth x (inr m) =
          let q = w.nth x m in (
            q.0,
            omega (arith, count_is, q.1),
            q.2 ∙ ap (row_at s) (sym (get_or-set_other places kept.rows q.0 at 0 (λ e. omega (arith, e, q.1)))) ∙ ap (λ (ps : List ℕ). placed s ps q.0) (sym set_there),
          )

      turned : (x : Row) → x ∈ (r ∷ rows) → x ∈ (rows ++ (r ∷ []))
      turned x (inl e) = in_right x rows (r ∷ []) (inl e)
      turned x (inr m) = in_left x rows (r ∷ []) m

      back : (x : Row) → x ∈ (rows ++ (r ∷ [])) → x ∈ (r ∷ rows)
      back x m = last_or x r rows m

-- JUDGED
some_number : (why : Refusal) → 1 ≤ number_of why
some_number why = grind arith

module _ {s : List ℕ} {at : ℕ} {kept : Kept} {places left words : List ℕ} where
  pub dropped : (why : Refusal) → ReasonFor s at kept places left words (number_of why) → Judges s at kept places left words (Err why) places left words
  dropped why reason rows w = record {
    after = rows;
    keep = record { says = reason.says rows w; refused = λ f. refl; done = λ z. absurd (omega (arith, some_number why)) };
    beside = w;
  }

  pub kept_behind : ReasonFor s at kept places left words 0 → {kept' : Kept} {places' left' words' : List ℕ} → KeptMore s at kept places left words kept' places' left' words'
      → Judges s at kept places left words (Ok kept') places' left' words'
  kept_behind reason more rows w = record {
    after = rows ++ (row_at s at ∷ []);
    keep = record { says = reason.says rows w; refused = λ f. absurd (f refl); done = λ e. refl };
    beside = more rows w;
  }
