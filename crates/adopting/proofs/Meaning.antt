-- The draft is sound and complete: where its image expands to the tables it is their book, and where they have one it is the draft.
use mathlib.Core.Path.{◌≡◌, refl, sym, ap, ap₂, ◌∙◌, subst, subst₂}
use mathlib.Core.List.{List}
use Rattle.std.specs.Prelude.{Option, Some, IfSome}
use Prim.Native.Nat.{ℕ, ◌+◌, ◌*◌, ◌<◌, ◌≤◌}
use native.Mathlib.Omega.{arith}
use lib.ListN.{length, take, drop}
use lib.Seq.{length-take-le}
use Rattle.writer.specs.Over.{over}
use Rattle.writer.proofs.Laws.{over_front}
use Rattle.rules.specs.Words.{◌∈◌}
use Rattle.rules.specs.Tiles.{Plan, PlanInRange, short_tiles}
use Rattle.rules.specs.Topology.{nodes, NodesInRange}
use Rattle.rules.specs.Book.{Site, Row, Book, LawfulBook}
use Rattle.rules.specs.Image.{newest, old_accounts, in_turn, encode_row, encode, version_of, plan_of, nodes_of, site_of, rows_place, Stored}
use Rattle.rules.specs.Table.{TablePart}
use Rattle.rules.specs.Tables.{entries_of, table_at, ShownBy, OfShown, TablesOfEntries, TooMany, tables_refusals, BookOf}
use Rattle.rules.specs.Calls.{site_given, TopologiesGiven}
use Rattle.rules.proofs.Periods.{short_period}
use Rattle.rules.proofs.Written.{length_sets_at}
use Rattle.rules.proofs.Encoding.{version_back, site_back, rows_back, rows_unique, lawful_sized}
use Rattle.rules.proofs.Reading.{rows_in, book_in, LawfulImage, row_newest, fits_newest, lawful_stored, book_back}
use Rattle.rules.proofs.Shown.{shown_unique}
use Rattle.image.proofs.Stands.{stored_rows}
use Rattle.rules.specs.answers.Reply.{Reply}
use Rattle.rules.proofs.answers.Replies.{reply_refused, reply_next, reply_done}
use Rattle.adopting.specs.drafting.Drafts.{DraftPut, Drafted, drafted}
use Rattle.adopting.specs.Expanded.{Expanded, Adopts}

lawful_image : (b : Book) → LawfulBook b → LawfulImage (encode newest b)
lawful_image b l =
    subst (λ (v : ℕ). Stored (encode newest b) v (book_in (encode newest b))) (sym (version_back newest b))
    (subst (Stored (encode newest b) newest) (sym (book_back (lawful_stored b l))) (lawful_stored b l))

module _ (plan : Plan) (N : ℕ) (links hearing tables : List ℕ) {len : ℕ} {image : List ℕ} (w : DraftPut plan N links hearing tables len image) where
  abbrev site : Site
  site = site_given plan N links hearing old_accounts

  abbrev book : Book
  book = drafted plan N links hearing w.rows

  abbrev s : List ℕ
  s = take len image

  even : nodes site.hearing ≡ nodes site.links
  even = length_sets_at hearing 0 N ∙ sym (length_sets_at links 0 N)

  site_same : site_of s ≡ site
  site_same = ap site_of w.bytes ∙ site_back newest book even (fits_newest book)

  version_same : version_of s ≡ newest
  version_same = ap version_of w.bytes ∙ version_back newest book

  nodes_same : nodes_of s ≡ N
  nodes_same = ap nodes_of w.bytes ∙ length_sets_at links 0 N

  plan_same : plan_of s ≡ plan
  plan_same = ap (λ (t : Site). t.plan) site_same

  pub draft_size : length tables ≡ 3 * entries_of plan N → length tables ≡ 3 * entries_of (plan_of s) (nodes_of s)
  draft_size e = e ∙ ap₂ (λ (p : Plan) (n : ℕ). 3 * entries_of p n) (sym plan_same) (sym nodes_same)

  pub part_fits : (size : ℕ) → len ≤ size → 0 + length s ≤ size
  part_fits size l = omega (arith, length-take-le len image w.inside)

  -- SOUND
  module _ (x : Expanded s tables) where
    rows_same : rows_in s ≡ w.rows
    rows_same =
        let r = stored_rows x.lawful in
        rows_unique newest (rows_in s) w.rows (λ y m. lawful_sized (r.lawful y m)) (λ y m. (w.drafts y m).sized) (λ y m. row_newest y) (λ y m. row_newest y)
        (ap (λ (v : ℕ). in_turn (encode_row v) (rows_in s)) (sym version_same) ∙ sym r.fill ∙ ap (λ (t : List ℕ). drop (rows_place t) t) w.bytes ∙ rows_back newest book even)

    pub shown : ShownBy site tables (book_in s)
    shown = record {
      on_site = site_same;
      lawful = x.lawful.lawful;
      short = λ r m. short_period r.period (x.lawful.lawful.rows r m).period (w.drafts r (subst (λ (l : List Row). r ∈ l) rows_same m)).short;
      expands = λ node l. subst (λ (p : Plan). TablePart (book_in s) node 0 short_tiles (table_at p tables node)) plan_same
          (x.same node (subst (λ (n : ℕ). node < n) (length_sets_at links 0 N ∙ sym nodes_same) l));
    }

    pub bytes_same : s ≡ encode newest (book_in s)
    bytes_same = x.lawful.bytes ∙ ap (λ (v : ℕ). encode v (book_in s)) version_same

  -- COMPLETE
  pub complete : (b : Book) → ShownBy site tables b → Expanded s tables
  complete b g = subst (λ (t : List ℕ). Expanded t tables) (sym same) record {
    lawful = lawful_image b g.lawful;
    same = λ node l. subst₂ (λ (c : Book) (p : Plan). TablePart c node 0 short_tiles (table_at p tables node)) (sym back) (sym plans)
        (g.expands node (subst (λ (n : ℕ). node < n) (ap (λ (t : Site). nodes t.links) g.on_site) l));
  }
    where
      same : s ≡ encode newest b
      same = w.bytes ∙ ap (encode newest) (λ i. record { site = sym g.on_site i; rows = w.read b g i })

      back : book_in (encode newest b) ≡ b
      back = book_back (lawful_stored b g.lawful)

      plans : plan_of (encode newest b) ≡ site.plan
      plans = ap (λ (c : Book). c.site.plan) back ∙ ap (λ (t : Site). t.plan) g.on_site

-- WHAT IS SAID
pub draft_there : (plan : Plan) (N : ℕ) (links hearing tables : List ℕ) {r : Option ℕ} {len : ℕ} {image : List ℕ} → Drafted plan N links hearing tables r image → r ≡ Some len
    → DraftPut plan N links hearing tables len image
draft_there plan N links hearing tables {image = image} d e = subst (λ (o : Option ℕ). IfSome o (λ l. DraftPut plan N links hearing tables l image)) e d.put

module _ (plan : Plan) (N : ℕ) (links hearing tables out : List ℕ) {len : ℕ} {image : List ℕ} (d : DraftPut plan N links hearing tables len image) where
  pub not_these : (Expanded (take len image) tables → ⊥) → Adopts plan N links hearing tables out 20 0 out
  not_these f = reply_refused (λ c g. f (complete plan N links hearing tables d c g)) (λ y. omega arith) refl refl

  module _ (x : Expanded (take len image) tables) where
    it : Book
    it = book_in (take len image)

    this : ShownBy (site_given plan N links hearing old_accounts) tables it
    unfolding it
    this = shown plan N links hearing tables d x

    long : length (encode newest it) ≡ len
    unfolding it
    long = sym (ap length (bytes_same plan N links hearing tables d x)) ∙ length-take-le len image d.inside

    pub too_short : length out < len → Adopts plan N links hearing tables out 12 0 out
    too_short l = reply_next (λ f. f it this) (reply_refused (it, this, omega (arith, long)) (λ y. omega arith) refl refl)

    pub adopted : {out' : List ℕ} → len ≤ length out → out' ≡ over out 0 (take len image) → Adopts plan N links hearing tables out 0 len out'
    unfolding it
    adopted l e =
        reply_next (λ f. f it this)
        (reply_next (λ g. omega (arith, long, g.2, ap (λ (c : Book). length (encode newest c)) (shown_unique (site_given plan N links hearing old_accounts) refl tables g.0 it g.1 this)))
        (reply_done (take len image) (it, this, bytes_same plan N links hearing tables d x) refl (sym (length-take-le len image d.inside))
        (e ∙ over_front out (take len image))))

-- THE CALL
module _ (plan : Plan) (N : ℕ) (links hearing tables out : List ℕ) {number length' : ℕ} where
  said : {out' : List ℕ}
      → Reply (tables_refusals plan N links hearing tables (length out))
      (λ (bytes : List ℕ). OfShown (site_given plan N links hearing old_accounts) tables (λ (b : Book). bytes ≡ encode newest b)) out number length' out'
      → BookOf plan N links hearing tables out number length' out'
  said w = record { says = w.says; refused = w.refused; done = w.done }

  pub out_of_range : (PlanInRange plan × NodesInRange N → ⊥) → number ≡ 10 → length' ≡ 0 → BookOf plan N links hearing tables out number length' out
  out_of_range f a b = said (reply_refused f (λ y. omega arith) a b)

  module _ (r : PlanInRange plan × NodesInRange N) where
    pub unsound : (TopologiesGiven N links hearing → ⊥) → number ≡ 11 → length' ≡ 0 → BookOf plan N links hearing tables out number length' out
    unsound f a b = said (reply_next (λ k. k r) (reply_refused f (λ y. omega arith) a b))

    module _ (t : TopologiesGiven N links hearing) where
      module _ (e : TablesOfEntries plan N tables) where
        pub answered : {out' : List ℕ} → (TooMany plan N tables → ⊥) → Adopts plan N links hearing tables out number length' out' → BookOf plan N links hearing tables out number length' out'
        answered f w = said (reply_next (λ k. k r) (reply_next (λ k. k t) (reply_next (λ k. k e) (reply_next f w))))
