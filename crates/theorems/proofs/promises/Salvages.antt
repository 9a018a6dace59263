-- Salvages keep their promises.
use mathlib.Core.Path.{◌≡◌, refl, sym, ap, ◌∙◌, subst}
use mathlib.Core.Logic.{inl, inr}
use mathlib.Core.List.{List, [], ◌∷◌, ◌++◌}
use Prim.Native.Nat.{ℕ, ◌*◌, ◌≤◌}
use native.Mathlib.Decide.{ℕ_discrete}
use native.Mathlib.Omega.{arith}
use lib.Dec.{ltb}
use lib.ListN.{length, take, drop}
use lib.Seq.{take_at}
use Rattle.rules.specs.Says.{Says}
use Rattle.rules.specs.Topology.{NodesInRange}
use Rattle.rules.specs.Book.{Row, Book, key, LawfulSite}
use Rattle.rules.specs.Image.{Version, encode, version_of, nodes_of, accounts_of, links_place, links_of, hearing_of, site_of, book_of, rows_place, image_refusals, Stored}
use Rattle.rules.specs.Calls.{InOrder, Wrote}
use Rattle.rules.specs.Salvage.{LawfulBeside, Keep, NoRoom, salvage_refusals}
use Rattle.rules.proofs.Tests.{alike, decided, tests_and, tests_every, tests_lt}
use Rattle.rules.proofs.Says.{None, says_none, says_unique}
use Rattle.rules.proofs.Encoding.{version_back, stored_says}
use Rattle.rules.proofs.Written.{length_sets_at}
use Rattle.rules.proofs.Salvaging.{cut_all_unique, salvaged_unique}
use Rattle.rules.proofs.Saved.{salvaged_stored, each_judged, kept_cut, cut_whole, zeros, stored_salvaged}
use Rattle.theorems.proofs.model.Reading.{stable, tests_version, tests_fields, tests_accounts, tests_topologies, tests_lawful, tests_fits, tests_paired, tests_paid}
use Rattle.theorems.specs.promises.Salvage.{SalvageSaves, LawfulComesThrough}

-- whether a row is lawful beside others can be decided
decide : (v : ℕ) (b : Book) (r : Row) → Dec (LawfulBeside v b r)
decide v b r =
    decided (alike (tests_and (tests_lawful b.site r)
    (tests_and (tests_fits v r) (tests_and (tests_every (λ x. ltb (key x) (key r)) (λ x. tests_lt (key x) (key r)) b.rows)
    (tests_and (tests_paired b.rows r) (tests_paid b.site.accounts (b.rows ++ (r ∷ [])))))))
    (λ p. record { lawful = p.0; fits = p.1.0; above = p.1.1.0; paired = p.1.1.1.0; paid = p.1.1.1.1 })
    (λ l. (l.lawful, (l.fits, (l.above, (l.paired, l.paid))))))

-- no row changes the site
keep_site : (v : ℕ) (b : Book) (rows : List Row) (ns : List ℕ) (c : Book) → InOrder (Keep v) b rows ns c → c.site ≡ b.site
keep_site v b [] [] c k = ap (λ (d : Book). d.site) k
keep_site v b [] (n ∷ ns) c k = absurd k
keep_site v b (r ∷ rows) [] c k = absurd k
keep_site v b (r ∷ rows) (n ∷ ns) c k = keep_site v k.0 rows ns c k.2 ∙ step (ℕ_discrete n 0)
  where
    step : Dec (n ≡ 0) → k.0.site ≡ b.site
    step (yes z) = ap (λ (d : Book). d.site) (k.1.done z)
    step (no z) = ap (λ (d : Book). d.site) (k.1.refused z)

-- what was written stands at the front of the buffer
front : {bytes out out' : List ℕ} {len : ℕ} → Wrote bytes out len out' → take len out' ≡ bytes
front {bytes} {out} {len = len} w = ap (take len) w.buffer ∙ take_at bytes (drop (length bytes) out) len (sym w.length_is)

-- WHAT IS SALVAGED
module _ (s out report : List ℕ) (h : Says (salvage_refusals s (length out) (length report)) 0) where
  none : None (salvage_refusals s (length out) (length report))
  none = says_none (salvage_refusals s (length out) (length report)) (omega arith) h

  known : Version (version_of s)
  known = stable (tests_version (version_of s)) (λ n. none.1.0 (λ p. n p.1))

  site : LawfulSite (site_of s)
  site =
      let fields = stable (tests_fields s) none.1.1.0 in
      record {
        plan = fields.plan;
        nodes = subst NodesInRange (sym (length_sets_at s (links_place s) (nodes_of s))) fields.nodes;
        topologies = stable (tests_topologies (links_of s) (hearing_of s)) none.1.1.1.1.1.1.0;
        accounts = stable (tests_accounts (accounts_of s)) none.1.1.1.1.0;
      }

pub salvage_saves : SalvageSaves
salvage_saves s out report len rows lost out' report' g =
    let (cut, reasons, gone, c, saved, w) = g.done refl in
    let t = salvaged_stored s cut reasons gone c (decide (version_of s)) (known s out report g.says) (site s out report g.says) saved in
    record {
      book = c;
      stored = subst (λ (bytes : List ℕ). Stored bytes (version_of s) c) (sym (front w.0)) t;
      site = keep_site (version_of s) (book_of s []) cut reasons c saved.keep;
      cut = cut;
      gone = gone;
      whole = cut_whole (version_of s) (drop (rows_place s) s) cut gone saved.cut;
      count = w.2;
      lost_is = w.3;
      only = kept_cut (version_of s) (book_of s []) cut reasons c saved.keep;
      reasons = reasons;
      told = front w.1;
      judged = each_judged (version_of s) (book_of s []) cut reasons c saved.keep;
    }

-- A LAWFUL BOOK
module _ (s : List ℕ) (v : ℕ) (b : Book) (h : Stored s v b) where
  same : encode (version_of s) b ≡ s
  same = ap (λ (u : ℕ). encode u b) (ap version_of h.bytes ∙ version_back v b) ∙ sym h.bytes

  module _ (room report_room : ℕ) (l : length s ≤ room) (m : 3 * length b.rows ≤ report_room) where
    has_room : NoRoom s room report_room → ⊥
    has_room (inl (rows, reasons, lost, c, g, k)) =
        let u = salvaged_unique s b.rows rows (zeros b.rows) reasons [] lost b c (stored_salvaged s v b h) g in
        omega (arith, k, l, ap (λ (d : Book). length (encode (version_of s) d)) u.3, ap length same)
    has_room (inr (rows, lost, g, k)) =
        let u = cut_all_unique (version_of s) (drop (rows_place s) s) b.rows rows [] lost (stored_salvaged s v b h).cut g in
        omega (arith, k, m, ap length u.0)

    says_done : Says (salvage_refusals s room report_room) 0
    says_done =
        let n : None (image_refusals s) = says_none (image_refusals s) (omega arith) (stored_says s v b h) in
        inr (
          n.0,
          inr (
            n.1.0,
            inr (
              n.1.1.0,
              inr (
                n.1.1.1.0,
                inr (
                  n.1.1.1.1.0,
                  inr (λ k. n.1.1.1.1.1.0 (λ e. omega (arith, e, k)), inr (n.1.1.1.1.1.1.0, inr (has_room, refl))),
                ),
              ),
            ),
          ),
        )

pub lawful_comes_through : LawfulComesThrough
lawful_comes_through s out report v b number len rows lost out' report' h l m g =
    let e : number ≡ 0 = says_unique (salvage_refusals s (length out) (length report)) number 0 g.says (says_done s v b h (length out) (length report) l m) in
    let (cut, reasons, gone, c, saved, w) = g.done e in
    let u = salvaged_unique s b.rows cut (zeros b.rows) reasons [] gone b c (stored_salvaged s v b h) saved in
    record {
      done = e;
      same = front w.0 ∙ ap (encode (version_of s)) (sym u.3) ∙ same s v b h;
      rows_are = w.2 ∙ ap length (sym u.0);
      none_lost = w.3 ∙ ap length (sym u.2);
    }
