-- One row after the other is judged, reported, and laid where it is kept.
use mathlib.Core.Path.{◌≡◌, refl, sym, ap, ◌∙◌, subst, subst₂}
use mathlib.Core.List.{List, [], ◌∷◌, ◌++◌, append-nil}
use Rattle.std.specs.Prelude.{Result, None}
use Rattle.std.specs.Result.{result_unwrap_or}
use Prim.Native.Nat.{ℕ, ◌+◌, ◌*◌, ◌-◌, ◌≤◌}
use native.Mathlib.Omega.{arith}
use native.Mathlib.Decide.{ℕ_discrete}
use lib.ListN.{length, take, drop, replicate, length-append}
use Rattle.rules.specs.Topology.{NodesInRange}
use Rattle.rules.specs.Book.{Row, Book, hops_in_all, most_accounts, LawfulSite}
use Rattle.rules.specs.Image.{image_length, word, in_turn, encode_row, version_of, nodes_of, plan_of, account_count_of, accounts_of, links_place, site_of, book_of, rows_place}
use Rattle.rules.specs.Calls.{InOrder}
use Rattle.rules.specs.Said.{said}
use Rattle.rules.specs.declared.refusals.Refusal.{Refusal}
use Rattle.rules.specs.Salvage.{Cuttable, Keep, report_bytes}
use Rattle.rules.proofs.Choice.{in_order_more, in_order_even}
use Rattle.rules.proofs.Encoding.{all_sized, length_rows}
use Rattle.rules.proofs.Written.{Bytes, length_sets_at}
use Rattle.rules.proofs.Salvaging.{length_report, report_more}
use Rattle.rules.proofs.Saved.{Held, none_lawful}
use Rattle.index.specs.Index.{index_length}
use Rattle.index.proofs.Rows.{index_none}
use Rattle.image.specs.Places.{row_at, next_at}
use Rattle.image.specs.Header.{HeaderOf}
use Rattle.image.specs.declared.Book as header
use Rattle.accounts.specs.Lists.{LeftBy}
use Rattle.writer.proofs.Books.{in_turn_append}
use Rattle.damaged.specs.cutting.Cutting.{CutSo}
use Rattle.damaged.proofs.cutting.Cuts.{row_bytes, cut_none, cut_more, cut_done}
use Rattle.damaged.specs.declared.judging.Kept.{Kept}
use Rattle.damaged.specs.judging.Keeping.{SiteRead, Beside, SomeBeside, Judges}
use Rattle.rescue.specs.salvaging.Walk.{PutIf, LaidIf, Walked}
use Rattle.rescue.proofs.salvaging.Puts.{put_none, put_more, put_alike}

-- the rows up to the place were judged, and written as far as there is room
pub record Walking (s out report : List ℕ) (at cut : ℕ) (kept : Kept) (places left words out' report' : List ℕ) : Type 0 where
  pub rows : List Row
  pub reasons : List ℕ
  pub stay : List Row
  pub so : CutSo s (rows_place s) at rows
  pub keep : InOrder (Keep (version_of s)) (book_of s []) rows reasons (book_of s stay)
  pub beside : Beside s kept places left words stay
  pub count : cut ≡ length rows
  pub book : PutIf out (rows_place s) (in_turn (encode_row (version_of s)) stay) out'
  pub told : PutIf report 0 (report_bytes rows reasons) report'

-- the site of an image that was read is lawful
pub site_lawful : {s : List ℕ} {b : header.Book} {links hearing : List ℕ} → SiteRead s b links hearing → LawfulSite (site_of s)
site_lawful {s} w = record {
  plan = w.read.fields.plan;
  nodes = subst NodesInRange (sym (length_sets_at s (links_place s) (nodes_of s))) w.read.fields.nodes;
  topologies = w.heard.sound;
  accounts = w.read.list.range;
}

-- before the first row nothing is kept
pub walking_none : {s : List ℕ} (out report : List ℕ) {at : ℕ} (kept : Kept) {left : List ℕ} → LawfulSite (site_of s) → at ≡ rows_place s → rows_place s ≤ length s
    → (kept.rows ≡ 0) × ((kept.hops ≡ 0) × (kept.last ≡ None)) → LeftBy (accounts_of s) [] left → length left ≡ most_accounts
    → Walking s out report at 0 kept (replicate 64 0) left (replicate index_length 0) out report
walking_none {s} out report {at} kept {left} site e l none purses all =
    subst (λ (k : Kept). Walking s out report at 0 k (replicate 64 0) left (replicate index_length 0) out report)
    (sym λ i. record { rows = none.0 i; hops = none.1.0 i; last = none.1.1 i }) (record {
      rows = [];
      reasons = [];
      stay = [];
      so = subst (λ (k : ℕ). CutSo s (rows_place s) k []) (sym e) (cut_none s (rows_place s) l);
      keep = refl;
      beside = record {
        held = (none_lawful s site, λ r m. absurd m);
        count = refl;
        hops = refl;
        top = λ x m. absurd m;
        stands = tt;
        there = tt;
        placed_there = record { each = λ i l. absurd (omega arith); few = omega arith; room = refl };
        known = λ i l. absurd (omega arith);
        nth = λ x m. absurd m;
        purses = purses;
        all_purses = all;
        index = index_none (plan_of s).slots;
      };
      count = refl;
      book = put_none out (rows_place s);
      told = put_none report 0;
    })

-- the length of a book of the site with so many rows and hops
abbrev pub length_of : List ℕ → ℕ → ℕ → ℕ
length_of s n h = image_length (version_of s) (account_count_of s) (nodes_of s) n h

-- a length by the header that was read is the one that the image gives
pub of_header : {s : List ℕ} {b : header.Book} (n h : ℕ) {len : ℕ} → HeaderOf s b → len ≡ image_length b.version b.accounts b.nodes n h → len ≡ length_of s n h
of_header n h w e = e ∙ λ i. image_length (w.version i) (w.accounts i) (w.nodes i) n h

-- the place behind the rows kept, and the length of their book
pub rows_length : (s : List ℕ) (stay : List Row) → Held (version_of s) (book_of s stay)
    → rows_place s + length (in_turn (encode_row (version_of s)) stay) ≡ length_of s (length stay) (hops_in_all stay)
rows_length s stay h = omega (arith, length_rows (version_of s) stay (all_sized (book_of s stay) h.0))

module _ {s out report : List ℕ} {at cut : ℕ} {kept : Kept} {places left words out' report' : List ℕ}
    (w : Walking s out report at cut kept places left words out' report') where
  pub walking_some : SomeBeside s kept places left words
  walking_some = (w.stay, w.beside)

  pub place_behind : length_of s kept.rows kept.hops ≡ rows_place s + length (in_turn (encode_row (version_of s)) w.stay)
  place_behind =
      (λ i. length_of s (w.beside.count i) (w.beside.hops i)) ∙ sym (rows_length s w.stay w.beside.held)

  module _ (b : Bytes s) (c : Cuttable (version_of s) (drop at s)) (judged : Result Kept Refusal) {places' left' words' : List ℕ}
      (judges : Judges s at kept places left words judged places' left' words') where
    r : Row
    r = row_at s at

    after : List Row
    after = (judges w.stay w.beside).after

    step : Keep (version_of s) (book_of s w.stay) r (said judged) (book_of s after)
    unfolding r after
    step = (judges w.stay w.beside).keep

    even : length w.reasons ≡ length w.rows
    even = in_order_even (Keep (version_of s)) (book_of s []) w.rows w.reasons (book_of s w.stay) w.keep

    laid : {place : ℕ} {out'' : List ℕ} → place ≡ rows_place s + length (in_turn (encode_row (version_of s)) w.stay)
        → LaidIf (take (next_at s at - at) (drop at s)) (said judged) out' place out'' → PutIf out (rows_place s) (in_turn (encode_row (version_of s)) after) out''
    unfolding r after
    laid {out'' = out''} e l = go (ℕ_discrete (said judged) 0)
      where
        f : Row → List ℕ
        f = encode_row (version_of s)

        rows_of : Book → List Row
        rows_of d = d.rows

        go : Dec ((said judged) ≡ 0) → PutIf out (rows_place s) (in_turn f after) out''
        go (yes z) =
            let same : after ≡ w.stay ++ (r ∷ []) = ap rows_of (step.done z) in
            let bytes : take (next_at s at - at) (drop at s) ≡ f r = row_bytes s at w.so.inside c b in
            let all : in_turn f w.stay ++ take (next_at s at - at) (drop at s) ≡ in_turn f after =
            ap (λ (z : List ℕ). in_turn f w.stay ++ z) (bytes ∙ sym (append-nil (f r))) ∙ sym (in_turn_append f w.stay (r ∷ [])) ∙ ap (in_turn f) (sym same) in
            put_alike all refl (put_more (take (next_at s at - at) (drop at s)) w.book e (l.kept z))
        go (no z) =
            let same : after ≡ w.stay = ap rows_of (step.refused z) in
            subst (λ (o : List ℕ). PutIf out (rows_place s) (in_turn f after) o) (sym (l.dropped z)) (put_alike (ap (in_turn f) (sym same)) refl w.book)

    pub walking_more : {next place id reason : ℕ} {out'' report'' : List ℕ} → next ≡ next_at s at → id ≡ (row_at s at).id → reason ≡ said judged
        → PutIf report' (3 * cut) (reason ∷ word id) report''
        → place ≡ length_of s kept.rows kept.hops → LaidIf (take (next - at) (drop at s)) reason out' place out''
        → Walking s out report next (cut + 1) (result_unwrap_or judged kept) places' left' words' out'' report''
    unfolding r after
    walking_more {next} {place} {id} {reason} {out''} {report''} e i why noted p l = record {
      rows = w.rows ++ (r ∷ []);
      reasons = w.reasons ++ ((said judged) ∷ []);
      stay = after;
      so = cut_more w.so b c e;
      keep = in_order_more (Keep (version_of s)) (book_of s []) w.rows w.reasons (book_of s w.stay) r (said judged) (book_of s after) w.keep step;
      beside = (judges w.stay w.beside).beside;
      count = omega (arith, w.count, length-append w.rows (r ∷ []));
      book = laid (p ∙ place_behind) (subst₂ (λ (n k : ℕ). LaidIf (take (n - at) (drop at s)) k out' place out'') e why l);
      told = put_alike (ap (λ (k : ℕ). report_bytes w.rows w.reasons ++ ((said judged) ∷ word k)) i ∙ sym (report_more w.rows w.reasons r (said judged) even)) refl
          (put_more ((said judged) ∷ word id) w.told behind (subst (λ (k : ℕ). PutIf report' (3 * cut) (k ∷ word id) report'') why noted));
    }
      where
        behind : 3 * cut ≡ 0 + length (report_bytes w.rows w.reasons)
        behind = omega (arith, length_report w.rows w.reasons even, w.count)

  -- where none can be cut out any more
  pub walking_done : (Cuttable (version_of s) (drop at s) → ⊥) → Walked s out report (record { kept = kept; rows = cut; end = at }) out' report'
  walking_done n = record {
    rows = w.rows;
    reasons = w.reasons;
    stay = w.stay;
    salvaged = record { cut = cut_done w.so n; keep = w.keep };
    held = w.beside.held;
    count = w.beside.count;
    hops = w.beside.hops;
    cut = w.count;
    inside = w.so.inside;
    book = w.book;
    told = w.told;
  }
