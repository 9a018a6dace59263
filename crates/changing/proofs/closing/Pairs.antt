-- The rows of an id stand one after the other, and are at most two; once they are taken out the words are the index of the others.
use mathlib.Core.Path.{◌≡◌, refl, sym, ap, ◌∙◌, subst}
use mathlib.Core.Logic.{inl, inr, ⊎_elim}
use mathlib.Core.List.{List, [], ◌∷◌, ◌++◌}
use Prim.Native.Nat.{ℕ, ◌+◌, ◌*◌, ◌-◌, ◌<◌, ◌≤◌}
use native.Mathlib.Omega.{arith}
use lib.ListN.{length}
use Rattle.rules.specs.Words.{◌∈◌, With}
use Rattle.rules.specs.Book.{Row, Book, hops, hops_in_all, key, RisingByKey, LawfulBook}
use Rattle.rules.specs.Image.{row_length, in_turn, encode_row, version_of, plan_of, site_of}
use Rattle.rules.proofs.Encoding.{AllSized, length_rows, lawful_sized}
use Rattle.rules.proofs.Lists.{with_in, with_this, with_other, with_less, with_alone, in_left}
use Rattle.rules.proofs.Reading.{rows_in, book_in}
use Rattle.index.specs.Index.{Beside}
use Rattle.index.specs.Areas.{quick_tiles}
use Rattle.index.specs.Marks.{HopsTake}
use Rattle.index.specs.Folding.{Removes}
use Rattle.index.proofs.Behind.{beside_alike}
use Rattle.index.proofs.Apart.{beside_without, lawful_quiet}
use Rattle.image.specs.Places.{row_at, next_at, rows_from, Stands, RowHere}
use Rattle.image.proofs.Places.{next_hops}
use Rattle.image.proofs.Stands.{stands_split, stands_row, stands_next, stands_end}
use Rattle.image.proofs.Walks.{rows_split, no_rows}
use Rattle.changing.specs.finding.Spot.{Taken}
use Rattle.changing.proofs.finding.Ids.{rest_rises, rest_lawful, rest_higher, with_middle}
use Rattle.changing.specs.declared.closing.Gone.{Gone}
use Rattle.changing.specs.closing.Gone.{RowOut, GoneAt}

-- one of some rows of a lawful book is taken out of their index
row_out : {b : Book} {r : Row} {rows more : List Row} {t u : List ℕ} → LawfulBook b → With r rows more → RisingByKey more → ((x : Row) → x ∈ more → x ∈ b.rows)
    → Beside b.site more t → Removes (quick_tiles * b.site.plan.slots) (HopsTake b.site.plan.slots r (hops r)) t u → Beside b.site rows u
row_out {b} {r} {rows} {more} l p up known w a =
    beside_without b.site r rows (λ x m. lawful_quiet b l r x (known r (with_this p)) (known x (with_other x p m)) (λ e. with_alone x p up m (sym e)))
    (beside_alike (λ x m. with_in x p m) (λ x m. ⊎_elim (λ (e : x ≡ r). subst (λ (v : Row). v ∈ more) (sym e) (with_this p)) (λ (k : x ∈ rows). with_other x p k) m) w) a

module _ {s : List ℕ} {id at : ℕ} (t : Taken s id at) where
  -- the row at the place, the place behind it, and how many rows stand there
  abbrev first : Row
  first = row_at s at

  abbrev to : ℕ
  to = next_at s at

  abbrev behind : ℕ
  behind = t.left - 1

  on : Stands s to behind
  on = stands_next t.more t.stands

  pub here : RowHere s at
  here = stands_row t.more t.stands

  -- the image goes on behind the row, or it ends there
  pub goes_on : (to ≡ length s → ⊥) → 0 < behind
  goes_on f = let some : behind ≤ 0 → ⊥ = λ l. f (stands_end l on) in omega (arith, some)

  pub here_next : 0 < behind → RowHere s to
  here_next l = stands_row l on

  -- all rows; and the others, once the row at the place is taken out
  all_split : rows_in s ≡ t.stands.before ++ (first ∷ rows_from s behind to)
  all_split = t.stands.all ∙ ap (λ (rows : List Row). t.stands.before ++ rows) (stands_split t.more t.stands)

  all_rise : RisingByKey (t.stands.before ++ (first ∷ rows_from s behind to))
  all_rise = subst RisingByKey all_split t.stands.stored.lawful.rising

  all_known : (x : Row) → x ∈ (t.stands.before ++ (first ∷ rows_from s behind to)) → x ∈ rows_in s
  all_known x m = subst (λ (rows : List Row). x ∈ rows) (sym all_split) m

  first_out : {u v : List ℕ} → Beside (site_of s) (rows_in s) u → RowOut (plan_of s).slots first u v → Beside (site_of s) (t.stands.before ++ rows_from s behind to) v
  first_out {u} w a =
      row_out {b = book_in s} t.stands.stored.lawful (with_middle first t.stands.before (rows_from s behind to)) all_rise all_known
      (subst (λ (rows : List Row). Beside (site_of s) rows u) all_split w) a

  -- rows of the id, and higher ones behind them
  gone_at : (gone rest : List Row) → first ∷ rows_from s behind to ≡ gone ++ rest → ((r : Row) → r ∈ gone → r.id ≡ id) → ((r : Row) → r ∈ rest → id < r.id)
      → {words : List ℕ} → Beside (site_of s) (t.stands.before ++ rest) words
      → (g : Gone) → g.rows ≡ length gone → g.hops ≡ hops_in_all gone → g.next ≡ at + (row_length (version_of s) * length gone + 3 * hops_in_all gone) → g.next ≤ length s
      → GoneAt s id at words g
  gone_at gone rest split same above w g n h e l = record {
    before = t.stands.before;
    gone = gone;
    rest = rest;
    all = all_split ∙ ap (λ (rows : List Row). t.stands.before ++ rows) split;
    inside = t.stands.inside;
    bytes = t.stands.bytes ∙ ap (in_turn (encode_row (version_of s))) (stands_split t.more t.stands ∙ split);
    lower = t.lower;
    of_id = same;
    higher = above;
    count = n;
    hops = h;
    next = e ∙ ap (λ (k : ℕ). at + k) (sym (length_rows (version_of s) gone sized));
    fits = l;
    index = w;
  }
    where
      sized : AllSized (version_of s) gone
      sized r m = lawful_sized (rest_lawful t.more t.stands r (subst (λ (rows : List Row). r ∈ rows) (sym split) (in_left r gone rest m)))

  module _ {u v : List ℕ} (w : Beside (site_of s) (rows_in s) u) (a : RowOut (plan_of s).slots first u v) where
    -- ONE ROW
    alone : (g : Gone) → g.rows ≡ 1 → g.hops ≡ hops first → g.next ≡ to → ((r : Row) → r ∈ rows_from s behind to → id < r.id) → GoneAt s id at v g
    alone g n h e above =
        gone_at (first ∷ []) (rows_from s behind to) refl
        (λ r m. ⊎_elim (λ (e : r ≡ first). ap (λ (x : Row). x.id) e ∙ t.named) (λ (k : r ∈ []). absurd k) m) above (first_out w a) g n (omega arith)
        (omega (arith, next_hops s at here.whole)) (omega (arith, here.whole.fits))

    pub alone_last : (g : Gone) → g.rows ≡ 1 → g.hops ≡ hops first → g.next ≡ to → to ≡ length s → GoneAt s id at v g
    alone_last g n h e end =
        let some : 0 < behind → ⊥ = λ l. omega (arith, (here_next l).whole.front, end) in
        alone g n h e (λ r m. absurd (subst (λ (rows : List Row). r ∈ rows) (no_rows s behind to (omega (arith, some))) m))

    -- another behind it
    module _ (more : 0 < behind) where
      abbrev second : Row
      second = row_at s to

      split : rows_from s behind to ≡ second ∷ rows_from s (behind - 1) (next_at s to)
      split = rows_split more on

      above_first : key first < key second
      above_first = (rest_rises t.more t.stands).0 second (subst (λ (rows : List Row). second ∈ rows) (sym split) (inl refl))

      pub alone_here : (g : Gone) → g.rows ≡ 1 → g.hops ≡ hops first → g.next ≡ to → (second.id ≡ id → ⊥) → GoneAt s id at v g
      alone_here g n h e other =
          alone g n h e
          (λ r m. rest_higher more on higher r (subst (λ (rows : List Row). r ∈ rows) split m))
        where
          higher : id < second.id
          higher = omega (arith, above_first, t.named, other, (rest_lawful more on second (inl refl)).way_most)

      -- TWO ROWS
      second_out : {next : ℕ} {z : List ℕ} → next ≡ to → RowOut (plan_of s).slots (row_at s next) v z → Beside (site_of s) (t.stands.before ++ rows_from s (behind - 1) (next_at s to)) z
      second_out {z = z} e b =
          let p = with_middle first t.stands.before (rows_from s behind to) in
          row_out {b = book_in s} t.stands.stored.lawful (with_middle second t.stands.before (rows_from s (behind - 1) (next_at s to)))
          (subst (λ (rows : List Row). RisingByKey (t.stands.before ++ rows)) split (with_less _ p all_rise))
          (λ x m. all_known x (with_other x p (subst (λ (rows : List Row). x ∈ (t.stands.before ++ rows)) (sym split) m)))
          (subst (λ (rows : List Row). Beside (site_of s) (t.stands.before ++ rows) v) split (first_out w a)) (subst (λ (k : ℕ). RowOut (plan_of s).slots (row_at s k) v z) e b)

      pub both : {next : ℕ} {z : List ℕ} → next ≡ to → RowOut (plan_of s).slots (row_at s next) v z → (g : Gone) → g.rows ≡ 2 → g.hops ≡ hops first + hops second → g.next ≡ next_at s to
          → second.id ≡ id → GoneAt s id at z g
      both f b g n h e same =
          gone_at (first ∷ second ∷ []) (rows_from s (behind - 1) (next_at s to)) (ap (λ (rows : List Row). first ∷ rows) split) of_id above (second_out f b) g n
          (omega arith) (omega (arith, next_hops s at here.whole, next_hops s to (here_next more).whole)) (omega (arith, (here_next more).whole.fits))
        where
          of_id : (r : Row) → r ∈ (first ∷ second ∷ []) → r.id ≡ id
          of_id r (inl e) = ap (λ (x : Row). x.id) e ∙ t.named
          of_id r (inr (inl e)) = ap (λ (x : Row). x.id) e ∙ same
          of_id r (inr (inr m)) = absurd m

          above : (r : Row) → r ∈ rows_from s (behind - 1) (next_at s to) → id < r.id
          above r m =
              omega
              (arith, above_first, (rest_rises more on).0 r m, t.named, same, (rest_lawful t.more t.stands first (inl refl)).way_some, (rest_lawful more on r (inr m)).way_most)
