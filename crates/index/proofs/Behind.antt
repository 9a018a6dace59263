-- What stands behind the slots of an index: a site's links and hearing, which stay where rows are marked and taken out.
use mathlib.Core.Path.{◌≡◌, sym, ap, ◌∙◌, subst}
use mathlib.Core.List.{List, ◌∷◌, ◌++◌, append_assoc}
use Prim.Native.Nat.{ℕ, ◌+◌, ◌*◌, ◌-◌, ◌<◌, ◌≤◌}
use native.Mathlib.Omega.{arith}
use lib.ListN.{length, get_or, take, drop}
use lib.Seq.{paste, take-paste, drop-paste, length-paste, take-take, take_at, drop_at, take-length, length-take-le, get_or-take}
use Rattle.rules.specs.Words.{◌∈◌}
use Rattle.rules.specs.Tiles.{Period}
use Rattle.rules.specs.Book.{Site, Row, hops, row_offset}
use Rattle.bitset.specs.Sets.{SetOf}
use Rattle.bitset.specs.clash.Reach.{End}
use Rattle.bitset.specs.clash.Reach.End.{sender, receiver}
use Rattle.index.specs.Areas.{quick_tiles, fold_place, index_slots, slow_place, links_behind, hearing_behind, index_length, word_at}
use Rattle.index.specs.Marks.{Adds, Notes, HopsTake}
use Rattle.index.specs.Folding.{Removes}
use Rattle.index.specs.Index.{RowsTake, IndexOf, StandAt, SitePut, Beside}
use Rattle.index.proofs.Folding.{same_fold}
use Rattle.index.proofs.Lending.{further}
use Rattle.index.proofs.Rows.{index_more, index_alike}
use Rattle.index.proofs.Removing.{index_less}

stand_still : (place : ℕ) (these t u : List ℕ) → drop place u ≡ drop place t → StandAt place these t → StandAt place these u
stand_still place these t u e w = ap (take (length these)) e ∙ w

-- PUTTING WORDS
module _ (d : List ℕ) (at : ℕ) (s : List ℕ) (fits : at + length s ≤ length d) where
  abbrev put : List ℕ
  put = paste d at s (length s)

  put_front : take at put ≡ take at d
  put_front =
      sym (take-take at (at + length s) put (omega arith)) ∙ ap (take at) (take-paste d at s (length s) (omega arith) (omega arith))
      ∙ take_at (take at d) (take (length s) s) at (length-take-le at d (omega arith))

  put_there : StandAt at s put
  put_there =
      let front : List ℕ = take at d in
      let rest : List ℕ = drop (at + length s) d in
      ap (λ (l : List ℕ). take (length s) (drop at l)) (append_assoc front (take (length s) s) rest)
      ∙ ap (take (length s)) (drop_at front (take (length s) s ++ rest) at (length-take-le at d (omega arith)))
      ∙ take_at (take (length s) s) rest (length s) (length-take-le (length s) s (omega arith)) ∙ take-length s

  put_behind : drop (at + length s) put ≡ drop (at + length s) d
  put_behind = drop-paste d at s (length s) (omega arith) (omega arith)

  put_size : length put ≡ length d
  put_size = length-paste d at s (length s) fits (omega arith)

-- the hearing is put, then the links
pub site_put : {links hearing before mid after : List ℕ} → length links ≤ 64 → length hearing ≤ 64 → length before ≡ index_length
    → mid ≡ paste before hearing_behind hearing (length hearing) → after ≡ paste mid links_behind links (length links) → SitePut links hearing before after
site_put {links} {hearing} {before} {mid} {after} few even size e f = record {
  size = ap length f ∙ put_size mid links_behind links inner ∙ same;
  front = ap (take links_behind) f ∙ put_front mid links_behind links inner ∙ sym (take-take links_behind hearing_behind mid (omega arith))
      ∙ ap (take links_behind) (ap (take hearing_behind) e ∙ put_front before hearing_behind hearing outer) ∙ take-take links_behind hearing_behind before (omega arith);
  links_stand = subst (StandAt links_behind links) (sym f) (put_there mid links_behind links inner);
  hearing_stands = stand_still hearing_behind hearing mid after behind (subst (StandAt hearing_behind hearing) (sym e) (put_there before hearing_behind hearing outer));
}
  where
    outer : hearing_behind + length hearing ≤ length before
    outer = omega (arith, size)

    same : length mid ≡ length before
    same = ap length e ∙ put_size before hearing_behind hearing outer

    inner : links_behind + length links ≤ length mid
    inner = omega (arith, same, size)

    behind : drop hearing_behind after ≡ drop hearing_behind mid
    behind =
        let k : links_behind + length links + (64 - length links) ≡ hearing_behind = omega arith in
        subst (λ (n : ℕ). drop n after ≡ drop n mid) k
        (further (links_behind + length links) (64 - length links) mid after (ap (drop (links_behind + length links)) f ∙ put_behind mid links_behind links inner))

-- behind the index of a site's rows
pub site_beside : {site : Site} {rows : List Row} {links hearing t u : List ℕ} → site.plan.slots ≤ 32 → IndexOf site.plan.slots rows t → SitePut links hearing t u
    → links ≡ site.links.rows → hearing ≡ site.hearing.rows → Beside site rows u
site_beside {site} {rows} {t = t} {u} most w p e f = record {
  slots = record {
    size = p.size ∙ w.size;
    sets = λ end slot l. subst (SetOf (RowsTake site.plan.slots rows end slot)) (sym (same (word_at end slot) (low end slot (omega arith)))) (w.sets end slot l);
    folded = same_fold (omega arith) (λ end slot l. same (word_at end slot) (low end slot l)) w.folded;
    none_slow = λ z. w.none_slow (sym (same slow_place (omega arith)) ∙ z);
  };
  links = subst (λ (these : List ℕ). StandAt links_behind these u) e p.links_stand;
  hearing = subst (λ (these : List ℕ). StandAt hearing_behind these u) f p.hearing_stands;
}
  where
    same : (i : ℕ) → i < links_behind → get_or u i 0 ≡ get_or t i 0
    same i l = sym (get_or-take links_behind u i 0 l) ∙ ap (λ (x : List ℕ). get_or x i 0) p.front ∙ get_or-take links_behind t i 0 l

    low : (end : End) (slot : ℕ) → slot < index_slots → word_at end slot < links_behind
    low sender slot l = omega (arith, l)
    low receiver slot l = omega (arith, l)

-- an index with other slots and the same links and hearing
pub beside_still : {site : Site} {rows others : List Row} (t u : List ℕ) → drop links_behind u ≡ drop links_behind t → Beside site rows t → IndexOf site.plan.slots others u
    → Beside site others u
beside_still {site} t u e w i = record {
  slots = i;
  links = stand_still links_behind site.links.rows t u e w.links;
  hearing = stand_still hearing_behind site.hearing.rows t u (further links_behind 64 t u e) w.hearing;
}

module _ {site : Site} {r : Row} {rows : List Row} where
  -- the row is marked, and its period noted
  pub beside_more : {t u v : List ℕ} → site.plan.slots ≤ 32 → Beside site rows t → Period r.period
      → ((i : ℕ) → i < hops r → row_offset r i < r.period * site.plan.slots) → Adds (HopsTake site.plan.slots r (hops r)) t u
      → Notes r.period u v → Beside site (r ∷ rows) v
  beside_more {t} {u} {v} most w p within a b = beside_still t v (b.behind ∙ further slow_place 1 t u a.behind) w (index_more most w.slots p within a b)

  -- a row less, whose ends no other row shares
  pub beside_less : {t u : List ℕ} → Beside site (r ∷ rows) t → Removes (quick_tiles * site.plan.slots) (HopsTake site.plan.slots r (hops r)) t u
      → ((end : End) (slot node : ℕ) → slot < fold_place → RowsTake site.plan.slots rows end slot node → HopsTake site.plan.slots r (hops r) end slot node → ⊥) → Beside site rows u
  beside_less {t} {u} w a apart = beside_still t u (further slow_place 1 t u a.behind) w (index_less w.slots a apart)

-- the order of the rows makes no difference
pub beside_alike : {site : Site} {xs ys : List Row} {words : List ℕ} → ((x : Row) → x ∈ xs → x ∈ ys) → ((x : Row) → x ∈ ys → x ∈ xs) → Beside site xs words → Beside site ys words
beside_alike f g w = record { slots = index_alike f g w.slots; links = w.links; hearing = w.hearing }
