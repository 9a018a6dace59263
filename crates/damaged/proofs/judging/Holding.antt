-- A row held against the rows kept where they stand: by the index, and by the plain test with those that it leaves out.
use mathlib.Core.Path.{◌≡◌, sym, ◌∙◌, subst, subst₂}
use Rattle.std.specs.Bool.{MatchBool}
use Rattle.std.specs.List.{AllWithin, HoldsAt, range_with_len}
use Rattle.std.proofs.lemmas.List.FromFn.{length-range_with_len, get_or-range_with_len}
use mathlib.Core.Logic.{◌⊎◌, inl, inr, ⊎_elim}
use mathlib.Core.Bool.{Bool, true, false}
use mathlib.Core.List.{List}
use Prim.Native.Nat.{ℕ, ◌+◌, ◌*◌, ◌<◌, ◌≤◌}
use native.Mathlib.Nat.{eq-or-lt_of_le}
use native.Mathlib.Decide.{dec_lt}
use native.Mathlib.Omega.{arith}
use lib.ListN.{length, get_or, set}
use lib.Seq.{get_or-set_same, get_or-set_other}
use Rattle.rules.specs.Words.{◌∈◌, Tests}
use Rattle.rules.specs.Tiles.{PlanInRange, Period, short_tiles}
use Rattle.rules.specs.Book.{Row, row_hop, row_offset, LawfulRow, RowsMeet}
use Rattle.rules.specs.Image.{plan_of, FieldsInRange, hearing_of, site_of}
use Rattle.rules.proofs.Tests.{alike, fails, said_yes, said_no}
use Rattle.bitset.specs.clash.Reach.{End, Clashes, ReachOf}
use Rattle.bitset.specs.declared.clash.Reach.{Reach}
use Rattle.index.specs.Index.{IndexOf}
use Rattle.index.specs.Marks.{InReach}
use Rattle.index.proofs.Meets.{meets_row, row_meets}
use Rattle.image.proofs.Hops.{offset_within}
use Rattle.placing.specs.plain.Plain.{LeftOut, Weighed, AgreesRow, MeetsRow}
use Rattle.placing.proofs.plain.Agreeing.{row_agrees_meets, row_meets_agrees}
use Rattle.placing.proofs.plain.Alike.{row_for}
use Rattle.placing.proofs.plain.Beside.{row_clashing, clashing_row}
use Rattle.rows.specs.Hops.{HopIndexed}
use Rattle.damaged.specs.judging.Placed.{placed, RowsPlaced, WeighsPlaced, AgreesPlaced, MeetsPlaced, HopAgrees, RowAgrees, RowMeets}

-- the first values have P, and one more that is set behind them
pub each_set : (P : ℕ → ℕ → Type 0) (xs : List ℕ) (i m : ℕ) → i < length xs → ((j : ℕ) → j < i → P j (get_or xs j 0)) → P i m → (j : ℕ) → j < i + 1
    → P j (get_or (set xs i m) j 0)
each_set P xs i m l f p j h = ⊎_elim
    (λ (q : j ≡ i). subst (λ (k : ℕ). P k (get_or (set xs i m) k 0)) (sym q) (subst (P i) (sym (get_or-set_same xs i m 0 l)) p))
    (λ (k : j < i). subst (P j) (sym (get_or-set_other xs i j m 0 (λ q. omega arith))) (f j k)) (eq-or-lt_of_le (omega arith))

-- THE MODULI: row i has this one
abbrev pub Moduli : List ℕ → List ℕ → ℕ → ℕ → ℕ → Type 0
Moduli s places K i m = Weighed (plan_of s).slots K (placed s places i).period m

pub weighed_there : (s places : List ℕ) (i : ℕ) {S K L m : ℕ} → S ≡ (plan_of s).slots → L ≡ (placed s places i).period → Weighed S K L m → Moduli s places K i m
weighed_there s places i {K = K} {m = m} e f w = subst₂ (λ (S L : ℕ). Weighed S K L m) e f w

-- where no period is over 100, none has to be looked at
pub weighs_none : {s places moduli : List ℕ} {n K : ℕ} → K ≤ short_tiles → ((i : ℕ) → i < n → (placed s places i).period ≤ short_tiles) → WeighsPlaced s places n K moduli 0
weighs_none {s} {places} {n = n} {K} k f = record {
  most = omega arith;
  each = λ i l. absurd (omega arith);
  others = λ i l m out. ⊎_elim (λ (h : short_tiles < K). omega arith) (λ (h : short_tiles < (placed s places i).period). omega (arith, h, f i m)) out;
}

-- each row was asked
pub tests_agree : (C : End → ℕ → Type 0) (s places moduli : List ℕ) (rows o : ℕ) (t : Bool)
    → MatchBool t
    ((k : ℕ) × (k < length (range_with_len 0 rows))
    × HoldsAt (λ (j : ℕ). (0 < get_or moduli j 0) × AgreesRow C (placed s places j) (get_or moduli j 0) o) (range_with_len 0 rows) k)
    (AllWithin (λ (j : ℕ). (0 < get_or moduli j 0) × AgreesRow C (placed s places j) (get_or moduli j 0) o → ⊥) (range_with_len 0 rows) 0 (length (range_with_len 0 rows)))
    → Tests t (AgreesPlaced C s places rows moduli o)
tests_agree C s places moduli rows o true (k, l, h) =
    let m : k < rows = omega (arith, l, length-range_with_len 0 rows) in
    let e : get_or (range_with_len 0 rows) k 0 ≡ k = get_or-range_with_len 0 rows k 0 m ∙ omega arith in
    let g = subst (λ (j : ℕ). (0 < get_or moduli j 0) × AgreesRow C (placed s places j) (get_or moduli j 0) o) e (h 0) in
    said_yes record { row = k; there = m; weighed = g.0; row_agrees = g.1 }
tests_agree C s places moduli rows o false f = said_no none
  where
    none : AgreesPlaced C s places rows moduli o → ⊥
    none a =
        let e : get_or (range_with_len 0 rows) a.row 0 ≡ a.row = get_or-range_with_len 0 rows a.row 0 a.there ∙ omega arith in
        let n = f a.row 0 (omega arith) (omega (arith, a.there, length-range_with_len 0 rows)) in
        subst (λ (j : ℕ). (0 < get_or moduli j 0) × AgreesRow C (placed s places j) (get_or moduli j 0) o → ⊥) e n (a.weighed, a.row_agrees)

-- AGREEING is meeting
module _ {s places : List ℕ} {n K o : ℕ} (there : RowsPlaced s places n) (plan : PlanInRange (plan_of s)) (p : Period K) (l : o < K * (plan_of s).slots)
    {C : End → ℕ → Type 0} {moduli : List ℕ} {rows : ℕ} (w : WeighsPlaced s places n K moduli rows) where
  agrees_meets : AgreesPlaced C s places rows moduli o → MeetsPlaced C s places n K o
  agrees_meets a =
      let inside : a.row < n = omega (arith, a.there, w.most) in
      let k = row_agrees_meets (there.each a.row inside).lawful plan p l (w.each a.row a.there) a.weighed a.row_agrees in
      record { row = a.row; there = inside; left_out = k.0; meets = k.1 }

  meets_agrees : MeetsPlaced C s places n K o → AgreesPlaced C s places rows moduli o
  meets_agrees m = go (dec_lt m.row rows)
    where
      go : Dec (m.row < rows) → AgreesPlaced C s places rows moduli o
      go (no f) = absurd (w.others m.row (omega arith) m.there m.left_out)
      go (yes h) =
          let k = row_meets_agrees (there.each m.row m.there).lawful plan p l (w.each m.row h) m.left_out m.meets in
          record { row = m.row; there = h; weighed = k.0; row_agrees = k.1 }

-- with other ends that are alike
agrees_for : (C D : End → ℕ → Type 0) → ((end : End) (k : ℕ) → C end k → D end k) → {s places : List ℕ} {rows : ℕ} {moduli : List ℕ} {o : ℕ}
    → AgreesPlaced C s places rows moduli o → AgreesPlaced D s places rows moduli o
agrees_for C D f m = record { row = m.row; there = m.there; weighed = m.weighed; row_agrees = row_for C D f m.row_agrees }

-- A HOP that is not found in the index
pub hop_agrees : (r : Row) (i : ℕ) {words s places moduli : List ℕ} {rows o : ℕ} {reach : Reach} {t u : Bool} → ReachOf (hearing_of s) (row_hop r i) reach
    → o ≡ row_offset r i → Tests t (HopIndexed words s r i) → t ≡ false → Tests u (AgreesPlaced (InReach reach) s places rows moduli o)
    → Tests u (HopAgrees words s places rows moduli r i)
hop_agrees r i {s = s} {places} {moduli} {rows} {reach = reach} {u = u} k' g t e a =
    alike (subst (λ (p : ℕ). Tests u (AgreesPlaced (InReach reach) s places rows moduli p)) g a)
    (λ k. inr (agrees_for (InReach reach) (Clashes (hearing_of s) (row_hop r i)) (λ end node q. (k' end).only node q) k))
    (λ h. ⊎_elim (λ k. absurd (fails t e k)) (λ k. agrees_for (Clashes (hearing_of s) (row_hop r i)) (InReach reach) (λ end node q. (k' end).all node q) k) h)

-- WHAT THE MODULI SAY of the row's hops is what they meet of the rows kept
pub row_compared : {words s places moduli : List ℕ} {n K rows : ℕ} {r : Row} {t : Bool} → FieldsInRange s → LawfulRow (site_of s) r → RowsPlaced s places n → K ≡ r.period
    → WeighsPlaced s places n K moduli rows → Tests t (RowAgrees words s places rows moduli r) → Tests t (RowMeets words s places n r)
row_compared {s = s} {places} {moduli} {n} {rows = rows} {r} fields row there e v m =
    alike m
    (λ h. (h.0, h.1, ⊎_elim (λ k. inl k) (λ k. inr (agrees_meets there fields.plan row.period (offset_within row h.0 h.1) weighs k)) h.2))
    (λ h. (h.0, h.1, ⊎_elim (λ k. inl k) (λ k. inr (meets_agrees there fields.plan row.period (offset_within row h.0 h.1) weighs k)) h.2))
  where
    weighs : WeighsPlaced s places n r.period moduli rows
    weighs = subst (λ (K : ℕ). WeighsPlaced s places n K moduli rows) e v

-- THE ROWS THEMSELVES: they are the n that stand at the places, and the words are their index
module _ {s places words : List ℕ} {n : ℕ} {r : Row} {rows : List Row} (fields : FieldsInRange s) (law : LawfulRow (site_of s) r) (there : RowsPlaced s places n)
    (known : (i : ℕ) → i < n → placed s places i ∈ rows) (nth : (x : Row) → x ∈ rows → (i : ℕ) × (i < n) × (x ≡ placed s places i))
    (index : IndexOf (plan_of s).slots rows words) where
  pub found_row : RowMeets words s places n r → (x : Row) × (x ∈ rows) × RowsMeet (site_of s) r x
  found_row (i, l, inl m) =
      let q = meets_row {site = site_of s} index law.period fields.plan.most (offset_within law i l) m in
      (q.0, q.1, record { hop = i; there = l; meets = q.2 })
  found_row (i, l, inr m) =
      (placed s places m.row, known m.row m.there, record { hop = i; there = l; meets = row_clashing s (placed s places m.row) m.meets })

  -- where the index leaves one of the periods out it is met by the plain test, and otherwise in the index
  pub row_found : (x : Row) → x ∈ rows → RowsMeet (site_of s) r x → RowMeets words s places n r
  row_found x m k = (k.hop, k.there, go (dec_lt short_tiles r.period) (dec_lt short_tiles x.period))
    where
      q : (i : ℕ) × (i < n) × (x ≡ placed s places i)
      q = nth x m

      plain : LeftOut r.period x.period
          → MeetsPlaced (Clashes (hearing_of s) (row_hop r k.hop)) s places n r.period (row_offset r k.hop)
      plain out = record {
        row = q.0;
        there = q.1;
        left_out = subst (λ (y : Row). LeftOut r.period y.period) q.2 out;
        meets = subst
            (λ (y : Row). MeetsRow (Clashes (hearing_of s) (row_hop r k.hop)) (plan_of s).slots r.period y (row_offset r k.hop)) q.2
            (clashing_row s x k.meets);
      }

      go : Dec (short_tiles < r.period) → Dec (short_tiles < x.period)
          → HopIndexed words s r k.hop
          ⊎ MeetsPlaced (Clashes (hearing_of s) (row_hop r k.hop)) s places n r.period (row_offset r k.hop)
      go (yes h) f = inr (plain (inl h))
      go (no h) (yes f) = inr (plain (inr f))
      go (no h) (no f) =
          inl (row_meets {site = site_of s} index law.period fields.plan.most (offset_within law k.hop k.there) fields.plan.some (omega arith) x m
          (subst (LawfulRow (site_of s)) (sym q.2) (there.each q.0 q.1).lawful) (omega arith) k.meets)
