-- What a hop meets of the rows of an image: by their index, or by the plain test.
use mathlib.Core.Path.{◌≡◌, sym, subst}
use mathlib.Core.Logic.{◌⊎◌, inl, inr}
use mathlib.Core.List.{List}
use Prim.Native.Nat.{ℕ, ◌*◌, ◌<◌}
use native.Mathlib.Decide.{dec_lt}
use native.Mathlib.Omega.{arith}
use Rattle.rules.specs.Words.{◌∈◌}
use Rattle.rules.specs.Tiles.{PlanInRange, Period, short_tiles}
use Rattle.rules.specs.Topology.{Hop}
use Rattle.rules.specs.Book.{Row, row_hop, LawfulRow, MeetsClashing}
use Rattle.rules.specs.Image.{plan_of, hearing_of, site_of}
use Rattle.bitset.specs.clash.Reach.{Clashes}
use Rattle.bitset.proofs.clash.Reaching.{clash_end, end_clash}
use Rattle.index.specs.Index.{IndexOf}
use Rattle.index.specs.Marks.{MeetsIn}
use Rattle.index.proofs.Meets.{meets_row, row_meets}
use Rattle.placing.specs.plain.Plain.{LeftOut, nth_row, RowsThere, MeetsRow, MeetsPlain}

-- the rows are the n that stand from the start on, and the words are their index
pub record IndexBeside (s : List ℕ) (start n : ℕ) (rows : List Row) (words : List ℕ) : Type 0 where
  pub in_range : PlanInRange (plan_of s)
  pub there : RowsThere s start n
  pub known : (i : ℕ) → i < n → nth_row s start i ∈ rows
  pub nth : (x : Row) → x ∈ rows → (i : ℕ) × (i < n) × (x ≡ nth_row s start i)
  pub index : IndexOf (plan_of s).slots rows words

-- a hop of the row that is met clashes
module _ (s : List ℕ) {K o : ℕ} {h : Hop} where
  pub row_clashing : (x : Row) → MeetsRow (Clashes (hearing_of s) h) (plan_of s).slots K x o → MeetsClashing (site_of s) x K h o
  row_clashing x m = record {
    hop = m.hop;
    there = m.there;
    clash = end_clash (hearing_of s) h (row_hop x m.hop) m.sought.end m.sought.sought;
    meet = m.meet;
  }

  pub clashing_row : (x : Row) → MeetsClashing (site_of s) x K h o → MeetsRow (Clashes (hearing_of s) h) (plan_of s).slots K x o
  clashing_row x m =
      let c = clash_end (hearing_of s) h (row_hop x m.hop) m.clash in
      record { hop = m.hop; there = m.there; sought = record { end = c.0; sought = c.1 }; meet = m.meet }

module _ {s : List ℕ} {start n : ℕ} {rows : List Row} {words : List ℕ} (w : IndexBeside s start n rows words) where
  pub row_lawful : (x : Row) → x ∈ rows → LawfulRow (site_of s) x
  row_lawful x m = let k = w.nth x m in subst (LawfulRow (site_of s)) (sym k.2) (w.there.each k.0 k.1).lawful

  module _ {K o : ℕ} (p : Period K) (l : o < K * (plan_of s).slots) {h : Hop} where
    pub meets_some : MeetsIn (Clashes (hearing_of s) h) (plan_of s).slots words K o ⊎ MeetsPlain (Clashes (hearing_of s) h) s start n K o
        → (x : Row) × (x ∈ rows) × MeetsClashing (site_of s) x K h o
    meets_some (inl m) = meets_row {site = site_of s} w.index p w.in_range.most l m
    meets_some (inr m) = (nth_row s start m.row, w.known m.row m.there, row_clashing s (nth_row s start m.row) m.meets)

    -- where the index leaves one of the periods out it is met by the plain test, and otherwise in the index
    pub some_meets : (x : Row) → x ∈ rows → MeetsClashing (site_of s) x K h o
        → MeetsIn (Clashes (hearing_of s) h) (plan_of s).slots words K o ⊎ MeetsPlain (Clashes (hearing_of s) h) s start n K o
    some_meets x m c = go (dec_lt short_tiles K) (dec_lt short_tiles x.period)
      where
        plain : LeftOut K x.period → MeetsPlain (Clashes (hearing_of s) h) s start n K o
        plain out =
            let k = w.nth x m in
            record {
              row = k.0;
              there = k.1;
              left_out = subst (λ (y : Row). LeftOut K y.period) k.2 out;
              meets = subst (λ (y : Row). MeetsRow (Clashes (hearing_of s) h) (plan_of s).slots K y o) k.2 (clashing_row s x c);
            }

        go : Dec (short_tiles < K) → Dec (short_tiles < x.period) → MeetsIn (Clashes (hearing_of s) h) (plan_of s).slots words K o ⊎ MeetsPlain (Clashes (hearing_of s) h) s start n K o
        go (yes k) q = inr (plain (inl k))
        go (no k) (yes q) = inr (plain (inr q))
        go (no k) (no q) = inl (row_meets {site = site_of s} w.index p w.in_range.most l w.in_range.some (omega arith) x m (row_lawful x m) (omega arith) c)
