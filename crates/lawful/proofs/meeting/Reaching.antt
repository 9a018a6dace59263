-- What a row's hops meet: by the index, or by the moduli of the rows before it.
use mathlib.Core.Path.{◌≡◌, sym, subst}
use mathlib.Core.Logic.{inl, inr, ⊎_elim}
use mathlib.Core.Bool.{Bool, true, false}
use mathlib.Core.List.{List}
use Prim.Native.Nat.{ℕ, ◌+◌, ◌<◌, ◌≤◌}
use native.Mathlib.Omega.{arith}
use lib.ListN.{get_or}
use Rattle.rules.specs.Words.{Tests}
use Rattle.rules.specs.Book.{Row, hops, row_hop, row_offset, LawfulRow}
use Rattle.rules.specs.Image.{plan_of, hearing_of, site_of}
use Rattle.rules.specs.declared.Node.{Node}
use Rattle.bitset.specs.Rows.{topology}
use Rattle.rules.proofs.Tests.{alike, never, fails, said_yes, said_no}
use Rattle.bitset.specs.clash.Reach.{End, node_at, hop, Clashes, ReachOf}
use Rattle.bitset.specs.declared.clash.Reach.{Reach}
use Rattle.index.specs.Turns.{TakesIn}
use Rattle.index.specs.Marks.{Adds, Notes, HopsTake, Finds, InReach}
use Rattle.index.specs.declared.Repeats.{Repeats}
use Rattle.index.proofs.Meets.{own_before, own_after}
use Rattle.image.proofs.Hops.{offset_within}
use Rattle.placing.specs.plain.Plain.{RowsThere, Weighs, Agrees}
use Rattle.placing.proofs.plain.Agreeing.{agrees_meets, meets_agrees}
use Rattle.placing.proofs.plain.Alike.{agrees_for}
use Rattle.rows.specs.Frame.{Framed}
use Rattle.rows.specs.Hops.{RowPlaced, HearingRead}
use Rattle.rows.proofs.Hops.{hop_put, reach_is, hop_found}
use Rattle.lawful.specs.meeting.Meeting.{HopAgrees, RowMeets, HopMarked, RowMarked, RowIn}

-- A HOP OF THE ROW
module _ {s : List ℕ} {r : Row} {repeats : Repeats} (w : RowPlaced s r repeats) {hearing : List ℕ} (v : HearingRead s hearing) (i : ℕ) {from to : Node}
    (e : from.0 ≡ get_or r.route i 0) (f : to.0 ≡ get_or r.route (i + 1) 0) {reach : Reach} (u : ReachOf (topology hearing) (hop from to) reach) where
  module _ {o : ℕ} {words : List ℕ} {t : Bool} (g : o ≡ row_offset r i) (m : Tests t (Finds (InReach reach) words repeats o)) where
    -- it meets something in the index
    pub hop_met : {start rows : ℕ} {moduli after : List ℕ} → t ≡ true → HopMarked s start rows moduli r i repeats words after true
    hop_met e' = record { adds = λ q. absurd (never (sym q)); met = said_yes (inl ((hop_found w v i e f u g m).yes e')) }

    -- or it agrees with one of the rows that have moduli
    module _ {start rows : ℕ} {moduli : List ℕ} {v' : Bool} (a : Tests v' (Agrees (InReach reach) s start rows moduli o)) where
      agrees_is : Tests v' (Agrees (Clashes (hearing_of s) (row_hop r i)) s start rows moduli (row_offset r i))
      agrees_is =
          alike (subst (λ (p : ℕ). Tests v' (Agrees (InReach reach) s start rows moduli p)) g a)
          (agrees_for (InReach reach) (Clashes (hearing_of s) (row_hop r i)) (λ end node q. (reach_is w v i e f u end).only node q))
          (agrees_for (Clashes (hearing_of s) (row_hop r i)) (InReach reach) (λ end node q. (reach_is w v i e f u end).all node q))

      pub hop_agreed : {after : List ℕ} → v' ≡ true → HopMarked s start rows moduli r i repeats words after true
      hop_agreed e = record { adds = λ q. absurd (never (sym q)); met = said_yes (inr (agrees_is.yes e)) }

      -- or neither, and it was marked
      pub hop_marked : {after : List ℕ} → t ≡ false → v' ≡ false
          → Adds (λ (end : End) (slot node : ℕ). TakesIn repeats o slot × (node ≡ node_at end (hop from to))) words after → HopMarked s start rows moduli r i repeats words after false
      hop_marked x d adds = record {
        adds = λ q. hop_put r i e f g adds;
        met = said_no (λ h. ⊎_elim (fails (hop_found w v i e f u g m) x) (fails agrees_is d) h);
      }

-- it meets no hop of its own row, so it may be looked up with those marked already
pub own_apart : {s : List ℕ} {r : Row} {i : ℕ} {repeats : Repeats} {start rows : ℕ} {moduli before words : List ℕ} {t : Bool} → RowPlaced s r repeats → i < hops r
    → Adds (HopsTake (plan_of s).slots r i) before words → Tests t (HopAgrees words s start rows moduli r i) → Tests t (HopAgrees before s start rows moduli r i)
own_apart w l a t =
    let row = w.lawful in
    alike t (λ h. ⊎_elim (λ m. inl (own_before row.offsets l a m)) (λ m. inr m) h)
    (λ h. ⊎_elim (λ m. inl (own_after row.offsets l a m)) (λ m. inr m) h)

-- WHAT THE MODULI SAY of the row's hops is what they meet of the rows before
pub row_compared : {s : List ℕ} {start n K rows : ℕ} {r : Row} {moduli before after : List ℕ} {t : Bool} → Framed s → LawfulRow (site_of s) r → RowsThere s start n → K ≡ r.period
    → Weighs s start n K moduli rows → RowMarked s start rows moduli r before after t → Tests t (RowMeets before s start n r)
row_compared {s} {start} {n} {rows = rows} {r} {moduli} framed row there e v m =
    alike m.met
    (λ h. (h.0, h.1, ⊎_elim (λ k. inl k) (λ k. inr (agrees_meets there framed.fields.plan row.period (offset_within row h.0 h.1) weighs k)) h.2))
    (λ h. (h.0, h.1, ⊎_elim (λ k. inl k) (λ k. inr (meets_agrees there framed.fields.plan row.period (offset_within row h.0 h.1) weighs k)) h.2))
  where
    weighs : Weighs s start n r.period moduli rows
    weighs = subst (λ (K : ℕ). Weighs s start n K moduli rows) e v

-- none is met, and the row is in the words
pub row_in : {s : List ℕ} {r : Row} {K : ℕ} {before words after : List ℕ} → K ≡ r.period → Adds (HopsTake (plan_of s).slots r (hops r)) before words
    → Notes K words after → RowIn s r before after
row_in {words = words} {after} e a n = record { words = words; adds = a; notes = subst (λ (K : ℕ). Notes K words after) e n }
