-- A hop of a row: its nodes, its slots, its reach.
use mathlib.Core.Path.{◌≡◌, sym, ap, ◌∙◌, subst}
use mathlib.Core.Bool.{Bool}
use mathlib.Core.List.{List}
use Prim.Native.Nat.{ℕ, suc, ◌+◌, ◌<◌}
use native.Mathlib.Numerals.{add-one}
use native.Mathlib.Omega.{arith}
use lib.ListN.{get_or}
use Rattle.rules.specs.Words.{Tests}
use Rattle.rules.specs.Topology.{Topology, Hop}
use Rattle.rules.specs.Book.{Row, hops, row_hop, row_offset}
use Rattle.rules.specs.Image.{FieldsInRange, hearing_of}
use Rattle.rules.specs.declared.Node.{Node}
use Rattle.bitset.specs.Rows.{topology}
use Rattle.bitset.specs.clash.Reach.{End, node_at, hop, Between, ReachOf}
use Rattle.bitset.specs.declared.clash.Reach.{Reach}
use Rattle.index.specs.Turns.{TakesIn, InIndex}
use Rattle.index.specs.Marks.{Adds, Finds, InReach}
use Rattle.index.specs.declared.Repeats.{Repeats}
use Rattle.index.proofs.Turns.{in_index}
use Rattle.index.proofs.Meets.{tests_meets}
use Rattle.image.proofs.Hops.{node_known, offset_within}
use Rattle.placing.specs.plain.Plain.{RowThere}
use Rattle.rows.specs.Walk.{RowStands}
use Rattle.rows.specs.Hops.{HopIndexed, RowPlaced, HearingRead}
use Rattle.rows.proofs.Walks.{nodes_few, node_small}

-- THE ROW
pub row_there : {s : List ℕ} {at : ℕ} → FieldsInRange s → RowStands s at → RowThere s at
row_there fields stands = record { whole = stands.whole; lawful = stands.lawful; small = node_small fields stands }

-- A HOP OF THE ROW

-- the hop that was read is the row's
module _ (r : Row) (i : ℕ) {from to : Node} (e : from.0 ≡ get_or r.route i 0) (f : to.0 ≡ get_or r.route (i + 1) 0) where
  pub hop_is : hop from to ≡ row_hop r i
  hop_is = let g : to.0 ≡ get_or r.route (suc i) 0 = f ∙ ap (λ (n : ℕ). get_or r.route n 0) (add-one i) in λ j. record { from = e j; to = g j }

  -- and so are its marks
  pub hop_put : {repeats : Repeats} {o : ℕ} {words after : List ℕ} → o ≡ row_offset r i
      → Adds (λ (end : End) (slot node : ℕ). TakesIn repeats o slot × (node ≡ node_at end (hop from to))) words after
      → Adds (λ (end : End) (slot node : ℕ). TakesIn repeats (row_offset r i) slot × (node ≡ node_at end (row_hop r i))) words after
  hop_put {repeats} {words = words} {after} g adds =
      subst (λ (h : Hop). Adds (λ (end : End) (slot node : ℕ). TakesIn repeats (row_offset r i) slot × (node ≡ node_at end h)) words after) hop_is
      (subst (λ (p : ℕ). Adds (λ (end : End) (slot node : ℕ). TakesIn repeats p slot × (node ≡ node_at end (hop from to))) words after) g adds)

module _ {s : List ℕ} {r : Row} {repeats : Repeats} (w : RowPlaced s r repeats) where
  pub hop_in_index : {i o : ℕ} → i < hops r → o ≡ row_offset r i → InIndex repeats o
  hop_in_index {i} l e = in_index w.repeats_are w.fields.plan.most w.lawful.period (rw e (offset_within w.lawful i l))

  module _ {hearing : List ℕ} (v : HearingRead s hearing) (i : ℕ) {from to : Node} (e : from.0 ≡ get_or r.route i 0)
      (f : to.0 ≡ get_or r.route (i + 1) 0) where
    pub between_here : i < hops r → Between (topology hearing) (hop from to)
    between_here l = subst (λ (T : Topology). Between T (hop from to)) (sym (ap topology v.rows_are)) (record {
      sound = v.sound.hearing_sound;
      most = omega (arith, v.sound.even, nodes_few w.fields);
      from = omega (arith, v.sound.even, node_known w.lawful i (omega arith));
      to = omega (arith, v.sound.even, node_known w.lawful (i + 1) (omega arith));
    })

    -- its reach is that of the row's hop
    module _ {reach : Reach} (u : ReachOf (topology hearing) (hop from to) reach) where
      pub reach_is : ReachOf (hearing_of s) (row_hop r i) reach
      reach_is =
          subst (λ (T : Topology). ReachOf T (row_hop r i) reach) (ap topology v.rows_are) (subst (λ (h : Hop). ReachOf (topology hearing) h reach) (hop_is r i e f) u)

      -- what is looked up is what it meets by the index
      pub hop_found : {o : ℕ} {words : List ℕ} {t : Bool} → o ≡ row_offset r i → Tests t (Finds (InReach reach) words repeats o) → Tests t (HopIndexed words s r i)
      hop_found {words = words} {t} g m = tests_meets _ reach_is w.repeats_are (subst (λ (p : ℕ). Tests t (Finds (InReach reach) words repeats p)) g m)
