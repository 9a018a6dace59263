-- A hop of a row that is taken out: its nodes and its slots are in the index.
use mathlib.Core.Path.{◌≡◌, ap, ◌∙◌, subst}
use mathlib.Core.List.{List}
use Prim.Native.Nat.{ℕ, suc, ◌+◌, ◌*◌, ◌<◌}
use native.Mathlib.Numerals.{add-one}
use native.Mathlib.Omega.{arith}
use lib.ListN.{get_or}
use Rattle.rules.specs.Topology.{Hop}
use Rattle.rules.specs.Book.{Row, hops, row_hop, row_offset}
use Rattle.rules.specs.Image.{plan_of}
use Rattle.rules.specs.declared.Node.{Node}
use Rattle.rules.proofs.Reading.{LawfulImage}
use Rattle.bitset.specs.clash.Reach.{End, node_at, hop}
use Rattle.index.specs.Turns.{RepeatsOf, TakesIn, InIndex}
use Rattle.index.specs.Areas.{quick_tiles}
use Rattle.index.specs.Marks.{HopsTake}
use Rattle.index.specs.Folding.{Removes}
use Rattle.index.specs.declared.Repeats.{Repeats}
use Rattle.index.proofs.Turns.{in_index}
use Rattle.index.proofs.Removing.{unhops_more}
use Rattle.image.specs.Places.{row_at, RowHere}
use Rattle.image.proofs.Hops.{node_known, offset_within}
use Rattle.changing.specs.closing.Gone.{RowMarked}

-- a row of a lawful book
pub row_marked : {s : List ℕ} {at S : ℕ} → LawfulImage s → RowHere s at → S ≡ (plan_of s).slots → RowMarked S (row_at s at)
row_marked {s} {at} h w e = record {
  few = omega (arith, e, h.lawful.site.plan.most);
  period = w.lawful.period;
  known = λ i l. omega (arith, node_known w.lawful i l, h.lawful.site.nodes.1);
  within = λ i l. rw e (offset_within w.lawful i l);
}

module _ {S : ℕ} {r : Row} (w : RowMarked S r) {repeats : Repeats} (v : RepeatsOf S r.period repeats) (i : ℕ) where
  pub hop_in_index : {o : ℕ} → i < hops r → o ≡ row_offset r i → InIndex repeats o
  hop_in_index l e = in_index v w.few w.period (rw e (w.within i l))

  -- one hop more is taken out
  module _ {from to : Node} {o : ℕ} (e : from.0 ≡ get_or r.route i 0) (f : to.0 ≡ get_or r.route (i + 1) 0) (g : o ≡ row_offset r i) where
    hop_is : hop from to ≡ row_hop r i
    hop_is = let k : to.0 ≡ get_or r.route (suc i) 0 = f ∙ ap (λ (n : ℕ). get_or r.route n 0) (add-one i) in λ j. record { from = e j; to = k j }

    pub hop_out : {before t u : List ℕ} → Removes (quick_tiles * S) (HopsTake S r i) before t
        → Removes repeats.fold.0 (λ (end : End) (slot node : ℕ). TakesIn repeats o slot × (node ≡ node_at end (hop from to))) t u
        → Removes (quick_tiles * S) (HopsTake S r (i + 1)) before u
    hop_out {t = t} {u} a b =
        unhops_more S r i v a
        (subst (λ (k : Hop). Removes repeats.fold.0 (λ (end : End) (slot node : ℕ). TakesIn repeats (row_offset r i) slot × (node ≡ node_at end k)) t u) hop_is
        (subst (λ (p : ℕ). Removes repeats.fold.0 (λ (end : End) (slot node : ℕ). TakesIn repeats p slot × (node ≡ node_at end (hop from to))) t u) g b))
