-- The walk that tests row after row.
use mathlib.Core.Path.{◌≡◌, sym, ap, ◌∙◌, subst, subst₂}
use mathlib.Core.List.{List}
use Prim.Native.Nat.{ℕ, zero, suc, ◌<◌, ◌≤◌, ◌-◌}
use native.Mathlib.Numerals.{unary_clauses}
use native.Mathlib.Omega.{arith}
use lib.Dec.{eqb}
use lib.ListN.{length, get_or, take}
use Rattle.std.specs.Prelude.{Option, Some, IfSome}
use Rattle.rules.specs.Words.{Tests}
use Rattle.rules.specs.Tiles.{PlanInRange}
use Rattle.rules.specs.Topology.{nodes}
use Rattle.rules.specs.Book.{Row, hops}
use Rattle.rules.specs.Records.{the_plan}
use Rattle.rules.specs.Image.{links_place, sets_at, version_of, nodes_of, links_of, site_of, FieldsInRange}
use Rattle.rules.proofs.Tests.{alike, tests_eq}
use Rattle.rules.proofs.Written.{length_sets_at}
use Rattle.bitset.specs.Rows.{topology}
use Rattle.image.specs.Places.{row_at, next_at, InRange, Whole, Sets}
use Rattle.image.specs.declared.Book.{Book}
use Rattle.image.proofs.Hops.{node_known}
use Rattle.image.proofs.Walks.{lawful_in_range}
use Rattle.accounts.specs.Lists.{ListRead}
use Rattle.rows.specs.Frame.{ReadFrom}
use Rattle.rows.specs.Walk.{RowHolds, RowStands}
use Rattle.rows.specs.Pairs.{ComesBehind}
use Rattle.rows.specs.Fill.{RowsFill, AllFill}

-- WHAT WAS READ IS WHAT THE IMAGE HOLDS
module _ {s : List ℕ} {b : Book} {links : List ℕ} (o : ReadFrom s b links) where
  pub plan_read : PlanInRange (the_plan b.plan)
  plan_read = subst PlanInRange (sym o.list.header.plan) o.fields.plan

  pub nodes_read : length links ≡ nodes_of s
  nodes_read = ap length o.links_are ∙ length_sets_at s (links_place s) (nodes_of s)

  pub nodes_most : length links ≤ 64
  nodes_most = omega (arith, nodes_read, o.fields.nodes)

  pub topology_read : topology links ≡ links_of s
  topology_read = ap topology o.links_are

-- the links, once they are decoded
pub links_read : {s : List ℕ} {b : Book} {all : List ℕ} → FieldsInRange s → ListRead s b → Sets s (links_place s) b.nodes all → ReadFrom s b (take b.nodes all)
links_read {s} f h l = record { fields = f; list = h; links_are = l.rows ∙ ap (sets_at s (links_place s)) h.header.nodes }

-- an image has at most 64 nodes, and the nodes of its rows are below that
pub nodes_few : {s : List ℕ} → FieldsInRange s → nodes (links_of s) ≤ 64
nodes_few {s} f = omega (arith, length_sets_at s (links_place s) (nodes_of s), f.nodes)

pub node_small : {s : List ℕ} {at : ℕ} → FieldsInRange s → RowStands s at → (i : ℕ) → i ≤ hops (row_at s at) → get_or (row_at s at).route i 0 < 64
node_small f w i l = omega (arith, node_known w.lawful i l, nodes_few f)

-- and so they are in their ranges
pub stands_in_range : {s : List ℕ} {at : ℕ} → FieldsInRange s → RowStands s at → InRange (row_at s at)
stands_in_range f w = lawful_in_range f.plan (nodes_few f) w.lawful

-- a row stands where one that was read holds
pub row_tested : {s : List ℕ} {at : ℕ} {r : Row} → Whole s at → r ≡ row_at s at → RowHolds (version_of s) (site_of s) r → RowStands s at
row_tested {s} whole e h = let w = subst (RowHolds (version_of s) (site_of s)) e h in record { whole = whole; lawful = w.lawful; fits = w.fits }

-- THE WALK
-- all rows fill the image exactly if those that are left do
pub record Still (s : List ℕ) (before : Option Row) (at left : ℕ) : Type 0 where
  pub inside : at ≤ length s
  pub range : IfSome before InRange
  pub rest : AllFill s → RowsFill s left before at
  pub whole : RowsFill s left before at → AllFill s

-- the next row is a lawful one that may come behind
pub record Goes (s : List ℕ) (before : Option Row) (at : ℕ) : Type 0 where
  pub row : RowStands s at
  pub behind : ComesBehind before (row_at s at)

fill_more : (s : List ℕ) (n : ℕ) (before : Option Row) (at : ℕ) → 0 < n → RowsFill s n before at → Goes s before at × RowsFill s (n - 1) (Some (row_at s at)) (next_at s at)
unfolding RowsFill
fill_more s zero before at l h = absurd (omega arith)
fill_more s (suc n) before at l h = simp unary_clauses (record { row = h.0; behind = h.1 }, h.2)

more_fill : (s : List ℕ) (n : ℕ) (before : Option Row) (at : ℕ) → 0 < n → Goes s before at → RowsFill s (n - 1) (Some (row_at s at)) (next_at s at) → RowsFill s n before at
unfolding RowsFill
more_fill s zero before at l g h = absurd (omega arith)
more_fill s (suc n) before at l g h = (g.row, g.behind, simp unary_clauses at h)

fill_end : (s : List ℕ) (n : ℕ) (before : Option Row) (at : ℕ) → n ≤ 0 → RowsFill s n before at → at ≡ length s
unfolding RowsFill
fill_end s zero before at l h = h
fill_end s (suc n) before at l h = absurd (omega arith)

end_fill : (s : List ℕ) (n : ℕ) (before : Option Row) (at : ℕ) → n ≤ 0 → at ≡ length s → RowsFill s n before at
unfolding RowsFill
end_fill s zero before at l h = h
end_fill s (suc n) before at l h = absurd (omega arith)

module _ {s : List ℕ} {before : Option Row} {at left : ℕ} (w : Still s before at left) where
  pub still_no : 0 < left → (Goes s before at → ⊥) → AllFill s → ⊥
  still_no more n h = n (fill_more s left before at more (w.rest h)).0

  pub still_next : {next left' : ℕ} {r : Row} → 0 < left → left' ≡ left - 1 → Goes s before at → FieldsInRange s → next ≡ next_at s at → next ≤ length s → r ≡ row_at s at
      → Still s (Some r) next left'
  still_next {next} {left'} {r} more n g f e l q = record {
    inside = l;
    range = subst InRange (sym q) (stands_in_range f g.row);
    rest = λ h. subst₂ (λ (x : Row) (p : ℕ). RowsFill s left' (Some x) p) (sym q) (sym e)
        (subst (λ (k : ℕ). RowsFill s k (Some (row_at s at)) (next_at s at)) (sym n) (fill_more s left before at more (w.rest h)).1);
    whole = λ h. w.whole (more_fill s left before at more g
        (subst (λ (k : ℕ). RowsFill s k (Some (row_at s at)) (next_at s at)) n (subst₂ (λ (x : Row) (p : ℕ). RowsFill s left' (Some x) p) q e h)));
  }

  pub still_end : left ≤ 0 → Tests (eqb at (length s)) (AllFill s)
  still_end none = alike (tests_eq at (length s)) (λ e. w.whole (end_fill s left before at none e)) (λ h. fill_end s left before at none (w.rest h))
