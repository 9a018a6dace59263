-- Over the rows of an image: what each node uses and the longest latency, by the rows so far and by all.
use mathlib.Core.Path.{◌≡◌, refl, sym, ap, ◌∙◌}
use mathlib.Core.List.{List, [], ◌∷◌, ◌++◌}
use Prim.Native.Nat.{ℕ, zero, suc, ◌+◌, ◌-◌, ◌<◌, ◌≤◌, max}
use native.Mathlib.Omega.{arith}
use lib.ListN.{length, get_or, replicate, length-replicate}
use Rattle.rules.specs.Words.{Pairwise, total}
use Rattle.rules.specs.Book.{Row, hops, row_offset}
use Rattle.rules.proofs.Reading.{rows_in, book_in, LawfulImage}
use Rattle.rules.proofs.Lists.{pair_at, total_append}
use Rattle.operations.specs.balances.Counts.{row_used}
use Rattle.operations.proofs.balances.Balances.{used_most}
use Rattle.operations.proofs.balances.Walks.{used_more}
use Rattle.figures.specs.statements.Statement.{latency, longest}
use Rattle.figures.specs.statements.Figures.{most_nodes}
use Rattle.figures.specs.statements.Passes.{most_slots, Below, Added, Passed}

-- the first offset comes no later than the last
pub first_last : (r : Row) → length r.offsets ≡ hops r → 1 ≤ hops r → Pairwise ◌<◌ r.offsets → row_offset r 0 ≤ row_offset r (hops r - 1)
first_last r size some rising = later (hops r - 1) (omega arith)
  where
    later : (k : ℕ) → k < length r.offsets → row_offset r 0 ≤ row_offset r k
    later zero l = omega arith
    later (suc k) l = let m = pair_at ◌<◌ r.offsets 0 (suc k) rising (omega arith) l in omega arith

pub latency_is : (r : Row) {h last first n : ℕ} → h ≡ hops r → last ≡ row_offset r (h - 1) → first ≡ row_offset r 0 → n ≡ last - first → n + 1 ≡ latency r
latency_is r a b c d = omega (arith, b ∙ ap (λ (k : ℕ). row_offset r (k - 1)) a, c, d)

longest_more : (rows : List Row) (r : Row) → longest (rows ++ (r ∷ [])) ≡ max (longest rows) (latency r)
longest_more [] r = omega arith
longest_more (x ∷ rows) r = omega (arith, longest_more rows r)

-- by some rows this is what each node uses, and their longest latency
pub record Passing (rows : List Row) (sums : List ℕ) (latest : ℕ) : Type 0 where
  pub size : length sums ≡ most_nodes
  pub uses : (node : ℕ) → get_or sums node 0 ≡ total (row_used node) rows
  pub latest_is : latest ≡ longest rows

-- zeros
pub none : (k node : ℕ) → get_or {A = ℕ} (replicate k 0) node 0 ≡ 0
none zero node = refl
none (suc k) zero = refl
none (suc k) (suc node) = none k node

pub passing_none : {sums : List ℕ} → sums ≡ replicate most_nodes 0 → Passing [] sums 0
passing_none {sums} z = record {
  size = ap length z ∙ length-replicate {A = ℕ} most_nodes 0;
  uses = λ node. ap (λ (x : List ℕ). get_or x node 0) z ∙ none most_nodes node;
  latest_is = refl;
}

module _ {rows : List Row} {sums : List ℕ} {latest : ℕ} (w : Passing rows sums latest) where
  -- no node uses more than the cycle has
  pub passing_low : (s : List ℕ) (rest : List Row) → LawfulImage s → rows_in s ≡ rows ++ rest → Below most_slots sums
  passing_low s rest h e = record {
    size = w.size;
    each = λ node. omega (arith, w.uses node, ap (total (row_used node)) e, total_append (row_used node) rows rest, used_most (book_in s) h.lawful node, h.lawful.site.plan.most);
  }

  pub passing_more : (r : Row) {after : List ℕ} {late later : ℕ} → Added (λ (node : ℕ). row_used node r) sums after → late ≡ latency r → later ≡ max latest late
      → Passing (rows ++ (r ∷ [])) after later
  passing_more r a e f = record {
    size = a.size ∙ w.size;
    uses = λ node. omega (arith, a.each node, w.uses node, used_more node rows r);
    latest_is = omega (arith, f, e, w.latest_is, longest_more rows r);
  }

  pub passing_all : (s : List ℕ) → rows_in s ≡ rows → Passed s sums latest
  passing_all s e = record {
    size = w.size;
    uses = λ node. w.uses node ∙ ap (total (row_used node)) (sym e);
    latest_is = w.latest_is ∙ ap longest (sym e);
  }
