-- From the two passes to the figures of the book, and to those of any image.
use mathlib.Core.Path.{◌≡◌, refl, sym, ap, ◌∙◌, subst}
use mathlib.Core.Logic.{inl, inr}
use mathlib.Core.List.{List}
use Prim.Native.Nat.{ℕ, ◌-◌, ◌<◌, ◌≤◌}
use native.Mathlib.Omega.{arith}
use lib.ListN.{length, get_or}
use Rattle.rules.specs.Tiles.{PlanInRange}
use Rattle.rules.specs.Topology.{nodes}
use Rattle.rules.specs.Records.{the_plan}
use Rattle.rules.specs.Image.{header_length, links_place, version_of, nodes_of, links_of}
use Rattle.rules.specs.Table.{sum_below, used}
use Rattle.rules.proofs.Lists.{count_unique}
use Rattle.rules.proofs.Reading.{book_in, LawfulImage}
use Rattle.rules.proofs.Sums.{sum_ext}
use Rattle.rules.proofs.Written.{length_sets_at}
use Rattle.image.specs.declared.Book as head
use Rattle.image.specs.Header.{HeaderOf}
use Rattle.image.proofs.Stands.{stored_length}
use Rattle.operations.specs.balances.Counts.{DataSlots}
use Rattle.operations.proofs.balances.Balances.{used_fits, balance_of}
use Rattle.lawful.specs.Verdict.{NumberOf}
use Rattle.std.specs.Prelude.{Ok, Err}
use Rattle.rules.specs.declared.refusals.Refusal.{Refusal}
use Rattle.rules.specs.Said.{number_of}
use Rattle.figures.specs.declared.statements.Figures.{Figures}
use Rattle.figures.specs.statements.Statement.{FreeOf, Fewest}
use Rattle.figures.specs.statements.Figures.{most_nodes, FiguresOf, FiguresSay}
use Rattle.figures.specs.statements.Passes.{most_slots, Below, Passed, Summed}
use Rattle.rules.proofs.Said.{refuses}

pub stored_long : {s : List ℕ} → LawfulImage s → header_length ≤ length s
stored_long h = omega (arith, stored_length h)

-- the image is refused
pub figures_refused : {s : List ℕ} (refusal : Refusal) → NumberOf s (number_of refusal) → FiguresSay s (Err refusal)
figures_refused {s} refusal v = record {
  says = inl (v.says, refuses refusal);
  refused = λ g. refl;
  done = λ e. absurd (refuses refusal e);
}

-- the image is that of a lawful book
module _ {s : List ℕ} (h : LawfulImage s) {book : head.Book} (read : HeaderOf s book) where
  pub plan_held : PlanInRange (the_plan book.plan)
  plan_held = subst PlanInRange (sym read.plan) h.lawful.site.plan

  known : nodes (links_of s) ≡ book.nodes
  known = length_sets_at s (links_place s) (nodes_of s) ∙ sym read.nodes

  pub some_nodes : 0 < book.nodes
  some_nodes = omega (arith, known, h.lawful.site.nodes.0)

  pub few_nodes : book.nodes ≤ most_nodes
  few_nodes = omega (arith, known, h.lawful.site.nodes.1)

  module _ {slots : ℕ} (d : DataSlots (the_plan book.plan) slots) {sums : List ℕ} {latest : ℕ} (p : Passed s sums latest) where
    pub few_slots : slots ≤ most_slots
    few_slots = omega (arith, d.most, plan_held.most)

    pub below_slots : Below slots sums
    below_slots = record { size = p.size; each = λ node. used_fits (book_in s) h.lawful node read.plan d (p.uses node) }

    free : (node : ℕ) → FreeOf (book_in s) node (slots - get_or sums node 0)
    free node = (balance_of (book_in s) h.lawful node read.plan d (p.uses node)).all_free

    module _ {r : Figures} (w : Summed slots book.nodes sums latest r) where
      fewest : Fewest (book_in s) r.fewest
      fewest = record {
        node = w.fewest.node;
        known = omega (arith, w.fewest.known, known);
        has = subst (FreeOf (book_in s) w.fewest.node) (sym w.fewest.has) (free w.fewest.node);
        least = λ a k l f. omega (arith, count_unique (λ i e. e) (λ i e. e) (free a) f, w.fewest.first a (omega (arith, known)));
      }

      figures_of : FiguresOf (book_in s) r
      figures_of = record {
        count = w.count ∙ sym known;
        size = w.size;
        frees = λ node l. subst (FreeOf (book_in s) node) (sym (w.frees node (omega (arith, w.count)))) (free node);
        rest = λ node l. w.rest node (omega (arith, w.count));
        line = record {
          fewest_is = fewest;
          used_is =
              w.used ∙ sum_ext book.nodes (λ (node : ℕ). get_or sums node 0) (used (book_in s)) (λ node l. p.uses node)
              ∙ ap (λ (n : ℕ). sum_below n (used (book_in s))) (sym known);
          latest_is = w.latency ∙ p.latest_is;
        };
      }

      pub figures_done : FiguresSay s (Ok r)
      figures_done = record {
        says = inr (version_of s, book_in s, h, refl);
        refused = λ g. absurd (g refl);
        done = λ e. (version_of s, book_in s, h, figures_of);
      }
