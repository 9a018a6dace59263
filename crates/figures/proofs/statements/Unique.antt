-- Two figures that the contract allows are equal.
use Rattle.std.specs.Prelude.{Result, Ok, Err, IsErr, IsOkAnd}
use mathlib.Core.Path.{◌≡◌, sym, ap, ◌∙◌}
use mathlib.Core.Logic.{◌⊎◌, inl, inr}
use mathlib.Core.List.{List, []}
use Prim.Native.Nat.{ℕ, ◌<◌}
use native.Mathlib.Decide.{dec_lt}
use native.Mathlib.Nat.{le_antisymm}
use native.Mathlib.Omega.{arith}
use lib.ListN.{get_or}
use lib.Seq.{ext_get_or}
use Rattle.rules.specs.Book.{Book}
use Rattle.rules.specs.Calls.{OfBook}
use Rattle.rules.proofs.Lists.{count_unique}
use Rattle.rules.proofs.Unique.{both_of}
use Rattle.rules.specs.declared.refusals.Refusal.{Refusal}
use Rattle.rules.specs.Said.{said}
use Rattle.figures.specs.declared.statements.Figures.{Figures}
use Rattle.figures.specs.statements.Statement.{Fewest}
use Rattle.figures.specs.statements.Figures.{FiguresOf, FiguresSay}
use Rattle.rules.proofs.Said.{refuses}
use Rattle.figures.proofs.statements.Refusals.{one_refusal}

fewest_unique : {b : Book} {n m : ℕ} → Fewest b n → Fewest b m → n ≡ m
fewest_unique {n = n} {m} g h = le_antisymm (g.least h.node m h.known h.has) (h.least g.node n g.known g.has)

module _ {r x : Figures} where
  same : r.nodes ≡ x.nodes → r.free ≡ x.free → r.fewest ≡ x.fewest → r.used ≡ x.used → r.latency ≡ x.latency → r ≡ x
  same a b c d e = λ i. record { nodes = a i; free = b i; fewest = c i; used = d i; latency = e i }

  of_unique : {b : Book} → FiguresOf b r → FiguresOf b x → r ≡ x
  of_unique {b} g h =
      same nodes (ext_get_or 0 r.free x.free (g.size ∙ sym h.size) (λ node l. free node (dec_lt node r.nodes)))
      (fewest_unique g.line.fewest_is h.line.fewest_is) (g.line.used_is ∙ sym h.line.used_is) (g.line.latest_is ∙ sym h.line.latest_is)
    where
      nodes : r.nodes ≡ x.nodes
      nodes = g.count ∙ sym h.count

      free : (node : ℕ) → Dec (node < r.nodes) → get_or r.free node 0 ≡ get_or x.free node 0
      free node (yes l) = count_unique (λ i e. e) (λ i e. e) (g.frees node l) (h.frees node (omega (arith, nodes)))
      free node (no f) = g.rest node (omega arith) ∙ sym (h.rest node (omega (arith, nodes)))

pub one_figures : (image : List ℕ) (r x : Result Figures Refusal) → FiguresSay image r → FiguresSay image x → r ≡ x
one_figures image r x g h = one r x t.0 t.1
  where
    Both : Result Figures Refusal → Result Figures Refusal → Type 0
    Both r x = (IsErr r × IsErr x) ⊎ OfBook image (λ (v : ℕ) (b : Book). IsOkAnd r (FiguresOf b) × IsOkAnd x (FiguresOf b))

    t : (said r ≡ said x) × Both r x
    t = both_of image (λ (v : ℕ) (b : Book). []) g h

    one : (r x : Result Figures Refusal) → said r ≡ said x → Both r x → r ≡ x
    one (Ok r) (Ok x) e (inl p) = let f : IsErr {T = Figures} {E = Refusal} (Ok r) = p.0 in cc
    one (Ok r) (Ok x) e (inr p) = ap Ok (of_unique p.3.0 p.3.1)
    one (Ok r) (Err x) e p = absurd (refuses x (sym e))
    one (Err r) (Ok x) e p = absurd (refuses r e)
    one (Err r) (Err x) e p = ap Err (one_refusal r x e)
