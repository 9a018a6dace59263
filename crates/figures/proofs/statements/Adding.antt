-- The turns of a row's hops, added hop by hop to what their ends use.
use mathlib.Core.Path.{◌≡◌, refl, sym, ap, ap₂, ◌∙◌, subst}
use mathlib.Core.Logic.{inl, inr, ⊎_elim}
use mathlib.Core.Bool.{Bool, true, false, cond}
use mathlib.Core.List.{List}
use Prim.Native.Nat.{ℕ, zero, suc, ◌+◌, ◌*◌, ◌<◌, ◌≤◌}
use native.Mathlib.Decide.{ℕ_discrete}
use native.Mathlib.Numerals.{add-one}
use native.Mathlib.Omega.{arith}
use lib.ListN.{length, get_or, set, length-set}
use lib.Seq.{get_or-set_same, get_or-set_other}
use Rattle.rules.specs.Words.{Tests, Distinct}
use Rattle.rules.specs.Tiles.{repeats, cycle_tiles}
use Rattle.rules.specs.Topology.{Hop, Touches}
use Rattle.rules.specs.Book.{Row, hops, row_hop}
use Rattle.rules.specs.Table.{touches, sum_below}
use Rattle.rules.proofs.Lists.{pair_at}
use Rattle.rules.proofs.Slots.{tests_touches}
use Rattle.operations.specs.balances.Counts.{row_used}
use Rattle.operations.proofs.balances.Balances.{counts, counts_not}
use Rattle.figures.specs.statements.Passes.{most_slots, most_sums, Below, Added, hop_turns}

-- ONE HOP
module _ (before : List ℕ) (i j turns : ℕ) (l : i < length before) (m : j < length before) (apart : i ≡ j → ⊥) {x y : ℕ}
    (first : x ≡ get_or before i 0 + turns) (second : y ≡ get_or (set before i x) j 0 + turns) where
  abbrev h : Hop
  h = record { from = i; to = j }

  abbrev once : List ℕ
  once = set before i x

  long : j < length once
  long = omega (arith, length-set before i x)

  it : (node : ℕ) → Tests (touches node h) (Touches node h)
  it node = tests_touches node h

  abbrev More : ℕ → Type 0
  More node = get_or (set once j y) node 0 ≡ get_or before node 0 + hop_turns h turns node

  at_first : More i
  at_first =
      omega (arith, get_or-set_other once j i y 0 apart, get_or-set_same before i x 0 l, first, counts turns (it i) (inl refl))

  at_second : More j
  at_second =
      omega (arith, get_or-set_same once j y 0 long, second, get_or-set_other before i j x 0 (λ e. apart (sym e)), counts turns (it j) (inr refl))

  elsewhere : (node : ℕ) → (node ≡ i → ⊥) → (node ≡ j → ⊥) → More node
  elsewhere node f g =
      omega (arith, get_or-set_other once j node y 0 g, get_or-set_other before i node x 0 f, counts_not turns (it node) (λ t. ⊎_elim f g t))

  pub hop_added : Added (hop_turns h turns) before (set once j y)
  hop_added = record { size = length-set once j y ∙ length-set before i x; each = λ node. go node (ℕ_discrete node i) (ℕ_discrete node j) }
    where
      go : (node : ℕ) → Dec (node ≡ i) → Dec (node ≡ j) → More node
      go node (yes e) d = subst More (sym e) at_first
      go node (no f) (yes e) = subst More (sym e) at_second
      go node (no f) (no g) = elsewhere node f g

-- the ends of a row's hop are two nodes
pub nodes_apart : (r : Row) {x y : ℕ} (i : ℕ) → Distinct r.route → i < hops r → x ≡ get_or r.route i 0 → y ≡ get_or r.route (i + 1) 0 → x ≡ y → ⊥
nodes_apart r i d l e f q = pair_at (λ (x y : ℕ). x ≡ y → ⊥) r.route i (i + 1) d (omega arith) (omega arith) (sym e ∙ q ∙ f)

-- ONE HOP AFTER THE OTHER
-- the turns of the row's first n hops
abbrev pub first_hops : Row → ℕ → ℕ → ℕ → ℕ
first_hops r turns n node = sum_below n (λ (i : ℕ). hop_turns (row_hop r i) turns node)

few : (r : Row) (turns n node : ℕ) → turns ≤ cycle_tiles → first_hops r turns n node ≤ n * cycle_tiles
few r turns zero node l = omega arith
few r turns (suc n) node l = omega (arith, few r turns n node l, one (touches node (row_hop r n)))
  where
    one : (t : Bool) → cond t turns 0 ≤ cycle_tiles
    one true = l
    one false = omega arith

module _ (r : Row) (turns : ℕ) where
  pub hops_none : (sums : List ℕ) → Added (first_hops r turns 0) sums sums
  hops_none sums = record { size = refl; each = λ node. omega arith }

  pub hops_more : (n : ℕ) {x y : ℕ} {before sums after : List ℕ} → x ≡ get_or r.route n 0 → y ≡ get_or r.route (n + 1) 0
      → Added (first_hops r turns n) before sums → Added (hop_turns (record { from = x; to = y }) turns) sums after → Added (first_hops r turns (n + 1)) before after
  hops_more n {x} {y} {before} {sums} {after} e f a b = record {
    size = b.size ∙ a.size;
    each = λ node. subst (λ (k : ℕ). get_or after node 0 ≡ get_or before node 0 + first_hops r turns k node) (sym (add-one n)) (omega (arith, a.each node, b.each node, same node));
  }
    where
      same : (node : ℕ) → hop_turns (record { from = x; to = y }) turns node ≡ hop_turns (row_hop r n) turns node
      same node = ap₂ (λ (p q : ℕ). hop_turns (record { from = p; to = q }) turns node) e (f ∙ ap (λ (k : ℕ). get_or r.route k 0) (add-one n))

  pub hops_done : (n : ℕ) {before after : List ℕ} → n ≡ hops r → turns ≡ repeats r.period → Added (first_hops r turns n) before after
      → Added (λ (node : ℕ). row_used node r) before after
  hops_done n {before} {after} e f a = record {
    size = a.size;
    each = λ node. a.each node ∙ ap₂ (λ (k t : ℕ). get_or before node 0 + first_hops r t k node) e f;
  }

  -- nothing overflows
  pub hops_room : (n : ℕ) {before sums : List ℕ} → turns ≤ cycle_tiles → n < 256 → Below most_slots before → Added (first_hops r turns n) before sums → Below most_sums sums
  hops_room n l k w a = record { size = a.size ∙ w.size; each = λ node. omega (arith, a.each node, w.each node, few r turns n node l) }
