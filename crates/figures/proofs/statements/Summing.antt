-- Over the nodes: the free slots, the fewest of them, and the sum of used.
use mathlib.Core.Path.{◌≡◌, refl, sym, ap, ◌∙◌, subst}
use mathlib.Core.Logic.{◌⊎◌, inl, inr}
use mathlib.Core.List.{List}
use Prim.Native.Nat.{ℕ, ◌+◌, ◌*◌, ◌-◌, ◌<◌, ◌≤◌, min}
use native.Mathlib.Decide.{dec_lt, ℕ_discrete}
use native.Mathlib.Omega.{arith}
use lib.ListN.{length, get_or, set, replicate, length-set, length-replicate}
use lib.Seq.{get_or-set_same, get_or-set_other}
use Rattle.rules.specs.Table.{sum_below}
use Rattle.operations.proofs.balances.Balances.{sum_more}
use Rattle.figures.specs.declared.statements.Figures.{Figures}
use Rattle.figures.specs.statements.Figures.{most_nodes}
use Rattle.figures.specs.statements.Passes.{most_slots, Least, Summed}
use Rattle.figures.proofs.statements.Passing.{none}

-- of the first n nodes the free slots are given, zeros for the others; the fewest and the sum are theirs
pub record Summing (slots n : ℕ) (sums free : List ℕ) (fewest sum : ℕ) : Type 0 where
  pub size : length free ≡ most_nodes
  pub frees : (node : ℕ) → node < n → get_or free node 0 ≡ slots - get_or sums node 0
  pub rest : (node : ℕ) → n ≤ node → get_or free node 0 ≡ 0
  pub least : (node : ℕ) → node < n → fewest ≤ slots - get_or sums node 0
  pub some : (fewest ≡ slots) ⊎ ((node : ℕ) × (node < n) × (fewest ≡ slots - get_or sums node 0))
  pub total : sum ≡ sum_below n (λ (node : ℕ). get_or sums node 0)
  pub few : sum ≤ n * most_slots

module _ (slots : ℕ) (sums : List ℕ) where
  pub summing_none : Summing slots 0 sums (replicate most_nodes 0) slots 0
  summing_none = record {
    size = length-replicate {A = ℕ} most_nodes 0;
    frees = λ node l. omega arith;
    rest = λ node l. none most_nodes node;
    least = λ node l. omega arith;
    some = inl refl;
    total = refl;
    few = omega arith;
  }

module _ {slots n : ℕ} {sums free : List ℕ} {fewest sum : ℕ} (w : Summing slots n sums free fewest sum) where
  module _ (inside : n < most_nodes) (most : get_or sums n 0 ≤ most_slots) {fewer : ℕ} (f : fewer ≡ min fewest (slots - get_or sums n 0)) where
    abbrev after : List ℕ
    after = set free n (slots - get_or sums n 0)

    pub summing_more : Summing slots (n + 1) sums after fewer (sum + get_or sums n 0)
    summing_more = record {
      size = length-set free n (slots - get_or sums n 0) ∙ w.size;
      frees = λ node l. here node l (ℕ_discrete node n);
      rest = λ node l. get_or-set_other free n node (slots - get_or sums n 0) 0 (λ e. omega arith) ∙ w.rest node (omega arith);
      least = λ node l. low node l (ℕ_discrete node n);
      some = found (dec_lt fewest (slots - get_or sums n 0)) w.some;
      total = sum_more (λ (node : ℕ). get_or sums node 0) w.total refl;
      few = omega (arith, w.few);
    }
      where
        here : (node : ℕ) → node < n + 1 → Dec (node ≡ n) → get_or after node 0 ≡ slots - get_or sums node 0
        here node l (yes e) = subst (λ (k : ℕ). get_or after k 0 ≡ slots - get_or sums k 0) (sym e) (get_or-set_same free n (slots - get_or sums n 0) 0 (omega (arith, w.size)))
        here node l (no g) = get_or-set_other free n node (slots - get_or sums n 0) 0 g ∙ w.frees node (omega arith)

        low : (node : ℕ) → node < n + 1 → Dec (node ≡ n) → fewer ≤ slots - get_or sums node 0
        low node l (yes e) = omega (arith, f, ap (λ (k : ℕ). get_or sums k 0) e)
        low node l (no g) = omega (arith, f, w.least node (omega arith))

        found : Dec (fewest < slots - get_or sums n 0) → (fewest ≡ slots) ⊎ ((node : ℕ) × (node < n) × (fewest ≡ slots - get_or sums node 0))
            → (fewer ≡ slots) ⊎ ((node : ℕ) × (node < n + 1) × (fewer ≡ slots - get_or sums node 0))
        found (yes l) (inl e) = inl (omega arith)
        found (yes l) (inr p) = inr (p.0, omega (arith, p.1), omega (arith, p.2))
        found (no l) p = inr (n, omega arith, omega arith)

  pub summing_end : {r : Figures} {latest : ℕ} → 0 < n → r.nodes ≡ n → r.free ≡ free → r.fewest ≡ fewest → r.used ≡ sum
      → r.latency ≡ latest → Summed slots n sums latest r
  summing_end {r} l b c d e g = record {
    count = b;
    size = ap length c ∙ w.size;
    frees = λ node k. ap (λ (x : List ℕ). get_or x node 0) c ∙ w.frees node k;
    rest = λ node k. ap (λ (x : List ℕ). get_or x node 0) c ∙ w.rest node k;
    fewest = subst (Least n (λ (node : ℕ). slots - get_or sums node 0)) (sym d) (reached w.some);
    used = e ∙ w.total;
    latency = g;
  }
    where
      reached : (fewest ≡ slots) ⊎ ((node : ℕ) × (node < n) × (fewest ≡ slots - get_or sums node 0)) → Least n (λ (node : ℕ). slots - get_or sums node 0) fewest
      reached (inl q) = record { node = 0; known = l; has = omega (arith, w.least 0 l); first = w.least }
      reached (inr p) = record { node = p.0; known = p.1; has = p.2; first = w.least }
