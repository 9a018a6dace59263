-- The moduli of the rows, one row after the other.
use mathlib.Core.Path.{◌≡◌, sym, ap, ◌∙◌, subst, subst₂}
use mathlib.Core.Logic.{◌⊎◌, inl, inr, ⊎_elim}
use mathlib.Core.List.{List}
use Prim.Native.Nat.{ℕ, ◌+◌, ◌<◌, ◌≤◌}
use native.Mathlib.Nat.{eq-or-lt_of_le}
use native.Mathlib.Omega.{arith}
use lib.ListN.{length, get_or, set, length-set}
use lib.Seq.{get_or-set_same, get_or-set_other}
use Rattle.rules.specs.Book.{Row}
use Rattle.rules.specs.Image.{plan_of}
use Rattle.placing.specs.plain.Plain.{LeftOut, Weighed, nth_row, Weighs}
use Rattle.placing.specs.plain.Plain.Weighed.{weighs, indexed}

-- the first i rows have their moduli, and the index leaves none out from so many rows on
pub record Weighing (s : List ℕ) (start K : ℕ) (moduli : List ℕ) (rows i : ℕ) : Type 0 where
  pub size : length moduli ≡ 64
  pub most : rows ≤ i
  pub each : (j : ℕ) → j < i → Weighed (plan_of s).slots K (nth_row s start j).period (get_or moduli j 0)
  pub others : (j : ℕ) → rows ≤ j → j < i → LeftOut K (nth_row s start j).period → ⊥

pub weighing_none : (s : List ℕ) (start K : ℕ) (moduli : List ℕ) → length moduli ≡ 64 → Weighing s start K moduli 0 0
weighing_none s start K moduli e = record {
  size = e;
  most = omega arith;
  each = λ j l. absurd (omega arith);
  others = λ j m l. absurd (omega arith);
}

module _ {s : List ℕ} {start K : ℕ} {moduli : List ℕ} {rows i : ℕ} (w : Weighing s start K moduli rows i) where
  pub weighing_more : {m rows' : ℕ} → i < 64 → Weighed (plan_of s).slots K (nth_row s start i).period m
      → ((m ≡ 0) × (rows' ≡ rows)) ⊎ ((0 < m) × (rows' ≡ i + 1)) → Weighing s start K (set moduli i m) rows' (i + 1)
  weighing_more {m} {rows'} l here f = record {
    size = length-set moduli i m ∙ w.size;
    most = ⊎_elim (λ (q : (m ≡ 0) × (rows' ≡ rows)). omega (arith, q.1, w.most)) (λ (q : (0 < m) × (rows' ≡ i + 1)). omega (arith, q.1)) f;
    each = each;
    others = λ j k h. out j k h f;
  }
    where
      each : (j : ℕ) → j < i + 1 → Weighed (plan_of s).slots K (nth_row s start j).period (get_or (set moduli i m) j 0)
      each j h = ⊎_elim
          (λ (q : j ≡ i).
          subst (λ (k : ℕ). Weighed (plan_of s).slots K (nth_row s start k).period (get_or (set moduli i m) k 0)) (sym q)
          (subst (Weighed (plan_of s).slots K (nth_row s start i).period) (sym (get_or-set_same moduli i m 0 (omega (arith, w.size)))) here))
          (λ (k : j < i).
          subst (Weighed (plan_of s).slots K (nth_row s start j).period) (sym (get_or-set_other moduli i j m 0 (λ q. omega arith))) (w.each j k))
          (eq-or-lt_of_le (omega arith))

      none : (L : ℕ) → Weighed (plan_of s).slots K L m → m ≡ 0 → LeftOut K L → ⊥
      none L (weighs out some q) z h = omega arith
      none L (indexed g q) z h = g h

      out : (j : ℕ) → rows' ≤ j → j < i + 1 → ((m ≡ 0) × (rows' ≡ rows)) ⊎ ((0 < m) × (rows' ≡ i + 1)) → LeftOut K (nth_row s start j).period → ⊥
      out j k h (inr q) o = omega (arith, q.1)
      out j k h (inl q) o = ⊎_elim
          (λ (p : j ≡ i). none (nth_row s start i).period here q.0 (subst (λ (x : ℕ). LeftOut K (nth_row s start x).period) p o))
          (λ (p : j < i). w.others j (omega (arith, q.1)) p o)
          (eq-or-lt_of_le (omega arith))

  pub weighing_done : {n : ℕ} → i ≡ n → Weighs s start n K moduli rows
  weighing_done {n} e = subst (λ (x : ℕ). Weighs s start x K moduli rows) e
      (record { most = w.most; each = λ j l. w.each j (omega (arith, l, w.most)); others = w.others; room = w.size })

-- a modulus that was worked out is that of row i
pub weighed_there : (s : List ℕ) (start i : ℕ) {S K L m : ℕ} {r : Row} → S ≡ (plan_of s).slots → L ≡ r.period → r ≡ nth_row s start i → Weighed S K L m
    → Weighed (plan_of s).slots K (nth_row s start i).period m
weighed_there s start i {K = K} {m = m} e f g w =
    subst₂ (λ (S L : ℕ). Weighed S K L m) e (f ∙ ap (λ (r : Row). r.period) g) w
