-- Periods up to ten tiles, which ten tiles have a whole number of times, and the others, which are whole tens; and slots in the fold.
use mathlib.Core.Path.{◌≡◌, refl, sym, ap, ◌∙◌, subst}
use mathlib.Core.Logic.{◌⊎◌, inl, inr}
use Prim.Native.Nat.{ℕ, ◌+◌, ◌*◌, ◌/◌, ◌%◌, ◌<◌}
use native.Mathlib.Omega.{arith}
use lib.Dec.{lit<}
use native.Mathlib.Nat.{add-mul-mod_self_right, mod-eq_of_lt, mod-lt, div-add-mod', mul-le-mul_right, mul_assoc}
use Rattle.rules.specs.Tiles.{Period}
use Rattle.index.specs.Areas.{quick_tiles}

-- of a period up to ten tiles so many turns are ten tiles; of another ten tiles have none, and it is so many tens
abbrev pub Class : ℕ → Type 0
Class K = ((quick_tiles / K * K ≡ quick_tiles) × (0 < quick_tiles / K)) ⊎ ((quick_tiles / K ≡ 0) × ((n : ℕ) × (K ≡ n * quick_tiles)))

-- what holds of each of the ten periods
by_period : (P : ℕ → Type 0) → P 1 → P 2 → P 5 → P 10 → P 20 → P 50 → P 100 → P 200 → P 500 → P 1000 → (K : ℕ) → Period K → P K
by_period P a b c d e f g h i j K (inl q) = subst P (sym q) a
by_period P a b c d e f g h i j K (inr (inl q)) = subst P (sym q) b
by_period P a b c d e f g h i j K (inr (inr (inl q))) = subst P (sym q) c
by_period P a b c d e f g h i j K (inr (inr (inr (inl q)))) = subst P (sym q) d
by_period P a b c d e f g h i j K (inr (inr (inr (inr (inl q))))) = subst P (sym q) e
by_period P a b c d e f g h i j K (inr (inr (inr (inr (inr (inl q)))))) = subst P (sym q) f
by_period P a b c d e f g h i j K (inr (inr (inr (inr (inr (inr (inl q))))))) = subst P (sym q) g
by_period P a b c d e f g h i j K (inr (inr (inr (inr (inr (inr (inr (inl q)))))))) = subst P (sym q) h
by_period P a b c d e f g h i j K (inr (inr (inr (inr (inr (inr (inr (inr (inl q))))))))) = subst P (sym q) i
by_period P a b c d e f g h i j K (inr (inr (inr (inr (inr (inr (inr (inr (inr (inl q)))))))))) = subst P (sym q) j
by_period P a b c d e f g h i j K (inr (inr (inr (inr (inr (inr (inr (inr (inr (inr x)))))))))) = elim x [ ]

pub class_of : (K : ℕ) → Period K → Class K
class_of =
    by_period Class (inl (refl, lit< tt)) (inl (refl, lit< tt)) (inl (refl, lit< tt)) (inl (refl, lit< tt)) (inr (refl, (2, refl))) (inr (refl, (5, refl))) (inr (refl, (10, refl)))
    (inr (refl, (20, refl))) (inr (refl, (50, refl))) (inr (refl, (100, refl)))

-- IN THE FOLD a slot of a hop of a period up to ten tiles is one of its slots in ten tiles
module _ (S K o : ℕ) (whole : quick_tiles / K * K ≡ quick_tiles) (some : 0 < quick_tiles / K) where
  -- so many tens on is so many turns on
  pub tens_on : (t ten : ℕ) → o + t * (K * S) + ten * (quick_tiles * S) ≡ o + (t + ten * (quick_tiles / K)) * (K * S)
  tens_on t ten =
      let e : ten * (quick_tiles * S) ≡ ten * (quick_tiles / K) * (K * S) =
      ap (λ (x : ℕ). ten * (x * S)) (sym whole) ∙ ap (λ (x : ℕ). ten * x) (mul_assoc (quick_tiles / K) K S) ∙ sym (mul_assoc ten (quick_tiles / K) (K * S)) in
      omega (arith, e)

  pub fold_quick : (t : ℕ) → o < K * S → (o + t * (K * S)) % (quick_tiles * S) ≡ o + t % (quick_tiles / K) * (K * S)
  fold_quick t l =
      let c : ℕ = quick_tiles / K in
      let F : ℕ = quick_tiles * S in
      let turns : t % c + t / c * c ≡ t = omega (arith, div-add-mod' t c) in
      let on : o + t % c * (K * S) + t / c * F ≡ o + t * (K * S) = tens_on (t % c) (t / c) ∙ ap (λ (x : ℕ). o + x * (K * S)) turns in
      let ten : c * (K * S) ≡ F = sym (mul_assoc c K S) ∙ ap (λ (x : ℕ). x * S) whole in
      let low : o + t % c * (K * S) < F = omega (arith, ten, mul-le-mul_right (K * S) (mod-lt t some)) in
      ap (λ (x : ℕ). x % F) (sym on) ∙ add-mul-mod_self_right (o + t % c * (K * S)) (t / c) F ∙ mod-eq_of_lt low

-- and of a period of whole tens it is always the same
pub fold_short : (S K o n : ℕ) → K ≡ n * quick_tiles → (t : ℕ) → (o + t * (K * S)) % (quick_tiles * S) ≡ o % (quick_tiles * S)
fold_short S K o n e t =
    let on : t * (K * S) ≡ t * n * (quick_tiles * S) =
    ap (λ (x : ℕ). t * (x * S)) e ∙ ap (λ (x : ℕ). t * x) (mul_assoc n quick_tiles S) ∙ sym (mul_assoc t n (quick_tiles * S)) in
    ap (λ (x : ℕ). (o + x) % (quick_tiles * S)) on ∙ add-mul-mod_self_right o (t * n) (quick_tiles * S)
