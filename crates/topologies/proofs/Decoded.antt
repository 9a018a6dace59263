-- Topology rows decoded one by one.
use mathlib.Core.Path.{◌≡◌, refl, sym, ap, ap₂, ◌∙◌}
use mathlib.Core.List.{List, [], ◌∷◌, ◌++◌}
use Prim.Native.Nat.{ℕ, zero, suc, ◌+◌, ◌*◌, ◌<◌, ◌≤◌, ◌-◌}
use native.Mathlib.Numerals.{add-one}
use native.Mathlib.Omega.{arith}
use lib.ListN.{length, drop, set, replicate, length-take, length-drop}
use lib.Seq.{drop-cons, take-suc-set, drop-set-lt}
use Rattle.std.proofs.lemmas.List.{length-replicate}
use Rattle.rules.specs.Image.{word64_at, sets_at}
use Rattle.rules.proofs.Written.{length_sets_at}
use Rattle.image.specs.Places.{Sets}

sets_more : (s : List ℕ) (at n : ℕ) → sets_at s at (suc n) ≡ sets_at s at n ++ (word64_at s (at + 8 * n) ∷ [])
sets_more s at zero = let e : at ≡ at + 8 * 0 = omega arith in ap (λ (i : ℕ). word64_at s i ∷ []) e
sets_more s at (suc n) =
    let e : at + 8 + 8 * n ≡ at + 8 * suc n = omega arith in
    ap (λ (l : List ℕ). word64_at s at ∷ l) (sets_more s (at + 8) n ∙ ap (λ (i : ℕ). sets_at s (at + 8) n ++ (word64_at s i ∷ [])) e)

-- THE LOOP: i rows are decoded
module _ (s : List ℕ) (at : ℕ) where
  pub none_read : Sets s at 0 (replicate 64 0)
  none_read = record { rows = refl; rest = refl }

  pub sets_size : (i : ℕ) (sets : List ℕ) → i ≤ 64 → Sets s at i sets → length sets ≡ 64
  sets_size i sets l d = omega (arith, ap length d.rows, length_sets_at s at i, length-take i sets, ap length d.rest, length-replicate {A = ℕ} (64 - i) 0, length-drop i sets, l)

  pub row_more : (i x : ℕ) (sets : List ℕ) → i < 64 → x ≡ word64_at s (at + 8 * i) → Sets s at i sets → Sets s at (i + 1) (set sets i x)
  row_more i x sets l e d =
      let k : i < length sets = omega (arith, sets_size i sets (omega arith) d) in
      let f : 64 - i ≡ suc (64 - (i + 1)) = omega arith in
      record {
        rows = rw add-one (take-suc-set sets i x k ∙ ap₂ (λ (l : List ℕ) (y : ℕ). l ++ (y ∷ [])) d.rows e ∙ sym (sets_more s at i));
        rest =
            rw add-one (drop-set-lt (suc i) sets i x (omega arith))
            ∙ ap (drop 1) (sym (drop-cons sets i 0 k) ∙ d.rest ∙ ap (λ (n : ℕ). replicate n 0) f);
      }
