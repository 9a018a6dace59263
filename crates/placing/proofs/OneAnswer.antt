-- Two answers for the same hops are equal.
use mathlib.Core.Path.{◌≡◌, refl, sym, ap, ap₂, ◌∙◌}
use mathlib.Core.List.{List, [], ◌∷◌, ◌++◌, map}
use Rattle.std.specs.Prelude.{Option, Some, None}
use Rattle.rules.specs.Records.{slot_numbers}
use Rattle.rules.specs.declared.Slot.{Slot}
use Prim.Native.Nat.{ℕ}
use lib.ListN.{take, take-append-drop}
use Rattle.rules.proofs.Greedy.{FirstPlaces}
use Rattle.rules.proofs.Lists.{no_later_both}
use Rattle.placing.specs.Answers.{Answers}

numbered : (xs : List Slot) → map (λ (n : ℕ). record { 0 = n }) (slot_numbers xs) ≡ xs
numbered [] = refl
numbered (x ∷ xs) = ap (λ (ys : List Slot). x ∷ ys) (numbered xs)

module _ (F : ℕ → ℕ → Type 0) (B n : ℕ) where
  same : (os ps : List ℕ) → FirstPlaces F B n 0 0 os → FirstPlaces F B n 0 0 ps → os ≡ ps
  same os ps a c = no_later_both os ps (a.first ps c.places) (c.first os a.places)

  -- what is found, and every offset, are determined
  pub answers_unique : (os ps : Option (List Slot)) → Answers F B n os → Answers F B n ps → os ≡ ps
  answers_unique (Some os) (Some ps) a c =
      let xs = slot_numbers os in
      let ys = slot_numbers ps in
      let e : xs ≡ ys = sym (take-append-drop n xs) ∙ ap₂ ◌++◌ (same (take n xs) (take n ys) a.0 c.0) (a.1 ∙ sym c.1) ∙ take-append-drop n ys in
      ap Some (sym (numbered os) ∙ ap (λ (ns : List ℕ). map (λ (x : ℕ). record { 0 = x }) ns) e ∙ numbered ps)
  answers_unique (Some os) None a c = absurd (c _ a.0.places)
  answers_unique None (Some ps) a c = absurd (a _ c.0.places)
  answers_unique None None a c = refl
