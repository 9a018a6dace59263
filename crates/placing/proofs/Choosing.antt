-- Offsets chosen hop by hop, each the least after the one before, are the first placing.
use mathlib.Core.Path.{◌≡◌, sym, ap, ◌∙◌, subst, subst₂}
use mathlib.Core.List.{List, [], ◌∷◌, ◌++◌, append_assoc, append-nil}
use Prim.Native.Nat.{ℕ, suc, ◌+◌, ◌-◌, ◌<◌, ◌≤◌}
use native.Mathlib.Nat.{add-zero}
use native.Mathlib.Numerals.{add-one}
use native.Mathlib.Omega.{arith}
use lib.ListN.{length, take, drop, set, replicate, length-set}
use lib.Seq.{take-suc-set, drop-set-lt, drop-drop}
use Rattle.rules.specs.Topology.{most_route_hops}
use Rattle.rules.specs.Records.{slot_numbers}
use Rattle.rules.specs.declared.Slot.{Slot}
use Rattle.rules.proofs.Records.{map_set}
use Rattle.rules.proofs.Greedy.{Least, FirstPlaces, NoPlaces, none_from, none_behind, first_behind}
use Rattle.placing.specs.Answers.{Answers}
use Rattle.std.specs.Prelude.{Some, None}

-- what is first from the hop h on, put behind what was chosen, is first from the start; and where there is nothing from there on, there is no placing
pub record Rest (F : ℕ → ℕ → Type 0) (B n h lo : ℕ) (chosen : List ℕ) : Type 0 where
  pub first : (m : ℕ) → h + m ≡ n → (os : List ℕ) → FirstPlaces F B m h lo os → FirstPlaces F B n 0 0 (chosen ++ os)
  pub none : (m : ℕ) → h + m ≡ n → NoPlaces F B m h lo → NoPlaces F B n 0 0

module _ (F : ℕ → ℕ → Type 0) (B n : ℕ) where
  rest_more : (h lo o : ℕ) (chosen : List ℕ) → Least (F h) lo B o → Rest F B n h lo chosen → Rest F B n (h + 1) (o + 1) (chosen ++ (o ∷ []))
  rest_more h lo o chosen l w = subst₂ (λ (x y : ℕ). Rest F B n x y (chosen ++ (o ∷ []))) (sym (add-one h)) (sym (add-one o)) record {
    first = λ m e os p.
        subst (FirstPlaces F B n 0 0) (sym (append_assoc chosen (o ∷ []) os)) (w.first (suc m) (omega arith) (o ∷ os) (first_behind F B m h lo o os l p));
    none = λ m e p. w.none (suc m) (omega arith) (none_behind F B m h lo o l p);
  }

-- the offsets of the first h hops are chosen, the next is lo or more, and the others are 0
pub record Chosen (F : ℕ → ℕ → Type 0) (B n h lo : ℕ) (offsets : List ℕ) : Type 0 where
  pub few : n ≤ most_route_hops
  pub most : h ≤ n
  pub size : length offsets ≡ most_route_hops
  pub zeros : drop h offsets ≡ replicate (most_route_hops - h) 0
  pub rest : Rest F B n h lo (take h offsets)

module _ (F : ℕ → ℕ → Type 0) (B n : ℕ) where
  less : (h : ℕ) → h < most_route_hops → drop {A = ℕ} 1 (replicate (most_route_hops - h) 0) ≡ replicate (most_route_hops - (h + 1)) 0
  less h l =
      let e : most_route_hops - h ≡ suc (most_route_hops - (h + 1)) = omega arith in
      ap (λ (k : ℕ). drop {A = ℕ} 1 (replicate k 0)) e

  -- the search for the hop h found its offset
  pub chosen_more : (h lo o : ℕ) (offsets : List Slot) → h < n → Chosen F B n h lo (slot_numbers offsets) → Least (F h) lo B o
      → Chosen F B n (h + 1) (o + 1) (slot_numbers (set offsets h (record { 0 = o })))
  chosen_more h lo o offsets l w s =
      let xs = slot_numbers offsets in
      let inside : h < length xs = omega (arith, w.size, w.few) in
      let after : h < h + 1 = omega arith in
      subst (Chosen F B n (h + 1) (o + 1)) (sym (map_set (λ (x : Slot). x.0) offsets h (record { 0 = o }))) (record {
        few = w.few;
        most = omega arith;
        size = length-set xs h o ∙ w.size;
        zeros = drop-set-lt (h + 1) xs h o after ∙ sym (drop-drop 1 h xs) ∙ ap (drop 1) w.zeros ∙ less h (omega (arith, w.few));
        rest = subst (Rest F B n (h + 1) (o + 1)) (sym (ap (λ (k : ℕ). take k (set xs h o)) (add-one h) ∙ take-suc-set xs h o inside))
            (rest_more F B n h lo o (take h xs) s w.rest);
      })

  -- every hop has its offset
  pub chosen_all : (h lo : ℕ) (offsets : List Slot) → n ≤ h → Chosen F B n h lo (slot_numbers offsets) → Answers F B n (Some offsets)
  chosen_all h lo offsets l w =
      let e : h ≡ n = omega (arith, w.most) in
      let os = slot_numbers offsets in
      let p : FirstPlaces F B n 0 0 (take h os) =
      subst (FirstPlaces F B n 0 0) (append-nil (take h os)) (w.rest.first 0 (add-zero h ∙ e) [] record { places = tt; first = λ ps q. tt }) in
      (subst (λ (k : ℕ). FirstPlaces F B n 0 0 (take k os)) e p, ap (λ (k : ℕ). drop k os) (sym e) ∙ w.zeros ∙ ap (λ (k : ℕ). replicate (most_route_hops - k) 0) e)

  -- the search for the hop h found nothing
  pub chosen_failed : (h lo : ℕ) (offsets : List ℕ) → h < n → Chosen F B n h lo offsets → ((k : ℕ) → lo ≤ k → k < B → F h k → ⊥) → Answers F B n None
  chosen_failed h lo offsets l w s =
      let q : h + suc (n - suc h) ≡ n = omega arith in w.rest.none (suc (n - suc h)) q (none_from F B (n - suc h) h lo s)
