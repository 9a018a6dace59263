-- Lists of lists: their order, and what stands behind a front.
use mathlib.Core.Path.{◌≡◌, refl, sym, ap, ap₂, subst}
use mathlib.Core.Logic.{inl, inr, ⊎_elim}
use mathlib.Core.List.{List, [], ◌∷◌, ◌++◌}
use Prim.Native.Nat.{ℕ}
use lib.Seq.{append_snoc}
use Rattle.rules.specs.Words.{◌∈◌, Pairwise, Earlier}
use Rattle.rules.proofs.Lists.{in_append}
use Rattle.routes.specs.choices.Search.{behind}

pub pairs_append : {A : Type 0} (R : A → A → Type 0) (xs ys : List A) → Pairwise R xs → Pairwise R ys → ((x y : A) → x ∈ xs → y ∈ ys → R x y) → Pairwise R (xs ++ ys)
pairs_append R [] ys p q f = q
pairs_append R (x ∷ xs) ys p q f = (
  λ y h. ⊎_elim (λ k. p.0 y k) (λ k. f x y (inl refl) k) (in_append y xs ys h),
  pairs_append R xs ys p.1 q (λ v y k l. f v y (inr k) l),
)

-- BEHIND A FRONT
pub in_behind : (f q : List ℕ) (ps : List (List ℕ)) → q ∈ behind f ps → (p : List ℕ) × (p ∈ ps) × (q ≡ f ++ p)
in_behind f q [] h = absurd h
in_behind f q (p ∷ ps) (inl e) = (p, inl refl, e)
in_behind f q (p ∷ ps) (inr h) = let r = in_behind f q ps h in (r.0, inr r.1, r.2)

pub behind_in : (f p : List ℕ) (ps : List (List ℕ)) → p ∈ ps → (f ++ p) ∈ behind f ps
behind_in f p [] h = absurd h
behind_in f p (x ∷ ps) (inl e) = inl (ap (λ (v : List ℕ). f ++ v) e)
behind_in f p (x ∷ ps) (inr h) = inr (behind_in f p ps h)

pub behind_append : (f : List ℕ) (xs ys : List (List ℕ)) → behind f (xs ++ ys) ≡ behind f xs ++ behind f ys
behind_append f [] ys = refl
behind_append f (x ∷ xs) ys = ap (λ (r : List (List ℕ)). (f ++ x) ∷ r) (behind_append f xs ys)

pub behind_behind : (f : List ℕ) (b : ℕ) (ps : List (List ℕ)) → behind (f ++ (b ∷ [])) ps ≡ behind f (behind (b ∷ []) ps)
behind_behind f b [] = refl
behind_behind f b (p ∷ ps) = ap₂ ◌∷◌ (append_snoc f b p) (behind_behind f b ps)

pub behind_rising : (b : ℕ) (ps : List (List ℕ)) → Pairwise Earlier ps → Pairwise Earlier (behind (b ∷ []) ps)
behind_rising b [] h = tt
behind_rising b (p ∷ ps) h = (
  λ y k. let r = in_behind (b ∷ []) y ps k in subst (Earlier (b ∷ p)) (sym r.2) (inr (refl, h.0 r.0 r.1)),
  behind_rising b ps h.1,
)
