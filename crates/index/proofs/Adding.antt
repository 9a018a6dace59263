-- What the sets of an index have after nodes were added.
use mathlib.Core.Path.{◌≡◌, refl, ◌∙◌}
use mathlib.Core.Logic.{◌⊎◌, inl, inr, ⊎_elim}
use mathlib.Core.List.{List}
use Prim.Native.Nat.{ℕ, zero, suc}
use lib.ListN.{get_or, replicate}
use Rattle.bitset.specs.clash.Reach.{End}
use Rattle.index.specs.Marks.{Adds}

pub adds_none : {P : End → ℕ → ℕ → Type 0} (t : List ℕ) → ((end : End) (slot node : ℕ) → P end slot node → ⊥) → Adds P t t
adds_none t f = record {
  size = refl;
  fits = λ end slot l. l;
  only = λ end slot node m. inl m;
  kept = λ end slot node m. m;
  all = λ end slot node p. absurd (f end slot node p);
  behind = refl;
}

pub adds_alike : {P Q : End → ℕ → ℕ → Type 0} {s t : List ℕ} → ((end : End) (slot node : ℕ) → P end slot node → Q end slot node)
    → ((end : End) (slot node : ℕ) → Q end slot node → P end slot node) → Adds P s t → Adds Q s t
adds_alike f g a = record {
  size = a.size;
  fits = a.fits;
  only = λ end slot node m. ⊎_elim (λ k. inl k) (λ p. inr (f end slot node p)) (a.only end slot node m);
  kept = a.kept;
  all = λ end slot node q. a.all end slot node (g end slot node q);
  behind = a.behind;
}

pub adds_both : {P Q : End → ℕ → ℕ → Type 0} {s t u : List ℕ} → Adds P s t → Adds Q t u → Adds (λ (end : End) (slot node : ℕ). P end slot node ⊎ Q end slot node) s u
adds_both a b = record {
  size = b.size ∙ a.size;
  fits = λ end slot l. b.fits end slot (a.fits end slot l);
  only = λ end slot node m.
      ⊎_elim (λ k. ⊎_elim (λ l. inl l) (λ p. inr (inl p)) (a.only end slot node k)) (λ q. inr (inr q)) (b.only end slot node m);
  kept = λ end slot node m. b.kept end slot node (a.kept end slot node m);
  all = λ end slot node p. ⊎_elim (λ k. b.kept end slot node (a.all end slot node k)) (λ k. b.all end slot node k) p;
  behind = b.behind ∙ a.behind;
}

-- words of zeros have no nodes
pub all_zero : (n i : ℕ) → get_or {A = ℕ} (replicate n 0) i 0 ≡ 0
all_zero zero i = refl
all_zero (suc n) zero = refl
all_zero (suc n) (suc i) = all_zero n i
