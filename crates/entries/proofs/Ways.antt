-- The operations of streams on both ways, and entries by whether their slot is control.
use mathlib.Core.Path.{◌≡◌, refl, sym, ap, ◌∙◌, subst, subst₂}
use mathlib.Core.Logic.{◌⊎◌, inl, inr, ⊎_elim}
use mathlib.Core.Bool.{Bool, true, false}
use Prim.Native.Nat.{ℕ, ◌+◌, ◌-◌, ◌≤◌}
use native.Mathlib.Omega.{arith}
use Rattle.rules.specs.Words.{Tests}
use Rattle.rules.specs.Table.{on_way}
use Rattle.rules.specs.Tables.{OfStream}
use Rattle.entries.specs.Entries.{WayOf, EntryIn}
use Rattle.entries.specs.Entries.EntryIn.{control, sleep, works}

-- 1 to 4, or 17 to 20
pub stream_range : {operation way : ℕ} → OfStream operation way → ((way ≡ 1) × (1 ≤ operation) × (operation ≤ 4)) ⊎ ((way ≡ 2) × (17 ≤ operation) × (operation ≤ 20))
stream_range {operation} {way} s = ⊎_elim first second s.either
  where
    first : way ≡ 1 → ((way ≡ 1) × (1 ≤ operation) × (operation ≤ 4)) ⊎ ((way ≡ 2) × (17 ≤ operation) × (operation ≤ 20))
    first e = let f : operation ≡ s.plain = s.shown ∙ ap (λ (w : ℕ). on_way w s.plain) e in inl (e, omega (arith, s.some), omega (arith, s.most))

    second : way ≡ 2 → ((way ≡ 1) × (1 ≤ operation) × (operation ≤ 4)) ⊎ ((way ≡ 2) × (17 ≤ operation) × (operation ≤ 20))
    second e = let f : operation ≡ 16 + s.plain = s.shown ∙ ap (λ (w : ℕ). on_way w s.plain) e in inr (e, omega (arith, s.some), omega (arith, s.most))

pub first_way : (operation : ℕ) → 1 ≤ operation → operation ≤ 4 → WayOf operation 1
first_way operation l m = record {
  of_stream = record { plain = operation; some = l; most = m; either = inl refl; shown = refl };
  only = λ way s. ⊎_elim (λ (r : (way ≡ 1) × (1 ≤ operation) × (operation ≤ 4)). sym r.0) (λ (r : (way ≡ 2) × (17 ≤ operation) × (operation ≤ 20)). absurd (omega (arith, r.1))) (stream_range s);
}

pub second_way : (operation : ℕ) → 17 ≤ operation → operation ≤ 20 → WayOf operation 2
second_way operation l m = record {
  of_stream = record { plain = operation - 16; some = omega arith; most = omega arith; either = inr refl; shown = omega arith };
  only = λ way s. ⊎_elim (λ (r : (way ≡ 1) × (1 ≤ operation) × (operation ≤ 4)). absurd (omega (arith, r.2))) (λ (r : (way ≡ 2) × (17 ≤ operation) × (operation ≤ 20)). sym r.0) (stream_range s);
}

pub no_way : (operation : ℕ) → (1 ≤ operation → operation ≤ 4 → ⊥) → (17 ≤ operation → operation ≤ 20 → ⊥) → (way : ℕ) → OfStream operation way → ⊥
no_way operation f g way s =
    ⊎_elim (λ (r : (way ≡ 1) × (1 ≤ operation) × (operation ≤ 4)). f r.1 r.2) (λ (r : (way ≡ 2) × (17 ≤ operation) × (operation ≤ 20)). g r.1 r.2) (stream_range s)

-- AN ENTRY, by whether its slot is control
tests_control_in : {t : Bool} {operation id : ℕ} → Tests t ((operation ≡ 5) × (id ≡ 0)) → Tests t (EntryIn true operation id)
tests_control_in h = record { yes = λ y. subst₂ (EntryIn true) (sym (h.yes y).0) (sym (h.yes y).1) control; back = λ e. h.back (is e) }
  where
    is : {operation id : ℕ} → EntryIn true operation id → (operation ≡ 5) × (id ≡ 0)
    is control = (refl, refl)

pub tests_control : {c t : Bool} {operation id : ℕ} → c ≡ true → Tests t ((operation ≡ 5) × (id ≡ 0)) → Tests t (EntryIn c operation id)
tests_control {t = t} {operation} {id} e h = subst (λ (c : Bool). Tests t (EntryIn c operation id)) (sym e) (tests_control_in h)

-- of a slot that is not
free_is : {operation id : ℕ} → EntryIn false operation id → ((operation ≡ 0) × (id ≡ 0)) ⊎ (((way : ℕ) × OfStream operation way) × (1 ≤ id))
free_is sleep = inl (refl, refl)
free_is (works {way = way} s l) = inr ((way, s), l)

no_stream : {operation way : ℕ} → operation ≡ 0 → OfStream operation way → ⊥
no_stream {operation} {way} e s = go (stream_range s)
  where
    go : ((way ≡ 1) × (1 ≤ operation) × (operation ≤ 4)) ⊎ ((way ≡ 2) × (17 ≤ operation) × (operation ≤ 20)) → ⊥
    go (inl r) = omega (arith, r.1)
    go (inr r) = omega (arith, r.1)

-- of a way there is
pub some_way : {operation way : ℕ} → OfStream operation way → 1 ≤ way
some_way {operation} {way} s = ⊎_elim (λ (e : way ≡ 1). omega arith) (λ (e : way ≡ 2). omega arith) s.either

pub tests_idle : {c t : Bool} {operation id : ℕ} → c ≡ false → ((way : ℕ) → OfStream operation way → ⊥) → Tests t ((operation ≡ 0) × (id ≡ 0)) → Tests t (EntryIn c operation id)
tests_idle {t = t} {operation} {id} e none h =
    subst (λ (c : Bool). Tests t (EntryIn c operation id)) (sym e) record {
      yes = λ y. subst₂ (EntryIn false) (sym (h.yes y).0) (sym (h.yes y).1) sleep;
      back = λ s. ⊎_elim h.back (λ (p : ((way : ℕ) × OfStream operation way) × (1 ≤ id)). absurd (none p.0.0 p.0.1)) (free_is s);
    }

pub tests_stream : {c t : Bool} {operation id way : ℕ} → c ≡ false → OfStream operation way → Tests t (id ≡ 0 → ⊥) → Tests t (EntryIn c operation id)
tests_stream {t = t} {operation} {id} {way} e stream h =
    subst (λ (c : Bool). Tests t (EntryIn c operation id)) (sym e) record {
      yes = λ y. let k = h.yes y in works stream (omega arith);
      back = λ s. ⊎_elim (λ (p : (operation ≡ 0) × (id ≡ 0)). absurd (no_stream p.0 stream))
          (λ (p : ((way : ℕ) × OfStream operation way) × (1 ≤ id)). h.back (λ q. omega (arith, p.1))) (free_is s);
    }
