-- Rows put in by key, and the rows of an id taken out.
use mathlib.Core.Path.{◌≡◌, refl, sym, ap, ◌∙◌}
use mathlib.Core.Logic.{inl, inr, ⊎_elim}
use mathlib.Core.Bool.{Bool, true, false, cond}
use mathlib.Core.List.{List, [], ◌∷◌, ◌++◌}
use Prim.Native.Nat.{ℕ, ◌<◌}
use native.Mathlib.Omega.{arith}
use native.Mathlib.Nat.{eq-or-lt_of_le, le_of_suc-le-suc, lt_of_not-le}
use lib.Dec.{eqb, ltb}
use Rattle.rules.specs.Words.{◌∈◌, Pairwise, With, Reordered, Tests}
use Rattle.rules.specs.Words.With.{here, there}
use Rattle.rules.specs.Words.Reordered.{none, put}
use Rattle.rules.specs.Book.{Row, key, RisingByKey}
use Rattle.rules.proofs.Tests.{never, tests_eq, tests_lt}
use Rattle.rules.proofs.Lists.{with_in, reordered_in, reordered_same, reordered_middle, in_append}
use Rattle.theorems.specs.model.Answer.{insert, insert_all, remove}

-- PUT IN
insert_with : (r : Row) (xs : List Row) → With r xs (insert r xs)
insert_with r [] = here
insert_with r (x ∷ xs) = go (ltb (key r) (key x)) (insert_with r xs)
  where
    go : (t : Bool) → With r xs (insert r xs) → With r (x ∷ xs) (cond t (r ∷ x ∷ xs) (x ∷ insert r xs))
    go true w = here
    go false w = there w

insert_rising : (r : Row) (xs : List Row) → RisingByKey xs → ((x : Row) → x ∈ xs → key x ≡ key r → ⊥) → RisingByKey (insert r xs)
insert_rising r [] up f = (λ y h. absurd h, tt)
insert_rising r (x ∷ xs) up f = go (ltb (key r) (key x)) (tests_lt (key r) (key x)) (insert_rising r xs up.1 (λ y h. f y (inr h)))
  where
    order : (key r < key x → ⊥) → key x < key r
    order n = ⊎_elim (λ (e : key x ≡ key r). absurd (f x (inl refl) e)) (λ (l : key x < key r). l) (eq-or-lt_of_le (le_of_suc-le-suc (lt_of_not-le n)))

    go : (t : Bool) → Tests t (key r < key x) → RisingByKey (insert r xs) → RisingByKey (cond t (r ∷ x ∷ xs) (x ∷ insert r xs))
    go true a w = (λ y h. ⊎_elim (λ (e : y ≡ x). omega (arith, ap key e, a.yes refl)) (λ (k : y ∈ xs). omega (arith, up.0 y k, a.yes refl)) h, up)
    go false a w = (
      λ y h. ⊎_elim (λ (e : y ≡ r). omega (arith, ap key e, order (λ l. never (a.back l)))) (λ (k : y ∈ xs). up.0 y k) (with_in y (insert_with r xs) h),
      w,
    )

pub insert_all_lem : (new rows : List Row) → Reordered (new ++ rows) (insert_all new rows)
insert_all_lem [] rows = reordered_same rows
insert_all_lem (r ∷ new) rows = put (insert_all_lem new rows) (insert_with r (insert_all new rows))

pub all_rising : (new rows : List Row) → RisingByKey rows → Pairwise (λ (r x : Row). key r ≡ key x → ⊥) new
    → ((r x : Row) → r ∈ new → x ∈ rows → key x ≡ key r → ⊥) → RisingByKey (insert_all new rows)
all_rising [] rows up d f = up
all_rising (r ∷ new) rows up d f =
    insert_rising r (insert_all new rows) (all_rising new rows up d.1 (λ y x m. f y x (inr m)))
    (λ x h e. ⊎_elim (λ (m : x ∈ new). d.0 x m (sym e)) (λ (m : x ∈ rows). f r x (inl refl) m e) (in_append x new rows (reordered_in x (insert_all_lem new rows) h)))

-- TAKEN OUT
module _ (id : ℕ) where
  abbrev pub taken : List Row → List Row
  taken [] = []
  taken (x ∷ xs) = cond (eqb x.id id) (x ∷ taken xs) (taken xs)

  pub taken_id : (xs : List Row) (r : Row) → r ∈ taken xs → r.id ≡ id
  taken_id [] r h = absurd h
  taken_id (x ∷ xs) r h = go (eqb x.id id) (tests_eq x.id id) (taken_id xs r) h
    where
      go : (t : Bool) → Tests t (x.id ≡ id) → (r ∈ taken xs → r.id ≡ id) → r ∈ cond t (x ∷ taken xs) (taken xs) → r.id ≡ id
      go true a i (inl e) = ap (λ (v : Row). v.id) e ∙ a.yes refl
      go true a i (inr m) = i m
      go false a i m = i m

  pub remove_in : (xs : List Row) (r : Row) → r ∈ remove id xs → (r ∈ xs) × (r.id ≡ id → ⊥)
  remove_in [] r h = absurd h
  remove_in (x ∷ xs) r h = go (eqb x.id id) (tests_eq x.id id) (remove_in xs r) h
    where
      go : (t : Bool) → Tests t (x.id ≡ id) → (r ∈ remove id xs → (r ∈ xs) × (r.id ≡ id → ⊥)) → r ∈ cond t (remove id xs) (x ∷ remove id xs)
          → (r ∈ (x ∷ xs)) × (r.id ≡ id → ⊥)
      go true a i m = (inr (i m).0, (i m).1)
      go false a i (inl e) = (inl e, λ q. never (a.back (sym (ap (λ (v : Row). v.id) e) ∙ q)))
      go false a i (inr m) = (inr (i m).0, (i m).1)

  pub remove_rising : (xs : List Row) → RisingByKey xs → RisingByKey (remove id xs)
  remove_rising [] up = tt
  remove_rising (x ∷ xs) up = go (eqb x.id id) (remove_rising xs up.1)
    where
      go : (t : Bool) → RisingByKey (remove id xs) → RisingByKey (cond t (remove id xs) (x ∷ remove id xs))
      go true w = w
      go false w = (λ y h. up.0 y (remove_in xs y h).0, w)

  pub remove_all : (xs : List Row) → Reordered (taken xs ++ remove id xs) xs
  remove_all [] = none
  remove_all (x ∷ xs) = go (eqb x.id id) (remove_all xs)
    where
      go : (t : Bool) → Reordered (taken xs ++ remove id xs) xs → Reordered (cond t (x ∷ taken xs) (taken xs) ++ cond t (remove id xs) (x ∷ remove id xs)) (x ∷ xs)
      go true p = put p here
      go false p = reordered_middle x (taken xs) (remove id xs) p
