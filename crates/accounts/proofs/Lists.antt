-- Accounts read one after the other: rising numbers, and their ranges.
use mathlib.Core.Path.{◌≡◌, refl, sym, ap, ◌∙◌, subst, subst₂}
use mathlib.Core.Logic.{inl, inr, ◌↔◌}
use mathlib.Core.Bool.{Bool, true, false, cond}
use mathlib.Core.List.{List, [], ◌∷◌}
use Prim.Native.Nat.{ℕ, zero, suc, ◌+◌, ◌*◌, ◌-◌, ◌<◌, ◌≤◌}
use native.Mathlib.Numerals.{unary_clauses}
use native.Mathlib.Omega.{arith}
use lib.Dec.{ltb}
use lib.ListN.{length}
use Rattle.rules.specs.Words.{TwoBytes, FourBytes, ◌∈◌, Pairwise, Tests}
use Rattle.rules.specs.Book.{Account, most_accounts, AccountsInRange}
use Rattle.rules.specs.Image.{has_accounts, old_accounts, header_length, links_start, word_at, word32_at, accounts_at, version_of, account_count_of, accounts_of, links_place}
use Rattle.rules.proofs.Tests.{alike, tests_lt}
use Rattle.rules.proofs.Written.{Bytes, length_accounts_at}
use Rattle.image.specs.Header.{HeaderOf}
use Rattle.image.specs.declared.Book.{Book}
use Rattle.accounts.specs.Lists.{RisesFrom}

-- RISING
rises_all : (least : ℕ) (accounts : List Account) → RisesFrom least accounts → (x : Account) → x ∈ accounts → least ≤ x.number
rises_all least [] r x m = absurd m
rises_all least (a ∷ accounts) r x (inl e) = omega (arith, r.0, ap (λ (y : Account). y.number) e)
rises_all least (a ∷ accounts) r x (inr m) = omega (arith, r.0, rises_all (a.number + 1) accounts r.1 x m)

pub rises_pairwise : (least : ℕ) (accounts : List Account) → RisesFrom least accounts → Pairwise (λ (a c : Account). a.number < c.number) accounts
rises_pairwise least [] r = tt
rises_pairwise least (a ∷ accounts) r = (λ x m. omega (arith, rises_all (a.number + 1) accounts r.1 x m), rises_pairwise (a.number + 1) accounts r.1)

pub pairwise_rises : (least : ℕ) (accounts : List Account) → ((x : Account) → x ∈ accounts → least ≤ x.number)
    → Pairwise (λ (a c : Account). a.number < c.number) accounts → RisesFrom least accounts
pairwise_rises least [] f p = tt
pairwise_rises least (a ∷ accounts) f p = (f a (inl refl), pairwise_rises (a.number + 1) accounts (λ x m. omega (arith, p.0 x m)) p.1)

-- ONE AFTER THE OTHER
account_at : List ℕ → ℕ → Account
account_at s at = record { number = word_at s at; bought = word32_at s (at + 2) }

split : (s : List ℕ) (at left : ℕ) → 0 < left → accounts_at s at left ≡ account_at s at ∷ accounts_at s (at + 6) (left - 1)
unfolding account_at
split s at zero l = absurd (omega arith)
split s at (suc n) l = simp unary_clauses refl

none : (s : List ℕ) (at left : ℕ) → left ≤ 0 → accounts_at s at left ≡ []
none s at zero l = refl
none s at (suc n) l = absurd (omega arith)

-- RISING on from the account at a place
module _ (s : List ℕ) (at : ℕ) {left least number : ℕ} (l : 0 < left) (e : number ≡ word_at s at) where
  pub rises_early : number < least → RisesFrom least (accounts_at s at left) → ⊥
  unfolding account_at
  rises_early k p = let r = subst (RisesFrom least) (split s at left l) p in omega (arith, r.0, e)

  pub rises_more : {P : Type 0} {next rest : ℕ} → next ≡ at + 6 → rest ≡ left - 1 → least ≤ number → RisesFrom least (accounts_at s at left) ↔ P
      → RisesFrom (number + 1) (accounts_at s next rest) ↔ P
  unfolding account_at
  rises_more {P} f g k h = subst₂ (λ (i n : ℕ). RisesFrom (number + 1) (accounts_at s i n) ↔ P) (sym f) (sym g) (
    λ r. h.0 (subst (RisesFrom least) (sym (split s at left l)) (omega (arith, e), subst (λ (n : ℕ). RisesFrom (n + 1) (accounts_at s (at + 6) (left - 1))) e r)),
    λ p. subst (λ (n : ℕ). RisesFrom (n + 1) (accounts_at s (at + 6) (left - 1))) (sym e) (subst (RisesFrom least) (split s at left l) (h.1 p)).1,
  )

-- RANGES, of accounts that are bytes
module _ (s : List ℕ) (b : Bytes s) where
  word_small : (at : ℕ) → TwoBytes (word_at s at)
  word_small at = omega (arith, b at, b (at + 1))

  numbers_small : (at n : ℕ) (x : Account) → x ∈ accounts_at s at n → TwoBytes x.number
  numbers_small at zero x m = absurd m
  numbers_small at (suc n) x (inl e) = omega (arith, word_small at, ap (λ (y : Account). y.number) e)
  numbers_small at (suc n) x (inr m) = numbers_small (at + 6) n x m

  bought_small : (at n : ℕ) (x : Account) → x ∈ accounts_at s at n → FourBytes x.bought
  bought_small at zero x m = absurd m
  bought_small at (suc n) x (inl e) = omega (arith, word_small (at + 2), word_small (at + 2 + 2), ap (λ (y : Account). y.bought) e)
  bought_small at (suc n) x (inr m) = bought_small (at + 6) n x m

  pub in_range : (at n : ℕ) → 1 ≤ n → n ≤ most_accounts → RisesFrom 0 (accounts_at s at n) → AccountsInRange (accounts_at s at n)
  in_range at n some most r = record {
    some = omega (arith, length_accounts_at s at n);
    most = omega (arith, length_accounts_at s at n);
    rising = rises_pairwise 0 (accounts_at s at n) r;
    number = numbers_small at n;
    bought = bought_small at n;
  }

  -- a test of rising numbers is one of the range, of as many as there may be
  pub tests_range : (at n : ℕ) {t : Bool} → 1 ≤ n → n ≤ most_accounts → Tests t (RisesFrom 0 (accounts_at s at n)) → Tests t (AccountsInRange (accounts_at s at n))
  tests_range at n some most h =
      alike h (in_range at n some most) (λ g. pairwise_rises 0 (accounts_at s at n) (λ x m. omega arith) g.rising)

pub some_most : (s : List ℕ) (at n : ℕ) → AccountsInRange (accounts_at s at n) → (1 ≤ n) × (n ≤ most_accounts)
some_most s at n g = (omega (arith, g.some, length_accounts_at s at n), omega (arith, g.most, length_accounts_at s at n))

-- THE ACCOUNTS OF AN IMAGE
pub has_list : (v A : ℕ) → ltb header_length (links_start v A) ≡ has_accounts v
has_list v A = go (has_accounts v)
  where
    go : (t : Bool) → ltb header_length (header_length + cond t (1 + 6 * A) 0) ≡ t
    go true = (tests_lt header_length (header_length + (1 + 6 * A))).back (omega arith)
    go false = refl

-- by whether the list is there
module _ {s : List ℕ} {b : Book} {r : Bool} (h : HeaderOf s b) (e : r ≡ has_accounts b.version) where
  said : (t : Bool) → r ≡ t → has_accounts (version_of s) ≡ t
  said t f = ap has_accounts (sym h.version) ∙ sym e ∙ f

  pub with_list : r ≡ true → accounts_of s ≡ accounts_at s (header_length + 1) b.accounts
  with_list f =
      ap (λ (t : Bool). cond t (accounts_at s (header_length + 1) (account_count_of s)) old_accounts) (said true f)
      ∙ ap (accounts_at s (header_length + 1)) (sym h.accounts)

  pub list_inside : r ≡ true → links_place s ≤ length s → header_length + 1 + 6 * b.accounts ≤ length s
  list_inside f l = let g = ap (λ (t : Bool). header_length + cond t (1 + 6 * account_count_of s) 0) (said true f) in omega (arith, g, l, h.accounts)
