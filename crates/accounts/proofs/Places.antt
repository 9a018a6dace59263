-- The accounts by their places in the list.
use mathlib.Core.Path.{◌≡◌, refl, sym, ap, ◌∙◌, subst}
use mathlib.Core.Logic.{◌⊎◌, inl, inr, ⊎_elim}
use mathlib.Core.Bool.{Bool, false, true}
use mathlib.Core.List.{List, [], ◌∷◌}
use Rattle.std.specs.Prelude.{Option, Some, None, MatchOption, is_some, IsSome, IfSome, IsNone}
use Prim.Native.Nat.{ℕ, zero, suc, ◌+◌, ◌*◌, ◌<◌, ◌≤◌}
use native.Mathlib.Omega.{arith}
use lib.ListN.{length, get_or}
use Rattle.std.specs.Bool.{MatchBool}
use Rattle.std.specs.List.{AllWithin, range_with_len}
use Rattle.std.proofs.lemmas.List.FromFn.{length-range_with_len, get_or-range_with_len}
use Rattle.rules.specs.Words.{◌∈◌, Pairwise, Tests}
use Rattle.rules.specs.Book.{Account, KnownAccount}
use Rattle.rules.specs.Image.{has_accounts, header_length, word_at, word32_at, accounts_at, accounts_of, links_place}
use Rattle.rules.proofs.Tests.{never}
use Rattle.rules.proofs.Written.{length_accounts_at}
use Rattle.image.specs.Header.{HeaderOf}
use Rattle.image.specs.declared.Book.{Book}
use Rattle.accounts.specs.Lists.{numbers, boughts, StandsAt, PlaceOf, most_drawn, HoldMost, HasBought}
use Rattle.accounts.proofs.Lists.{with_list, list_inside}

-- WHERE THEY STAND
pub number_there : (s : List ℕ) (at n i : ℕ) → i < n → get_or (numbers (accounts_at s at n)) i 0 ≡ word_at s (at + 6 * i)
number_there s at zero i l = absurd (omega arith)
number_there s at (suc n) zero l = let e : at ≡ at + 6 * 0 = omega arith in ap (word_at s) e
number_there s at (suc n) (suc i) l = let e : at + 6 + 6 * i ≡ at + 6 * suc i = omega arith in number_there s (at + 6) n i (omega arith) ∙ ap (word_at s) e

pub bought_there : (s : List ℕ) (at n i : ℕ) → i < n → get_or (boughts (accounts_at s at n)) i 0 ≡ word32_at s (at + 6 * i + 2)
bought_there s at zero i l = absurd (omega arith)
bought_there s at (suc n) zero l = let e : at + 2 ≡ at + 6 * 0 + 2 = omega arith in ap (word32_at s) e
bought_there s at (suc n) (suc i) l = let e : at + 6 + 6 * i + 2 ≡ at + 6 * suc i + 2 = omega arith in bought_there s (at + 6) n i (omega arith) ∙ ap (word32_at s) e

-- by whether the image holds a list
module _ {s : List ℕ} {b : Book} {r : Bool} (h : HeaderOf s b) (e : r ≡ has_accounts b.version) where
  pub count_with : r ≡ true → b.accounts ≡ length (accounts_of s)
  count_with f = sym (ap length (with_list h e f) ∙ length_accounts_at s (header_length + 1) b.accounts)

  module _ {i : ℕ} (l : i < length (accounts_of s)) where
    pub number_listed : r ≡ true → word_at s (header_length + 1 + 6 * i) ≡ get_or (numbers (accounts_of s)) i 0
    number_listed f = sym (ap (λ (x : List Account). get_or (numbers x) i 0) (with_list h e f) ∙ number_there s (header_length + 1) b.accounts i (omega (arith, l, count_with f)))

    pub bought_listed : r ≡ true → word32_at s (header_length + 1 + 6 * i + 2) ≡ get_or (boughts (accounts_of s)) i 0
    bought_listed f = sym (ap (λ (x : List Account). get_or (boughts x) i 0) (with_list h e f) ∙ bought_there s (header_length + 1) b.accounts i (omega (arith, l, count_with f)))

    pub listed_inside : r ≡ true → links_place s ≤ length s → header_length + 1 + 6 * i + 6 ≤ length s
    listed_inside f m = omega (arith, list_inside h e f m, l, count_with f)

-- AN ACCOUNT AND ITS PLACE
pub record Sits (accounts : List Account) (a : Account) (i : ℕ) : Type 0 where
  pub inside : i < length accounts
  pub number_is : get_or (numbers accounts) i 0 ≡ a.number
  pub bought_is : get_or (boughts accounts) i 0 ≡ a.bought

sits_next : {accounts : List Account} {a c : Account} {i : ℕ} → Sits accounts a i → Sits (c ∷ accounts) a (suc i)
sits_next h = record { inside = omega (arith, h.inside); number_is = h.number_is; bought_is = h.bought_is }

pub place_in : (accounts : List Account) (a : Account) → a ∈ accounts → (i : ℕ) × Sits accounts a i
place_in [] a m = absurd m
place_in (c ∷ accounts) a (inl e) = (0, record { inside = omega arith; number_is = ap (λ (x : Account). x.number) (sym e); bought_is = ap (λ (x : Account). x.bought) (sym e) })
place_in (c ∷ accounts) a (inr m) = let t = place_in accounts a m in (suc t.0, sits_next t.1)

pub account_there : (accounts : List Account) (i : ℕ) → i < length accounts → (a : Account) × (a ∈ accounts) × Sits accounts a i
account_there [] i l = absurd (omega arith)
account_there (c ∷ accounts) zero l = (c, inl refl, record { inside = omega arith; number_is = refl; bought_is = refl })
account_there (c ∷ accounts) (suc i) l = let t = account_there accounts i (omega arith) in (t.0, inr t.1, sits_next t.2)

-- RISING NUMBERS
later : (accounts : List Account) → Pairwise (λ (a c : Account). a.number < c.number) accounts → (i j : ℕ) → i < j → j < length accounts
    → get_or (numbers accounts) i 0 < get_or (numbers accounts) j 0
later [] p i j l m = absurd (omega arith)
later (c ∷ accounts) p i zero l m = absurd (omega arith)
later (c ∷ accounts) p zero (suc j) l m = let t = account_there accounts j (omega arith) in omega (arith, p.0 t.0 t.1, t.2.number_is)
later (c ∷ accounts) p (suc i) (suc j) l m = later accounts p.1 i j (omega arith) (omega arith)

-- a number is that of one account
pub one_place : (accounts : List Account) → Pairwise (λ (a c : Account). a.number < c.number) accounts → (i j : ℕ) → i < length accounts → j < length accounts
    → get_or (numbers accounts) i 0 ≡ get_or (numbers accounts) j 0 → i ≡ j
one_place accounts p i j l m e = go (eq_or_lt i j)
  where
    eq_or_lt : (i j : ℕ) → (i ≡ j) ⊎ ((i < j) ⊎ (j < i))
    eq_or_lt zero zero = inl refl
    eq_or_lt zero (suc j) = inr (inl (omega arith))
    eq_or_lt (suc i) zero = inr (inr (omega arith))
    eq_or_lt (suc i) (suc j) = ⊎_elim (λ (q : i ≡ j). inl (ap suc q)) (λ (q : (i < j) ⊎ (j < i)). inr (⊎_elim (λ (r : i < j). inl (omega arith)) (λ (r : j < i). inr (omega arith)) q)) (eq_or_lt i j)

    go : (i ≡ j) ⊎ ((i < j) ⊎ (j < i)) → i ≡ j
    go (inl q) = q
    go (inr (inl q)) = absurd (omega (arith, later accounts p i j q m, e))
    go (inr (inr q)) = absurd (omega (arith, later accounts p j i q l, e))

-- THE PLACE OF A NUMBER
module _ {accounts : List Account} {n : ℕ} where
  -- it was sought among all of them
  pub place_sought : {place : Option ℕ} {count : ℕ} → count ≡ length accounts
      → MatchOption place ((j : ℕ) → 0 ≤ j → j < count → get_or (numbers accounts) j 0 ≡ n → ⊥)
      (λ i. (0 ≤ i) × (i < count) × (get_or (numbers accounts) i 0 ≡ n) × ((j : ℕ) → 0 ≤ j → j < i → get_or (numbers accounts) j 0 ≡ n → ⊥)) → PlaceOf accounts n place
  place_sought {place = None} e f = record {
    there = tt;
    none = λ g w. let t = place_in accounts w.account w.there in f t.0 (omega arith) (omega (arith, t.1.inside)) (t.1.number_is ∙ w.named);
  }
  place_sought {place = Some i} e f = record { there = record { here = omega (arith, f.1, e); named = f.2 }; none = λ g. never (sym g) }

  -- what stands at a place is known,
  pub known_there : {i : ℕ} → StandsAt accounts n i → KnownAccount accounts n
  known_there {i} p = let t = account_there accounts i p.here in record { account = t.0; there = t.1; named = sym t.2.number_is ∙ p.named }

  pub stands_there : {place : Option ℕ} {i : ℕ} → PlaceOf accounts n place → place ≡ Some i → StandsAt accounts n i
  stands_there p q = subst (λ (o : Option ℕ). IfSome o (StandsAt accounts n)) q p.there

  -- and a known account has its place
  pub place_known : {place : Option ℕ} → PlaceOf accounts n place → KnownAccount accounts n → IsSome place
  place_known {place = None} p k = absurd (p.none refl k)
  place_known {place = Some i} p k = refl

  pub tests_known : {place : Option ℕ} → PlaceOf accounts n place → Tests (is_some place) (KnownAccount accounts n)
  tests_known p = record { yes = λ e. some_known p e; back = place_known p }
    where
      some_known : {place : Option ℕ} → PlaceOf accounts n place → IsSome place → KnownAccount accounts n
      some_known {place = None} p e = never e
      some_known {place = Some i} p e = known_there p.there

  -- what stands at its place is what it has bought
  pub bought_here : {i bought : ℕ} → Pairwise (λ (a c : Account). a.number < c.number) accounts → StandsAt accounts n i
      → bought ≡ get_or (boughts accounts) i 0 → HasBought accounts n bought
  bought_here {i} rising p e a m f =
      let t = place_in accounts a m in
      let q : i ≡ t.0 = one_place accounts rising i t.0 p.here t.1.inside (p.named ∙ sym f ∙ sym t.1.number_is) in
      e ∙ ap (λ (k : ℕ). get_or (boughts accounts) k 0) q ∙ t.1.bought_is

  pub bought_none : {place : Option ℕ} → PlaceOf accounts n place → IsNone place → HasBought accounts n 0
  bought_none p e a m f = absurd (p.none e record { account = a; there = m; named = f })

-- EVERY ACCOUNT was asked
pub all_asked : (accounts : List Account) (t : Bool) (No : Type 0) {count : ℕ} → count ≡ length accounts
    → MatchBool t (AllWithin (λ j. most_drawn ≤ get_or (boughts accounts) j 0) (range_with_len 0 count) 0 (length (range_with_len 0 count))) No → t ≡ true → HoldMost accounts
all_asked accounts true No {count} e h q a m =
    let p = place_in accounts a m in
    let l : p.0 < count = omega (arith, p.1.inside, e) in
    let k = h p.0 0 (omega arith) (omega (arith, length-range_with_len 0 count)) in
    let e : get_or (range_with_len 0 count) p.0 0 ≡ p.0 = get_or-range_with_len 0 count p.0 0 l ∙ omega arith in
    omega (arith, subst (λ (x : ℕ). most_drawn ≤ get_or (boughts accounts) x 0) e k, p.1.bought_is)
all_asked accounts false No e h q a m = never q
