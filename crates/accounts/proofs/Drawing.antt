-- What is left of each account while rows draw from them.
use mathlib.Core.Path.{◌≡◌, refl, sym, ap, ◌∙◌, subst}
use mathlib.Core.Bool.{Bool, false, true, cond}
use mathlib.Core.List.{List, [], ◌∷◌, ◌++◌}
use Rattle.std.specs.Prelude.{Option, Some}
use Prim.Native.Nat.{ℕ, ◌+◌, ◌<◌, ◌≤◌}
use native.Mathlib.Decide.{ℕ_discrete}
use native.Mathlib.Omega.{arith}
use borrow.Author.Tests.{eqb-true, eq-eqb}
use lib.Dec.{eqb, leb}
use lib.ListN.{length, get_or, set}
use lib.Seq.{get_or-set_same, get_or-set_other}
use Rattle.rules.specs.Words.{Tests}
use Rattle.rules.specs.Book.{Account, Row, draws, drawn, Paid, AccountsInRange}
use Rattle.rules.proofs.Tests.{alike, tests_le}
use Rattle.accounts.specs.Lists.{numbers, boughts, StandsAt, PlaceOf, LeftBy, draws_from}
use Rattle.accounts.proofs.Sums.{drawn_more}
use Rattle.accounts.proofs.Places.{Sits, place_in, account_there, one_place, stands_there}

own : (n : ℕ) (r : Row) → r.account ≡ n → draws_from n r ≡ draws r
own n r e = ap (λ (t : Bool). cond t (draws r) 0) (eq-eqb r.account n e)

other : (n : ℕ) (r : Row) → (r.account ≡ n → ⊥) → draws_from n r ≡ 0
other n r f = go (eqb r.account n) refl
  where
    go : (t : Bool) → eqb r.account n ≡ t → cond t (draws r) 0 ≡ 0
    go true e = absurd (f (eqb-true r.account n e))
    go false e = refl

-- where something is left of each, none is overdrawn
pub left_paid : (accounts : List Account) (rows : List Row) (left : List ℕ) → LeftBy accounts rows left → Paid accounts rows
left_paid accounts rows left h a m =
    let t = place_in accounts a m in
    let e : drawn (get_or (numbers accounts) t.0 0) rows ≡ drawn a.number rows = ap (λ (n : ℕ). drawn n rows) t.1.number_is in
    omega (arith, h.each t.0 t.1.inside, t.1.bought_is, e)

-- its account stands at the place that was found
pub row_place : {accounts : List Account} {account n i : ℕ} {place : Option ℕ} → account ≡ n → PlaceOf accounts account place → place ≡ Some i → StandsAt accounts n i
row_place {accounts} {i = i} e p q = subst (λ (n : ℕ). StandsAt accounts n i) e (stands_there p q)

module _ {accounts : List Account} (r : Row) {i : ℕ} (range : AccountsInRange accounts) (place : StandsAt accounts r.account i) where
  -- the other accounts have other numbers
  apart : (j : ℕ) → j < length accounts → (j ≡ i → ⊥) → r.account ≡ get_or (numbers accounts) j 0 → ⊥
  apart j l f e = f (sym (one_place accounts range.rising i j place.here l (place.named ∙ e)))

  module _ {rows : List Row} {left : List ℕ} (h : LeftBy accounts rows left) where
    -- what is drawn of each then
    drawn_own : drawn (get_or (numbers accounts) i 0) (rows ++ (r ∷ [])) ≡ drawn (get_or (numbers accounts) i 0) rows + draws r
    drawn_own = drawn_more _ rows r ∙ ap (λ (k : ℕ). drawn (get_or (numbers accounts) i 0) rows + k) (own _ r (sym place.named))

    drawn_other : (j : ℕ) → j < length accounts → (j ≡ i → ⊥) → drawn (get_or (numbers accounts) j 0) (rows ++ (r ∷ [])) ≡ drawn (get_or (numbers accounts) j 0) rows
    drawn_other j l f = drawn_more _ rows r ∙ ap (λ (k : ℕ). drawn (get_or (numbers accounts) j 0) rows + k) (other _ r (apart j l f)) ∙ omega arith

    -- what is left of the account pays for the row exactly if none is overdrawn with it
    paid_more : draws r ≤ get_or left i 0 → Paid accounts (rows ++ (r ∷ []))
    paid_more l a m =
        let t = place_in accounts a m in
        let e : drawn (get_or (numbers accounts) t.0 0) (rows ++ (r ∷ [])) ≡ drawn a.number (rows ++ (r ∷ [])) = ap (λ (n : ℕ). drawn n (rows ++ (r ∷ []))) t.1.number_is in
        go t.0 t.1 e (ℕ_discrete t.0 i)
      where
        go : (j : ℕ) → Sits accounts a j → drawn (get_or (numbers accounts) j 0) (rows ++ (r ∷ [])) ≡ drawn a.number (rows ++ (r ∷ [])) → Dec (j ≡ i)
            → drawn a.number (rows ++ (r ∷ [])) ≤ a.bought
        go j s e (yes q) =
            let g : drawn (get_or (numbers accounts) i 0) (rows ++ (r ∷ [])) ≡ drawn a.number (rows ++ (r ∷ [])) =
            ap (λ (k : ℕ). drawn (get_or (numbers accounts) k 0) (rows ++ (r ∷ []))) (sym q) ∙ e in
            let b : get_or (boughts accounts) i 0 ≡ a.bought = ap (λ (k : ℕ). get_or (boughts accounts) k 0) (sym q) ∙ s.bought_is in
            omega (arith, l, g, b, drawn_own, h.each i place.here)
        go j s e (no f) = omega (arith, e, s.bought_is, drawn_other j s.inside f, h.each j s.inside)

    pub enough_left : Paid accounts (rows ++ (r ∷ [])) → draws r ≤ get_or left i 0
    enough_left p =
        let t = account_there accounts i place.here in
        let e : drawn (get_or (numbers accounts) i 0) (rows ++ (r ∷ [])) ≡ drawn t.0.number (rows ++ (r ∷ [])) = ap (λ (n : ℕ). drawn n (rows ++ (r ∷ []))) t.2.number_is in
        omega (arith, p t.0 t.1, e, t.2.bought_is, drawn_own, h.each i place.here)

    pub tests_may_draw : {cost have : ℕ} → cost ≡ draws r → have ≡ get_or left i 0 → Tests (leb cost have) (Paid accounts (rows ++ (r ∷ [])))
    tests_may_draw {cost} {have} e f = alike (tests_le cost have) (λ l. paid_more (omega (arith, l, e, f))) (λ p. omega (arith, enough_left p, e, f))

    -- so much is left then
    pub left_more : (rest : ℕ) → i < length left → rest + draws r ≡ get_or left i 0 → LeftBy accounts (rows ++ (r ∷ [])) (set left i rest)
    left_more rest l e = record { each = λ j m. go j m (ℕ_discrete j i) }
      where
        go : (j : ℕ) → j < length accounts → Dec (j ≡ i) → get_or (set left i rest) j 0 + drawn (get_or (numbers accounts) j 0) (rows ++ (r ∷ [])) ≡ get_or (boughts accounts) j 0
        go j m (yes q) = subst (λ (k : ℕ). get_or (set left i rest) k 0 + drawn (get_or (numbers accounts) k 0) (rows ++ (r ∷ [])) ≡ get_or (boughts accounts) k 0) (sym q)
            (omega (arith, get_or-set_same left i rest 0 l, drawn_own, h.each i place.here, e))
        go j m (no f) = omega (arith, get_or-set_other left i j rest 0 f, drawn_other j m f, h.each j m)
