-- Words about numbers and lists that every section uses.
use mathlib.Core.{Path.◌≡◌, Logic.◌⊎◌, Bool.Bool, Bool.true, List.List, List.[], List.◌∷◌}
use Rattle.std.specs.Prelude.{ℕ, zero, suc, ◌+◌, ◌/◌, ◌%◌, ◌^◌, ◌<◌}

-- bit b of the number n
abbrev pub bit : ℕ → ℕ → ℕ
bit n b = n / 2 ^ b % 2

-- n as a set of numbers has b
abbrev pub Has : ℕ → ℕ → Type 0
Has n b = bit n b ≡ 1

-- n has no bit from w up
abbrev pub NoBitFrom : ℕ → ℕ → Type 0
NoBitFrom w n = n < 2 ^ w

-- r is the set, in 64 bits, of exactly the numbers with P
pub record SetOf (P : ℕ → Type 0) (r : ℕ) : Type 0 where
  pub fits : NoBitFrom 64 r
  pub only : (k : ℕ) → Has r k → P k
  pub all : (k : ℕ) → P k → Has r k

-- n is a number of 2 bytes
abbrev pub TwoBytes : ℕ → Type 0
TwoBytes n = n < 65536

-- n is a number of 4 bytes
abbrev pub FourBytes : ℕ → Type 0
FourBytes n = n < 4294967296

-- x is in the list
infix 4 ◌∈◌
abbrev pub ◌∈◌ : {A : Type 0} → A → List A → Type 0
◌∈◌ x [] = ⊥
◌∈◌ x (y ∷ ys) = (x ≡ y) ⊎ (x ∈ ys)

-- R holds between each element and each later one
abbrev pub Pairwise : {A : Type 0} → (A → A → Type 0) → List A → Type 0
Pairwise R [] = Unit {0}
Pairwise R (x ∷ xs) = ((y : _) → y ∈ xs → R x y) × Pairwise R xs

-- no number is there twice
abbrev pub Distinct : List ℕ → Type 0
Distinct = Pairwise (λ (x y : ℕ). x ≡ y → ⊥)

-- xs comes no later than ys in the lexicographic order
abbrev pub NoLater : List ℕ → List ℕ → Type 0
NoLater [] ys = Unit {0}
NoLater (x ∷ xs) [] = ⊥
NoLater (x ∷ xs) (y ∷ ys) = (x < y) ⊎ ((x ≡ y) × NoLater xs ys)

-- xs comes before ys in the lexicographic order
abbrev pub Earlier : List ℕ → List ℕ → Type 0
Earlier xs [] = ⊥
Earlier [] (y ∷ ys) = Unit {0}
Earlier (x ∷ xs) (y ∷ ys) = (x < y) ⊎ ((x ≡ y) × Earlier xs ys)

-- the sum of f over the list
abbrev pub total : {A : Type 0} → (A → ℕ) → List A → ℕ
total f [] = 0
total f (x ∷ xs) = f x + total f xs

-- k of the numbers below n have P
pub data Count (P : ℕ → Type 0) : ℕ → ℕ → Type 0 where
  none : Count P zero zero
  one : {n k : ℕ} → Count P n k → P n → Count P (suc n) (suc k)
  skip : {n k : ℕ} → Count P n k → (P n → ⊥) → Count P (suc n) k

-- zs is ys with x put in somewhere
pub data With {A : Type 0} (x : A) : List A → List A → Type 0 where
  here : {ys : List A} → With x ys (x ∷ ys)
  there : {y : A} {ys zs : List A} → With x ys zs → With x (y ∷ ys) (y ∷ zs)

-- the second list is the first in some order
pub data Reordered {A : Type 0} : List A → List A → Type 0 where
  none : Reordered [] []
  put : {x : A} {xs ys zs : List A} → Reordered xs ys → With x ys zs → Reordered (x ∷ xs) zs

-- the lists are as long as each other, and R holds at each place
abbrev pub Each : {A B : Type 0} → (A → B → Type 0) → List A → List B → Type 0
Each R [] [] = Unit {0}
Each R [] (y ∷ ys) = ⊥
Each R (x ∷ xs) [] = ⊥
Each R (x ∷ xs) (y ∷ ys) = R x y × Each R xs ys

-- the sum of f at each place of the lists
abbrev pub total_each : {A B : Type 0} → (A → B → ℕ) → List A → List B → ℕ
total_each f [] ys = 0
total_each f (x ∷ xs) [] = 0
total_each f (x ∷ xs) (y ∷ ys) = f x y + total_each f xs ys

-- the test passes exactly if P holds
pub record Tests (t : Bool) (P : Type 0) : Type 0 where
  pub yes : t ≡ true → P
  pub back : P → t ≡ true
