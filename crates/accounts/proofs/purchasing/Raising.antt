-- The image of a book with one account raised is that of the book but for the 4 bytes of what the account has bought.
use mathlib.Core.Path.{◌≡◌, refl, sym, ap, ap₂, ◌∙◌}
use mathlib.Core.Logic.{inl, inr}
use mathlib.Core.Bool.{Bool, true, false, cond}
use mathlib.Core.List.{List, [], ◌∷◌, ◌++◌, append_assoc}
use Prim.Native.Nat.{ℕ, zero, suc, ◌+◌, ◌*◌, ◌<◌}
use native.Mathlib.Omega.{arith}
use borrow.Author.Tests.{eqb-true, eq-eqb}
use lib.Dec.{eqb}
use lib.ListN.{length, get_or, take, drop, length-append}
use lib.Seq.{take_at, drop_at, drop-drop}
use Rattle.rules.specs.Words.{◌∈◌, Pairwise}
use Rattle.rules.specs.Topology.{nodes}
use Rattle.rules.specs.Book.{Account, Book, hops_in_all}
use Rattle.rules.specs.Image.{newest, header_length, word, word32, in_turn, encode_header, encode_account, encode_topologies, encode_row, encode}
use Rattle.rules.specs.Calls.{raised, purchased}
use Rattle.rules.proofs.Accounts.{raised_length}
use Rattle.accounts.specs.Lists.{numbers}
use Rattle.accounts.proofs.Places.{account_there}
use Rattle.writer.specs.Over.{over}
use Rattle.writer.proofs.Laws.{over_front}

-- THE ACCOUNTS
module _ (n amount : ℕ) where
  abbrev raise : Account → Account
  raise a = cond (eqb a.number n) (record { number = a.number; bought = a.bought + amount }) a

  own : (a : Account) → a.number ≡ n → raise a ≡ record { number = a.number; bought = a.bought + amount }
  own a e = ap (λ (t : Bool). cond t (record { number = a.number; bought = a.bought + amount }) a) (eq-eqb a.number n e)

  other : (a : Account) → (a.number ≡ n → ⊥) → raise a ≡ a
  other a f = go (eqb a.number n) refl
    where
      go : (t : Bool) → eqb a.number n ≡ t → cond t (record { number = a.number; bought = a.bought + amount }) a ≡ a
      go true e = absurd (f (eqb-true a.number n e))
      go false e = refl

  others : (accounts : List Account) → ((a : Account) → a ∈ accounts → a.number ≡ n → ⊥) → raised n amount accounts ≡ accounts
  others [] f = refl
  others (a ∷ accounts) f = ap₂ ◌∷◌ (other a (f a (inl refl))) (others accounts (λ x m. f x (inr m)))

  -- the bytes of the accounts before what the account at place i has bought, and those behind
  pub record Around (accounts : List Account) (i : ℕ) : Type 0 where
    pub account : Account
    pub there : account ∈ accounts
    pub named : account.number ≡ n
    pub front : List ℕ
    pub rest : List ℕ
    pub place : length front ≡ 6 * i + 2
    pub before : in_turn encode_account accounts ≡ front ++ (word32 account.bought ++ rest)
    pub after : in_turn encode_account (raised n amount accounts) ≡ front ++ (word32 (account.bought + amount) ++ rest)

  pub around : (accounts : List Account) → Pairwise (λ (a c : Account). a.number < c.number) accounts → (i : ℕ) → i < length accounts → get_or (numbers accounts) i 0 ≡ n
      → Around accounts i
  around [] p i l e = absurd (omega arith)
  around (a ∷ accounts) p zero l e = record {
    account = a;
    there = inl refl;
    named = e;
    front = word a.number;
    rest = in_turn encode_account accounts;
    place = refl;
    before = refl;
    after = ap₂ (λ (x : Account) (xs : List Account). encode_account x ++ in_turn encode_account xs) (own a e) (others accounts (λ x m f. omega (arith, p.0 x m, e, f)));
  }
  around (a ∷ accounts) p (suc i) l e =
      let t = around accounts p.1 i (omega arith) e in
      let x = account_there accounts i (omega arith) in
      record {
        account = t.account;
        there = inr t.there;
        named = t.named;
        front = encode_account a ++ t.front;
        rest = t.rest;
        place = omega (arith, t.place);
        before = ap (λ (l : List ℕ). encode_account a ++ l) t.before;
        after = ap₂ (λ (y : Account) (l : List ℕ). encode_account y ++ l) (other a (λ f. omega (arith, p.0 x.0 x.1, x.2.number_is, e, f))) t.after;
      }

-- THE IMAGE
module _ (n amount : ℕ) (b : Book) (i : ℕ) (t : Around n amount b.site.accounts i) where
  abbrev header : List ℕ
  header = encode_header newest b.site.plan (nodes b.site.links) (length b.rows) (hops_in_all b.rows)

  -- up to what the account has bought
  pub front_bytes : List ℕ
  front_bytes = header ++ (length b.site.accounts ∷ t.front)

  -- and what stands behind it
  pub rest_bytes : List ℕ
  rest_bytes = t.rest ++ encode_topologies newest b.site ++ in_turn (encode_row newest) b.rows

  pub front_place : length front_bytes ≡ header_length + 1 + 6 * i + 2
  unfolding front_bytes
  front_place = omega (arith, t.place)

  spread : (list w : List ℕ) → list ≡ t.front ++ (w ++ t.rest)
      → header ++ (((length b.site.accounts ∷ list) ++ encode_topologies newest b.site) ++ in_turn (encode_row newest) b.rows) ≡ front_bytes ++ (w ++ rest_bytes)
  unfolding front_bytes rest_bytes
  spread list w e =
      ap (λ (l : List ℕ). header ++ (((length b.site.accounts ∷ l) ++ encode_topologies newest b.site) ++ in_turn (encode_row newest) b.rows)) e ∙ simp append_assoc

  pub image_before : encode newest b ≡ front_bytes ++ (word32 t.account.bought ++ rest_bytes)
  image_before = spread (in_turn encode_account b.site.accounts) (word32 t.account.bought) t.before

  pub image_after : encode newest (purchased n amount b) ≡ front_bytes ++ (word32 (t.account.bought + amount) ++ rest_bytes)
  image_after =
      let list : List ℕ = in_turn encode_account (raised n amount b.site.accounts) in
      ap (λ (k : ℕ). header ++ (((k ∷ list) ++ encode_topologies newest b.site) ++ in_turn (encode_row newest) b.rows)) (raised_length n amount b.site.accounts)
      ∙ spread list (word32 (t.account.bought + amount)) t.after

-- WRITTEN INSIDE what was written: as many bytes in the place of others
pub inside : (d o₁ o₂ front w w' rest : List ℕ) (at : ℕ) → length front ≡ at → length w ≡ length w' → o₁ ≡ over d 0 (front ++ (w ++ rest)) → o₂ ≡ over o₁ at w'
    → o₂ ≡ over d 0 (front ++ (w' ++ rest))
unfolding over
inside d o₁ o₂ front w w' rest at e f p q =
    let x : List ℕ = front ++ (w ++ rest) in
    let y : List ℕ = front ++ (w' ++ rest) in
    let tail : List ℕ = drop (length x) d in
    let long : length x ≡ length y = omega (arith, f, length-append front (w ++ rest), length-append front (w' ++ rest), length-append w rest, length-append w' rest) in
    let k : o₁ ≡ front ++ (w ++ (rest ++ tail)) = p ∙ over_front d x ∙ append_assoc front (w ++ rest) tail ∙ ap (λ (l : List ℕ). front ++ l) (append_assoc w rest tail) in
    let head : take at o₁ ≡ front = ap (take at) k ∙ take_at front (w ++ (rest ++ tail)) at e in
    let back : drop (at + length w') o₁ ≡ rest ++ tail =
    ap (drop (at + length w')) k ∙ sym (drop-drop (length w') at (front ++ (w ++ (rest ++ tail))))
    ∙ ap (drop (length w')) (drop_at front (w ++ (rest ++ tail)) at e) ∙ drop_at w (rest ++ tail) (length w') f in
    q ∙ ap₂ (λ (a c : List ℕ). a ++ w' ++ c) head back ∙ append_assoc front w' (rest ++ tail) ∙ ap (λ (l : List ℕ). front ++ l) (sym (append_assoc w' rest tail))
    ∙ sym (append_assoc front (w' ++ rest) tail) ∙ ap (λ (m : ℕ). y ++ drop m d) long ∙ sym (over_front d y)
