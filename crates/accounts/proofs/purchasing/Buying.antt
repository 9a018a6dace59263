-- A purchase is refused by its number, or writes the image of the book with the account raised.
use mathlib.Core.Path.{◌≡◌, refl, sym, ap, ◌∙◌, subst}
use Rattle.std.specs.Prelude.{Option, Some, None}
use Rattle.std.specs.Option.{SomeIff}
use mathlib.Core.List.{List, ◌++◌}
use Prim.Native.Nat.{ℕ, ◌+◌, ◌*◌, ◌<◌, ◌≤◌}
use native.Mathlib.Omega.{arith}
use lib.ListN.{length, take, get_or, length-append}
use lib.Seq.{length-take-le}
use Rattle.rules.specs.Words.{FourBytes}
use Rattle.rules.specs.Book.{Account, KnownAccount}
use Rattle.rules.specs.Image.{newest, header_length, word32, encode, accounts_of}
use Rattle.rules.specs.Calls.{purchased}
use Rattle.rules.proofs.Reading.{book_in, LawfulImage}
use Rattle.accounts.specs.Lists.{boughts, StandsAt, HasBought}
use Rattle.accounts.proofs.Places.{known_there, bought_here}
use Rattle.writer.specs.Over.{over}
use Rattle.writer.proofs.Laws.{over_front}
use Rattle.writer.specs.transcribing.Again.{Transcribed}
use Rattle.rules.proofs.answers.Replies.{reply_refused, reply_next, reply_done}
use Rattle.accounts.specs.purchasing.Buying.{Buys}
use Rattle.accounts.proofs.purchasing.Raising.{Around, around, front_bytes, rest_bytes, front_place, image_before, image_after, inside}

module _ {s : List ℕ} (h : LawfulImage s) (n amount : ℕ) {i : ℕ} (at : StandsAt (accounts_of s) n i) where
  -- the bytes before what the account has bought, and those behind
  parts : Around n amount (accounts_of s) i
  parts = around n amount (accounts_of s) h.lawful.site.accounts.rising i at.here at.named

  front : List ℕ
  front = front_bytes n amount (book_in s) i parts

  rest : List ℕ
  rest = rest_bytes n amount (book_in s) i parts

  place_is : length front ≡ header_length + 1 + 6 * i + 2
  unfolding front
  place_is = front_place n amount (book_in s) i parts

  image_is : encode newest (book_in s) ≡ front ++ (word32 parts.account.bought ++ rest)
  unfolding front rest
  image_is = image_before n amount (book_in s) i parts

  raised_is : {bought sum : ℕ} → HasBought (accounts_of s) n bought → sum ≡ bought + amount → encode newest (purchased n amount (book_in s)) ≡ front ++ (word32 sum ++ rest)
  unfolding front rest
  raised_is {sum = sum} has e =
      let same : parts.account.bought + amount ≡ sum = omega (arith, e, has parts.account parts.there parts.named) in
      image_after n amount (book_in s) i parts ∙ ap (λ (x : ℕ). front ++ (word32 x ++ rest)) same

  module _ {size : ℕ} {work : List ℕ} (again : Transcribed s size work) where
    size_is : size ≡ length front + (4 + length rest)
    size_is =
        sym (length-take-le size work again.fits) ∙ ap length (again.bytes ∙ image_is)
        ∙ length-append front (word32 parts.account.bought ++ rest) ∙ omega arith

    -- the account stands inside
    pub place_inside : header_length + 1 + 6 * i + 2 + 4 ≤ size
    place_inside = omega (arith, size_is, place_is)

    module _ {bought sum : ℕ} (has : HasBought (accounts_of s) n bought) (e : sum ≡ bought + amount) where
      pub size_raised : size ≡ length (encode newest (purchased n amount (book_in s)))
      size_raised = size_is ∙ sym (ap length (raised_is has e) ∙ length-append front (word32 sum ++ rest) ∙ omega arith)

      pub written : (out o₁ o₂ : List ℕ) → o₁ ≡ over out 0 (take size work) → o₂ ≡ over o₁ (header_length + 1 + 6 * i + 2) (word32 sum)
          → o₂ ≡ over out 0 (encode newest (purchased n amount (book_in s)))
      written out o₁ o₂ p q =
          inside out o₁ o₂ front (word32 parts.account.bought) (word32 sum) rest (header_length + 1 + 6 * i + 2) place_is refl
          (p ∙ ap (over out 0) (again.bytes ∙ image_is)) q
          ∙ ap (over out 0) (sym (raised_is has e))

-- a sum that is none, and one that is some
pub no_sum : {o : Option ℕ} {P : Type 0} (v : ℕ) → SomeIff o P v → o ≡ None → P → ⊥
no_sum {P = P} v h e = subst (λ (o : Option ℕ). SomeIff o P v) e h

pub a_sum : {o : Option ℕ} {P : Type 0} (v : ℕ) {x : ℕ} → SomeIff o P v → o ≡ Some x → P × (x ≡ v)
a_sum {P = P} v h e = subst (λ (o : Option ℕ). SomeIff o P v) e h

-- whether it is past 32 bits
module _ {accounts : List Account} {n bought : ℕ} (amount : ℕ) (has : HasBought accounts n bought) where
  past : KnownAccount accounts n → (FourBytes (bought + amount) → ⊥) → (known : KnownAccount accounts n) × (FourBytes (known.account.bought + amount) → ⊥)
  past k l = (k, λ f. l (omega (arith, f, has k.account k.there k.named)))

  not_past : FourBytes (bought + amount) → ((known : KnownAccount accounts n) × (FourBytes (known.account.bought + amount) → ⊥)) → ⊥
  not_past l (k, over) = over (omega (arith, l, has k.account k.there k.named))

-- 22, 24, 12
module _ {s : List ℕ} (h : LawfulImage s) (n amount : ℕ) (out : List ℕ) where
  module _ {i bought : ℕ} (at : StandsAt (accounts_of s) n i) (e : bought ≡ get_or (boughts (accounts_of s)) i 0) where
    known : KnownAccount (accounts_of s) n
    known = known_there at

    has : HasBought (accounts_of s) n bought
    has = bought_here h.lawful.site.accounts.rising at e

    pub buys_past : (FourBytes (bought + amount) → ⊥) → Buys s n amount out 24 0 out
    buys_past l = reply_next (λ f. f known) (reply_refused (past amount has known l) (λ z. omega arith) refl refl)

    module _ {sum : ℕ} (total : sum ≡ bought + amount) (few : FourBytes sum) {size : ℕ} {work : List ℕ} (again : Transcribed s size work) where
      under : FourBytes (bought + amount)
      under = omega (arith, few, total)

      pub buys_short : length out < size → Buys s n amount out 12 0 out
      buys_short l =
          reply_next (λ f. f known)
          (reply_next (not_past amount has under) (reply_refused (omega (arith, l, size_raised h n amount at again has total)) (λ z. omega arith) refl refl))

      -- or the book with the account raised
      pub buys_done : (o₁ o₂ : List ℕ) → size ≤ length out → o₁ ≡ over out 0 (take size work) → o₂ ≡ over o₁ (header_length + 1 + 6 * i + 2) (word32 sum)
          → Buys s n amount out 0 size o₂
      buys_done o₁ o₂ l p q =
          let bytes : List ℕ = encode newest (purchased n amount (book_in s)) in
          let long = size_raised h n amount at again has total in
          reply_next (λ f. f known) (reply_next (not_past amount has under) (reply_next (λ k. omega (arith, l, k, long))
          (reply_done bytes refl refl long (written h n amount at again has total out o₁ o₂ p q ∙ over_front out bytes))))
