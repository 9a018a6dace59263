-- What a purchase on the image of a lawful book says back, and what it writes.
use Rattle.std.specs.Prelude.{◌≡◌, List, ℕ, length}
use Rattle.rules.specs.Image.{newest, encode, version_of}
use Rattle.rules.specs.Calls.{purchased, purchase_refusals}
use Rattle.rules.proofs.Reading.{book_in}
use Rattle.rules.specs.answers.Reply.{Reply}

-- 22, 24, 12, or the image of its book with the account raised, in the newest version
abbrev pub Buys : List ℕ → ℕ → ℕ → List ℕ → ℕ → ℕ → List ℕ → Type 0
Buys s n amount out =
    Reply (purchase_refusals n amount (length out) (version_of s) (book_in s)) (λ (bytes : List ℕ). bytes ≡ encode newest (purchased n amount (book_in s))) out
