-- A book is read exactly if it is lawful, and rewritten it has the same bytes.
use mathlib.Core.Path.{◌≡◌, refl, sym, ◌∙◌}
use mathlib.Core.Logic.{inl, inr, ◌↔◌}
use mathlib.Core.List.{List, []}
use Prim.Native.Nat.{ℕ}
use Rattle.rules.specs.Book.{Book}
use Rattle.rules.specs.Image.{Stored}
use Rattle.rules.specs.Calls.{SaysOf, Check}
use Rattle.rules.proofs.Encoding.{stored_unique}
use Rattle.rules.proofs.Unique.{says_of_unique}
use Rattle.theorems.proofs.order.Calls.{taken}
use Rattle.theorems.specs.promises.Promises.{ReadsExactly, RewritesTheSame}

pub reads_exactly : ReadsExactly
reads_exactly = (exactly, stored_unique)
  where
    exactly : (image : List ℕ) (number len : ℕ) → Check image number len → (number ≡ 0) ↔ ((v : ℕ) × (b : Book) × Stored image v b)
    exactly image number len h = (λ z. held h.says z, λ s. says_of_unique image (λ (v : ℕ) (b : Book). []) number 0 h.says (inr (s.0, s.1, s.2, refl)))
      where
        held : SaysOf image (λ (v : ℕ) (b : Book). []) number → number ≡ 0 → (v : ℕ) × (b : Book) × Stored image v b
        held (inl w) z = absurd (w.1 z)
        held (inr w) z = (w.0, w.1, w.2)

pub rewrites_the_same : RewritesTheSame
rewrites_the_same image out len out' h = let (bytes, (v, b, s, e), w) = h.done refl in taken w ∙ e ∙ sym s.bytes
