-- Whether a book keeps to a set: the image's refusal, 25, or yes or no.
use mathlib.Core.Path.{refl, sym, subst}
use mathlib.Core.Logic.{inl, inr}
use mathlib.Core.Bool.{Bool, false}
use mathlib.Core.List.{List}
use Prim.Native.Nat.{ℕ}
use native.Mathlib.Omega.{arith}
use Rattle.rules.specs.Words.{NoBitFrom, Tests}
use Rattle.rules.specs.Image.{version_of}
use Rattle.rules.specs.Calls.{keeps_refusals, BookKeepsTo, Keeps}
use Rattle.rules.specs.Said.{number_of}
use Rattle.rules.specs.declared.refusals.Refusal.{Refusal}
use Rattle.rules.proofs.Reading.{book_in, LawfulImage}
use Rattle.image.specs.Header.{HeaderOf}
use Rattle.image.specs.declared.Book as head
use Rattle.lawful.specs.Verdict.{NumberOf}
use Rattle.planner.proofs.Lifts.{image_refused, known}

pub keeps_refused : {s : List ℕ} (r : Refusal) → NumberOf s (number_of r) → (mains : ℕ) → Keeps s mains (number_of r) false
keeps_refused r v mains = image_refused r v (keeps_refusals mains) refl

module _ {s : List ℕ} (h : LawfulImage s) {book : head.Book} (read : HeaderOf s book) (mains : ℕ) where
  pub keeps_beyond : (NoBitFrom book.nodes mains → ⊥) → Keeps s mains 25 false
  keeps_beyond f = record {
    says = inr (version_of s, book_in s, h, inl (λ l. f (subst (λ (N : ℕ). NoBitFrom N mains) (known h read) l), refl));
    refused = λ g. refl;
    done = λ z. absurd (omega (arith, z));
  }

  pub keeps_done : {k : Bool} → NoBitFrom book.nodes mains → Tests k (BookKeepsTo mains (book_in s)) → Keeps s mains 0 k
  keeps_done l t = record {
    says = inr (version_of s, book_in s, h, inr (λ f. f (subst (λ (N : ℕ). NoBitFrom N mains) (sym (known h read)) l), refl));
    refused = λ g. absurd (g refl);
    done = λ z. (version_of s, book_in s, h, t);
  }
