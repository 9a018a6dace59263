-- The outcome of a list of refusals, refusal by refusal.
use mathlib.Core.Path.{◌≡◌, sym, ◌∙◌}
use mathlib.Core.Logic.{inl, inr}
use mathlib.Core.List.{List, [], ◌∷◌, ◌++◌}
use Prim.Native.Nat.{ℕ}
use Rattle.rules.specs.Says.{Refusal, ◌when◌, Says}
use Rattle.rules.specs.Book.{Book}
use Rattle.rules.specs.Image.{site_of}
use Rattle.rules.proofs.Says.{None, Alike, same_says, says_first, says_then}
use Rattle.rules.proofs.Reading.{rows_in}
use Rattle.index.specs.Index.{Beside}
use Rattle.opening.specs.Open.{Kept, Outcome}

module _ {R : Book → Type 0} {s out words : List ℕ} {at n len : ℕ} where
  -- the first refusal applies
  pub out_refused : {rs : List Refusal} {A : Type 0} {k : ℕ} → A → (k ≡ 0 → ⊥) → n ≡ k → Beside (site_of s) (rows_in s) words → Outcome ((k when A) ∷ rs) R s at n len out words
  out_refused a f e i = record { says = inl (a, e); refused = λ g. i; done = λ z. absurd (f (sym e ∙ z)) }

  -- it does not, and the others say the outcome
  pub out_next : {rs : List Refusal} {A : Type 0} {k : ℕ} → (A → ⊥) → Outcome rs R s at n len out words → Outcome ((k when A) ∷ rs) R s at n len out words
  out_next f r = record { says = inr (f, r.says); refused = r.refused; done = r.done }

  -- none is left, and the book was kept
  pub out_done : n ≡ 0 → Kept R s at len out words → Outcome [] R s at n len out words
  out_done e k = record { says = e; refused = λ f. absurd (f e); done = λ z. k }

  -- two lists of refusals, one after the other: the first refuses, or it does not and the second says the outcome
  pub out_first : (rs ss : List Refusal) → Says rs n → (n ≡ 0 → ⊥) → Beside (site_of s) (rows_in s) words → Outcome (rs ++ ss) R s at n len out words
  out_first rs ss h f i = record { says = says_first rs ss n h f; refused = λ g. i; done = λ z. absurd (f z) }

  pub out_then : (rs ss : List Refusal) → None rs → Outcome ss R s at n len out words → Outcome (rs ++ ss) R s at n len out words
  out_then rs ss h r = record { says = says_then rs ss n h r.says; refused = r.refused; done = r.done }

-- a book that was kept is as well another's
pub kept_alike : {R R' : Book → Type 0} {s out words : List ℕ} {at len : ℕ} → ((c : Book) → R c → R' c) → Kept R s at len out words → Kept R' s at len out words
kept_alike f k = record { after = k.after; is = f k.after k.is; laid = k.laid; index = k.index }

pub out_more : {rs : List Refusal} {R R' : Book → Type 0} {s out words : List ℕ} {at n len : ℕ} → ((c : Book) → R c → R' c) → Outcome rs R s at n len out words
    → Outcome rs R' s at n len out words
out_more f r = record { says = r.says; refused = r.refused; done = λ z. kept_alike f (r.done z) }

-- refusals that apply alike, and a book that is as well what was asked
pub out_alike : {R R' : Book → Type 0} {s out words : List ℕ} {at n len : ℕ} (rs ss : List Refusal) → Alike rs ss → ((c : Book) → R c → R' c)
    → Outcome rs R s at n len out words → Outcome ss R' s at n len out words
out_alike {n = n} rs ss a f r = let m = out_more f r in record { says = same_says rs ss n a m.says; refused = m.refused; done = m.done }
