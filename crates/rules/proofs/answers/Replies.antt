-- The reply of a list of refusals, refusal by refusal.
use mathlib.Core.Path.{◌≡◌, refl, sym, ◌∙◌}
use mathlib.Core.Logic.{inl, inr}
use mathlib.Core.List.{List, [], ◌∷◌, ◌++◌}
use Prim.Native.Nat.{ℕ}
use lib.ListN.{length, drop}
use Rattle.rules.specs.Says.{Refusal, ◌when◌, Says}
use Rattle.rules.proofs.Says.{None, Alike, same_says, says_first, says_then}
use Rattle.rules.specs.answers.Reply.{Reply}

module _ {R : List ℕ → Type 0} {out : List ℕ} where
  -- the first refusal applies
  pub reply_refused : {rs : List Refusal} {A : Type 0} {k n len : ℕ} → A → (k ≡ 0 → ⊥) → n ≡ k → len ≡ 0 → Reply ((k when A) ∷ rs) R out n len out
  reply_refused a f e l = record {
    says = inl (a, e);
    refused = λ g. record { length_is = l; buffer = refl };
    done = λ z. absurd (f (sym e ∙ z));
  }

  -- it does not, and the others say the reply
  pub reply_next : {rs : List Refusal} {A : Type 0} {k n len : ℕ} {out' : List ℕ} → (A → ⊥) → Reply rs R out n len out' → Reply ((k when A) ∷ rs) R out n len out'
  reply_next f r = record { says = inr (f, r.says); refused = r.refused; done = r.done }

  -- none is left, and the bytes were written
  pub reply_done : {n len : ℕ} {out' : List ℕ} (bytes : List ℕ) → R bytes → n ≡ 0 → len ≡ length bytes → out' ≡ bytes ++ drop (length bytes) out → Reply [] R out n len out'
  reply_done bytes h e l w = record {
    says = e;
    refused = λ f. absurd (f e);
    done = λ z. (bytes, h, record { length_is = l; buffer = w });
  }

-- refusals that apply alike, and bytes that are as well what was asked
pub reply_alike : {R R' : List ℕ → Type 0} {out out' : List ℕ} {n len : ℕ} (rs ss : List Refusal) → Alike rs ss → ((bytes : List ℕ) → R bytes → R' bytes)
    → Reply rs R out n len out' → Reply ss R' out n len out'
reply_alike {n = n} rs ss a f r = record {
  says = same_says rs ss n a r.says;
  refused = r.refused;
  done = λ z. let d = r.done z in (d.0, f d.0 d.1, d.2);
}

-- two lists of refusals, one after the other: the first refuses, or it does not and the second says the reply
pub reply_first : {R : List ℕ → Type 0} {out : List ℕ} {n len : ℕ} (rs ss : List Refusal) → Says rs n → (n ≡ 0 → ⊥) → len ≡ 0 → Reply (rs ++ ss) R out n len out
reply_first {n = n} rs ss h f l = record {
  says = says_first rs ss n h f;
  refused = λ g. record { length_is = l; buffer = refl };
  done = λ z. absurd (f z);
}

pub reply_then : {R : List ℕ → Type 0} {out out' : List ℕ} {n len : ℕ} (rs ss : List Refusal) → None rs → Reply ss R out n len out' → Reply (rs ++ ss) R out n len out'
reply_then {n = n} rs ss h r = record { says = says_then rs ss n h r.says; refused = r.refused; done = r.done }
