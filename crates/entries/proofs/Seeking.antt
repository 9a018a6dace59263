-- Entries looked at one after the other, up to the first that is sought.
use mathlib.Core.Path.{◌≡◌, refl, sym, ap, ◌∙◌, subst}
use mathlib.Core.Logic.{inl, inr, ⊎_elim}
use mathlib.Core.Bool.{Bool, true, false}
use mathlib.Core.List.{List}
use Prim.Native.Nat.{ℕ, ◌+◌, ◌*◌, ◌<◌, ◌≤◌}
use native.Mathlib.Decide.{dec_lt}
use native.Mathlib.Omega.{arith}
use Rattle.std.proofs.Common.{Option, Some, None}
use Rattle.std.specs.Option.{MatchOption}
use Rattle.rules.specs.Words.{Tests}
use Rattle.rules.specs.Table.{on_way}
use Rattle.rules.proofs.Seen.{Has}
use Rattle.rules.proofs.Tests.{fails}
use Rattle.entries.specs.Entries.{NextOf, Receives, Receiver}

-- what a search from one on, before another, finds
pub next_of : (tables : List ℕ) {from to : ℕ} (operation id : ℕ) (r : Option ℕ) → from ≤ to
    → MatchOption r ((k : ℕ) → from ≤ k → k < to → Has tables k operation id → ⊥)
    (λ i. (from ≤ i) × (i < to) × Has tables i operation id × ((k : ℕ) → from ≤ k → k < i → Has tables k operation id → ⊥))
    → NextOf tables from to operation id r
next_of tables operation id None l f = record { low = l; high = omega arith; found = λ k. absurd (omega arith); first = λ j k n h. absurd (f j k n h) }
next_of tables {from} operation id (Some i) l f =
    (f.1, record { low = f.0; high = omega arith; found = λ k. f.2; first = λ j k n h. go j k h (dec_lt j i) })
  where
    go : (j : ℕ) → from ≤ j → Has tables j operation id → Dec (j < i) → i ≤ j
    go j k h (yes m) = absurd (f.3 j k m h)
    go j k h (no m) = omega arith

-- WHO RECEIVES
pub receives_one : {tables : List ℕ} {i way id a : ℕ} {s : Bool} → a ≡ on_way way 2 → Tests s (Has tables i a id) → s ≡ true → Tests s (Receives tables i way id)
receives_one {tables} {i} {way} {id} e h y = record { yes = λ z. record { operation = 2; has = subst (λ (o : ℕ). Has tables i o id) e (h.yes y); two = inl refl }; back = λ r. y }

pub receives_other : {tables : List ℕ} {i way id a c : ℕ} {s t : Bool} → a ≡ on_way way 2 → c ≡ on_way way 4 → Tests s (Has tables i a id) → s ≡ false → Tests t (Has tables i c id)
    → Tests t (Receives tables i way id)
receives_other {tables} {i} {way} {id} {a} {c} {t = t} e f h n g = record {
  yes = λ y. record { operation = 4; has = subst (λ (o : ℕ). Has tables i o id) f (g.yes y); two = inr refl };
  back = λ r. ⊎_elim (λ (z : r.operation ≡ 2). absurd (fails h n (subst (λ (o : ℕ). Has tables i o id) (ap (on_way way) z ∙ sym e) r.has)))
      (λ (z : r.operation ≡ 4). g.back (subst (λ (o : ℕ). Has tables i o id) (ap (on_way way) z ∙ sym f) r.has)) r.two;
}

-- what a search among the nodes finds
module _ {tables : List ℕ} {slots slot way id nodes : ℕ} where
  pub receiver_none : ((k : ℕ) → 0 ≤ k → k < nodes → Receives tables (k * slots + slot) way id → ⊥) → Receiver tables nodes slots slot way id nodes
  receiver_none f = record { most = omega arith; found = λ l. absurd (omega arith); first = λ k l q. absurd (f k (omega arith) l q) }

  pub receiver_here : {node : ℕ} → (0 ≤ node) × (node < nodes) × Receives tables (node * slots + slot) way id × ((k : ℕ) → 0 ≤ k → k < node → Receives tables (k * slots + slot) way id → ⊥)
      → Receiver tables nodes slots slot way id node
  receiver_here {node} f = record { most = omega (arith, f.1); found = λ l. f.2; first = λ k l q. go k q (dec_lt k node) }
    where
      go : (k : ℕ) → Receives tables (k * slots + slot) way id → Dec (k < node) → node ≤ k
      go k q (yes m) = absurd (f.3 k (omega arith) m q)
      go k q (no m) = omega arith
