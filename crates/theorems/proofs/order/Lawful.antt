-- Opens and closes leave a lawful book.
use mathlib.Core.Path.{◌≡◌, refl, sym, ap, subst}
use mathlib.Core.Logic.{inl, inr}
use mathlib.Core.List.{List, [], ◌∷◌}
use Prim.Native.Nat.{ℕ}
use native.Mathlib.Decide.{ℕ_discrete}
use Rattle.rules.specs.Words.{TwoBytes, ◌∈◌}
use Rattle.rules.specs.Says.{Says}
use Rattle.rules.specs.Book.{Book, LawfulBook}
use Rattle.rules.specs.Placing.{Asked}
use Rattle.rules.specs.Calls.{Request, request_refusals, Work, InOrder}
use Rattle.rules.specs.Calls.Request.{Open}
use Rattle.rules.specs.Order.{id_of, IdInRange}
use Rattle.rules.proofs.Lawful.{made_lawful}

-- a request, refused or done
pub work_lawful : (middle : ℕ) (b : Book) (q : Request) (n : ℕ) (c : Book) → Work middle b q n c → LawfulBook b → IdInRange q → LawfulBook c
work_lawful middle b q n c w l small = go (ℕ_discrete n 0)
  where
    asked : (a : Asked) → q ≡ Open a → TwoBytes a.id
    asked a e = subst TwoBytes (ap id_of e) small

    go : Dec (n ≡ 0) → LawfulBook c
    go (yes z) = made_lawful b l middle q asked (subst (Says (request_refusals middle b q)) z w.says) c (w.done z)
    go (no f) = subst LawfulBook (sym (w.refused f)) l

-- and many
pub works_lawful : (middle : ℕ) (b : Book) (qs : List Request) (ns : List ℕ) (c : Book) → InOrder (Work middle) b qs ns c → LawfulBook b → ((q : Request) → q ∈ qs → IdInRange q)
    → LawfulBook c
works_lawful middle b [] [] c w l small = subst LawfulBook (sym w) l
works_lawful middle b [] (n ∷ ns) c w l small = absurd w
works_lawful middle b (q ∷ qs) [] c w l small = absurd w
works_lawful middle b (q ∷ qs) (n ∷ ns) c (d, step, rest) l small =
    works_lawful middle d qs ns c rest (work_lawful middle b q n d step l (small q (inl refl))) (λ v m. small v (inr m))
