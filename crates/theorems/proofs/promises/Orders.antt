-- What demand 3 says to those who file requests.
use mathlib.Core.Path.{◌≡◌, sym, ap, ◌∙◌, subst}
use mathlib.Core.Logic.{inl, inr}
use mathlib.Core.List.{List, [], ◌∷◌}
use Prim.Native.Nat.{ℕ}
use native.Mathlib.Omega.{arith}
use lib.ListN.{get_or}
use Rattle.rules.specs.Words.{◌∈◌, Each}
use Rattle.rules.specs.Book.{Row, Book}
use Rattle.rules.specs.Calls.{Request}
use Rattle.rules.specs.Order.{id_of, Posting, SameStream, AsAlone, Ample}
use Rattle.rules.proofs.Lists.{reordered_same}
use Rattle.rules.proofs.Encoding.{stored_unique}
use Rattle.theorems.proofs.order.Calls.{some_posting, low_posted}
use Rattle.theorems.specs.promises.Promises.{Gets, OrderDecidesNothing, OwnRequestDecides}

-- THE CLERK
pub order_decides_nothing : OrderDecidesNothing
order_decides_nothing image mains qs i = record {
  last = last;
  every = λ ps m.
      let (ms, last', p) = i.some ps m in
      (ms, subst (Posting Ample image mains ps 0 ms) (i.one ps qs 0 0 ms answers last' last m (reordered_same qs) p posting) p);
  others = i.others qs 0 answers last (reordered_same qs) posting;
}
  where
    answers : List ℕ
    answers = (i.some qs (reordered_same qs)).0

    last : List ℕ
    last = (i.some qs (reordered_same qs)).1

    posting : Posting Ample image mains qs 0 answers last
    posting = (i.some qs (reordered_same qs)).2

-- A YARD

-- streams that stand as in one image stand alike
same_streams : (id : ℕ) (m o p : List ℕ) → SameStream id m p → SameStream id o p → SameStream id m o
same_streams id m o p (v, w, b, c, s, t, f) (v', w', b', c', s', t', f') = (v, v', b, b', s, s', λ r e. (λ k. (f' r e).1 (to r ((f r e).0 k)), λ k. (f r e).1 (from r ((f' r e).0 k))))
  where
    one : c ≡ c'
    one = (stored_unique p w w' c c' t t').1

    to : (r : Row) → r ∈ c.rows → r ∈ c'.rows
    to r k = subst (λ (x : Book). r ∈ x.rows) one k

    from : (r : Row) → r ∈ c'.rows → r ∈ c.rows
    from r k = subst (λ (x : Book). r ∈ x.rows) (sym one) k

-- what holds at each place holds of the request and its answer
gets_each : (R : Request → ℕ → Type 0) (q : Request) (n : ℕ) (qs : List Request) (ns : List ℕ) → Gets q n qs ns → Each R qs ns → R q n
gets_each R q n [] ns g h = absurd g
gets_each R q n (p ∷ ps) [] g h = absurd g
gets_each R q n (p ∷ ps) (m ∷ ns) (inl (e, k)) h = subst (λ (x : Request). R x n) e (subst (R p) k h.0)
gets_each R q n (p ∷ ps) (m ∷ ns) (inr g) h = gets_each R q n ps ns g h.1

pub own_request_decides : OwnRequestDecides
own_request_decides image v b mains held qs qs' i i' ps ps' n n' ns ns' last last' m m' p p' q k k' g g' =
    let (answers, alone, a) = some_posting held (low_posted qs held (i.some qs (reordered_same qs)).2) (q ∷ []) (omega arith) in
    let s = gets_each (AsAlone Ample image mains last) q k ps ns g (i.each ps n ns last m p).1 0 answers alone a in
    let s' = gets_each (AsAlone Ample image mains last') q k' ps' ns' g' (i'.each ps' n' ns' last' m' p').1 0 answers alone a in
    (ap (λ (ks : List ℕ). get_or ks 0 0) (sym s.0 ∙ s'.0), same_streams (id_of q) last last' alone s.1 s'.1)
