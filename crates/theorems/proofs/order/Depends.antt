-- A request's answer depends on whether its id is there, on the rows that clash with its route, on room and on what is left of its account, and on nothing else.
use mathlib.Core.Path.{◌≡◌, sym, ap, ◌∙◌, subst}
use mathlib.Core.Logic.{inl, inr}
use mathlib.Core.List.{List, [], ◌∷◌}
use Prim.Native.Nat.{ℕ}
use native.Mathlib.Omega.{arith}
use lib.ListN.{get_or}
use Rattle.rules.specs.Book.{Site, Row, Book}
use Rattle.rules.specs.Image.{Stored}
use Rattle.rules.specs.Calls.{Request}
use Rattle.rules.specs.Calls.Request.{Open, Close}
use Rattle.rules.specs.Order.{id_of, SameStream}
use Rattle.rules.proofs.Says.{says_unique, says_none}
use Rattle.theorems.specs.order.Depends.{Agree, Depends}
use Rattle.theorems.proofs.order.Steps.{Rows, on, refusals, Answers, Adds, After, after}
use Rattle.theorems.proofs.order.Same.{agree_turned, answers_same, adds_same}
use Rattle.rules.proofs.Lawful.{same_site}
use Rattle.theorems.proofs.order.Calls.{Alone, alone}

module _ (mains : ℕ) (site : Site) where
  -- a done request leaves of its id what it puts in, and nothing else
  only_added : (b : Rows) (q : Request) (x : Row) → Answers mains site b q 0 → x.id ≡ id_of q → After mains site b q x → Adds mains site b q x
  only_added b q x a e (inr h) = h
  only_added b (Open r) x a e (inl h) = absurd ((says_none (refusals mains site b (Open r)) (omega arith) a).1.1.1.1.1.0 record { row = x; there = h.0; named = e })
  only_added b (Close id) x a e (inl h) = absurd (h.1 (a, h.0, e))

  module _ (b c : Rows) (q : Request) (a : Agree mains (on site b) (on site c) q) {answers answers' last last' : List ℕ}
      (d : Alone mains (on site b) q answers last) (e : Alone mains (on site c) q answers' last') where
    same_answer : d.answer ≡ e.answer
    same_answer = says_unique (refusals mains site c q) d.answer e.answer (answers_same mains site b c q a d.answer d.step.says) e.step.says

    same_stream : d.answer ≡ 0 → SameStream (id_of q) last last'
    same_stream done = (
      d.version,
      e.version,
      on site d.rows,
      on site e.rows,
      d.holds,
      e.holds,
      λ x i. (
        λ h. (after mains site c q e.answer e.rows e.step x).1
            (inr (adds_same mains site b c q a x (only_added b q x (subst (Answers mains site b q) done d.step.says) i ((after mains site b q d.answer d.rows d.step x).0 h)))),
        λ h. (after mains site b q d.answer d.rows d.step x).1
            (inr (adds_same mains site c b q (agree_turned mains site b c q a) x
            (only_added c q x (subst (Answers mains site c q) (sym same_answer ∙ done) e.step.says) i ((after mains site c q e.answer e.rows e.step x).0 h)))),
      ),
    )

    answer : (answers ≡ answers') × (answers ≡ 0 ∷ [] → SameStream (id_of q) last last')
    answer = (
      d.answers_are ∙ ap (λ (n : ℕ). n ∷ []) same_answer ∙ sym e.answers_are,
      λ z. same_stream (ap (λ (ns : List ℕ). get_or ns 0 0) (sym d.answers_are ∙ z)),
    )

pub depends : Depends
depends image image' v w b c mains q s t low small a n n' answers answers' last last' p p' =
    let e : c ≡ on b.site c.rows = sym (same_site b c (sym a.site)) in
    answer mains b.site b.rows c.rows q (subst (λ (x : Book). Agree mains b x q) e a) (alone s low q small n answers last p)
    (alone (subst (Stored image' w) e t) low q small n' answers' last' p')
