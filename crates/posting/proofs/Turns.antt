-- The loop over the records, as it is between two turns: plain lists and numbers, with no memory.
use mathlib.Core.Path.{◌≡◌, refl, sym, ap, ◌∙◌, subst}
use mathlib.Core.Logic.{◌⊎◌, inl, inr, ⊎_elim}
use mathlib.Core.Bool.{Bool, true, false}
use mathlib.Core.List.{List, [], ◌∷◌, ◌++◌, map-append}
use Prim.Native.Nat.{ℕ, suc, ◌+◌, ◌<◌, ◌≤◌}
use native.Mathlib.Nat.{lt-suc_self}
use native.Mathlib.Numerals.{add-one}
use lib.ListN.{length, take, drop, get_or, set}
use lib.Seq.{drop-cons, take-suc, take-suc-set, drop-set-lt, take_all}
use Rattle.rules.specs.Words.{◌∈◌, Tests}
use Rattle.rules.specs.Book.{Book}
use Rattle.rules.specs.Calls as calls
use Rattle.rules.specs.Calls.{Work, InOrder}
use Rattle.rules.proofs.Lists.{in_append, in_left, in_right}
use Rattle.rules.proofs.Tests.{alike, said_yes, said_no}
use Rattle.rules.proofs.Choice.{in_order_more}
use Rattle.rules.proofs.Said.{refuses}
use Rattle.rules.specs.Said.{number_of}
use Rattle.rules.specs.declared.refusals.Refusal.{Refusal}
use Rattle.posting.specs.declared.Request.{Request}
use Rattle.posting.specs.Records.{the_request, the_requests, answers, with_answer, OnlyMarked}
use Rattle.posting.specs.Posting.{Through}

marked_more : (rs rs' : List Request) (r : Request) (n : ℕ) → OnlyMarked rs rs' → OnlyMarked (rs ++ (r ∷ [])) (rs' ++ (with_answer r n ∷ []))
marked_more [] [] r n h = (refl, tt)
marked_more [] (x ∷ rs') r n h = absurd h
marked_more (x ∷ rs) [] r n h = absurd h
marked_more (x ∷ rs) (y ∷ rs') r n h = (h.0, marked_more rs rs' r n h.1)

through_more : (mains : ℕ) (rs rs' : List Request) (b c : Book) (done done' : Bool) (r : Request) (n : ℕ) (d : Book) → Through mains rs b done rs' c
    → Work mains c (the_request r) n d → Tests done' ((0 ∈ answers rs') ⊎ (n ≡ 0)) → Through mains (rs ++ (r ∷ [])) b done' (rs' ++ (with_answer r n ∷ [])) d
through_more mains rs rs' b c done done' r n d h w t = record {
  in_order = subst (λ (qs : List calls.Request). InOrder (Work mains) b qs (answers (rs' ++ (with_answer r n ∷ []))) d) (sym (map-append the_request rs (r ∷ [])))
      (subst (λ (ns : List ℕ). InOrder (Work mains) b (the_requests rs ++ (the_request r ∷ [])) ns d) (sym answered)
      (in_order_more (Work mains) b (the_requests rs) (answers rs') c (the_request r) n d h.in_order w));
  same = marked_more rs rs' r n h.same;
  some_done = subst (λ (ns : List ℕ). Tests done' (0 ∈ ns)) (sym answered) (alike t to from);
}
  where
    answered : answers (rs' ++ (with_answer r n ∷ [])) ≡ answers rs' ++ (n ∷ [])
    answered = map-append (λ (x : Request). x.answer) rs' (with_answer r n ∷ [])

    to : (0 ∈ answers rs') ⊎ (n ≡ 0) → 0 ∈ (answers rs' ++ (n ∷ []))
    to = ⊎_elim (λ (m : 0 ∈ answers rs'). in_left 0 (answers rs') (n ∷ []) m) (λ (z : n ≡ 0). in_right 0 (answers rs') (n ∷ []) (inl (sym z)))

    from : 0 ∈ (answers rs' ++ (n ∷ [])) → (0 ∈ answers rs') ⊎ (n ≡ 0)
    from m = ⊎_elim inl (⊎_elim (λ (z : 0 ≡ n). inr (sym z)) (λ (k : ⊥). absurd k)) (in_append 0 (answers rs') (n ∷ []) m)

-- A TURN of the loop: i records are marked, and the next is worked
abbrev pub none : Request
none = record { opens = false; second = false; source = 0; destination = 0; id = 0; period = 0; account = 0; answer = 0 }

module _ (i : ℕ) (rs cur : List Request) (k : i < length rs) (l : i < length cur) (e : drop i cur ≡ drop i rs) where
  -- the record that is next stands there as it stood
  abbrev pub this : Request
  this = get_or cur i none

  parts : this ∷ drop (suc i) cur ≡ get_or rs i none ∷ drop (suc i) rs
  parts = sym (drop-cons cur i none l) ∙ e ∙ drop-cons rs i none k

  module _ (r : Request) where
    pub rest_more : drop (i + 1) (set cur i r) ≡ drop (i + 1) rs
    rest_more = subst (λ (k : ℕ). drop k (set cur i r) ≡ drop k rs) (sym (add-one i)) (drop-set-lt (suc i) cur i r (lt-suc_self i) ∙ ap (drop 1) parts)

  module _ {mains : ℕ} {b c d : Book} {done : Bool} (h : Through mains (take i rs) b done (take i cur) c) where
    turn : (n : ℕ) (done' : Bool) → Work mains c (the_request this) n d → Tests done' ((0 ∈ answers (take i cur)) ⊎ (n ≡ 0))
        → Through mains (take (i + 1) rs) b done' (take (i + 1) (set cur i (with_answer this n))) d
    turn n done' w t =
        subst (λ (k : ℕ). Through mains (take k rs) b done' (take k (set cur i (with_answer this n))) d) (sym (add-one i))
        (subst (λ (xs : List Request). Through mains xs b done' (take (suc i) (set cur i (with_answer this n))) d)
        (ap (λ (x : Request). take i rs ++ (x ∷ [])) (ap (λ (xs : List Request). get_or xs 0 none) parts) ∙ sym (take-suc rs i none k))
        (subst (λ (xs : List Request). Through mains (take i rs ++ (this ∷ [])) b done' xs d) (sym (take-suc-set cur i _ l))
        (through_more mains (take i rs) (take i cur) b c done done' this n d h w t)))

    -- it is done,
    pub turn_done : Work mains c (the_request this) 0 d → Through mains (take (i + 1) rs) b true (take (i + 1) (set cur i (with_answer this 0))) d
    turn_done w = turn 0 true w (said_yes (inr refl))

    -- or refused
    pub turn_refused : (r : Refusal) → Work mains c (the_request this) (number_of r) d
        → Through mains (take (i + 1) rs) b done (take (i + 1) (set cur i (with_answer this (number_of r)))) d
    turn_refused r w = turn (number_of r) done w (alike h.some_done inl (⊎_elim (λ m. m) (λ z. absurd (refuses r z))))

-- AT THE END all records are marked
pub all_marked : (i : ℕ) (rs cur : List Request) {mains : ℕ} {b c : Book} {done : Bool} → length rs ≤ i → length cur ≤ i → Through mains (take i rs) b done (take i cur) c
    → Through mains rs b done cur c
all_marked i rs cur {mains} {b} {c} {done} k l h =
    subst (λ (xs : List Request). Through mains xs b done cur c) (take_all i rs k)
    (subst (λ (xs : List Request). Through mains (take i rs) b done xs c) (take_all i cur l) h)
