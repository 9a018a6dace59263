-- From a lawful image to any image: the image's refusal, or what the call says of its book.
use mathlib.Core.Path.{◌≡◌, refl, sym, ap, ◌∙◌, subst}
use mathlib.Core.Logic.{inl, inr}
use mathlib.Core.List.{List, [], ◌++◌}
use Rattle.std.specs.Prelude.{Result, Ok, Err}
use Prim.Native.Nat.{ℕ, ◌<◌, ◌≤◌}
use native.Mathlib.Omega.{arith}
use lib.ListN.{length, drop}
use Rattle.rules.specs.Says as says
use Rattle.rules.specs.Said.{number_of, said}
use Rattle.rules.specs.declared.refusals.Refusal.{Refusal}
use Rattle.rules.proofs.Said.{refuses}
use Rattle.rules.specs.Tiles.{Plan, PlanInRange}
use Rattle.rules.specs.Topology.{nodes}
use Rattle.rules.specs.Records.{the_plan}
use Rattle.rules.specs.Book.{Book}
use Rattle.rules.specs.Image.{newest, encode, links_place, version_of, plan_of, nodes_of, links_of}
use Rattle.rules.specs.Table.{table_length, TablePart, BalanceOf}
use Rattle.rules.specs.Calls.{SaysOf, CallOf, ReplyOf, rewrite_refusals, purchased, purchase_refusals, Purchase}
use Rattle.rules.specs.Calls.{PartInRange, expand_refusals, balance_refusals, Check, Rewrite, Expand, Balance}
use Rattle.rules.proofs.Written.{length_sets_at}
use Rattle.rules.proofs.Reading.{book_in, LawfulImage}
use Rattle.image.specs.Header.{HeaderOf}
use Rattle.image.specs.declared.Book as head
use Rattle.tables.specs.Entries.{Filled}
use Rattle.rules.specs.answers.Reply.{Reply}
use Rattle.rules.proofs.answers.Replies.{reply_refused, reply_next, reply_done}
use Rattle.lawful.specs.Verdict.{NumberOf}
use Rattle.accounts.specs.purchasing.Buying.{Buys}

-- ANY CALL

-- the image is refused
module _ {s : List ℕ} (r : Refusal) (v : NumberOf s (number_of r)) where
  refused_says : (refusals : ℕ → Book → List says.Refusal) → SaysOf s refusals (number_of r)
  refused_says refusals = inl (v.says, refuses r)

  pub image_refused : (refusals : ℕ → Book → List says.Refusal) {R : Type 0} {D : ℕ → Book → Type 0} → R → CallOf s refusals R D (number_of r)
  image_refused refusals h = record { says = refused_says refusals; refused = λ g. h; done = λ z. absurd (refuses r z) }

  pub reply_image : (refusals : ℕ → Book → List says.Refusal) (P : ℕ → Book → List ℕ → Type 0) (out : List ℕ) → ReplyOf s refusals P out (number_of r) 0 out
  reply_image refusals P out =
      record { says = refused_says refusals; refused = λ g. record { length_is = refl; buffer = refl }; done = λ z. absurd (refuses r z) }

  module _ (out : List ℕ) where
    pub rewrite_refused : Rewrite s out (number_of r) 0 out
    rewrite_refused = reply_image (rewrite_refusals (length out)) (λ v b bytes. bytes ≡ encode v b) out

    pub purchase_refused : (account amount : ℕ) → Purchase s account amount out (number_of r) 0 out
    purchase_refused account amount = reply_image (purchase_refusals account amount (length out)) (λ v b bytes. bytes ≡ encode newest (purchased account amount b)) out

    pub expand_refused : (node first tiles : ℕ) → Expand s node first tiles out (number_of r) 0 out
    expand_refused node first tiles = reply_image (expand_refusals node first tiles (length out)) (λ v b. TablePart b node first tiles) out

  pub balance_refused : (node : ℕ) → Balance s node (number_of r) 0 0 0
  balance_refused node = image_refused (balance_refusals node) (refl, refl, refl)

-- the image is that of a lawful book
pub reply_book : {s : List ℕ} → LawfulImage s → (refusals : ℕ → Book → List says.Refusal) (P : ℕ → Book → List ℕ → Type 0) {number len : ℕ} {out out' : List ℕ}
    → Reply (refusals (version_of s) (book_in s)) (P (version_of s) (book_in s)) out number len out' → ReplyOf s refusals P out number len out'
reply_book {s} h refusals P w = record {
  says = inr (version_of s, book_in s, h, w.says);
  refused = w.refused;
  done = λ z. let d = w.done z in (d.0, (version_of s, book_in s, h, d.1), d.2);
}

-- CHECK says the image's number
pub checked : (s : List ℕ) (r : Result Unit Refusal) → NumberOf s (said r) → Check s (said r) 0
checked s (Ok x) v = record {
  says = inr (version_of s, book_in s, v.stored refl, refl);
  refused = λ g. refl;
  done = λ z. (version_of s, book_in s, v.stored refl, refl);
}
checked s (Err r) v = image_refused r v (λ (v : ℕ) (b : Book). []) refl

-- REWRITE
module _ {s : List ℕ} (h : LawfulImage s) (out : List ℕ) where
  pub rewrite_short : length out < length s → Rewrite s out 12 0 out
  rewrite_short l =
      reply_book h (rewrite_refusals (length out)) (λ v b bytes. bytes ≡ encode v b) (reply_refused (omega (arith, ap length h.bytes)) (λ z. omega arith) refl refl)

  pub rewrite_done : {out' : List ℕ} → length s ≤ length out → out' ≡ s ++ drop (length s) out → Rewrite s out 0 (length s) out'
  rewrite_done l w =
      reply_book h (rewrite_refusals (length out)) (λ v b bytes. bytes ≡ encode v b)
      (reply_next (λ k. omega (arith, k, ap length h.bytes)) (reply_done s h.bytes refl refl w))

-- PURCHASE
pub purchase_on : {s : List ℕ} → LawfulImage s → (account amount : ℕ) (out : List ℕ) {number len : ℕ} {out' : List ℕ} → Buys s account amount out number len out'
    → Purchase s account amount out number len out'
purchase_on h account amount out w = reply_book h (purchase_refusals account amount (length out)) (λ v b bytes. bytes ≡ encode newest (purchased account amount b)) w

-- EXPAND
module _ {s : List ℕ} (h : LawfulImage s) {book : head.Book} (read : HeaderOf s book) where
  pub plan_held : PlanInRange (the_plan book.plan)
  plan_held = subst PlanInRange (sym read.plan) h.lawful.site.plan

  pub known : nodes (links_of s) ≡ book.nodes
  known = length_sets_at s (links_place s) (nodes_of s) ∙ sym read.nodes

  size_is : {size : ℕ} (tiles : ℕ) → size ≡ table_length (the_plan book.plan) tiles → size ≡ table_length (plan_of s) tiles
  size_is tiles e = e ∙ ap (λ (plan : Plan). table_length plan tiles) read.plan

  module _ (node first tiles : ℕ) (out : List ℕ) where
    expand_on : {number len : ℕ} {out' : List ℕ} → Reply (expand_refusals node first tiles (length out) (version_of s) (book_in s)) (TablePart (book_in s) node first tiles) out number len out'
        → Expand s node first tiles out number len out'
    expand_on w = reply_book h (expand_refusals node first tiles (length out)) (λ v b. TablePart b node first tiles) w

    pub expand_unknown : book.nodes ≤ node → Expand s node first tiles out 4 0 out
    expand_unknown l = expand_on (reply_refused (omega (arith, known)) (λ z. omega arith) refl refl)

    module _ (l : node < book.nodes) where
      pub expand_outside : (PartInRange first tiles → ⊥) → Expand s node first tiles out 21 0 out
      expand_outside f = expand_on (reply_next (λ m. omega (arith, m, known)) (reply_refused f (λ z. omega arith) refl refl))

      module _ (p : PartInRange first tiles) {size : ℕ} (e : size ≡ table_length (the_plan book.plan) tiles) where
        pub expand_short : length out < size → Expand s node first tiles out 12 0 out
        expand_short k =
            expand_on (reply_next (λ m. omega (arith, m, known)) (reply_next (λ f. f p) (reply_refused (omega (arith, size_is tiles e)) (λ z. omega arith) refl refl)))

        pub expand_done : {out' : List ℕ} → size ≤ length out → Filled s node first tiles out out' → Expand s node first tiles out 0 size out'
        expand_done k f =
            expand_on
            (reply_next (λ m. omega (arith, m, known)) (reply_next (λ f. f p) (reply_next (λ m. omega (arith, m, size_is tiles e))
            (reply_done f.table f.part_of refl (size_is tiles e ∙ sym f.part_of.size) f.buffer))))

  -- BALANCE
  module _ (node : ℕ) where
    pub balance_unknown : book.nodes ≤ node → Balance s node 4 0 0 0
    balance_unknown l = record {
      says = inr (version_of s, book_in s, h, inl (omega (arith, known), refl));
      refused = λ g. (refl, refl, refl);
      done = λ q. absurd (omega (arith, q));
    }

    pub balance_done : {d u f : ℕ} → node < book.nodes → BalanceOf (book_in s) node d u f → Balance s node 0 d u f
    balance_done l w = record {
      says = inr (version_of s, book_in s, h, inr (λ m. omega (arith, m, known), refl));
      refused = λ g. absurd (g refl);
      done = λ z. (version_of s, book_in s, h, w);
    }
