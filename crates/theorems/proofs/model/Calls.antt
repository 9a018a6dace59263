-- What is computed meets every call's contract: each contract has a result, on every input.
use mathlib.Core.Path.{◌≡◌, refl, sym, subst}
use mathlib.Core.Logic.{inl, inr, ◌↔◌}
use mathlib.Core.Bool.{Bool, true, false, not, cond, ◌&&◌}
use mathlib.Core.List.{List, [], ◌∷◌}
use Prim.Native.Nat.{ℕ, zero, suc, ◌+◌, ◌*◌, ◌/◌, ◌^◌}
use native.Mathlib.Omega.{arith}
use lib.Dec.{eqb, ltb}
use lib.ListN.{length, get_or, length-replicate}
use Rattle.rules.specs.Words.{FourBytes, ◌∈◌, Tests}
use Rattle.rules.specs.Says.{Refusal, Says}
use Rattle.rules.specs.Tiles.{Plan, PlanInRange, short_tiles, cycle_tiles}
use Rattle.rules.specs.Topology.{nodes, NodesInRange, middles, all_nodes}
use Rattle.rules.specs.Book.{Account, Row, Book, KnownAccount}
use Rattle.rules.specs.Image.{newest, longest_image, encode, topology_at, version_of, nodes_of, links_of, image_refusals, Stored}
use Rattle.rules.specs.Table.{table_length, used, BalanceOf}
use Rattle.rules.specs.Index.{index_length, IndexOf, Indexed}
use Rattle.rules.specs.Calls.{Wrote, Unchanged, Reply, SaysOf, CallOf, ReplyOf, AccountsGiven, TopologiesGiven, given_accounts, new_book, new_refusals, rewrite_refusals}
use Rattle.rules.specs.Calls.{Request, Work, InOrder, most_requests, Beyond, post_refusals, Posted, balance_refusals, keeps_refusals, BookKeepsTo}
use Rattle.rules.specs.Calls.{most_tiles, PartInRange, expand_refusals, purchase_refusals, purchased, Purchase}
use Rattle.rules.specs.Calls.{New, Check, Rewrite, Post, Serve, Expand, Balance, LinksOf, Links, Keeps}
use Rattle.rules.proofs.Tests.{never, alike, tests_and, tests_or, tests_not, tests_eq, tests_le, tests_lt, tests_member, all_of, tests_every}
use Rattle.rules.proofs.Counts.{counted}
use Rattle.rules.proofs.Says.{None, says_none, says_unique}
use Rattle.rules.proofs.Encoding.{stored_says}
use Rattle.rules.proofs.Written.{Bytes, length_sets_at}
use Rattle.rules.proofs.Reading.{book_in, LawfulImage, lawful_stored}
use Rattle.theorems.specs.model.Test.{has, joined}
use Rattle.theorems.specs.model.Answer.{Tested, first_number, when_done, answers_of, last_book}
use Rattle.theorems.specs.model.Table.{data_count, free_count, part_of}
use Rattle.theorems.specs.model.Index.{index_of}
use Rattle.theorems.specs.model.Reading.{plan_fits, nodes_fit, are_sound, image_number}
use Rattle.theorems.specs.model.Calls.{Output, put, kept, writes, number_of, replies, new_tests, new, rewrite_tests, rewrite, expand_tests, expand, is_beyond, post_tests, post_number, image_after}
use Rattle.theorems.specs.model.Calls.{some_done, post_output, index_after, post, own_index, post_one, serve, balance_tests, balance_number, balance, link_count, links, keeps_tests, book_keeps}
use Rattle.theorems.specs.model.Calls.{keeps_number, keeps, is_part_in_range, is_given, is_past, purchase_tests, purchase}
use Rattle.theorems.proofs.model.Firsts.{Agree, first_says}
use Rattle.theorems.proofs.model.Tests.{tests_in, tests_has, tests_joined, tests_known_account}
use Rattle.theorems.proofs.model.Answers.{workable, in_order_computed, last_workable}
use Rattle.theorems.proofs.model.Tables.{balance_computed, part_computed}
use Rattle.theorems.proofs.model.Index.{index_computed}
use Rattle.theorems.proofs.model.Reading.{stable, tests_plan, tests_nodes, tests_topologies, tests_accounts, image_says, stored_in}

-- ONE SHAPE

-- a number that is said, and bytes that have P where it is 0
pub reply : {Number : ℕ → Type 0} {P : List ℕ → Type 0} (n : ℕ) (bytes out : List ℕ) → Number n → (n ≡ 0 → P bytes)
    → Reply Number P out n (writes n bytes out).len (writes n bytes out).out
reply n bytes out says done = record { says = says; refused = unchanged n; done = λ e. (bytes, done e, wrote n e) }
  where
    unchanged : (n : ℕ) → (n ≡ 0 → ⊥) → Unchanged out (writes n bytes out).len (writes n bytes out).out
    unchanged zero f = absurd (f refl)
    unchanged (suc n) f = record { length_is = refl; buffer = refl }

    wrote : (n : ℕ) → n ≡ 0 → Wrote bytes out (writes n bytes out).len (writes n bytes out).out
    wrote zero e = record { length_is = refl; buffer = refl }
    wrote (suc n) e = absurd (omega arith)

module _ (image : List ℕ) (bytes : Bytes image) (refusals : ℕ → Book → List Refusal) (tests : ℕ → Book → List Tested)
    (h : (v : ℕ) (b : Book) → Stored image v b → Agree (tests v b) (refusals v b)) where
  -- tests that agree with the refusals say what the call does
  pub says_of : SaysOf image refusals (number_of image tests)
  says_of = go (image_number image) (image_says image) (stored_in image bytes)
    where
      go : (n : ℕ) → Says (image_refusals image) n → (n ≡ 0 → LawfulImage image)
          → SaysOf image refusals (when_done n (first_number (tests (version_of image) (book_in image))) n)
      go zero s k =
          let v : ℕ = version_of image in
          let b : Book = book_in image in
          let w = k refl in
          inr (v, b, w, first_says (tests v b) (refusals v b) (h v b w))
      go (suc n) s k = inl (s, λ e. omega arith)

  -- a call that is done was on a lawful image
  done_on : number_of image tests ≡ 0 → LawfulImage image × (first_number (tests (version_of image) (book_in image)) ≡ 0)
  done_on = go (image_number image) (stored_in image bytes)
    where
      go : (n : ℕ) → (n ≡ 0 → LawfulImage image) → when_done n (first_number (tests (version_of image) (book_in image))) n ≡ 0
          → LawfulImage image × (first_number (tests (version_of image) (book_in image)) ≡ 0)
      go zero k e = (k refl, e)
      go (suc n) k e = absurd (omega arith)

  pub call_of : {R : Type 0} {D : ℕ → Book → Type 0} → ((number_of image tests ≡ 0 → ⊥) → R)
      → (number_of image tests ≡ 0 → Stored image (version_of image) (book_in image) → D (version_of image) (book_in image)) → CallOf image refusals R D (number_of image tests)
  call_of refused done = record { says = says_of; refused = refused; done = λ e. let w = (done_on e).0 in (version_of image, book_in image, w, done e w) }

  pub reply_of : {P : ℕ → Book → List ℕ → Type 0} (answer : ℕ → Book → List ℕ)
      → ((v : ℕ) (b : Book) → Stored image v b → first_number (tests v b) ≡ 0 → P v b (answer v b)) → (out : List ℕ)
      → ReplyOf image refusals P out (replies image tests answer out).number (replies image tests answer out).len (replies image tests answer out).out
  reply_of answer holds out =
      reply (number_of image tests) (answer (version_of image) (book_in image)) out says_of
      (λ e. let d = done_on e in (version_of image, book_in image, d.0, holds (version_of image) (book_in image) d.0 d.1))

-- NEW BOOK
tests_given : (N : ℕ) (links hearing : List ℕ)
    → Tests (eqb (length links) (8 * N) && (eqb (length hearing) (8 * N) && are_sound (topology_at links 0 N) (topology_at hearing 0 N))) (TopologiesGiven N links hearing)
tests_given N links hearing =
    alike (tests_and (tests_eq (length links) (8 * N)) (tests_and (tests_eq (length hearing) (8 * N)) (tests_topologies (topology_at links 0 N) (topology_at hearing 0 N))))
    (λ p. record { links_whole = p.0; hearing_whole = p.1.0; sound = p.1.1 })
    (λ r. (r.links_whole, (r.hearing_whole, r.sound)))

tests_whole : (accounts : List ℕ) → Tests (is_given accounts) (AccountsGiven accounts)
tests_whole accounts =
    alike (tests_and (tests_eq (length accounts) (6 * (length accounts / 6))) (tests_accounts (given_accounts accounts)))
    (λ p. record { whole = p.0; range = p.1 }) (λ r. (r.whole, r.range))

tests_arguments : (plan : Plan) (N : ℕ) (accounts : List ℕ) → Tests (plan_fits plan && (nodes_fit N && is_given accounts)) (PlanInRange plan × NodesInRange N × AccountsGiven accounts)
tests_arguments plan N accounts =
    alike (tests_and (tests_plan plan) (tests_and (tests_nodes N) (tests_whole accounts))) (λ p. (p.0, p.1.0, p.1.1)) (λ p. (p.0, (p.1, p.2)))

pub new_computed : (plan : Plan) (N : ℕ) (links hearing accounts out : List ℕ) → let r = new plan N links hearing accounts out in
    New plan N links hearing accounts out r.number r.len r.out
new_computed plan N links hearing accounts out =
    reply (first_number (new_tests plan N links hearing accounts (length out))) (encode newest (new_book plan N links hearing accounts)) out
    (first_says (new_tests plan N links hearing accounts (length out)) (new_refusals plan N links hearing accounts (length out)) (
      refl,
      tests_not (tests_arguments plan N accounts),
      λ n10. (refl, tests_not (tests_given N links hearing), λ n11. (refl, tests_lt (length out) (length (encode newest (new_book plan N links hearing accounts))), λ n12. tt)),
    ))
    (λ e. refl)

-- a new book is lawful
pub new_lawful : (plan : Plan) (N : ℕ) (links hearing accounts : List ℕ) (room : ℕ) → Says (new_refusals plan N links hearing accounts room) 0
    → Stored (encode newest (new_book plan N links hearing accounts)) newest (new_book plan N links hearing accounts)
new_lawful plan N links hearing accounts room h = lawful_stored (new_book plan N links hearing accounts) record {
  site = record {
    plan = fits.0;
    nodes = subst NodesInRange (sym (length_sets_at links 0 N)) fits.1;
    topologies = (stable (tests_given N links hearing) n.1.0).sound;
    accounts = fits.2.range;
  };
  streams = omega arith;
  hops = omega arith;
  rows = λ r m. absurd m;
  rising = tt;
  paired = λ r m. absurd m;
  paid = λ a m. omega arith;
  never_meet = λ m. m.one_there;
}
  where
    n : None (new_refusals plan N links hearing accounts room)
    n = says_none (new_refusals plan N links hearing accounts room) (omega arith) h

    fits : PlanInRange plan × NodesInRange N × AccountsGiven accounts
    fits = stable (tests_arguments plan N accounts) n.0

tests_beyond : (b : Book) (mains : ℕ) → Tests (is_beyond b mains) (Beyond b mains)
tests_beyond b mains = tests_not (tests_lt mains (2 ^ nodes b.site.links))

-- THE CALLS ON AN IMAGE
module _ (image : List ℕ) (bytes : Bytes image) where
  pub check_computed : Check image (image_number image) 0
  check_computed =
      subst (λ (n : ℕ). Check image n 0) (same (image_number image)) (call_of image bytes (λ (v : ℕ) (b : Book). []) (λ v b. []) (λ v b w. tt) (λ f. refl) (λ e w. refl))
    where
      same : (n : ℕ) → when_done n 0 n ≡ n
      same zero = refl
      same (suc n) = refl

  pub rewrite_computed : (out : List ℕ) → Rewrite image out (rewrite image out).number (rewrite image out).len (rewrite image out).out
  rewrite_computed out =
      reply_of image bytes (rewrite_refusals (length out)) (rewrite_tests (length out)) (λ v b w. (refl, tests_lt (length out) (length (encode v b)), λ n12. tt))
      encode (λ v b w e. refl) out

  module _ (out : List ℕ) where
    pub post_computed : (mains : ℕ) (qs : List Request) (index before : List ℕ) → let r = post image mains qs index out before in
        Post image mains qs index out before r.whole.number r.whole.len r.index r.whole.out r.answers
    post_computed mains qs index before =
        call_of image bytes (post_refusals mains (length qs) (length out) (length index)) (post_tests mains (length qs) (length out) (length index))
        (λ v b w. (
          refl,
          tests_beyond b mains,
          λ n25. (
            refl,
            tests_lt most_requests (length qs),
            λ n26. (
              refl,
              tests_or (tests_lt (length out) (longest_image newest)) (tests_lt (length index) (index_length b.site.plan)),
              λ n12. tt,
            ),
          ),
        ))
        (refused (post_number image mains qs index out))
        (λ e w. done (post_number image mains qs index out) e (in_order_computed mains (book_in image) (workable w.lawful) qs)
        (index_computed last (last_workable mains (book_in image) (workable w.lawful) qs)))
      where
        b : Book
        b = book_in image

        last : Book
        last = last_book mains b qs

        output : ℕ → Output
        output n = when_done n (post_output mains b qs out) (kept out)

        refused : (n : ℕ) → (n ≡ 0 → ⊥)
            → Unchanged out (output n).len (output n).out × (when_done n (answers_of mains b qs) before ≡ before) × (when_done n (index_after mains b qs index) index ≡ index)
        refused zero f = absurd (f refl)
        refused (suc n) f = (record { length_is = refl; buffer = refl }, refl, refl)

        posted : (t : Bool) (answers : List ℕ) → Tests t (0 ∈ answers)
            → Posted answers last out (cond t (put (image_after mains b qs) out) (kept out)).len (cond t (put (image_after mains b qs) out) (kept out)).out
        posted true answers h = record { some = λ m. record { length_is = refl; buffer = refl }; none = λ f. absurd (f (h.yes refl)) }
        posted false answers h = record { some = λ m. never (h.back m); none = λ f. record { length_is = refl; buffer = refl } }

        done : (n : ℕ) → n ≡ 0 → InOrder (Work mains) b qs (answers_of mains b qs) last → IndexOf last (index_of last)
            → (c : Book) × InOrder (Work mains) b qs (when_done n (answers_of mains b qs) before) c
            × Posted (when_done n (answers_of mains b qs) before) c out (output n).len (output n).out × Indexed c index (when_done n (index_after mains b qs index) index)
        done zero e h i = (
          last,
          h,
          posted (some_done (answers_of mains b qs)) (answers_of mains b qs) (tests_in 0 (answers_of mains b qs)),
          record { words = index_of last; index = i; buffer = refl },
        )
        done (suc n) e h i = absurd (omega arith)

    -- a list of one
    pub serve_computed : (q : Request) → Serve image q out (serve image q out).number (serve image q out).len (serve image q out).out
    serve_computed q = record {
      whole = (post_one image q out).whole.number;
      answer = get_or (post_one image q out).answers 0 0;
      index = own_index;
      index' = (post_one image q out).index;
      index_holds = length-replicate {A = ℕ} (2 * (short_tiles * 32)) 0;
      posted = subst (Post image (all_nodes (nodes_of image)) (q ∷ []) own_index out (0 ∷ []) (post_one image q out).whole.number (post_one image q out).whole.len
          (post_one image q out).index (post_one image q out).whole.out)
          (alone (post_number image (all_nodes (nodes_of image)) (q ∷ []) own_index out)) (post_computed (all_nodes (nodes_of image)) (q ∷ []) own_index (0 ∷ []));
      refused = refused (post_one image q out).whole.number (get_or (post_one image q out).answers 0 0);
      done = done (post_one image q out).whole.number (get_or (post_one image q out).answers 0 0);
    }
      where
        answers : List ℕ
        answers = answers_of (all_nodes (nodes_of image)) (book_in image) (q ∷ [])

        alone : (n : ℕ) → when_done n answers (0 ∷ []) ≡ get_or (when_done n answers (0 ∷ [])) 0 0 ∷ []
        alone zero = refl
        alone (suc n) = refl

        refused : (n answer : ℕ) → (n ≡ 0 → ⊥) → when_done n answer n ≡ n
        refused zero answer f = absurd (f refl)
        refused (suc n) answer f = refl

        done : (n answer : ℕ) → n ≡ 0 → when_done n answer n ≡ answer
        done zero answer e = refl
        done (suc n) answer e = absurd (omega arith)

  module _ (account amount : ℕ) where
    tests_past : (accounts : List Account)
        → Tests (is_past accounts account amount) ((known : KnownAccount accounts account) × (FourBytes (known.account.bought + amount) → ⊥))
    tests_past accounts =
        alike
        (tests_member (λ (a : Account). eqb a.number account && not (ltb (a.bought + amount) 4294967296))
        (λ a. tests_and (tests_eq a.number account) (tests_not (tests_lt (a.bought + amount) 4294967296))) accounts)
        (λ p. (record { account = p.0; there = p.1; named = p.2.0 }, p.2.1)) (λ n. (n.0.account, n.0.there, (n.0.named, n.1)))

    pub purchase_computed : (out : List ℕ) → let r = purchase image account amount out in Purchase image account amount out r.number r.len r.out
    purchase_computed out =
        reply_of image bytes (purchase_refusals account amount (length out)) (purchase_tests account amount (length out))
        (λ v b w. (
          refl,
          tests_not (tests_known_account b.site.accounts account),
          λ n22. (refl, tests_past b.site.accounts, λ n24. (refl, tests_lt (length out) (length (encode newest (purchased account amount b))), λ n12. tt)),
        ))
        (λ v b. encode newest (purchased account amount b)) (λ v b w e. refl) out

  module _ (node : ℕ) where
    module _ (first tiles : ℕ) (out : List ℕ) where
      tests_part : Tests (is_part_in_range first tiles) (PartInRange first tiles)
      tests_part =
          alike (tests_and (tests_le 1 tiles) (tests_and (tests_le tiles most_tiles) (tests_le (first + tiles) cycle_tiles)))
          (λ p. record { some = p.0; most = p.1.0; inside = p.1.1 }) (λ p. (p.some, (p.most, p.inside)))

      pub expand_computed : Expand image node first tiles out (expand image node first tiles out).number (expand image node first tiles out).len (expand image node first tiles out).out
      expand_computed =
          reply_of image bytes (expand_refusals node first tiles (length out)) (expand_tests node first tiles (length out))
          (λ v b w. (refl, tests_le (nodes b.site.links) node, λ n4. (refl, tests_not tests_part, λ n21. (refl, tests_lt (length out) (table_length b.site.plan tiles), λ n12. tt))))
          (λ v b. part_of b node first tiles) (λ v b w e. part_computed b node first tiles) out

    zeros : (n : ℕ) → (n ≡ 0 → ⊥) → (x : ℕ) → when_done n x 0 ≡ 0
    zeros zero f x = absurd (f refl)
    zeros (suc n) f x = refl

    pub balance_computed_on : Balance image node (balance image node).number (balance image node).data_slots (balance image node).used_slots (balance image node).free_slots
    balance_computed_on =
        call_of image bytes (balance_refusals node) (balance_tests node) (λ v b w. (refl, tests_le (nodes b.site.links) node, λ n4. tt))
        (λ f. let z = zeros (balance_number image node) f in (z (data_count (book_in image)), z (used (book_in image) node), z (free_count (book_in image) node)))
        (λ e w. given (balance_number image node) e (balance_computed (book_in image) w.lawful node))
      where
        given : (n : ℕ) → n ≡ 0 → BalanceOf (book_in image) node (data_count (book_in image)) (used (book_in image) node) (free_count (book_in image) node)
            → BalanceOf (book_in image) node (when_done n (data_count (book_in image)) 0) (when_done n (used (book_in image) node) 0) (when_done n (free_count (book_in image) node) 0)
        given zero e w = w
        given (suc n) e w = absurd (omega arith)

    pub links_computed : Links image node (links image node).number (links image node).links
    links_computed =
        call_of image bytes (balance_refusals node) (balance_tests node) (λ v b w. (refl, tests_le (nodes b.site.links) node, λ n4. tt))
        (λ f. zeros (balance_number image node) f (link_count (book_in image) node))
        (λ e w. given (balance_number image node) e (counted (joined (links_of image) node) (tests_joined (links_of image) node) (nodes (links_of image))))
      where
        given : (n : ℕ) → n ≡ 0 → LinksOf (book_in image) node (link_count (book_in image) node) → LinksOf (book_in image) node (when_done n (link_count (book_in image) node) 0)
        given zero e w = w
        given (suc n) e w = absurd (omega arith)

  pub keeps_computed : (mains : ℕ) → Keeps image mains (keeps image mains).number (keeps image mains).keeps
  keeps_computed mains =
      call_of image bytes (keeps_refusals mains) (keeps_tests mains) (λ v b w. (refl, tests_beyond b mains, λ n25. tt)) (refused (keeps_number image mains))
      (λ e w. given (keeps_number image mains) e (tests_every (λ r. all_of (has mains) (middles r.route))
      (λ (r : Row). tests_every (has mains) (tests_has mains) (middles r.route)) (book_in image).rows))
    where
      refused : (n : ℕ) → (n ≡ 0 → ⊥) → when_done n (book_keeps mains (book_in image)) false ≡ false
      refused zero f = absurd (f refl)
      refused (suc n) f = refl

      given : (n : ℕ) → n ≡ 0 → Tests (book_keeps mains (book_in image)) (BookKeepsTo mains (book_in image))
          → Tests (when_done n (book_keeps mains (book_in image)) false) (BookKeepsTo mains (book_in image))
      given zero e w = w
      given (suc n) e w = absurd (omega arith)

-- an image is lawful exactly if none of its refusals applies
pub lawful_image : (s : List ℕ) → Bytes s → Says (image_refusals s) 0 ↔ ((v : ℕ) × (b : Book) × Stored s v b)
lawful_image s bytes = (
  λ h. (version_of s, book_in s, stored_in s bytes (says_unique (image_refusals s) (image_number s) 0 (image_says s) h)),
  λ h. stored_says s h.0 h.1 h.2,
)
