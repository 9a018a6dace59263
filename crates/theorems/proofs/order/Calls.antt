-- A list posted on an image is its requests worked through on the book, and the last image holds the last book.
use mathlib.Core.Path.{◌≡◌, refl, sym, ap, ◌∙◌, subst}
use mathlib.Core.Logic.{◌⊎◌, inl, inr, ⊎_elim}
use mathlib.Core.List.{List, [], ◌∷◌, ◌++◌}
use Prim.Native.Nat.{ℕ, zero, suc, ◌^◌, ◌<◌, ◌≤◌}
use native.Mathlib.Omega.{arith}
use lib.ListN.{length, take, drop, replicate, length-replicate}
use lib.Seq.{take_at}
use Rattle.rules.specs.Words.{NoBitFrom, ◌∈◌}
use Rattle.rules.specs.Says.{Refusal, ◌when◌, Says}
use Rattle.rules.specs.Topology.{nodes, all_nodes}
use Rattle.rules.specs.Book.{Book}
use Rattle.rules.specs.Image.{newest, longest_image, FullSize, encode, plan_of, Stored}
use Rattle.rules.specs.Index.{index_length, Indexed}
use Rattle.rules.specs.Calls.{OfBook, SaysOf, Wrote, Request, most_requests, Beyond, Work, InOrder, post_refusals, Posted, Post, Serve}
use Rattle.rules.specs.Order.{IdInRange, current, Posting, Ample}
use Rattle.rules.proofs.Tests.{tests_lt}
use Rattle.rules.proofs.Lists.{in_append, in_left, in_right}
use Rattle.rules.proofs.Lawful.{same_site, work_site}
use Rattle.rules.proofs.Encoding.{stored_unique}
use Rattle.rules.proofs.Index.{stored_index}
use Rattle.rules.proofs.Mains.{stored_nodes, all_below, post_alike}
use Rattle.rules.proofs.Bytes.{stored_bytes}
use Rattle.rules.proofs.Choice.{work_unique, in_order_unique}
use Rattle.rules.proofs.Unique.{says_of_unique, zero_in}
use Rattle.theorems.specs.model.Calls.{post}
use Rattle.theorems.proofs.model.Reading.{stable}
use Rattle.theorems.proofs.model.Calls.{post_computed}
use Rattle.theorems.proofs.order.Steps.{Rows, on, Step}
use Rattle.rules.proofs.Reading.{lawful_stored}
use Rattle.theorems.proofs.order.Lawful.{works_lawful}

-- what is true of the book that an image holds is true of the one that it is known to hold
pub of_stored : {image : List ℕ} {v : ℕ} {b : Book} {P : ℕ → Book → Type 0} → Stored image v b → OfBook image P → P v b
of_stored {image} {v} {b} {P} s (w, c, t, p) =
    let e = stored_unique image w v c b t s in
    subst (λ (u : ℕ). P u b) e.0 (subst (λ (x : Book). P w x) e.1 p)

pub taken : {bytes out out' : List ℕ} {len : ℕ} → Wrote bytes out len out' → take len out' ≡ bytes
taken {bytes} {out} {out'} {len} w = ap (take len) w.buffer ∙ take_at bytes (drop (length bytes) out) len (sym w.length_is)

-- THE CURRENT IMAGE, where one was written and where none was
pub current_wrote : (image : List ℕ) (c : Book) (out : List ℕ) (len : ℕ) (out' : List ℕ) → Wrote (encode newest c) out len out' → current image len out' ≡ encode newest c
current_wrote image c out zero out' w = absurd (omega (arith, w.length_is))
current_wrote image c out (suc len) out' w = taken w

pub current_kept : (image : List ℕ) (len : ℕ) (out' : List ℕ) → len ≡ 0 → current image len out' ≡ image
current_kept image zero out' e = refl
current_kept image (suc len) out' e = absurd (omega arith)

-- A RUN: what a posted list does to the book that the image holds
pub record Ran (image : List ℕ) (mains : ℕ) (b : Book) (qs : List Request) (answers last : List ℕ) : Type 0 where
  pub book : Book
  pub works : InOrder (Work mains) b qs answers book
  pub version : ℕ
  pub holds : Stored last version book
  pub some : 0 ∈ answers → last ≡ encode newest book
  pub none : (0 ∈ answers → ⊥) → last ≡ image

-- where no record was done the book is the one before
none_done : (middle : ℕ) (b : Book) (qs : List Request) (ns : List ℕ) (c : Book) → InOrder (Work middle) b qs ns c → (0 ∈ ns → ⊥) → c ≡ b
none_done middle b [] [] c w f = w
none_done middle b [] (n ∷ ns) c w f = absurd w
none_done middle b (q ∷ qs) [] c w f = absurd w
none_done middle b (q ∷ qs) (n ∷ ns) c (d, step, rest) f = none_done middle d qs ns c rest (λ z. f (inr z)) ∙ step.refused (λ e. f (inl (sym e)))

-- buffers that are ample are not too short
pub enough : {image : List ℕ} {v : ℕ} {b : Book} → Stored image v b → (index out : List ℕ) → Ample image index out
    → (length out < longest_image newest) ⊎ (length index < index_length b.site.plan) → ⊥
enough s index out ample (inl l) = omega (arith, l, ample.full)
enough s index out ample (inr l) = omega (arith, l, ample.tiles, stored_index s)

module _ {image : List ℕ} {v : ℕ} {b : Book} {mains : ℕ} (s : Stored image v b) (low : NoBitFrom (nodes b.site.links) mains) (qs : List Request) where
  -- with a set below N, a full-size buffer and an index of 100 tiles a list of at most 64 is not refused as a whole
  whole_none : length qs ≤ most_requests → (index out : List ℕ) → Ample image index out → (n : ℕ) → SaysOf image (post_refusals mains (length qs) (length out) (length index)) n → n ≡ 0
  whole_none few index out ample n h =
      says_of_unique image (post_refusals mains (length qs) (length out) (length index)) n 0 h
      (inr (v, b, s, inr (λ f. f low, inr (λ k. omega arith, inr (enough s index out ample, refl)))))

  module _ (small : (q : Request) → q ∈ qs → IdInRange q) where
    pub ran : (index out before : List ℕ) (len : ℕ) (index' out' answers : List ℕ) → Post image mains qs index out before 0 len index' out' answers
        → Ran image mains b qs answers (current image len out')
    ran index out before len index' out' answers p =
        let (c, w, h, i) = of_stored {P = λ v b. (c : Book) × InOrder (Work mains) b qs answers c × Posted answers c out len out' × Indexed c index index'} s (p.done refl) in
        go c w h (zero_in answers)
      where
        go : (c : Book) → InOrder (Work mains) b qs answers c → Posted answers c out len out' → Dec (0 ∈ answers) → Ran image mains b qs answers (current image len out')
        go c w h (yes z) =
            let l = works_lawful mains b qs answers c w s.lawful small in
            let e = current_wrote image c out len out' (h.some z) in
            record {
              book = c;
              works = w;
              version = newest;
              holds = subst (λ (t : List ℕ). Stored t newest c) (sym e) (lawful_stored c l);
              some = λ k. e;
              none = λ f. absurd (f z);
            }
        go c w h (no f) =
            let e = current_kept image len out' (h.none f).length_is in
            record {
              book = c;
              works = w;
              version = v;
              holds = subst (λ (t : List ℕ). Stored t v c) (sym e) (subst (Stored image v) (sym (none_done mains b qs answers c w f)) s);
              some = λ z. absurd (f z);
              none = λ k. e;
            }

    pub posting_ran : length qs ≤ most_requests → (n : ℕ) (answers last : List ℕ) → Posting Ample image mains qs n answers last → (n ≡ 0) × Ran image mains b qs answers last
    posting_ran few n answers last p =
        let z = whole_none few p.index p.out p.size n p.post.says in
        let r = ran p.index p.out p.before p.len p.index' p.out' answers
        (subst (λ (k : ℕ). Post image mains qs p.index p.out p.before k p.len p.index' p.out' answers) z p.post) in
        (z, subst (Ran image mains b qs answers) (sym p.last_is) r)

-- where a call that asks 25 first is done, its set has no node from N up
pub low_said : {image : List ℕ} {v : ℕ} {b : Book} (mains : ℕ) (rest : ℕ → Book → List Refusal) → Stored image v b
    → SaysOf image (λ (v : ℕ) (b : Book). (25 when Beyond b mains) ∷ rest v b) 0 → NoBitFrom (nodes b.site.links) mains
low_said mains rest s (inl n) = absurd (n.1 refl)
low_said {v = v} {b} mains rest s (inr o) = below (of_stored {P = λ v b. Says ((25 when Beyond b mains) ∷ rest v b) 0} s o)
  where
    below : Says ((25 when Beyond b mains) ∷ rest v b) 0 → NoBitFrom (nodes b.site.links) mains
    below (inl n) = absurd (omega (arith, n.1))
    below (inr n) = stable (tests_lt mains (2 ^ nodes b.site.links)) n.0

pub low_post : {image : List ℕ} {v : ℕ} {b : Book} {mains len : ℕ} {index out before index' out' answers : List ℕ} (qs : List Request) → Stored image v b
    → Post image mains qs index out before 0 len index' out' answers → NoBitFrom (nodes b.site.links) mains
low_post {mains = mains} {index = index} {out} qs s p =
    low_said mains (λ v b. (26 when (most_requests < length qs)) ∷ (12 when ((length out < longest_image newest) ⊎ (length index < index_length b.site.plan))) ∷ []) s p.says

pub low_posted : {Size : List ℕ → List ℕ → List ℕ → Type 0} {image : List ℕ} {v : ℕ} {b : Book} {mains : ℕ} {answers last : List ℕ} (qs : List Request) → Stored image v b
    → Posting Size image mains qs 0 answers last → NoBitFrom (nodes b.site.links) mains
low_posted qs s p = low_post qs s p.post

-- there is one result
pub ran_unique : {image : List ℕ} {mains : ℕ} {b : Book} {qs : List Request} {ns ms last last' : List ℕ} → Ran image mains b qs ns last → Ran image mains b qs ms last'
    → (ns ≡ ms) × (last ≡ last')
ran_unique {image} {mains} {b} {qs} {ns} {ms} {last} {last'} r r' =
    let u = in_order_unique (Work mains) (work_unique mains) b qs ns ms r.book r'.book r.works r'.works in
    (u.0, same u.0 u.1 (zero_in ns))
  where
    same : ns ≡ ms → r.book ≡ r'.book → Dec (0 ∈ ns) → last ≡ last'
    same e d (yes z) = r.some z ∙ ap (encode newest) d ∙ sym (r'.some (subst (λ (ks : List ℕ). 0 ∈ ks) e z))
    same e d (no f) = r.none f ∙ sym (r'.none (λ z. f (subst (λ (ks : List ℕ). 0 ∈ ks) (sym e) z)))

-- ONE LIST AFTER THE OTHER
in_order_joined : (Step : Book → Request → ℕ → Book → Type 0) (b : Book) (qs ps : List Request) (ns ms : List ℕ) (c d : Book)
    → InOrder Step b qs ns c → InOrder Step c ps ms d → InOrder Step b (qs ++ ps) (ns ++ ms) d
in_order_joined Step b [] ps [] ms c d g h = subst (λ (x : Book). InOrder Step x ps ms d) g h
in_order_joined Step b [] ps (n ∷ ns) ms c d g h = absurd g
in_order_joined Step b (q ∷ qs) ps [] ms c d g h = absurd g
in_order_joined Step b (q ∷ qs) ps (n ∷ ns) ms c d (x, step, rest) h = (x, step, in_order_joined Step x qs ps ns ms c d rest h)

pub ran_joined : {image : List ℕ} {mains : ℕ} {b : Book} {qs ps : List Request} {ns ms between last : List ℕ} (r : Ran image mains b qs ns between)
    → Ran between mains r.book ps ms last → Ran image mains b (qs ++ ps) (ns ++ ms) last
ran_joined {image} {mains} {b} {qs} {ps} {ns} {ms} {between} {last} r t = record {
  book = t.book;
  works = in_order_joined (Work mains) b qs ps ns ms r.book t.book r.works t.works;
  version = t.version;
  holds = t.holds;
  some = λ z. ⊎_elim (written (zero_in ms)) t.some (in_append 0 ns ms z);
  none = λ f. t.none (λ z. f (in_right 0 ns ms z)) ∙ r.none (λ z. f (in_left 0 ns ms z));
}
  where
    written : Dec (0 ∈ ms) → 0 ∈ ns → last ≡ encode newest t.book
    written (yes z) k = t.some z
    written (no f) k = t.none f ∙ r.some k ∙ ap (encode newest) (sym (none_done mains r.book ps ms t.book t.works f))

-- A LIST OF ONE
pub ran_one : {image : List ℕ} {mains : ℕ} {b : Book} {q : Request} (answers : List ℕ) {last : List ℕ} (r : Ran image mains b (q ∷ []) answers last)
    → (n : ℕ) × (answers ≡ n ∷ []) × Work mains b q n r.book
ran_one {image} {mains} {b} {q} answers r = go answers r.works
  where
    go : (ns : List ℕ) → InOrder (Work mains) b (q ∷ []) ns r.book → (n : ℕ) × (ns ≡ n ∷ []) × Work mains b q n r.book
    go [] w = absurd w
    go (n ∷ []) (d, step, e) = (n, refl, subst (Work mains b q n) (sym e) step)
    go (n ∷ m ∷ ns) (d, step, e) = absurd e

only : {q : Request} → IdInRange q → (x : Request) → x ∈ (q ∷ []) → IdInRange x
only small x (inl e) = subst IdInRange (sym e) small
only small x (inr m) = absurd m

-- a single call with a full-size buffer is a list of one, with all nodes in the set
pub served_ran : {image : List ℕ} {v : ℕ} {b : Book} → Stored image v b → (q : Request) → IdInRange q
    → (out : List ℕ) → FullSize out → (n len : ℕ) (out' : List ℕ) → Serve image q out n len out'
    → Ran image (all_nodes (nodes b.site.links)) b (q ∷ []) (n ∷ []) (current image len out')
served_ran {image} {v} {b} s q small out full n len out' h =
    let low = all_below (nodes b.site.links) in
    let given = post_alike (q ∷ []) (0 ∷ []) (λ w c t. ap all_nodes (stored_nodes s)) h.posted in
    let ample : Ample image h.index out = record { tiles = omega (arith, h.index_holds, stored_index s, s.lawful.site.plan.most); full = full } in
    let z = whole_none s low (q ∷ []) (omega arith) h.index out ample h.whole given.says in
    let p : Post image (all_nodes (nodes b.site.links)) (q ∷ []) h.index out (0 ∷ []) 0 len h.index' out' (n ∷ []) =
    subst (λ (k : ℕ). Post image (all_nodes (nodes b.site.links)) (q ∷ []) h.index out (0 ∷ []) 0 len h.index' out' (k ∷ [])) (sym (h.done z))
    (subst (λ (k : ℕ). Post image (all_nodes (nodes b.site.links)) (q ∷ []) h.index out (0 ∷ []) k len h.index' out' (h.answer ∷ [])) z given) in
    ran s low (q ∷ []) (only small) h.index out (0 ∷ []) len h.index' out' (n ∷ []) p

-- a step on the rows, and the image that then holds them
pub record Alone (mains : ℕ) (b : Book) (q : Request) (answers last : List ℕ) : Type 0 where
  pub answer : ℕ
  pub answers_are : answers ≡ answer ∷ []
  pub rows : Rows
  pub step : Step mains b.site b.rows q answer rows
  pub version : ℕ
  pub holds : Stored last version (on b.site rows)

pub alone : {image : List ℕ} {v : ℕ} {b : Book} {mains : ℕ} → Stored image v b → NoBitFrom (nodes b.site.links) mains → (q : Request) → IdInRange q
    → (n : ℕ) (answers last : List ℕ) → Posting Ample image mains (q ∷ []) n answers last → Alone mains b q answers last
alone {b = b} {mains} s low q small n answers last p =
    let r = (posting_ran s low (q ∷ []) (only small) (omega arith) n answers last p).1 in
    let (m, e, w) = ran_one answers r in
    let same : r.book ≡ on b.site r.book.rows = sym (same_site b r.book (work_site mains b q m r.book w)) in
    record {
      answer = m;
      answers_are = e;
      rows = r.book.rows;
      step = subst (Work mains b q m) same w;
      version = r.version;
      holds = subst (Stored last r.version) same r.holds;
    }

-- EVERY LIST CAN BE POSTED
zeros : List ℕ
zeros = replicate (longest_image newest) 0

zeros_full : FullSize zeros
unfolding zeros
zeros_full = let e : length zeros ≡ longest_image newest = length-replicate {A = ℕ} (longest_image newest) 0 in omega arith

pub some_posting : {image : List ℕ} {v : ℕ} {b : Book} {mains : ℕ} → Stored image v b → NoBitFrom (nodes b.site.links) mains → (qs : List Request) → length qs ≤ most_requests
    → (answers last : List ℕ) × Posting Ample image mains qs 0 answers last
some_posting {image} {v} {b} {mains} s low qs few =
    let index : List ℕ = replicate (index_length (plan_of image)) 0 in
    let r = post image mains qs index zeros [] in
    let call = post_computed image (stored_bytes image v b s) zeros mains qs index [] in
    let ample : Ample image index zeros = record { tiles = omega (arith, length-replicate {A = ℕ} (index_length (plan_of image)) 0); full = zeros_full } in (
      r.answers,
      current image r.whole.len r.whole.out,
      record {
        index = index;
        index' = r.index;
        out = zeros;
        out' = r.whole.out;
        before = [];
        len = r.whole.len;
        size = ample;
        post = subst (λ (n : ℕ). Post image mains qs index zeros [] n r.whole.len r.index r.whole.out r.answers)
            (whole_none s low qs few index zeros ample r.whole.number call.says) call;
        last_is = refl;
      },
    )
