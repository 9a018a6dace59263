-- The whole call: what it says before the first record, and what it writes after the last.
use mathlib.Core.Path.{◌≡◌, refl, sym, ap, ◌∙◌, subst}
use mathlib.Core.Logic.{◌⊎◌, inl, inr, ⊎_elim}
use mathlib.Core.Bool.{Bool, true, false}
use mathlib.Core.List.{List, [], ◌∷◌, ◌++◌}
use Rattle.std.specs.Prelude.{Result, Ok, Err}
use Prim.Native.Nat.{ℕ, ◌<◌, ◌≤◌}
use native.Mathlib.Omega.{arith}
use lib.ListN.{length, take, drop, replicate, length-replicate, length-map, length-append, take-append-drop}
use lib.Seq.{length-take-le, take-append_seam, drop-append_seam}
use Rattle.rules.specs.Words.{NoBitFrom, ◌∈◌}
use Rattle.rules.specs.Topology.{nodes}
use Rattle.rules.specs.Says.{Says}
use Rattle.rules.specs.Book.{Site, Book}
use Rattle.rules.specs.Image.{newest, longest_image, version_of, plan_of, nodes_of, links_of}
use Rattle.rules.specs.Index.{index_length, IndexOf, Indexed}
use Rattle.rules.specs.Calls as calls
use Rattle.rules.specs.Calls.{Wrote, Unchanged, Work, InOrder, SaysOf, Beyond, post_refusals, most_requests, Posted}
use Rattle.rules.proofs.Mains.{stored_nodes}
use Rattle.rules.proofs.Lawful.{in_order_site}
use Rattle.rules.proofs.Reading.{book_in, LawfulImage, NewestImage, newest_book, newest_image, newest_bytes}
use Rattle.index.specs.Index.{Beside}
use Rattle.index.proofs.Whole.{whole, whole_length, whole_lent}
use Rattle.lawful.specs.Verdict.{Verdict}
use Rattle.writer.specs.transcribing.Again.{Transcribed}
use Rattle.rules.specs.Said.{number_of, said, written}
use Rattle.rules.specs.declared.refusals.Refusal.{Refusal}
use Rattle.rules.specs.declared.refusals.Refusal.TheVariants.{NoSuchMember, TooManyRequests, NoRoom}
use Rattle.rules.proofs.Said.{refuses, none_written}
use Rattle.posting.specs.declared.Request.{Request}
use Rattle.posting.specs.declared.State.{State}
use Rattle.posting.specs.Records.{the_requests, answers, OnlyMarked}
use Rattle.posting.specs.Standing.{Standing, book_at}
use Rattle.posting.specs.Posting.{then_long, Worked, PostedAll, Words, Begun, Settled, Posts, own_words, PostsOne, listed, PostsFirst}
use Rattle.posting.proofs.Indexing.{index_lent, indexed}

-- BEFORE THE FIRST RECORD

-- the nodes that the image states are those of its links
below : {s : List ℕ} {mains : ℕ} → LawfulImage s → NoBitFrom (nodes_of s) mains → NoBitFrom (nodes (links_of s)) mains
below {mains = mains} h low = subst (λ (N : ℕ). NoBitFrom N mains) (stored_nodes h) low

-- a refusal begins nothing
refused : {s words buffer : List ℕ} {mains count lent room : ℕ} (r : Refusal) → SaysOf s (post_refusals mains count room lent) (number_of r)
    → Begun s mains count lent room (Err r) buffer words
refused r h = record { says = h; stands = λ z. absurd (refuses r z); wide = λ z. absurd (refuses r z); long = λ z. absurd (refuses r z) }

-- the image's own,
pub begun_image : {s words buffer : List ℕ} (mains count lent room : ℕ) (r : Refusal) → Verdict s (number_of r) words → Begun s mains count lent room (Err r) buffer words
begun_image mains count lent room r v = refused r (inl (v.number_is.says, refuses r))

-- and that of its book
module _ {s words : List ℕ} (v : Verdict s 0 words) (mains count lent room : ℕ) {buffer : List ℕ} where
  own_refused : (r : Refusal) → Says (post_refusals mains count room lent (version_of s) (book_in s)) (number_of r) → Begun s mains count lent room (Err r) buffer words
  own_refused r h = refused r (inr (version_of s, book_in s, v.number_is.stored refl, h))

  pub begun_beyond : (NoBitFrom (nodes_of s) mains → ⊥) → Begun s mains count lent room (Err NoSuchMember) buffer words
  begun_beyond f = own_refused NoSuchMember (inl (λ l. f (subst (λ (N : ℕ). NoBitFrom N mains) (sym (stored_nodes (v.number_is.stored refl))) l), refl))

  module _ (low : NoBitFrom (nodes_of s) mains) where
    pub begun_many : most_requests < count → Begun s mains count lent room (Err TooManyRequests) buffer words
    begun_many l = own_refused TooManyRequests (inr (λ f. f (below (v.number_is.stored refl) low), inl (l, refl)))

    module _ (k : count ≤ most_requests) where
      pub begun_short : room < longest_image newest → Begun s mains count lent room (Err NoRoom) buffer words
      begun_short l = own_refused NoRoom (inr (λ f. f (below (v.number_is.stored refl) low), inr (λ m. omega (arith, m, k), inl (inl l, refl))))

      pub begun_narrow : (m : ℕ) → Words s m → lent < m → Begun s mains count lent room (Err NoRoom) buffer words
      begun_narrow m w l = own_refused NoRoom (inr (λ f. f (below (v.number_is.stored refl) low), inr (λ y. omega (arith, y, k), inl (inr (omega (arith, l, w)), refl))))

      -- the image again in the newest version holds the same book
      pub begun_done : (m : ℕ) → Transcribed s m buffer → longest_image newest ≤ room → (o : ℕ) → Words s o → o ≤ lent → Begun s mains count lent room (Ok m) buffer words
      begun_done m t l o w e = record {
        says = inr (version_of s, book_in s, v.number_is.stored refl, inr (λ f. f (below (v.number_is.stored refl) low), inr (λ y. omega (arith, y, k), inr (enough, refl))));
        stands = λ y. (version_of s, book_in s, v.number_is.stored refl, (stands, book));
        wide = λ y. l;
        long = λ y. subst (λ (c : Book). index_length c.site.plan ≤ lent) (sym book) (omega (arith, e, w));
      }
        where
          enough : (room < longest_image newest) ⊎ (lent < index_length (plan_of s)) → ⊥
          enough (inl y) = omega (arith, y, l)
          enough (inr y) = omega (arith, y, e, w)

          book : book_at buffer m ≡ book_in s
          book = ap book_in t.bytes ∙ newest_book (v.number_is.stored refl)

          stands : Standing buffer m words
          stands = record {
            room = t.room;
            fits = t.fits;
            image = record {
              newest = subst NewestImage (sym t.bytes) (newest_image (v.number_is.stored refl));
              index = subst (λ (b : Book). Beside b.site b.rows words) (sym book) (v.indexed refl);
            };
          }

-- AFTER THE LAST RECORD

-- so many first bytes of a buffer were written
wrote : (buffer out : List ℕ) {out' : List ℕ} {len : ℕ} → len ≤ length buffer → out' ≡ take len buffer ++ drop len out → Wrote (take len buffer) out len out'
wrote buffer out {len = len} l w =
    let e = length-take-le len buffer l in
    record { length_is = sym e; buffer = w ∙ ap (λ (k : ℕ). take len buffer ++ drop k out) (sym e) }

-- THE WHOLE
each_same : (rs : List Request) → OnlyMarked rs rs
each_same [] = tt
each_same (r ∷ rs) = (refl, each_same rs)

-- what is given of the words beside a book that stands is its index
pub settled_index : {buffer words : List ℕ} {state : State} {index out : List ℕ} {size : ℕ} {index' out' : List ℕ} → Standing buffer state.length words
    → Settled buffer words state index out size index' out' → Indexed (book_at buffer state.length) index index'
settled_index h t = indexed h.image.newest.lawful.lawful h.image.index.slots t.lent t.wide

module _ {image : List ℕ} (mains : ℕ) (rs : List Request) (index out : List ℕ) (r : Result ℕ Refusal) {buffer words : List ℕ}
    (h : Begun image mains (length rs) (length index) (length out) r buffer words) where
  says : SaysOf image (post_refusals mains (length (the_requests rs)) (length out) (length index)) (said r)
  says = subst (λ (k : ℕ). SaysOf image (post_refusals mains k (length out) (length index)) (said r)) (sym (length-map rs _)) h.says

  pub posts_refused : (said r ≡ 0 → ⊥) → Posts image mains rs index out (said r) (written r) rs index out
  posts_refused f = record {
    post = record { says = says; refused = λ g. (record { length_is = none_written r f; buffer = refl }, refl, refl); done = λ z. absurd (f z) };
    same = each_same rs;
  }

  module _ (z : said r ≡ 0) (t : State) {rs' : List Request} {buffer' words' : List ℕ} (p : PostedAll mains rs buffer (written r) t rs' buffer' words') where
    -- the last book is of the same site, so that the lent words hold its index too
    pub holds : index_length (plan_of (take t.length buffer')) ≤ length index
    holds = subst (λ (site : Site). index_length site.plan ≤ length index)
        (sym (in_order_site mains (book_at buffer (written r)) (the_requests rs) (answers rs') (book_at buffer' t.length) p.through.in_order)) (h.long z)

    pub posts_done : (size : ℕ) {index' out' : List ℕ} → Settled buffer' words' t index out size index' out' → Posts image mains rs index out 0 size rs' index' out'
    posts_done size {index'} {out'} s = record {
      post = record {
        says = subst (SaysOf image (post_refusals mains (length (the_requests rs)) (length out) (length index))) z says;
        refused = λ g. absurd (g refl);
        done = λ y.
            let u = h.stands z in
            (u.0, u.1, u.2, (c, subst (λ (d : Book). InOrder (Work mains) d (the_requests rs) (answers rs') c) u.3.1 p.through.in_order, posted, settled_index p.standing s));
      };
      same = p.through.same;
    }
      where
        c : Book
        c = book_at buffer' t.length

        none_done : (0 ∈ answers rs' → ⊥) → (d : Bool) → t.done ≡ d → d ≡ false
        none_done g true e = absurd (g (p.through.some_done.yes e))
        none_done g false e = refl

        posted : Posted (answers rs') c out size out'
        posted = record {
          some = λ m. subst (λ (bytes : List ℕ). Wrote bytes out size out') (newest_bytes p.standing.image.newest) (s.finished.written (p.through.some_done.back m));
          none = λ g. s.finished.kept (none_done g t.done refl);
        }

-- A LIST OF ONE, with an index of its own
abbrev own : List ℕ
own = replicate own_words 0

module _ {image : List ℕ} (mains : ℕ) (q : calls.Request) (out : List ℕ) (r : Result ℕ Refusal) {buffer words : List ℕ} (h : Begun image mains 1 own_words (length out) r buffer words) where
  own_says : SaysOf image (post_refusals mains 1 (length out) (length own)) (said r)
  own_says = subst (λ (k : ℕ). SaysOf image (post_refusals mains 1 (length out) k) (said r)) (sym (length-replicate {A = ℕ} own_words 0)) h.says

  pub one_refused : (said r ≡ 0 → ⊥) → PostsOne image mains q out (said r) (written r) out
  one_refused f = record {
    whole = said r;
    answer = 0;
    index = own;
    index' = own;
    index_holds = length-replicate {A = ℕ} own_words 0;
    posted = record { says = own_says; refused = λ g. (record { length_is = none_written r f; buffer = refl }, refl, refl); done = λ z. absurd (f z) };
    refused = λ g. refl;
    done = λ z. absurd (f z);
  }

  module _ (z : said r ≡ 0) (o : Result ℕ Refusal) {buffer' words' : List ℕ} (w : Worked mains buffer (written r) q o buffer' words') where
    abbrev c : Book
    c = book_at buffer' (then_long (written r) o)

    abbrev front : List ℕ
    front = take (index_length c.site.plan) (whole c.site.plan.slots words')

    -- which is the index of the book
    front_index : IndexOf c front
    front_index =
        let l = w.standing.image.newest.lawful.lawful in
        let i = w.standing.image.index.slots in
        index_lent l i (whole_lent l.site.plan.most i) (omega (arith, whole_length c.site.plan.slots words'))

    one_posted : {out' : List ℕ} → Posted (said o ∷ []) c out (written o) out' → PostsOne image mains q out (said o) (written o) out'
    one_posted p = record {
      whole = 0;
      answer = said o;
      index = own;
      index' = front ++ drop (length front) own;
      index_holds = length-replicate {A = ℕ} own_words 0;
      posted = record {
        says = subst (SaysOf image (post_refusals mains 1 (length out) (length own))) z own_says;
        refused = λ g. absurd (g refl);
        done = λ e.
            let s = h.stands z in (
              s.0,
              s.1,
              s.2,
              (
                c,
                (c, subst (λ (b : Book). Work mains b q (said o) c) s.3.1 w.work, refl),
                p,
                record { words = front; index = front_index; buffer = refl },
              ),
            );
      };
      refused = λ g. absurd (g refl);
      done = λ e. refl;
    }

  -- the record is refused, and nothing is written
  pub one_undone : said r ≡ 0 → (e : Refusal) {buffer' words' : List ℕ} → Worked mains buffer (written r) q (Err e) buffer' words' → PostsOne image mains q out (number_of e) 0 out
  one_undone z e w = one_posted z (Err e) w (record {
    some = λ m. absurd (⊎_elim (λ (k : 0 ≡ number_of e). refuses e (sym k)) (λ (k : ⊥). k) m);
    none = λ g. record { length_is = refl; buffer = refl };
  })

  -- or done, and the image is written
  pub one_done : said r ≡ 0 → (n : ℕ) {buffer' words' out' : List ℕ} → Worked mains buffer (written r) q (Ok n) buffer' words' → out' ≡ take n buffer' ++ drop n out
      → PostsOne image mains q out 0 n out'
  one_done z n {buffer'} {out' = out'} w e = one_posted z (Ok n) w (record {
    some = λ m. subst (λ (bytes : List ℕ). Wrote bytes out n out') (newest_bytes w.standing.image.newest) (wrote buffer' out w.standing.fits e);
    none = λ g. absurd (g (inl refl));
  })

-- AN ARRAY, of which the first records are posted
module _ (rs : List Request) (count : ℕ) (all : length rs ≡ listed) (l : count ≤ listed) where
  pub taken : length (take count rs) ≡ count
  taken = length-take-le count rs (omega (arith, all, l))

  module _ (zs : List Request) (same : length zs ≡ length (take count rs)) where
    pub posts_first : {image index out index' out' : List ℕ} {mains n len : ℕ} → Posts image mains (take count rs) index out n len zs index' out'
        → PostsFirst image mains rs count index out n len (zs ++ drop count rs) index' out'
    posts_first {image} {index} {out} {index'} {out'} {mains} {n} {len} p = record {
      posts = subst (λ (ts : List Request). Posts image mains (take count rs) index out n len ts index' out')
          (sym (subst (λ (k : ℕ). take k (zs ++ drop count rs) ≡ zs) (same ∙ taken) (take-append_seam zs (drop count rs)))) p;
      rest = subst (λ (k : ℕ). drop k (zs ++ drop count rs) ≡ drop count rs) (same ∙ taken) (drop-append_seam zs (drop count rs));
    }
