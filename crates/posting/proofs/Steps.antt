-- One request on the book that is worked on: the book after it stands, beside its index.
use mathlib.Core.Path.{◌≡◌, refl, sym, ap, ◌∙◌, subst}
use mathlib.Core.Bool.{Bool, true, false, cond}
use mathlib.Core.List.{List, ◌++◌, append_assoc}
use Rattle.std.specs.Prelude.{Ok, Err}
use Prim.Native.Nat.{ℕ, ◌+◌, ◌-◌, ◌≤◌}
use native.Mathlib.Omega.{arith}
use lib.ListN.{length, take, drop, length-append, length-take, length-drop, take-append-drop}
use lib.Seq.{take_at, take-append-le, take-append-add, drop-append-le, length-take-le}
use Rattle.rules.specs.Words.{TwoBytes}
use Rattle.rules.specs.Book.{Site, Book}
use Rattle.rules.specs.Placing.{Asked}
use Rattle.rules.specs.Image.{newest, header_length, longest_image, encode, Stored}
use Rattle.rules.specs.Calls as calls
use Rattle.rules.specs.Says.{Says}
use Rattle.rules.specs.Said.{number_of}
use Rattle.rules.specs.declared.refusals.Refusal.{Refusal}
use Rattle.rules.proofs.Said.{refuses}
use Rattle.rules.specs.Calls.{Made, request_refusals}
use Rattle.rules.specs.Calls.Request.{Open, Close}
use Rattle.rules.specs.Order.{id_of}
use Rattle.rules.proofs.Encoding.{version_back}
use Rattle.rules.proofs.Reading.{book_in, NewestImage, book_back, lawful_stored}
use Rattle.rules.proofs.Lawful.{lawful_length, made_lawful, made_site}
use Rattle.index.specs.Index.{Beside}
use Rattle.index.specs.Beside.{Works}
use Rattle.writer.specs.Over.{over}
use Rattle.writer.proofs.Laws.{over_front}
use Rattle.posting.specs.declared.Request.{Request}
use Rattle.posting.specs.Records.{asked_by, the_request}
use Rattle.posting.specs.Standing.{Standing, book_at}
use Rattle.posting.specs.Posting.{Worked}

-- the id that a record names has 2 bytes
pub small_id : (r : Request) → TwoBytes r.id → (a : Asked) → the_request r ≡ Open a → TwoBytes a.id
small_id r l a e = subst TwoBytes (sym (named r.opens) ∙ ap id_of e) l
  where
    named : (t : Bool) → id_of (cond t (Open (asked_by r)) (Close r.id)) ≡ r.id
    named true = refl
    named false = refl

-- a laid out image in the place of that in a buffer, whose topologies stay
relaid : (buffer buffer' bytes image : List ℕ) (len start size : ℕ) → len ≤ length buffer → (header_length ≤ start) × (start ≤ len) × (start ≤ size) → length bytes ≡ size
    → image ≡ take header_length bytes ++ (take (start - header_length) (drop header_length (take len buffer)) ++ drop start bytes)
    → buffer' ≡ over (over buffer 0 (take header_length bytes)) start (drop start bytes) → take size buffer' ≡ image
unfolding over
relaid buffer buffer' bytes image len start size fits (low, l, m) long whole e =
    let head : List ℕ = take 16 bytes in
    let s : List ℕ = take len buffer in
    let middle : List ℕ = take (start - 16) (drop 16 s) in
    let rows : List ℕ = drop start bytes in
    let under : List ℕ = over buffer 0 head in
    let long_head : length head ≡ 16 = length-take-le 16 bytes (omega arith) in
    let long_s : length s ≡ len = length-take-le len buffer fits in
    let long_rows : length rows ≡ size - start = length-drop start bytes ∙ ap (λ (k : ℕ). k - start) long in
    let c : start ≡ length head + (start - 16) = omega arith in
    let split : buffer ≡ s ++ drop len buffer = sym (take-append-drop len buffer) in
    let stays : take (start - 16) (drop 16 buffer) ≡ middle =
    ap (λ (x : List ℕ). take (start - 16) (drop 16 x)) split ∙ ap (take (start - 16)) (drop-append-le 16 s (drop len buffer) (omega arith))
    ∙ take-append-le (start - 16) (drop 16 s) (drop len buffer) (omega (arith, length-drop 16 s)) in
    let front : take start under ≡ head ++ middle =
    ap (take start) (over_front buffer head) ∙ ap (λ (k : ℕ). take k (head ++ drop (length head) buffer)) c
    ∙ take-append-add head (drop (length head) buffer) (start - 16)
    ∙ ap (λ (k : ℕ). head ++ take (start - 16) (drop k buffer)) long_head ∙ ap (λ (x : List ℕ). head ++ x) stays in
    let long_middle : length middle ≡ start - 16 = length-take-le (start - 16) (drop 16 s) (omega (arith, length-drop 16 s)) in
    let long_all : length (head ++ middle ++ rows) ≡ size = omega (arith, length-append (head ++ middle) rows, length-append head middle, long_head, long_middle, long_rows) in
    ap (take size) (e ∙ ap (λ (x : List ℕ). x ++ rows ++ drop (start + length rows) under) front)
    ∙ take_at (head ++ middle ++ rows) (drop (start + length rows) under) size long_all ∙ append_assoc head middle rows ∙ sym whole

-- the image of a book stored in the newest version
stored_image : {c : Book} → Stored (encode newest c) newest c → NewestImage (encode newest c)
stored_image {c} h = record {
  lawful = subst (λ (v : ℕ). Stored (encode newest c) v (book_in (encode newest c))) (sym (version_back newest c)) (subst (Stored (encode newest c) newest) (sym (book_back h)) h);
  version = version_back newest c;
}

module _ {buffer : List ℕ} {len : ℕ} {words : List ℕ} (w : Standing buffer len words) {mains : ℕ} {q : calls.Request} {at number size : ℕ} {out marks : List ℕ}
    (h : Works mains (take len buffer) q at number size out marks) where
  -- refused: the book stands as it was
  pub work_refused : (r : Refusal) → number ≡ number_of r → Worked mains buffer len q (Err r) buffer marks
  work_refused r e = record {
    work = record { says = subst (Says (request_refusals mains (book_in (take len buffer)) q)) e h.says; refused = λ g. refl; done = λ z. absurd (refuses r z) };
    standing = record { room = w.room; fits = w.fits; image = record { newest = w.image.newest; index = h.refused (λ z. refuses r (sym e ∙ z)) } };
  }

  -- done: the book after it stands in its place
  module _ (small : (a : Asked) → q ≡ Open a → TwoBytes a.id) (z : number ≡ 0) where
    stored : Stored (encode newest (h.done z).after) newest (h.done z).after
    stored =
        let s : List ℕ = take len buffer in
        let c : Book = (h.done z).after in
        let says = subst (λ (n : ℕ). Says (request_refusals mains (book_in s) q) n) z h.says in
        lawful_stored c (made_lawful (book_in s) w.image.newest.lawful.lawful mains q small says c (h.done z).made)

    size_is : size ≡ length (encode newest (h.done z).after)
    size_is = (h.done z).laid.long

    pub size_most : size ≤ longest_image newest
    size_most = omega (arith, size_is, lawful_length (h.done z).after stored.lawful)

    -- the place stands inside both images
    pub inside : (header_length ≤ at) × (at ≤ len) × (at ≤ size)
    inside =
        let s : List ℕ = take len buffer in
        let l = (h.done z).laid in
        let long = length-take-le len buffer w.fits in
        let out_long = length-take-le size out l.fits in
        let middle = length-take-le (at - header_length) (drop header_length s) (omega (arith, length-drop header_length s, l.inside)) in
        let last : List ℕ = take (at - header_length) (drop header_length s) ++ drop at (take size out) in (
          l.low,
          omega (arith, long, l.inside),
          omega (
            arith,
            l.low,
            ap length l.whole,
            size_is,
            length-append (take header_length (take size out)) last,
            length-append (take (at - header_length) (drop header_length s)) (drop at (take size out)),
            middle,
            length-drop at (take size out),
            out_long,
            length-take header_length (take size out),
          ),
        )

    module _ {buffer' : List ℕ} (e : buffer' ≡ over (over buffer 0 (take header_length (take size out))) at (drop at (take size out))) where
      front : take size buffer' ≡ encode newest (h.done z).after
      front =
          let l = (h.done z).laid in
          relaid buffer buffer' (take size out) (encode newest (h.done z).after) len at size w.fits inside (length-take-le size out l.fits) l.whole e

      holds : book_at buffer' size ≡ (h.done z).after
      holds = ap book_in front ∙ book_back stored

      pub work_done : length buffer' ≡ length buffer → Worked mains buffer len q (Ok size) buffer' marks
      work_done same = record {
        work = record {
          says = subst (λ (n : ℕ). Says (request_refusals mains (book_at buffer len) q) n) z h.says;
          refused = λ f. absurd (f refl);
          done = λ y. subst (Made mains (book_at buffer len) q) (sym holds) (h.done z).made;
        };
        standing = record {
          room = same ∙ w.room;
          fits = omega (arith, same, w.room, size_most);
          image = record {
            newest = subst NewestImage (sym front) (stored_image stored);
            index = subst (λ (c : Book). Beside c.site c.rows marks) (sym holds)
                (subst (λ (t : Site). Beside t (h.done z).after.rows marks)
                (sym (made_site mains (book_at buffer len) q (h.done z).after (h.done z).made)) (h.done z).index);
          };
        };
      }

pub asks_close : (r : Request) → r.opens ≡ false → {s out words : List ℕ} {mains at number len : ℕ} → Works mains s (Close r.id) at number len out words
    → Works mains s (the_request r) at number len out words
asks_close r e {s} {out} {words} {mains} {at} {number} {len} w =
    subst (λ (t : Bool). Works mains s (cond t (Open (asked_by r)) (Close r.id)) at number len out words) (sym e) w
