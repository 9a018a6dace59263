-- The premises of demand 3 can be met, and each is needed.
use mathlib.Core.Path.{◌≡◌, refl, sym, ap, ◌∙◌, subst}
use mathlib.Core.Logic.{inl, inr}
use mathlib.Core.Bool.{not}
use mathlib.Core.List.{List, [], ◌∷◌, ◌++◌}
use Prim.Native.Nat.{ℕ, ◌-◌}
use native.Mathlib.Omega.{arith}
use lib.Dec.{T}
use lib.ListN.{length, get_or, replicate, length-replicate}
use Rattle.rules.specs.Words.{NoBitFrom, ◌∈◌, With}
use Rattle.rules.specs.Words.With.{here, there}
use Rattle.rules.specs.Words.Reordered.{none, put}
use Rattle.rules.specs.Topology.{nodes}
use Rattle.rules.specs.Book.{Book}
use Rattle.rules.specs.Image.{newest, longest_image, encode, plan_of, Stored}
use Rattle.rules.specs.Index.{index_length}
use Rattle.rules.specs.Calls.{Request}
use Rattle.rules.specs.Calls.Request.{Close}
use Rattle.rules.specs.Order.{Room, Posting, InAnyOrder, Ample}
use Rattle.rules.proofs.Tests.{tests_not, tests_le}
use Rattle.rules.proofs.Lists.{reordered_same}
use Rattle.rules.proofs.Mains.{all_below}
use Rattle.theorems.specs.model.Test.{same}
use Rattle.theorems.specs.model.Examples.{plan_a, line_a, square, pair, book_on, empty, opening, opening_two, any_middle}
use Rattle.theorems.proofs.model.Tests.{tests_same}
use Rattle.theorems.specs.order.Examples.{image, JustFull, before, after, requests, backwards, before_both, after_both, on_both, on_both_back, Met, Kept}
use Rattle.theorems.specs.order.Examples.{drawing, paid_by, opening_on, on_accounts, on_accounts_back, two_squares, mains_both, on_mains, on_mains_back, across_mains, over_square}
use Rattle.theorems.specs.order.Examples.{nearly_full, full_with, closes, threes, long_ones, short_after, on_long, on_long_back, BothOrders, ring, gone_round, gone_across, one_more, Decides}
use Rattle.theorems.specs.order.Needed.{RoomForDone, OfBytes, OfWords, Needed}
use Rattle.theorems.proofs.order.Same.{agree_same}
use Rattle.theorems.proofs.order.Calls.{some_posting}
use Rattle.theorems.proofs.order.AnyOrder.{any_order}
use Rattle.theorems.proofs.order.Depends.{depends}
use Rattle.theorems.proofs.order.Premises.{so, posts, held, newly, sound_links, small, different, apart, firsts_apart, no_node_lem, room, room_for_one, room_unpaid, posted, worked}
use Rattle.theorems.proofs.order.Long.{long_held}

abbrev zeros : ℕ → List ℕ
zeros n = replicate n 0

-- an index of 100 tiles of the image's plan, and a full-size buffer
abbrev tiles : List ℕ → List ℕ
tiles image = zeros (index_length (plan_of image))

abbrev page : List ℕ
page = zeros (longest_image newest)

just_full : (image : List ℕ) → JustFull image (tiles image) page
just_full image = (length-replicate {A = ℕ} (index_length (plan_of image)) 0, length-replicate {A = ℕ} (longest_image newest) 0)

-- no node of a book is from N up
below : (b : Book) → NoBitFrom (nodes b.site.links) (any_middle b)
below b = all_below (nodes b.site.links)

ample : (image : List ℕ) → Ample image (tiles image) page
ample image = let j = just_full image in record { tiles = omega (arith, j.0); full = omega (arith, j.1) }

-- ALL PREMISES KEPT

-- computed with an index of 100 tiles and a full-size buffer, and no word and no byte more
justly : (image : List ℕ) (mains : ℕ) (qs : List Request) (ns last : List ℕ) → T (posts (tiles image) page image mains qs 0 ns last) → Posting JustFull image mains qs 0 ns last
justly image mains qs = posted JustFull (tiles image) page image (just_full image) mains qs 0

with_end : {A : Type 0} (x : A) (xs : List A) → With x xs (xs ++ (x ∷ []))
with_end x [] = here
with_end x (y ∷ xs) = there (with_end x xs)

before_held : Stored (encode 1 before) 1 before
before_held = held 1 before refl refl tt

both_held : Stored (image before_both) newest before_both
both_held = held newest before_both refl refl tt

squares_held : Stored (image (book_on plan_a two_squares [])) newest (book_on plan_a two_squares [])
squares_held = held newest (book_on plan_a two_squares []) refl refl tt

nearly : Stored (image nearly_full) newest nearly_full
nearly = held newest nearly_full refl refl tt

accounts_held : Stored (image (paid_by 1000 (drawing 1 3 2 3 ∷ []))) newest (paid_by 1000 (drawing 1 3 2 3 ∷ []))
accounts_held = newly (paid_by 1000 (drawing 1 3 2 3 ∷ [])) tt

abbrev at_limits : List Request
at_limits = opening_two 65535 2 5 100 ∷ closes 63 62

pub kept : Kept
kept = record {
  old = record {
    held = before_held;
    low = below before;
    most = omega arith;
    small = small requests tt;
    ids = different requests tt;
    apart = apart (any_middle before) before (sound_links before_held) requests tt;
    room = room (any_middle before) before (sound_links before_held) requests tt;
    reordered = put (put (put (put (put none here) (there here)) (there (there here))) (there (there (there here)))) (there (there (there (there here))));
    forth = justly (encode 1 before) (any_middle before) requests (0 ∷ 0 ∷ 9 ∷ 3 ∷ 7 ∷ []) (image after) tt;
    back = justly (encode 1 before) (any_middle before) backwards (7 ∷ 3 ∷ 9 ∷ 0 ∷ 0 ∷ []) (image after) tt;
  };
  refused = record {
    held = before_held;
    low = below before;
    most = omega arith;
    small = small (opening 6 5 4 1 ∷ Close 9 ∷ []) tt;
    ids = different (opening 6 5 4 1 ∷ Close 9 ∷ []) tt;
    apart = apart (any_middle before) before (sound_links before_held) (opening 6 5 4 1 ∷ Close 9 ∷ []) tt;
    room = room (any_middle before) before (sound_links before_held) (opening 6 5 4 1 ∷ Close 9 ∷ []) tt;
    reordered = put (put none here) (there here);
    forth = justly (encode 1 before) (any_middle before) (opening 6 5 4 1 ∷ Close 9 ∷ []) (9 ∷ 3 ∷ []) (encode 1 before) tt;
    back = justly (encode 1 before) (any_middle before) (Close 9 ∷ opening 6 5 4 1 ∷ []) (3 ∷ 9 ∷ []) (encode 1 before) tt;
  };
  seconds = record {
    held = both_held;
    low = below before_both;
    most = omega arith;
    small = small on_both tt;
    ids = different on_both tt;
    apart = apart (any_middle before_both) before_both (sound_links both_held) on_both tt;
    room = room (any_middle before_both) before_both (sound_links both_held) on_both tt;
    reordered = put (put (put none here) (there here)) (there (there here));
    forth = justly (encode newest before_both) (any_middle before_both) on_both (0 ∷ 0 ∷ 18 ∷ []) (image after_both) tt;
    back = justly (encode newest before_both) (any_middle before_both) on_both_back (18 ∷ 0 ∷ 0 ∷ []) (image after_both) tt;
  };
  mains = record {
    held = squares_held;
    low = omega arith;
    most = omega arith;
    small = small on_mains tt;
    ids = different on_mains tt;
    apart = apart mains_both (book_on plan_a two_squares []) (sound_links squares_held) on_mains tt;
    room = room mains_both (book_on plan_a two_squares []) (sound_links squares_held) on_mains tt;
    reordered = put (put (put none here) (there here)) (there (there here));
    forth = justly (image (book_on plan_a two_squares [])) mains_both on_mains (0 ∷ 18 ∷ 3 ∷ []) (image across_mains) tt;
    back = justly (image (book_on plan_a two_squares [])) mains_both on_mains_back (3 ∷ 18 ∷ 0 ∷ []) (image across_mains) tt;
  };
  limits = record {
    held = nearly;
    low = below nearly_full;
    most = (tests_le (length at_limits) 64).yes (so tt);
    small = small at_limits tt;
    ids = different at_limits tt;
    apart = apart (any_middle nearly_full) nearly_full (sound_links nearly) at_limits tt;
    room = room (any_middle nearly_full) nearly_full (sound_links nearly) at_limits tt;
    reordered = put (reordered_same (closes 63 62)) (with_end (opening_two 65535 2 5 100) (closes 63 62));
    forth = justly (image nearly_full) (any_middle nearly_full) at_limits (0 ∷ threes 63) (image (full_with 65535)) tt;
    back = justly (image nearly_full) (any_middle nearly_full) (closes 63 62 ++ (opening_two 65535 2 5 100 ∷ [])) (threes 63 ++ (0 ∷ [])) (image (full_with 65535)) tt;
  };
  hops = record {
    held = long_held;
    low = below long_ones;
    most = omega arith;
    small = small on_long tt;
    ids = different on_long tt;
    apart = apart (any_middle long_ones) long_ones (sound_links long_held) on_long tt;
    room = room (any_middle long_ones) long_ones (sound_links long_held) on_long tt;
    reordered = put (put none here) (there here);
    forth = worked JustFull (tiles (image long_ones)) page (just_full (image long_ones)) (ample (image long_ones)) long_held (below long_ones) on_long (omega arith) (0 ∷ 0 ∷ []) (image short_after)
        (inl refl) tt;
    back = worked JustFull (tiles (image long_ones)) page (just_full (image long_ones)) (ample (image long_ones)) long_held
        (below long_ones) on_long_back (omega arith) (0 ∷ 0 ∷ []) (image short_after)
        (inl refl) tt;
  };
  accounts =
      let b : Book = paid_by 1000 (drawing 1 3 2 3 ∷ []) in
      let last : List ℕ = image (paid_by 1000 (drawing 1 1 0 1 ∷ drawing 9 2 4 5 ∷ [])) in
      record {
        held = accounts_held;
        low = below b;
        most = omega arith;
        small = small on_accounts tt;
        ids = different on_accounts tt;
        apart = apart (any_middle b) b (sound_links accounts_held) on_accounts tt;
        room = room (any_middle b) b (sound_links accounts_held) on_accounts tt;
        reordered = put (put (put (put none here) (there here)) (there (there here))) (there (there (there here)));
        forth = justly (image b) (any_middle b) on_accounts (0 ∷ 0 ∷ 0 ∷ 22 ∷ []) last tt;
        back = justly (image b) (any_middle b) on_accounts_back (22 ∷ 0 ∷ 0 ∷ 0 ∷ []) last tt;
      };
}

met : {v : ℕ} {b : Book} {mains : ℕ} {qs ps : List Request} {ns last ms : List ℕ} → Met v b mains qs ns last ps ms → InAnyOrder Ample (encode v b) mains qs
met {v} {b} {mains} {qs} m = any_order (encode v b) v b mains qs m.held m.low m.most m.small m.ids m.apart m.room

pub kept_in_any_order : InAnyOrder Ample (encode 1 before) (any_middle before) requests × InAnyOrder Ample (image before_both) (any_middle before_both) on_both
    × InAnyOrder Ample (image (book_on plan_a two_squares [])) mains_both on_mains × InAnyOrder Ample (image nearly_full) (any_middle nearly_full) at_limits
    × InAnyOrder Ample (image long_ones) (any_middle long_ones) on_long × InAnyOrder Ample (image (paid_by 1000 (drawing 1 3 2 3 ∷ []))) (any_middle (paid_by 1000 [])) on_accounts
kept_in_any_order = (met kept.old, met kept.seconds, met kept.mains, met kept.limits, met kept.hops, met kept.accounts)

-- ALL BUT ONE
fully : (image : List ℕ) (mains : ℕ) (qs : List Request) (n : ℕ) (ns last : List ℕ) → T (posts (tiles image) page image mains qs n ns last) → Posting Ample image mains qs n ns last
fully image = posted Ample (tiles image) page image (ample image)

both : {b : Book} {q q' : Request} {ns : List ℕ} {last : Book} {ns' : List ℕ} {last' : Book} → T (posts (tiles (image b)) page (image b) (any_middle b) (q ∷ q' ∷ []) 0 ns (image last))
    → T (posts (tiles (image b)) page (image b) (any_middle b) (q' ∷ q ∷ []) 0 ns' (image last')) → BothOrders b q q' ns last ns' last'
both {b} {q} {q'} {ns} {last} {ns'} {last'} h h' = record {
  forth = fully (image b) (any_middle b) (q ∷ q' ∷ []) 0 ns (image last) h;
  back = fully (image b) (any_middle b) (q' ∷ q ∷ []) 0 ns' (image last') h';
}

seconds_decide : BothOrders (empty ring) (opening_two 1 0 1 2) (opening 2 5 6 2) (0 ∷ 0 ∷ []) gone_round (0 ∷ 9 ∷ []) gone_across
seconds_decide = record {
  forth = fully (image (empty ring)) (any_middle (empty ring)) (opening_two 1 0 1 2 ∷ opening 2 5 6 2 ∷ []) 0 (0 ∷ 0 ∷ []) (image gone_round) tt;
  back = fully (image (empty ring)) (any_middle (empty ring)) (opening 2 5 6 2 ∷ opening_two 1 0 1 2 ∷ []) 0 (0 ∷ 9 ∷ []) (image gone_across) tt;
}

room_decides : BothOrders nearly_full (opening_two 63 2 5 100) (opening 65 0 1 1) (0 ∷ 8 ∷ []) (full_with 63) (9 ∷ 0 ∷ []) (full_with 63)
room_decides = record {
  forth = fully (image nearly_full) (any_middle nearly_full) (opening_two 63 2 5 100 ∷ opening 65 0 1 1 ∷ []) 0 (0 ∷ 8 ∷ []) (image (full_with 63)) tt;
  back = fully (image nearly_full) (any_middle nearly_full) (opening 65 0 1 1 ∷ opening_two 63 2 5 100 ∷ []) 0 (9 ∷ 0 ∷ []) (image (full_with 63)) tt;
}

rows_decide : BothOrders nearly_full (opening_two 63 2 5 100) (opening 64 0 1 100) (0 ∷ 8 ∷ []) (full_with 63) (0 ∷ 8 ∷ []) one_more
rows_decide = record {
  forth = fully (image nearly_full) (any_middle nearly_full) (opening_two 63 2 5 100 ∷ opening 64 0 1 100 ∷ []) 0 (0 ∷ 8 ∷ []) (image (full_with 63)) tt;
  back = fully (image nearly_full) (any_middle nearly_full) (opening 64 0 1 100 ∷ opening_two 63 2 5 100 ∷ []) 0 (0 ∷ 8 ∷ []) (image one_more) tt;
}

-- a byte less than full size, and a word less than 100 tiles
abbrev short : ℕ
short = longest_image newest - 1

abbrev short_tiles : ℕ
short_tiles = index_length plan_a - 1

abbrev pair_image : List ℕ
pair_image = image (empty pair)

pub decides : Decides
decides = record {
  ids = both tt tt;
  hearing = both tt tt;
  seconds = seconds_decide;
  room = room_decides;
  rows = rows_decide;
  pays = both tt tt;
  most = fully (image (empty pair)) (any_middle (empty pair)) (closes 65 0) 26 (threes 65) (image (empty pair)) tt;
  full_size = posted (OfBytes short) (tiles pair_image) (zeros short) pair_image ((ample pair_image).tiles, length-replicate {A = ℕ} short 0)
      (any_middle (empty pair)) (opening 1 0 1 2 ∷ []) 12 (0 ∷ [])
      pair_image tt;
  tiles = posted (OfWords short_tiles) (zeros short_tiles) page pair_image (length-replicate {A = ℕ} short_tiles 0, (ample pair_image).full)
      (any_middle (empty pair)) (opening 1 0 1 2 ∷ []) 12 (0 ∷ [])
      pair_image tt;
  low = fully (image (empty pair)) 4 (opening 1 0 1 2 ∷ []) 25 (0 ∷ []) (image (empty pair)) tt;
  over_1 = fully (image (empty square)) 2 (opening 1 0 3 2 ∷ []) 0 (0 ∷ []) (image (over_square 1)) tt;
  over_2 = fully (image (empty square)) 4 (opening 1 0 3 2 ∷ []) 0 (0 ∷ []) (image (over_square 2)) tt;
}

-- in any order they would come to one book, and the second would be answered as alone
module _ {b : Book} {q q' : Request} (h : Stored (image b) newest b) (i : InAnyOrder Ample (image b) (any_middle b) (q ∷ q' ∷ [])) where
  one_last : {ns ns' : List ℕ} {last last' : Book} → BothOrders b q q' ns last ns' last' → image last ≡ image last'
  one_last {ns} {ns'} {last} {last'} o =
      i.one (q ∷ q' ∷ []) (q' ∷ q ∷ []) 0 0 ns ns' (image last) (image last') (put (put none here) here) (put (put none here) (there here)) o.forth o.back

  one_answer : {n m n' m' : ℕ} {last last' : Book} → BothOrders b q q' (n ∷ m ∷ []) last (m' ∷ n' ∷ []) last' → m ≡ m'
  one_answer {n} {m} {n'} {m'} {last} {last'} o =
      let (answers, alone, p) = some_posting h (below b) (q' ∷ []) (omega arith) in
      let f = ((i.each (q ∷ q' ∷ []) 0 (n ∷ m ∷ []) (image last) (put (put none here) here) o.forth).1.1.0 0 answers alone p).0 in
      let g = ((i.each (q' ∷ q ∷ []) 0 (m' ∷ n' ∷ []) (image last') (put (put none here) (there here)) o.back).1.0 0 answers alone p).0 in
      ap (λ (ns : List ℕ). get_or ns 0 0) (sym f ∙ g)

pub unlike : {xs ys : List ℕ} → T (not (same xs ys)) → xs ≡ ys → ⊥
unlike {xs} {ys} t = (tests_not (tests_same xs ys)).yes (so t)

pair_held : Stored (image (empty pair)) newest (empty pair)
pair_held = held newest (empty pair) refl refl tt

square_held : Stored (image (empty square)) newest (empty square)
square_held = held newest (empty square) refl refl tt

-- one open across the square is in any order, with any set
over_square_lem : (mains : ℕ) → NoBitFrom 4 mains → Room mains (empty square) (opening 1 0 3 2 ∷ []) → InAnyOrder Ample (image (empty square)) mains (opening 1 0 3 2 ∷ [])
over_square_lem mains low fit =
    let qs : List Request = opening 1 0 3 2 ∷ [] in
    any_order (image (empty square)) newest (empty square) mains qs square_held low (omega arith) (small qs tt) (different qs tt) ((λ q m. absurd m), tt) fit

room_for_done : RoomForDone (image nearly_full) (any_middle nearly_full) nearly_full (opening_two 63 2 5 100 ∷ opening 65 0 1 1 ∷ [])
room_for_done = record { done = opening_two 63 2 5 100 ∷ []; all_done = done; room = room (any_middle nearly_full) nearly_full (sound_links nearly) (opening_two 63 2 5 100 ∷ []) tt }
  where
    not_done : (last : List ℕ) → Posting Ample (image nearly_full) (any_middle nearly_full) (opening 65 0 1 1 ∷ []) 0 (0 ∷ []) last → ⊥
    not_done last p =
        let nine : Posting Ample (image nearly_full) (any_middle nearly_full) (opening 65 0 1 1 ∷ []) 0 (9 ∷ []) (image nearly_full) =
        fully (image nearly_full) (any_middle nearly_full) (opening 65 0 1 1 ∷ []) 0 (9 ∷ []) (image nearly_full) tt in
        let e : ◌≡◌ {A = ℕ} 0 9 = ap (λ (ns : List ℕ). get_or ns 0 0)
        (depends (image nearly_full) (image nearly_full) newest newest nearly_full nearly_full (any_middle nearly_full) (opening 65 0 1 1) nearly nearly (below nearly_full) (omega arith)
        (agree_same (any_middle nearly_full) nearly_full (opening 65 0 1 1)) 0 0 (0 ∷ []) (9 ∷ []) last (image nearly_full) p nine).0 in
        omega arith

    done : (q : Request) → q ∈ (opening_two 63 2 5 100 ∷ opening 65 0 1 1 ∷ []) → (last : List ℕ) → Posting Ample (image nearly_full) (any_middle nearly_full) (q ∷ []) 0 (0 ∷ []) last
        → q ∈ (opening_two 63 2 5 100 ∷ [])
    done q (inl e) last p = inl e
    done q (inr (inl e)) last p = absurd (not_done last (subst (λ (v : Request). Posting Ample (image nearly_full) (any_middle nearly_full) (v ∷ []) 0 (0 ∷ []) last) e p))
    done q (inr (inr m)) last p = absurd m

pub needed : Needed
needed = record {
  most = λ f.
      let qs : List Request = closes 65 0 in
      let b : Book = empty pair in
      let i = f (image b) newest b (any_middle b) qs pair_held (below b) (small qs tt) (different qs tt) (apart (any_middle b) b (sound_links pair_held) qs tt)
      (room (any_middle b) b (sound_links pair_held) qs tt) in
      let e : ◌≡◌ {A = ℕ} 26 0 = (i.each qs 26 (threes 65) (image b) (reordered_same qs) decides.most).0 in
      omega arith;
  ids = λ f.
      let qs : List Request = opening 1 0 1 2 ∷ Close 1 ∷ [] in
      let b : Book = empty pair in
      let i = f (image b) newest b (any_middle b) qs pair_held (below b) (omega arith) (small qs tt) (apart (any_middle b) b (sound_links pair_held) qs tt)
      (room (any_middle b) b (sound_links pair_held) qs tt) in
      unlike tt (one_last pair_held i decides.ids);
  hearing = λ f.
      let qs : List Request = opening 1 0 1 1 ∷ opening 2 2 3 1 ∷ [] in
      let b : Book = empty line_a in
      let h : Stored (image b) newest b = held newest b refl refl tt in
      unlike tt (one_last h (f (image b) newest b (any_middle b) qs h (below b) (omega arith) (small qs tt) (different qs tt) (no_node_lem (any_middle b) b (sound_links h) qs tt)
      (room (any_middle b) b (sound_links h) qs tt)) decides.hearing);
  seconds = λ f.
      let qs : List Request = opening_two 1 0 1 2 ∷ opening 2 5 6 2 ∷ [] in
      let b : Book = empty ring in
      let h : Stored (image b) newest b = held newest b refl refl tt in
      unlike tt (one_last h (f (image b) newest b (any_middle b) qs h (below b) (omega arith) (small qs tt) (different qs tt) (firsts_apart (any_middle b) b (sound_links h) qs tt)
      (room (any_middle b) b (sound_links h) qs tt)) seconds_decide);
  room = λ f.
      let qs : List Request = opening_two 63 2 5 100 ∷ opening 65 0 1 1 ∷ [] in
      let i = f (image nearly_full) newest nearly_full (any_middle nearly_full) qs nearly (below nearly_full) (omega arith) (small qs tt) (different qs tt)
      (apart (any_middle nearly_full) nearly_full (sound_links nearly) qs tt) room_for_done in
      let e : ◌≡◌ {A = ℕ} 8 9 = one_answer nearly i room_decides in
      omega arith;
  rows = λ f.
      let qs : List Request = opening_two 63 2 5 100 ∷ opening 64 0 1 100 ∷ [] in
      let fit = room_for_one (any_middle nearly_full) nearly_full (sound_links nearly) qs tt in
      let i = f (image nearly_full) newest nearly_full (any_middle nearly_full) qs nearly (below nearly_full) (omega arith) (small qs tt) (different qs tt)
      (apart (any_middle nearly_full) nearly_full (sound_links nearly) qs tt) fit in
      let e : ◌≡◌ {A = ℕ} 8 0 = one_answer nearly i rows_decide in
      omega arith;
  pays = λ f.
      let qs : List Request = opening_on 1 1 0 1 ∷ Close 3 ∷ [] in
      let b : Book = paid_by 999 (drawing 1 3 2 3 ∷ []) in
      let h : Stored (image b) newest b = newly b tt in
      unlike tt (one_last h (f (image b) newest b (any_middle b) qs h (below b) (omega arith) (small qs tt) (different qs tt) (apart (any_middle b) b (sound_links h) qs tt)
      (room_unpaid (any_middle b) b (sound_links h) qs tt)) decides.pays);
  full_size = λ f.
      let qs : List Request = opening 1 0 1 2 ∷ [] in
      let b : Book = empty pair in
      let i = f short (image b) newest b (any_middle b) qs pair_held (below b) (omega arith) (small qs tt) (different qs tt) (apart (any_middle b) b (sound_links pair_held) qs tt)
      (room (any_middle b) b (sound_links pair_held) qs tt) in
      let e : ◌≡◌ {A = ℕ} 12 0 = (i.each qs 12 (0 ∷ []) (image b) (reordered_same qs) decides.full_size).0 in
      omega arith;
  tiles = λ f.
      let qs : List Request = opening 1 0 1 2 ∷ [] in
      let b : Book = empty pair in
      let i = f short_tiles (image b) newest b (any_middle b) qs pair_held (below b) (omega arith) (small qs tt) (different qs tt) (apart (any_middle b) b (sound_links pair_held) qs tt)
      (room (any_middle b) b (sound_links pair_held) qs tt) in
      let e : ◌≡◌ {A = ℕ} 12 0 = (i.each qs 12 (0 ∷ []) (image b) (reordered_same qs) decides.tiles).0 in
      omega arith;
  low = λ f.
      let qs : List Request = opening 1 0 1 2 ∷ [] in
      let b : Book = empty pair in
      let i = f (image b) newest b 4 qs pair_held (omega arith) (small qs tt) (different qs tt) (apart 4 b (sound_links pair_held) qs tt) (room 4 b (sound_links pair_held) qs tt) in
      let e : ◌≡◌ {A = ℕ} 25 0 = (i.each qs 25 (0 ∷ []) (image b) (reordered_same qs) decides.low).0 in
      omega arith;
  one_set = λ f.
      let qs : List Request = opening 1 0 3 2 ∷ [] in
      unlike tt (f (image (empty square)) newest (empty square) 2 4 qs qs 0 0 (0 ∷ []) (0 ∷ []) (image (over_square 1)) (image (over_square 2)) square_held
      (over_square_lem 2 (omega arith) (room 2 (empty square) (sound_links square_held) qs tt)) (over_square_lem 4 (omega arith) (room 4 (empty square) (sound_links square_held) qs tt))
      (reordered_same qs) decides.over_1 decides.over_2);
}
