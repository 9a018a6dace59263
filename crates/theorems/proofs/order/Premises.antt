-- Tests that compute the premises of demand 3, and postings that are computed.
use mathlib.Core.Path.{◌≡◌, refl, sym, ap, ◌∙◌, subst}
use mathlib.Core.Logic.{inl, inr}
use mathlib.Core.Bool.{Bool, true, false, not, cond, ◌&&◌}
use mathlib.Core.List.{List, [], ◌∷◌, ◌++◌}
use mathlib.Core.Option.{Option, some, none}
use Prim.Native.Nat.{ℕ, zero, suc, ◌+◌, ◌<◌, ◌≤◌}
use native.Mathlib.Omega.{arith}
use lib.Dec.{T, eqb, leb, ltb}
use lib.ListN.{length, take, drop}
use Rattle.rules.specs.Words.{NoBitFrom, ◌∈◌, Pairwise, Each, total, total_each, Tests}
use Rattle.rules.specs.Topology.{Topology, nodes, SoundTopology, hop_count, hop_at, NoClash}
use Rattle.rules.specs.Book.{Account, Row, Book, hops_in_all, drawn, most_streams, most_hops}
use Rattle.rules.specs.Placing.{Asked, Planned}
use Rattle.rules.specs.Image.{newest, old_accounts, encode, Stored}
use Rattle.rules.specs.Calls.{Wrote, Request, most_requests, Work, InOrder, Post}
use Rattle.rules.specs.Calls.Request.{Open, Close}
use Rattle.rules.specs.Order.{id_of, IdInRange, DifferentIds, RouteOf, Apart, opens, Asks, may_draw, Room, current, Ample, Posting}
use Rattle.rules.proofs.Tests.{never, alike, tests_and, tests_not, tests_eq, tests_le, tests_lt, all_below, all_of, tests_all, tests_every}
use Rattle.rules.proofs.Choice.{planned_unique}
use Rattle.rules.proofs.Written.{Bytes}
use Rattle.rules.proofs.Reading.{lawful_stored}
use Rattle.theorems.specs.model.Test.{same, clashes}
use Rattle.theorems.specs.model.Answer.{or_given, routes_of, answers_of, last_book}
use Rattle.theorems.specs.model.Reading.{all_pairs, is_lawful_book}
use Rattle.theorems.specs.model.Examples.{is_stored}
use Rattle.theorems.specs.model.Index.{index_of}
use Rattle.theorems.specs.model.Calls.{index_after, post}
use Rattle.theorems.proofs.model.Tests.{tests_same, tests_clashes}
use Rattle.theorems.proofs.model.Searches.{Found}
use Rattle.theorems.proofs.model.Answers.{NotPlanned, planned_route, routes_found, workable, in_order_computed, last_workable}
use Rattle.theorems.proofs.model.Index.{index_computed}
use Rattle.theorems.proofs.model.Reading.{tests_pairs, tests_book}
use Rattle.theorems.proofs.model.Examples.{stored}
use Rattle.theorems.proofs.model.Calls.{post_computed}
use Rattle.theorems.specs.order.Needed.{NoNodeShared, FirstRouteOf, FirstsApart, RoomForOne, RoomUnpaid}
use Rattle.theorems.proofs.order.Calls.{current_wrote, enough}

-- what computes to true is true
pub so : {t : Bool} → T t → t ≡ true
so {t = true} h = refl
so {t = false} h = absurd h

-- A LAWFUL BOOK, whose hearing is its links, with the account of older books
pub held : (v : ℕ) (b : Book) → b.site.hearing ≡ b.site.links → b.site.accounts ≡ old_accounts → T (is_stored (encode v b) v b) → Stored (encode v b) v b
held v b e a h = stored (encode v b) v b e a (so h)

-- or any, in the newest version
pub newly : (b : Book) → T (is_lawful_book b) → Stored (encode newest b) newest b
newly b h = lawful_stored b ((tests_book b).yes (so h))

pub sound_links : {s : List ℕ} {v : ℕ} {b : Book} → Stored s v b → SoundTopology b.site.links
sound_links h = h.lawful.site.topologies.links_sound

-- IDS
pub small : (qs : List Request) → T (all_of (λ (q : Request). ltb (id_of q) 65536) qs) → (q : Request) → q ∈ qs → IdInRange q
small qs h = (tests_every (λ q. ltb (id_of q) 65536) (λ q. tests_lt (id_of q) 65536) qs).yes (so h)

pub different : (qs : List Request) → T (all_pairs (λ (q q' : Request). not (eqb (id_of q) (id_of q'))) qs) → Pairwise DifferentIds qs
different qs h = (tests_pairs DifferentIds (λ q q'. not (eqb (id_of q) (id_of q'))) (λ q q'. tests_not (tests_eq (id_of q) (id_of q'))) qs).yes (so h)

-- ROUTES
abbrev stored_routes : ℕ → List Row → List (List ℕ)
stored_routes id [] = []
stored_routes id (r ∷ rs) = cond (eqb r.id id) (r.route ∷ stored_routes id rs) (stored_routes id rs)

abbrev given_routes : ℕ → Book → Asked → List (List ℕ)
given_routes mains b q = or_given (routes_of b.site.links mains q) []

abbrev routes_in : ℕ → Book → Request → List (List ℕ)
routes_in mains b (Open q) = given_routes mains b q
routes_in mains b (Close id) = stored_routes id b.rows

stored_routes_lem : (rows : List Row) (r : Row) → r ∈ rows → r.route ∈ stored_routes r.id rows
stored_routes_lem [] r m = absurd m
stored_routes_lem (x ∷ xs) r m = go (eqb x.id r.id) (tests_eq x.id r.id) (stored_routes_lem xs r) m
  where
    go : (t : Bool) → Tests t (x.id ≡ r.id) → (r ∈ xs → r.route ∈ stored_routes r.id xs) → r ∈ (x ∷ xs)
        → r.route ∈ cond t (x.route ∷ stored_routes r.id xs) (stored_routes r.id xs)
    go true a f (inl e) = inl (ap (λ (v : Row). v.route) e)
    go true a f (inr k) = inr (f k)
    go false a f (inl e) = never (a.back (ap (λ (v : Row). v.id) (sym e)))
    go false a f (inr k) = f k

-- the first routes; of a close all that are stored
abbrev firsts_in : ℕ → Book → Request → List (List ℕ)
firsts_in mains b (Open q) = take 1 (given_routes mains b q)
firsts_in mains b (Close id) = stored_routes id b.rows

-- the test passes of every route of each request and every route of each later one
abbrev all_routes : (Request → List (List ℕ)) → (List ℕ → List ℕ → Bool) → List Request → Bool
all_routes all f qs = all_pairs (λ (q q' : Request). all_of (λ (p : List ℕ). all_of (f p) (all q')) (all q)) qs

module _ (R : Request → List ℕ → Type 0) (all : Request → List (List ℕ)) (in_all : (q : Request) (p : List ℕ) → R q p → p ∈ all q)
    (f : List ℕ → List ℕ → Bool) (P : List ℕ → List ℕ → Type 0) (h : (p p' : List ℕ) → Tests (f p p') (P p p')) where
  routes : (qs : List Request) → T (all_routes all f qs) → Pairwise (λ (q q' : Request). (p p' : List ℕ) → R q p → R q' p' → P p p') qs
  routes qs t = each qs ((tests_pairs _ _ (λ q q'. tests_every (λ p. all_of (f p) (all q')) (λ p. tests_every (f p) (h p) (all q')) (all q)) qs).yes (so t))
    where
      each : (qs : List Request) → Pairwise (λ (q q' : Request). (p : List ℕ) → p ∈ all q → (p' : List ℕ) → p' ∈ all q' → P p p') qs
          → Pairwise (λ (q q' : Request). (p p' : List ℕ) → R q p → R q' p' → P p p') qs
      each [] g = tt
      each (q ∷ qs) g = (λ q' m p p' k l. g.0 q' m p (in_all q p k) p' (in_all q' p' l), each qs g.1)

abbrev no_clash : Topology → List ℕ → List ℕ → Bool
no_clash T p p' = all_below (hop_count p) (λ (i : ℕ). all_below (hop_count p') (λ (j : ℕ). not (clashes T (hop_at p i) (hop_at p' j))))

tests_no_clash : (T : Topology) (p p' : List ℕ) → Tests (no_clash T p p') (NoClash T p p')
tests_no_clash T p p' =
    alike (tests_all _ (λ i. tests_all _ (λ j. tests_not (tests_clashes T (hop_at p i) (hop_at p' j))) (hop_count p')) (hop_count p))
    (λ g i j l k. g i l j k) (λ g i l j k. g i j l k)

abbrev no_node : List ℕ → List ℕ → Bool
no_node p p' = all_of (λ (a : ℕ). all_of (λ (c : ℕ). not (eqb a c)) p') p

tests_no_node : (p p' : List ℕ) → Tests (no_node p p') ((a : ℕ) → a ∈ p → a ∈ p' → ⊥)
tests_no_node p p' =
    alike (tests_every _ (λ a. tests_every _ (λ c. tests_not (tests_eq a c)) p') p)
    (λ g a m k. g a m a k refl) (λ g a m c k e. g a m (subst (λ (v : ℕ). v ∈ p') (sym e) k))

-- HOPS ASKED FOR
abbrev hops_asked : ℕ → Book → Request → ℕ
hops_asked mains b (Open q) = total hop_count (given_routes mains b q)
hops_asked mains b (Close id) = 0

abbrev all_asked : ℕ → Book → List Request → List ℕ
all_asked mains b [] = []
all_asked mains b (q ∷ qs) = hops_asked mains b q ∷ all_asked mains b qs

-- so many rows fit, and the hops asked for
abbrev fits : ℕ → Book → List Request → ℕ → Bool
fits mains b qs n = leb (length b.rows + n) most_streams && leb (hops_in_all b.rows + total (λ (k : ℕ). k) (all_asked mains b qs)) most_hops

-- each account can pay for them
abbrev pays : ℕ → Book → List Request → Bool
pays mains b qs = all_of (λ (a : Account). leb (drawn a.number b.rows + total_each (may_draw a.number) qs (all_asked mains b qs)) a.bought) b.site.accounts

-- ON A BOOK of sound links
module _ (mains : ℕ) (b : Book) (sound : SoundTopology b.site.links) where
  given_routes_lem : (q : Asked) (ps : List (List ℕ)) → Planned b.site.links mains q ps → given_routes mains b q ≡ ps
  given_routes_lem q ps h = go (routes_of b.site.links mains q) (routes_found b.site.links mains q sound)
    where
      go : (o : Option (List (List ℕ))) → Found (Planned b.site.links mains q) (NotPlanned b.site.links mains q) o → or_given o [] ≡ ps
      go none g = absurd (planned_route b.site.links mains q h g)
      go (some v) g = planned_unique g h

  route_in : (q : Request) (p : List ℕ) → RouteOf mains b q p → p ∈ routes_in mains b q
  route_in (Open q) p (ps, h, m) = subst (λ (v : List (List ℕ)). p ∈ v) (sym (given_routes_lem q ps h)) m
  route_in (Close id) p (r, m, e, f) =
      subst (λ (v : ℕ). p ∈ stored_routes v b.rows) e (subst (λ (v : List ℕ). v ∈ stored_routes r.id b.rows) (sym f) (stored_routes_lem b.rows r m))

  first_in : (q : Request) (p : List ℕ) → FirstRouteOf mains b q p → p ∈ firsts_in mains b q
  first_in (Open q) p (ps, h, m) = subst (λ (v : List (List ℕ)). p ∈ take 1 v) (sym (given_routes_lem q ps h)) m
  first_in (Close id) p (r, m, e, w, f) = route_in (Close id) p (r, m, e, f)

  pub apart : (qs : List Request) → T (all_routes (routes_in mains b) (no_clash b.site.hearing) qs) → Pairwise (Apart mains b) qs
  apart = routes (RouteOf mains b) (routes_in mains b) route_in (no_clash b.site.hearing) (NoClash b.site.hearing) (tests_no_clash b.site.hearing)

  pub firsts_apart : (qs : List Request) → T (all_routes (firsts_in mains b) (no_clash b.site.hearing) qs) → Pairwise (FirstsApart mains b) qs
  firsts_apart = routes (FirstRouteOf mains b) (firsts_in mains b) first_in (no_clash b.site.hearing) (NoClash b.site.hearing) (tests_no_clash b.site.hearing)

  pub no_node_lem : (qs : List Request) → T (all_routes (routes_in mains b) no_node qs) → Pairwise (NoNodeShared mains b) qs
  no_node_lem = routes (RouteOf mains b) (routes_in mains b) route_in no_node (λ p p'. (a : ℕ) → a ∈ p → a ∈ p' → ⊥) tests_no_node

  all_asked_lem : (qs : List Request) → Each (Asks mains b) qs (all_asked mains b qs)
  all_asked_lem [] = tt
  all_asked_lem (Open q ∷ qs) = (λ ps h. let e = ap (total hop_count) (given_routes_lem q ps h) in omega (arith, e), all_asked_lem qs)
  all_asked_lem (Close id ∷ qs) = (tt, all_asked_lem qs)

  tests_room : (qs : List Request) (n : ℕ)
      → Tests (fits mains b qs n) ((length b.rows + n ≤ most_streams) × (hops_in_all b.rows + total (λ (k : ℕ). k) (all_asked mains b qs) ≤ most_hops))
  tests_room qs n = tests_and (tests_le (length b.rows + n) most_streams) (tests_le (hops_in_all b.rows + total (λ (k : ℕ). k) (all_asked mains b qs)) most_hops)

  tests_pays : (qs : List Request)
      → Tests (pays mains b qs) ((a : Account) → a ∈ b.site.accounts → drawn a.number b.rows + total_each (may_draw a.number) qs (all_asked mains b qs) ≤ a.bought)
  tests_pays qs = tests_every _ (λ a. tests_le (drawn a.number b.rows + total_each (may_draw a.number) qs (all_asked mains b qs)) a.bought) b.site.accounts

  pub room_unpaid : (qs : List Request) → T (fits mains b qs (total opens qs)) → RoomUnpaid mains b qs
  room_unpaid qs h = let t = (tests_room qs (total opens qs)).yes (so h) in record { streams = t.0; asked = all_asked mains b qs; asks = all_asked_lem qs; hops = t.1 }

  pub room : (qs : List Request) → T (fits mains b qs (total opens qs) && pays mains b qs) → Room mains b qs
  room qs h =
      let t = (tests_and (tests_room qs (total opens qs)) (tests_pays qs)).yes (so h) in
      record { streams = t.0.0; asked = all_asked mains b qs; asks = all_asked_lem qs; hops = t.0.1; pays = t.1 }

  pub room_for_one : (qs : List Request) → T (fits mains b qs (length qs) && pays mains b qs) → RoomForOne mains b qs
  room_for_one qs h =
      let t = (tests_and (tests_room qs (length qs)) (tests_pays qs)).yes (so h) in
      record { streams = t.0.0; asked = all_asked mains b qs; asks = all_asked_lem qs; hops = t.0.1; pays = t.1 }

-- POSTINGS

-- the list, posted with this index and this buffer on bytes, gives this number and these answers, which unmarked stay, and comes to this image
abbrev pub posts : List ℕ → List ℕ → List ℕ → ℕ → List Request → ℕ → List ℕ → List ℕ → Bool
posts index out image mains qs n ns last =
    let r = post image mains qs index out ns in
    all_of (λ (x : ℕ). ltb x 256) image && (eqb r.whole.number n && (same r.answers ns && same last (current image r.whole.len r.whole.out)))

bytes : (s : List ℕ) → ((x : ℕ) → x ∈ s → x < 256) → Bytes s
bytes [] h i = omega arith
bytes (x ∷ xs) h zero = h x (inl refl)
bytes (x ∷ xs) h (suc i) = bytes xs (λ y m. h y (inr m)) i

pub posted : (Size : List ℕ → List ℕ → List ℕ → Type 0) (index out image : List ℕ) → Size image index out → (mains : ℕ) (qs : List Request) (n : ℕ) (ns last : List ℕ)
    → T (posts index out image mains qs n ns last) → Posting Size image mains qs n ns last
posted Size index out image fit mains qs n ns last h =
    let r = post image mains qs index out ns in
    let t = (tests_and (tests_every (λ x. ltb x 256) (λ x. tests_lt x 256) image)
    (tests_and (tests_eq r.whole.number n) (tests_and (tests_same r.answers ns) (tests_same last (current image r.whole.len r.whole.out))))).yes (so h) in
    record {
      index = index;
      index' = r.index;
      out = out;
      out' = r.whole.out;
      before = ns;
      len = r.whole.len;
      size = fit;
      post = subst (λ (k : ℕ). Post image mains qs index out ns k r.whole.len r.index r.whole.out ns) t.1.0
          (subst (Post image mains qs index out ns r.whole.number r.whole.len r.index r.whole.out) t.1.1.0 (post_computed image (bytes image t.0) out mains qs index ns));
      last_is = t.1.1.1;
    }

-- and posted on an image that is known to hold the book, where a record is done
pub worked : (Size : List ℕ → List ℕ → List ℕ → Type 0) (index out : List ℕ)
    → {image : List ℕ} {v : ℕ} {b : Book} {mains : ℕ} → Size image index out → Ample image index out → Stored image v b → NoBitFrom (nodes b.site.links) mains → (qs : List Request)
    → length qs ≤ most_requests → (ns last : List ℕ) → 0 ∈ ns
    → T (same (answers_of mains b qs) ns && same (encode newest (last_book mains b qs)) last) → Posting Size image mains qs 0 ns last
worked Size index out {image} {v} {b} {mains} fit ample s low qs few ns last z h =
    let c : Book = last_book mains b qs in
    let t = (tests_and (tests_same (answers_of mains b qs) ns) (tests_same (encode newest c) last)).yes (so h) in
    let out' : List ℕ = encode newest c ++ drop (length (encode newest c)) out in
    let wrote : Wrote (encode newest c) out (length (encode newest c)) out' = record { length_is = refl; buffer = refl } in
    record {
      index = index;
      index' = index_after mains b qs index;
      out = out;
      out' = out';
      before = ns;
      len = length (encode newest c);
      size = fit;
      post = record {
        says = inr (v, b, s, inr (λ f. f low, inr (λ k. omega (arith, k, few), inr (enough s index out ample, refl))));
        refused = λ f. absurd (f refl);
        done = λ e. (
          v,
          b,
          s,
          (
            c,
            subst (λ (ks : List ℕ). InOrder (Work mains) b qs ks c) t.0 (in_order_computed mains b (workable s.lawful) qs),
            record { some = λ k. wrote; none = λ f. absurd (f z) },
            record { words = index_of c; index = index_computed c (last_workable mains b (workable s.lawful) qs); buffer = refl },
          ),
        );
      };
      last_is = sym t.1 ∙ sym (current_wrote image c out (length (encode newest c)) out' wrote);
    }
