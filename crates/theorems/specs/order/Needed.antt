-- Demand 3 with one premise less: none of these holds.
use Rattle.std.specs.Prelude.{◌≡◌, List, [], ◌∷◌, ℕ, ◌+◌, ◌≤◌, length, take}
use Rattle.rules.specs.Words.{NoBitFrom, ◌∈◌, Pairwise, Reordered, Each, total, total_each}
use Rattle.rules.specs.Topology.{nodes, NoClash}
use Rattle.rules.specs.Book.{Account, Row, Book, hops_in_all, drawn, most_streams, most_hops}
use Rattle.rules.specs.Image.{FullSize, plan_of, Stored}
use Rattle.rules.specs.Index.{index_length}
use Rattle.rules.specs.Calls.{Request, most_requests, OfRoutes}
use Rattle.rules.specs.Calls.Request.{Open, Close}
use Rattle.rules.specs.Order.{IdInRange, DifferentIds, RouteOf, Apart, opens, Asks, may_draw, Room, Posting, InAnyOrder, Ample}

-- there may be over 64 requests
abbrev pub WithoutMost : Type 0
WithoutMost =
    (image : List ℕ) (v : ℕ) (b : Book) (mains : ℕ) (qs : List Request) → Stored image v b → NoBitFrom (nodes b.site.links) mains → ((q : Request) → q ∈ qs → IdInRange q)
    → Pairwise DifferentIds qs → Pairwise (Apart mains b) qs → Room mains b qs → InAnyOrder Ample image mains qs

-- ids may repeat
abbrev pub WithoutIds : Type 0
WithoutIds =
    (image : List ℕ) (v : ℕ) (b : Book) (mains : ℕ) (qs : List Request) → Stored image v b → NoBitFrom (nodes b.site.links) mains → length qs ≤ most_requests
    → ((q : Request) → q ∈ qs → IdInRange q)
    → Pairwise (Apart mains b) qs → Room mains b qs → InAnyOrder Ample image mains qs

-- the routes share no node, though a receiver of one may hear a sender of another
abbrev pub NoNodeShared : ℕ → Book → Request → Request → Type 0
NoNodeShared mains b q q' = (p p' : List ℕ) → RouteOf mains b q p → RouteOf mains b q' p' → (a : ℕ) → a ∈ p → a ∈ p' → ⊥

abbrev pub WithoutHearing : Type 0
WithoutHearing =
    (image : List ℕ) (v : ℕ) (b : Book) (mains : ℕ) (qs : List Request) → Stored image v b → NoBitFrom (nodes b.site.links) mains → length qs ≤ most_requests
    → ((q : Request) → q ∈ qs → IdInRange q)
    → Pairwise DifferentIds qs → Pairwise (NoNodeShared mains b) qs → Room mains b qs → InAnyOrder Ample image mains qs

-- a request's first route alone
abbrev pub FirstRouteOf : ℕ → Book → Request → List ℕ → Type 0
FirstRouteOf mains b (Open q) p = OfRoutes mains q b (λ (routes : List (List ℕ)). p ∈ take 1 routes)
FirstRouteOf mains b (Close id) p = (r : Row) × (r ∈ b.rows) × (r.id ≡ id) × (r.way ≡ 1) × (p ≡ r.route)

-- no hop of a first route clashes with one of another, though a hop of a second route may
abbrev pub FirstsApart : ℕ → Book → Request → Request → Type 0
FirstsApart mains b q q' = (p p' : List ℕ) → FirstRouteOf mains b q p → FirstRouteOf mains b q' p' → NoClash b.site.hearing p p'

abbrev pub WithoutSeconds : Type 0
WithoutSeconds =
    (image : List ℕ) (v : ℕ) (b : Book) (mains : ℕ) (qs : List Request) → Stored image v b → NoBitFrom (nodes b.site.links) mains → length qs ≤ most_requests
    → ((q : Request) → q ∈ qs → IdInRange q)
    → Pairwise DifferentIds qs → Pairwise (FirstsApart mains b) qs → Room mains b qs → InAnyOrder Ample image mains qs

-- there is room for the requests that are done alone
pub record RoomForDone (image : List ℕ) (mains : ℕ) (b : Book) (qs : List Request) : Type 0 where
  pub done : List Request
  pub all_done : (q : Request) → q ∈ qs → (last : List ℕ) → Posting Ample image mains (q ∷ []) 0 (0 ∷ []) last → q ∈ done
  pub room : Room mains b done

abbrev pub WithRoomForDone : Type 0
WithRoomForDone =
    (image : List ℕ) (v : ℕ) (b : Book) (mains : ℕ) (qs : List Request) → Stored image v b → NoBitFrom (nodes b.site.links) mains → length qs ≤ most_requests
    → ((q : Request) → q ∈ qs → IdInRange q)
    → Pairwise DifferentIds qs → Pairwise (Apart mains b) qs → RoomForDone image mains b qs → InAnyOrder Ample image mains qs

-- there is room for a row of each, and for all hops, and each account can pay for them
pub record RoomForOne (mains : ℕ) (b : Book) (qs : List Request) : Type 0 where
  pub streams : length b.rows + length qs ≤ most_streams
  pub asked : List ℕ
  pub asks : Each (Asks mains b) qs asked
  pub hops : hops_in_all b.rows + total (λ (k : ℕ). k) asked ≤ most_hops
  pub pays : (a : Account) → a ∈ b.site.accounts → drawn a.number b.rows + total_each (may_draw a.number) qs asked ≤ a.bought

abbrev pub WithRoomForOne : Type 0
WithRoomForOne =
    (image : List ℕ) (v : ℕ) (b : Book) (mains : ℕ) (qs : List Request) → Stored image v b → NoBitFrom (nodes b.site.links) mains → length qs ≤ most_requests
    → ((q : Request) → q ∈ qs → IdInRange q)
    → Pairwise DifferentIds qs → Pairwise (Apart mains b) qs → RoomForOne mains b qs → InAnyOrder Ample image mains qs

-- there is room for all rows and hops, whatever the accounts can pay for
pub record RoomUnpaid (mains : ℕ) (b : Book) (qs : List Request) : Type 0 where
  pub streams : length b.rows + total opens qs ≤ most_streams
  pub asked : List ℕ
  pub asks : Each (Asks mains b) qs asked
  pub hops : hops_in_all b.rows + total (λ (k : ℕ). k) asked ≤ most_hops

abbrev pub WithoutPays : Type 0
WithoutPays =
    (image : List ℕ) (v : ℕ) (b : Book) (mains : ℕ) (qs : List Request) → Stored image v b → NoBitFrom (nodes b.site.links) mains → length qs ≤ most_requests
    → ((q : Request) → q ∈ qs → IdInRange q)
    → Pairwise DifferentIds qs → Pairwise (Apart mains b) qs → RoomUnpaid mains b qs → InAnyOrder Ample image mains qs

-- every output has n bytes, and every index holds 100 tiles
abbrev pub OfBytes : ℕ → List ℕ → List ℕ → List ℕ → Type 0
OfBytes n image index out = (index_length (plan_of image) ≤ length index) × (length out ≡ n)

abbrev pub WithoutFullSize : Type 0
WithoutFullSize =
    (n : ℕ) (image : List ℕ) (v : ℕ) (b : Book) (mains : ℕ) (qs : List Request) → Stored image v b → NoBitFrom (nodes b.site.links) mains → length qs ≤ most_requests
    → ((q : Request) → q ∈ qs → IdInRange q)
    → Pairwise DifferentIds qs → Pairwise (Apart mains b) qs → Room mains b qs → InAnyOrder (OfBytes n) image mains qs

-- every index has n words, and every output is full-size
abbrev pub OfWords : ℕ → List ℕ → List ℕ → List ℕ → Type 0
OfWords n image index out = (length index ≡ n) × FullSize out

abbrev pub WithoutIndex : Type 0
WithoutIndex =
    (n : ℕ) (image : List ℕ) (v : ℕ) (b : Book) (mains : ℕ) (qs : List Request) → Stored image v b → NoBitFrom (nodes b.site.links) mains → length qs ≤ most_requests
    → ((q : Request) → q ∈ qs → IdInRange q)
    → Pairwise DifferentIds qs → Pairwise (Apart mains b) qs → Room mains b qs → InAnyOrder (OfWords n) image mains qs

-- the set may have a node from N up
abbrev pub WithoutLow : Type 0
WithoutLow =
    (image : List ℕ) (v : ℕ) (b : Book) (mains : ℕ) (qs : List Request) → Stored image v b → length qs ≤ most_requests → ((q : Request) → q ∈ qs → IdInRange q)
    → Pairwise DifferentIds qs → Pairwise (Apart mains b) qs → Room mains b qs → InAnyOrder Ample image mains qs

-- two orders may be posted with two sets, though the premises hold of both
abbrev pub WithTwoSets : Type 0
WithTwoSets =
    (image : List ℕ) (v : ℕ) (b : Book) (mains mains' : ℕ) (qs ps : List Request) (n n' : ℕ) (answers answers' last last' : List ℕ) → Stored image v b
    → InAnyOrder Ample image mains qs → InAnyOrder Ample image mains' qs → Reordered qs ps
    → Posting Ample image mains qs n answers last → Posting Ample image mains' ps n' answers' last' → last ≡ last'

pub record Needed : Type 0 where
  pub most : WithoutMost → ⊥
  pub ids : WithoutIds → ⊥
  pub hearing : WithoutHearing → ⊥
  pub seconds : WithoutSeconds → ⊥
  pub room : WithRoomForDone → ⊥
  pub rows : WithRoomForOne → ⊥
  pub pays : WithoutPays → ⊥
  pub full_size : WithoutFullSize → ⊥
  pub tiles : WithoutIndex → ⊥
  pub low : WithoutLow → ⊥
  pub one_set : WithTwoSets → ⊥
