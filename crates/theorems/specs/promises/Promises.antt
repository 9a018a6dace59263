-- What the calls promise, in a reader's words.
use Rattle.std.specs.Prelude.{◌≡◌, ◌⊎◌, ◌↔◌, true, List, [], ◌∷◌, ◌++◌, ℕ, ◌+◌, ◌≤◌, length, get_or, take}
use Rattle.rules.specs.Words.{NoBitFrom, TwoBytes, ◌∈◌, Count, Reordered, Each}
use Rattle.rules.specs.Tiles.{cycle_slots}
use Rattle.rules.specs.Topology.{nodes, all_nodes, Touches}
use Rattle.rules.specs.Book.{Row, Book, hops, row_hop, LawfulBook}
use Rattle.rules.specs.Placing.{NoPlacing, Asked}
use Rattle.rules.specs.Image.{newest, FullSize, Stored}
use Rattle.rules.specs.Table.{Active}
use Rattle.rules.specs.Calls.{Check, Rewrite, Request, most_requests, Serve, Balance}
use Rattle.rules.specs.Calls.Request.{Open, Close}
use Rattle.rules.specs.Order.{id_of, IdInRange, current, Posting, SameStream, InAnyOrder, Ample}
use Rattle.rules.proofs.Balances.{Works}

-- a check says 0 exactly if the bytes are the image of a lawful book, and that book is the only one
abbrev pub ReadsExactly : Type 0
ReadsExactly =
    ((image : List ℕ) (number len : ℕ) → Check image number len → (number ≡ 0) ↔ ((v : ℕ) × (b : Book) × Stored image v b))
    × ((image : List ℕ) (v w : ℕ) (b c : Book) → Stored image v b → Stored image w c → (v ≡ w) × (b ≡ c))

-- a rewrite gives the same bytes, in every version
abbrev pub RewritesTheSame : Type 0
RewritesTheSame = (image out : List ℕ) (len : ℕ) (out' : List ℕ) → Rewrite image out 0 len out' → take len out' ≡ image

-- c has the site of b, and its rows but for those of the id
pub record OnlyMoves (id : ℕ) (b c : Book) : Type 0 where
  pub site : c.site ≡ b.site
  pub others : (r : Row) → (r.id ≡ id → ⊥) → (r ∈ b.rows) ↔ (r ∈ c.rows)

-- the image holds the book b, and what is written holds the book c in the newest version
pub record Moves (image : List ℕ) (id len : ℕ) (out' : List ℕ) (b c : Book) : Type 0 where
  pub version : ℕ
  pub before : Stored image version b
  pub after : Stored (take len out') newest c
  pub only : OnlyMoves id b c

-- the book has the row of a way of the stream
abbrev pub HasWay : Book → ℕ → ℕ → Type 0
HasWay c id way = (r : Row) × (r ∈ c.rows) × (r.id ≡ id) × (r.way ≡ way)

-- the book has the stream, on a second route exactly if that was asked for
pub record HasStream (q : Asked) (c : Book) : Type 0 where
  pub first : HasWay c q.id 1
  pub second : HasWay c q.id 2 ↔ (q.second ≡ true)

-- OPEN AND CLOSE

-- a done open leaves a lawful book in which only the stream of the id is new
abbrev pub OpenAdds : Type 0
OpenAdds =
    (image : List ℕ) (q : Asked) (out : List ℕ) (len : ℕ) (out' : List ℕ) → TwoBytes q.id → Serve image (Open q) out 0 len out'
    → (b c : Book) × Moves image q.id len out' b c × ((r : Row) → r ∈ b.rows → r.id ≡ q.id → ⊥) × HasStream q c

-- a done close leaves a lawful book in which only the stream of the id is gone, on both routes
abbrev pub CloseRemoves : Type 0
CloseRemoves =
    (image : List ℕ) (id : ℕ) (out : List ℕ) (len : ℕ) (out' : List ℕ) → Serve image (Close id) out 0 len out'
    → (b c : Book) × Moves image id len out' b c × ((r : Row) × (r ∈ b.rows) × (r.id ≡ id)) × ((r : Row) → r ∈ c.rows → r.id ≡ id → ⊥)

-- closing a stream just opened gives back the book in the newest version, and where the image was in that the same bytes
abbrev pub CloseUndoesOpen : Type 0
CloseUndoesOpen =
    (image : List ℕ) (v : ℕ) (b : Book) → Stored image v b
    → (q : Asked) (out : List ℕ) (len : ℕ) (out' : List ℕ) → TwoBytes q.id → Serve image (Open q) out 0 len out'
    → (out₂ : List ℕ) (number len₂ : ℕ) (out₂' : List ℕ) → FullSize out₂ → Serve (take len out') (Close q.id) out₂ number len₂ out₂'
    → (number ≡ 0) × Stored (take len₂ out₂') newest b × (v ≡ newest → take len₂ out₂' ≡ image)

-- LISTS

-- a posted list leaves a lawful book of the same site, in which only the streams of records that were done have moved
abbrev pub PostMovesItsOwn : Type 0
PostMovesItsOwn =
    (image : List ℕ) (v : ℕ) (b : Book) (mains : ℕ) (qs : List Request) → Stored image v b → NoBitFrom (nodes b.site.links) mains → length qs ≤ most_requests
    → ((q : Request) → q ∈ qs → IdInRange q)
    → (number : ℕ) (answers last : List ℕ) → Posting Ample image mains qs number answers last
    → (w : ℕ) × (c : Book) × Stored last w c × (c.site ≡ b.site)
    × ((r : Row) → Each (λ (q : Request) (n : ℕ). n ≡ 0 → id_of q ≡ r.id → ⊥) qs answers → (r ∈ b.rows) ↔ (r ∈ c.rows))

-- a list may be cut in two anywhere: the second part, posted with the same set on what the first left, gives the same answers and the same last image
abbrev pub ListsJoin : Type 0
ListsJoin =
    (image : List ℕ) (v : ℕ) (b : Book) (mains : ℕ) (qs ps : List Request) → Stored image v b → NoBitFrom (nodes b.site.links) mains
    → length (qs ++ ps) ≤ most_requests → ((q : Request) → q ∈ (qs ++ ps) → IdInRange q)
    → (n m k : ℕ) (ns ms ks between last last' : List ℕ)
    → Posting Ample image mains qs n ns between → Posting Ample between mains ps m ms last → Posting Ample image mains (qs ++ ps) k ks last'
    → (ks ≡ ns ++ ms) × (last' ≡ last)

-- the calls of the requests by themselves, one after the other, each with a full-size buffer on the image that the one before left
abbrev pub OneByOne : List ℕ → List Request → List ℕ → List ℕ → Type 0
OneByOne image [] [] last = last ≡ image
OneByOne image [] (n ∷ ns) last = ⊥
OneByOne image (q ∷ qs) [] last = ⊥
OneByOne image (q ∷ qs) (n ∷ ns) last =
    (out out' : List ℕ) × (len : ℕ) × FullSize out × Serve image q out n len out' × OneByOne (current image len out') qs ns last

-- they give what the list gives with all nodes in the set: the same answers, and the same last image
abbrev pub ListIsItsCalls : Type 0
ListIsItsCalls =
    (image : List ℕ) (v : ℕ) (b : Book) (qs : List Request) → Stored image v b → length qs ≤ most_requests → ((q : Request) → q ∈ qs → IdInRange q)
    → (n : ℕ) (ns ms last last' : List ℕ) → OneByOne image qs ns last → Posting Ample image (all_nodes (nodes b.site.links)) qs n ms last' → (ms ≡ ns) × (last' ≡ last)

-- IN ANY ORDER: what demand 3 says to those who file requests

-- in the list the request is answered n
abbrev pub Gets : Request → ℕ → List Request → List ℕ → Type 0
Gets q n [] ns = ⊥
Gets q n (p ∷ ps) [] = ⊥
Gets q n (p ∷ ps) (m ∷ ns) = ((p ≡ q) × (m ≡ n)) ⊎ Gets q n ps ns

-- every order of the list can be posted with the set, all come to one image, and in it the streams that no request names stand as before
pub record OneImage (image : List ℕ) (mains : ℕ) (qs : List Request) : Type 0 where
  pub last : List ℕ
  pub every : (ps : List Request) → Reordered qs ps → (answers : List ℕ) × Posting Ample image mains ps 0 answers last
  pub others : (id : ℕ) → ((q : Request) → q ∈ qs → id_of q ≡ id → ⊥) → SameStream id last image

-- to the clerk: the order in which envelopes are opened decides nothing
abbrev pub OrderDecidesNothing : Type 0
OrderDecidesNothing = (image : List ℕ) (mains : ℕ) (qs : List Request) → InAnyOrder Ample image mains qs → OneImage image mains qs

-- to a yard: its request gets one answer and one stream, whatever else is in the list and in whatever order
abbrev pub OwnRequestDecides : Type 0
OwnRequestDecides =
    (image : List ℕ) (v : ℕ) (b : Book) (mains : ℕ) → Stored image v b → (qs qs' : List Request) → InAnyOrder Ample image mains qs → InAnyOrder Ample image mains qs'
    → (ps ps' : List Request) (n n' : ℕ) (ns ns' last last' : List ℕ) → Reordered qs ps → Reordered qs' ps'
    → Posting Ample image mains ps n ns last → Posting Ample image mains ps' n' ns' last'
    → (q : Request) (m m' : ℕ) → Gets q m ps ns → Gets q m' ps' ns' → (m ≡ m') × SameStream (id_of q) last last'

-- PLACINGS, ROUTES, BALANCES

-- a stream that has no placing beside some rows has none beside those rows and more
abbrev pub MoreRowsNeverHelp : Type 0
MoreRowsNeverHelp =
    (b c : Book) (K : ℕ) (route : List ℕ) → c.site ≡ b.site → ((r : Row) → r ∈ b.rows → r ∈ c.rows) → NoPlacing b K route → NoPlacing c K route

-- the row does without the node: it is not on the route, and in no slot is it an end of a hop of the row
pub record DoesWithout (b : Book) (a : ℕ) (r : Row) : Type 0 where
  pub route : a ∈ r.route → ⊥
  pub slots : (slot i : ℕ) → Active b slot r i → Touches a (row_hop r i) → ⊥

-- two routes between the same ends; a node that is none of the ends is on one of them at most, so its loss leaves the other whole, hops and slots
pub record TwoRoutes (b : Book) (r x : Row) : Type 0 where
  pub starts : get_or r.route 0 0 ≡ get_or x.route 0 0
  pub ends : get_or r.route (hops r) 0 ≡ get_or x.route (hops x) 0
  pub one_left : (a : ℕ) → (a ≡ get_or r.route 0 0 → ⊥) → (a ≡ get_or r.route (hops r) 0 → ⊥) → DoesWithout b a r ⊎ DoesWithout b a x

-- so it is with the two ways of every stream that has two
abbrev pub LossLeavesARoute : Type 0
LossLeavesARoute =
    (b : Book) → LawfulBook b → (r x : Row) → r ∈ b.rows → x ∈ b.rows → r.id ≡ x.id → r.way ≡ 1 → x.way ≡ 2 → TwoRoutes b r x

-- used and free are the data slots together, and used is the entries 1 to 4 and 17 to 20 of the node's table
abbrev pub BalanceAddsUp : Type 0
BalanceAddsUp =
    (image : List ℕ) (node d u f : ℕ) → Balance image node 0 d u f
    → (u + f ≡ d) × ((v : ℕ) × (b : Book) × (s : Stored image v b) × Count (Works b s.lawful node) (cycle_slots b.site.plan) u)
