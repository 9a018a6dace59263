-- What is promised to those who pay: no account is ever overdrawn, only a purchase changes what one has bought, and a close gives back what its open drew.
use Rattle.std.specs.Prelude.{◌≡◌, cond, List, [], ◌∷◌, ℕ, ◌+◌, ◌*◌, eqb, take}
use Rattle.rules.specs.Words.{TwoBytes, ◌∈◌, total, Each}
use Rattle.rules.specs.Tiles.{repeats}
use Rattle.rules.specs.Topology.{nodes, hop_count, all_nodes}
use Rattle.rules.specs.Book.{Account, Row, Book, draws, drawn, Paid}
use Rattle.rules.specs.Placing.{Asked, Planned}
use Rattle.rules.specs.Image.{Stored}
use Rattle.rules.specs.Calls.{Request, Serve, Purchase}
use Rattle.rules.specs.Calls.Request.{Open, Close}
use Rattle.rules.specs.Order.{id_of, IdInRange, current, Posting}
use Rattle.theorems.specs.promises.Promises.{Moves}

-- CALLS ONE AFTER THE OTHER, on the current image

-- a purchase that was done: the account's number, and the amount
pub record Bought : Type 0 where
  pub account : ℕ
  pub amount : ℕ

-- a purchase is made on the image with a buffer of any size, is answered so, and leaves the last image
pub record Purchasing (image : List ℕ) (n amount number : ℕ) (last : List ℕ) : Type 0 where
  pub out : List ℕ
  pub out' : List ℕ
  pub len : ℕ
  pub purchase : Purchase image n amount out number len out'
  pub last_is : last ≡ current image len out'

-- and so an open or a close
pub record Serving (image : List ℕ) (q : Request) (number : ℕ) (last : List ℕ) : Type 0 where
  pub out : List ℕ
  pub out' : List ℕ
  pub len : ℕ
  pub serve : Serve image q out number len out'
  pub last_is : last ≡ current image len out'

-- whatever index and buffer a list is lent
abbrev pub OfAnySize : List ℕ → List ℕ → List ℕ → Type 0
OfAnySize image index out = Unit {0}

-- after opens and closes, by themselves and in lists, done, refused in part or refused as a whole, and purchases, done or refused: those that were done, the last first, and the current image
pub data After (image : List ℕ) : List Bought → List ℕ → Type 0 where
  none : After image [] image
  posted : (mains : ℕ) (qs : List Request) (number : ℕ) (answers : List ℕ) {ps : List Bought} {now last : List ℕ} → After image ps now
      → ((q : Request) → q ∈ qs → IdInRange q) → Posting OfAnySize now mains qs number answers last → After image ps last
  served : (q : Request) (number : ℕ) {ps : List Bought} {now last : List ℕ} → After image ps now → IdInRange q → Serving now q number last → After image ps last
  bought : (n amount : ℕ) {ps : List Bought} {now last : List ℕ} → After image ps now → Purchasing now n amount 0 last
      → After image (record { account = n; amount = amount } ∷ ps) last
  refused : (n amount number : ℕ) {ps : List Bought} {now last : List ℕ} → After image ps now → Purchasing now n amount number last → (number ≡ 0 → ⊥) → After image ps last

-- the amounts bought for the account of the number
abbrev pub amounts : ℕ → List Bought → ℕ
amounts n = total (λ (p : Bought). cond (eqb p.account n) p.amount 0)

-- x is the account a after the purchases: the same number, and raised by exactly their amounts for it
pub record RaisedBy (ps : List Bought) (a x : Account) : Type 0 where
  pub number : x.number ≡ a.number
  pub bought : x.bought ≡ a.bought + amounts a.number ps

-- the accounts are those of before, one by one, and no other
pub record OnlyRaisedBy (ps : List Bought) (before after : List Account) : Type 0 where
  pub kept : (a : Account) → a ∈ before → (x : Account) × (x ∈ after) × RaisedBy ps a x
  pub only : (x : Account) → x ∈ after → (a : Account) × (a ∈ before) × RaisedBy ps a x

-- the image holds a book in which no account is overdrawn, and the purchases alone have changed what each has bought
pub record PaysItsWay (b : Book) (ps : List Bought) (last : List ℕ) : Type 0 where
  pub version : ℕ
  pub book : Book
  pub holds : Stored last version book
  pub paid : Paid book.site.accounts book.rows
  pub accounts : OnlyRaisedBy ps b.site.accounts book.site.accounts

-- so it is after any of them
abbrev pub NeverOverdrawn : Type 0
NeverOverdrawn = (image : List ℕ) (v : ℕ) (b : Book) → Stored image v b → (ps : List Bought) (last : List ℕ) → After image ps last → PaysItsWay b ps last

-- DRAWN AND GIVEN BACK

-- what the rows of the id draw from the account of the number
abbrev pub drawn_for : ℕ → ℕ → List Row → ℕ
drawn_for id n = total (λ (r : Row). cond (eqb r.id id) (cond (eqb r.account n) (draws r) 0) 0)

-- what an open draws from it on these routes: their hops, as often as they come in a cycle, if it is the account asked for
abbrev pub cost : Asked → List (List ℕ) → ℕ → ℕ
cost q routes n = cond (eqb q.account n) (total hop_count routes * repeats q.period) 0

-- a done open draws exactly that on the routes that it is given
abbrev pub OpenDraws : Type 0
OpenDraws =
    (image : List ℕ) (q : Asked) (out : List ℕ) (len : ℕ) (out' : List ℕ) → TwoBytes q.id → Serve image (Open q) out 0 len out'
    → (b c : Book) × Moves image q.id len out' b c × (routes : List (List ℕ)) × Planned b.site.links (all_nodes (nodes b.site.links)) q routes
    × ((n : ℕ) → drawn n c.rows ≡ drawn n b.rows + cost q routes n)

-- a done close gives back exactly what the rows of its id drew
abbrev pub CloseGivesBack : Type 0
CloseGivesBack =
    (image : List ℕ) (id : ℕ) (out : List ℕ) (len : ℕ) (out' : List ℕ) → Serve image (Close id) out 0 len out'
    → (b c : Book) × Moves image id len out' b c × ((n : ℕ) → drawn n b.rows ≡ drawn n c.rows + drawn_for id n b.rows)

-- none of the calls opened or closed the stream of the id
abbrev pub Leaves : ℕ → {image : List ℕ} {ps : List Bought} {last : List ℕ} → After image ps last → Type 0
Leaves id none = Unit {0}
Leaves id (posted mains qs number answers a small p) = Leaves id a × (number ≡ 0 → Each (λ (q : Request) (n : ℕ). n ≡ 0 → id_of q ≡ id → ⊥) qs answers)
Leaves id (served q number a small p) = Leaves id a × (number ≡ 0 → id_of q ≡ id → ⊥)
Leaves id (bought n amount a p) = Leaves id a
Leaves id (refused n amount number a p f) = Leaves id a

-- so whatever other calls come between, a close gives back exactly what its open drew
abbrev pub OpenComesBack : Type 0
OpenComesBack =
    (image : List ℕ) (q : Asked) (out : List ℕ) (len : ℕ) (out' : List ℕ) → TwoBytes q.id → Serve image (Open q) out 0 len out'
    → (ps : List Bought) (later : List ℕ) (calls : After (take len out') ps later) → Leaves q.id calls
    → (out₂ : List ℕ) (len₂ : ℕ) (out₂' : List ℕ) → Serve later (Close q.id) out₂ 0 len₂ out₂'
    → (b c d e : Book) × Moves image q.id len out' b c × Moves later q.id len₂ out₂' d e
    × (routes : List (List ℕ)) × Planned b.site.links (all_nodes (nodes b.site.links)) q routes
    × ((n : ℕ) → (drawn n c.rows ≡ drawn n b.rows + cost q routes n) × (drawn n d.rows ≡ drawn n e.rows + cost q routes n))
