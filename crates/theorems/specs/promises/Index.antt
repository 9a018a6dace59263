-- What the index of slots promises, in a reader's words.
use Rattle.std.specs.Prelude.{◌≡◌, ◌↔◌, List, ℕ, ◌+◌, ◌*◌, ◌<◌, length, get_or}
use Rattle.rules.specs.Words.{Has, ◌∈◌}
use Rattle.rules.specs.Tiles.{slots_of, short_tiles}
use Rattle.rules.specs.Topology.{Hop}
use Rattle.rules.specs.Book.{Book, LawfulBook}
use Rattle.rules.specs.Image.{plan_of, Stored}
use Rattle.rules.specs.Index.{Marks, index_length, IndexOf, Indexed}
use Rattle.rules.specs.Calls.{Request, Closed, Post}
use Rattle.rules.specs.Order.{IdInRange, current}

-- whatever two lent indexes held before, if both or neither hold 100 tiles the list is posted alike: one number, one length, the same bytes and the same answers
abbrev pub IndexDecidesNothing : Type 0
IndexDecidesNothing =
    (image : List ℕ) (mains : ℕ) (qs : List Request) (out before : List ℕ)
    → (index other : List ℕ) → (length index < index_length (plan_of image)) ↔ (length other < index_length (plan_of image))
    → (n len : ℕ) (index' out' answers : List ℕ) → Post image mains qs index out before n len index' out' answers
    → (m size : ℕ) (other' out'' marks : List ℕ) → Post image mains qs other out before m size other' out'' marks
    → (n ≡ m) × (len ≡ size) × (out' ≡ out'') × (answers ≡ marks)

-- a list that is not refused as a whole leaves the index of the book that the last image holds, and behind it what was there before
abbrev pub IndexIsOfLastBook : Type 0
IndexIsOfLastBook =
    (image : List ℕ) (mains : ℕ) (qs : List Request) (index out before : List ℕ) (len : ℕ) (index' out' answers : List ℕ) → ((q : Request) → q ∈ qs → IdInRange q)
    → Post image mains qs index out before 0 len index' out' answers
    → (v : ℕ) (c : Book) → Stored (current image len out') v c → Indexed c index index'

-- a row of the id takes the slot, with the node at this end
abbrev pub Own : (Hop → ℕ) → Book → ℕ → ℕ → ℕ → Type 0
Own end b id slot node = (m : Marks end b slot node) × (m.row.id ≡ id)

-- a close takes out exactly the bits of its own stream, and leaves all others: of the senders, and of the receivers
abbrev pub CloseTakesItsOwn : Type 0
CloseTakesItsOwn =
    (b : Book) (id : ℕ) (c : Book) → LawfulBook b → Closed b id c → (words words' : List ℕ) → IndexOf b words → IndexOf c words'
    → (slot node : ℕ) → slot < slots_of b.site.plan short_tiles
    → (Has (get_or words' (2 * slot) 0) node ↔ (Has (get_or words (2 * slot) 0) node × (Own (λ (h : Hop). h.from) b id slot node → ⊥)))
    × (Has (get_or words' (2 * slot + 1) 0) node ↔ (Has (get_or words (2 * slot + 1) 0) node × (Own (λ (h : Hop). h.to) b id slot node → ⊥)))
