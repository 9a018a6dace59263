-- The law under demand 3: what a request's answer depends on.
use Rattle.std.specs.Prelude.{◌≡◌, ◌↔◌, List, [], ◌∷◌, ℕ}
use Rattle.rules.specs.Words.{NoBitFrom, ◌∈◌}
use Rattle.rules.specs.Topology.{nodes, NoClash}
use Rattle.rules.specs.Book.{Row, Book, Known}
use Rattle.rules.specs.Placing.{Full, NotPaid}
use Rattle.rules.specs.Image.{Stored}
use Rattle.rules.specs.Calls.{Request, OfRoutes}
use Rattle.rules.specs.Calls.Request.{Open, Close}
use Rattle.rules.specs.Order.{id_of, IdInRange, RouteOf, Posting, SameStream, Ample}

-- the row clashes with a route of the open; a close has no hop to place, so none clashes with it
abbrev pub Clashing : ℕ → Book → Request → Row → Type 0
Clashing mains b (Open q) r = (p : List ℕ) × RouteOf mains b (Open q) p × (NoClash b.site.hearing p r.route → ⊥)
Clashing mains b (Close id) r = ⊥

-- 8 applies to the open
abbrev pub FullFor : ℕ → Book → Request → Type 0
FullFor mains b (Open q) = OfRoutes mains q b (Full b)
FullFor mains b (Close id) = ⊥

-- 23 applies to the open
abbrev pub ShortFor : ℕ → Book → Request → Type 0
ShortFor mains b (Open q) = OfRoutes mains q b (NotPaid b q)
ShortFor mains b (Close id) = ⊥

-- two books of one site have the id or not, have the same rows that clash with the request's routes, room or not, and enough left or not
pub record Agree (mains : ℕ) (b c : Book) (q : Request) : Type 0 where
  pub site : b.site ≡ c.site
  pub known : Known b (id_of q) ↔ Known c (id_of q)
  pub clashing : (r : Row) → Clashing mains b q r → (r ∈ b.rows) ↔ (r ∈ c.rows)
  pub room : FullFor mains b q ↔ FullFor mains c q
  pub pays : ShortFor mains b q ↔ ShortFor mains c q

-- on nothing else: with one set of nodes, none of them from N up, books that agree so give the request one answer, and where it is done one stream
abbrev pub Depends : Type 0
Depends =
    (image image' : List ℕ) (v w : ℕ) (b c : Book) (mains : ℕ) (q : Request) → Stored image v b → Stored image' w c → NoBitFrom (nodes b.site.links) mains
    → IdInRange q → Agree mains b c q
    → (n n' : ℕ) (answers answers' last last' : List ℕ) → Posting Ample image mains (q ∷ []) n answers last → Posting Ample image' mains (q ∷ []) n' answers' last'
    → (answers ≡ answers') × (answers ≡ 0 ∷ [] → SameStream (id_of q) last last')
