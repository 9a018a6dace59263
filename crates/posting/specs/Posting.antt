-- What one request does to the book that is worked on, and what a list of them does.
use Rattle.std.specs.Prelude.{◌≡◌, Bool, true, false, List, [], ◌∷◌, ℕ, ◌*◌, ◌≤◌, length, take, drop, replicate, Result, Ok, Err}
use Rattle.rules.specs.Words.{◌∈◌, Tests}
use Rattle.rules.specs.Tiles.{short_tiles}
use Rattle.rules.specs.Book.{Book}
use Rattle.rules.specs.Calls as calls
use Rattle.rules.specs.Calls.{Wrote, Unchanged, OfBook, SaysOf, Work, InOrder, post_refusals, Post}
use Rattle.rules.specs.Topology.{all_nodes}
use Rattle.rules.specs.Image.{newest, longest_image, plan_of, nodes_of}
use Rattle.rules.specs.Index.{index_length}
use Rattle.rules.proofs.Reading.{LawfulImage}
use Rattle.index.specs.Index as inner
use Rattle.index.specs.Folding.{Lent}
use Rattle.rules.specs.Said.{said, written}
use Rattle.rules.specs.declared.refusals.Refusal.{Refusal}
use Rattle.posting.specs.declared.Request.{Request}
use Rattle.posting.specs.declared.State.{State}
use Rattle.posting.specs.Records.{the_requests, answers, OnlyMarked}
use Rattle.posting.specs.Standing.{Standing, book_at}

-- how long the image is after a request: as long as before where it was refused
abbrev pub then_long : ℕ → Result ℕ Refusal → ℕ
then_long len (Ok n) = n
then_long len (Err r) = len

-- the request was worked on the book with the set, and the book after it stands
pub record Worked (mains : ℕ) (buffer : List ℕ) (len : ℕ) (q : calls.Request) (r : Result ℕ Refusal) (buffer' words' : List ℕ) : Type 0 where
  pub work : Work mains (book_at buffer len) q (said r) (book_at buffer' (then_long len r))
  pub standing : Standing buffer' (then_long len r) words'

-- a list was worked through with the set from the book b to the book c; whether a record was done
pub record Through (mains : ℕ) (rs : List Request) (b : Book) (done : Bool) (rs' : List Request) (c : Book) : Type 0 where
  pub in_order : InOrder (Work mains) b (the_requests rs) (answers rs') c
  pub same : OnlyMarked rs rs'
  pub some_done : Tests done (0 ∈ answers rs')

-- and the book after it stands
pub record PostedAll (mains : ℕ) (rs : List Request) (buffer : List ℕ) (len : ℕ) (r : State) (rs' : List Request) (buffer' words' : List ℕ) : Type 0 where
  pub through : Through mains rs (book_at buffer len) r.done rs' (book_at buffer' r.length)
  pub standing : Standing buffer' r.length words'

-- A CALL

-- so many words has the index of the image's book
abbrev pub Words : List ℕ → ℕ → Type 0
Words image r = r ≡ index_length (plan_of image)

-- nothing is marked in the words of an index
abbrev pub Unmarked : List ℕ → Type 0
Unmarked words = words ≡ replicate inner.index_length 0

-- what the whole call says; where nothing is refused the image's book stands in a buffer of its own, the output has room for the longest image, and the lent words for the index
pub record Begun (image : List ℕ) (mains count words room : ℕ) (r : Result ℕ Refusal) (buffer' words' : List ℕ) : Type 0 where
  pub says : SaysOf image (post_refusals mains count room words) (said r)
  pub stands : said r ≡ 0 → OfBook image (λ (v : ℕ) (b : Book). Standing buffer' (written r) words' × (book_at buffer' (written r) ≡ b))
  pub wide : said r ≡ 0 → longest_image newest ≤ room
  pub long : said r ≡ 0 → index_length (book_at buffer' (written r)).site.plan ≤ words

-- the image is written where a record was done; so many bytes
pub record Finished (buffer : List ℕ) (state : State) (out : List ℕ) (len : ℕ) (out' : List ℕ) : Type 0 where
  pub written : state.done ≡ true → Wrote (take state.length buffer) out len out'
  pub kept : state.done ≡ false → Unchanged out len out'

-- and the index of the book is lent, for which there is room
pub record Settled (buffer words : List ℕ) (state : State) (index out : List ℕ) (len : ℕ) (index' out' : List ℕ) : Type 0 where
  pub finished : Finished buffer state out len out'
  pub lent : Lent (plan_of (take state.length buffer)).slots words index index'
  pub wide : index_length (plan_of (take state.length buffer)) ≤ length index

-- the list is posted with the set, and no field but the answers is changed
pub record Posts (image : List ℕ) (mains : ℕ) (rs : List Request) (index out : List ℕ) (number len : ℕ) (rs' : List Request) (index' out' : List ℕ) : Type 0 where
  pub post : Post image mains (the_requests rs) index out (answers rs) number len index' out' (answers rs')
  pub same : OnlyMarked rs rs'

-- an array of requests has so many places
abbrev pub listed : ℕ
listed = 100

-- the first so many records of an array are posted, and the others are left alone
pub record PostsFirst (image : List ℕ) (mains : ℕ) (rs : List Request) (count : ℕ) (index out : List ℕ) (number len : ℕ) (rs' : List Request)
    (index' out' : List ℕ) : Type 0 where
  pub posts : Posts image mains (take count rs) index out number len (take count rs') index' out'
  pub rest : drop count rs' ≡ drop count rs

-- the words of an index for tiles of 32 slots
abbrev pub own_words : ℕ
own_words = 2 * (short_tiles * 32)

-- a list of one is posted with the set and an index of its own: the whole call's refusal, or the record's answer
pub record PostsOne (image : List ℕ) (mains : ℕ) (q : calls.Request) (out : List ℕ) (number len : ℕ) (out' : List ℕ) : Type 0 where
  pub whole : ℕ
  pub answer : ℕ
  pub index : List ℕ
  pub index' : List ℕ
  pub index_holds : length index ≡ own_words
  pub posted : Post image mains (q ∷ []) index out (0 ∷ []) whole len index' out' (answer ∷ [])
  pub refused : (whole ≡ 0 → ⊥) → number ≡ whole
  pub done : whole ≡ 0 → number ≡ answer

-- all nodes, where the image holds a book
abbrev pub AllNodes : List ℕ → ℕ → Type 0
AllNodes image mains = LawfulImage image → mains ≡ all_nodes (nodes_of image)
