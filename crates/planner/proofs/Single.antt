-- A list of one with all nodes in the set and an index of its own is the single call.
use mathlib.Core.Path.{sym, subst}
use mathlib.Core.List.{List, [], ◌∷◌}
use Prim.Native.Nat.{ℕ}
use Rattle.rules.specs.Book.{Book}
use Rattle.rules.specs.Image.{encode, Stored}
use Rattle.rules.specs.Calls.{Request, Serve}
use Rattle.rules.proofs.Encoding.{version_back}
use Rattle.rules.proofs.Reading.{book_in, LawfulImage, book_back}
use Rattle.rules.proofs.Mains.{post_alike}
use Rattle.posting.specs.Posting.{PostsOne, AllNodes}

-- what holds a book is a lawful image
stored_lawful : {s : List ℕ} {v : ℕ} {b : Book} → Stored s v b → LawfulImage s
stored_lawful {s} {v} {b} h =
    let w = subst (λ (t : List ℕ). Stored t v b) h.bytes h in
    subst LawfulImage (sym h.bytes)
    (subst (λ (u : ℕ). Stored (encode v b) u (book_in (encode v b))) (sym (version_back v b)) (subst (Stored (encode v b) v) (sym (book_back w)) w))

pub serves_all : {image out out' : List ℕ} {mains : ℕ} {q : Request} {n len : ℕ} → AllNodes image mains → PostsOne image mains q out n len out'
    → Serve image q out n len out'
serves_all {q = q} all p = record {
  whole = p.whole;
  answer = p.answer;
  index = p.index;
  index' = p.index';
  index_holds = p.index_holds;
  posted = post_alike (q ∷ []) (0 ∷ []) (λ v b s. all (stored_lawful s)) p.posted;
  refused = p.refused;
  done = p.done;
}
