-- The set that a call is given: all N nodes have no bit from N up, and where an image is refused the set is not asked.
use mathlib.Core.Path.{◌≡◌, ap, subst}
use mathlib.Core.Logic.{inl, inr}
use mathlib.Core.List.{List}
use Prim.Native.Nat.{ℕ}
use native.Mathlib.Omega.{arith}
use lib.ListN.{length}
use lib.Pow.{pow_pos}
use Rattle.rules.specs.Words.{NoBitFrom}
use Rattle.rules.specs.Says.{Says}
use Rattle.rules.specs.Topology.{nodes, all_nodes}
use Rattle.rules.specs.Book.{Book}
use Rattle.rules.specs.Image.{nodes_of, Stored}
use Rattle.rules.specs.Index.{Indexed}
use Rattle.rules.specs.Calls.{SaysOf, Request, Work, InOrder, post_refusals, Posted, Post}

-- the nodes that an image states are those of its book
pub stored_nodes : {s : List ℕ} {v : ℕ} {b : Book} → Stored s v b → nodes_of s ≡ nodes b.site.links
stored_nodes h = ap nodes_of h.bytes

-- no bit of all N nodes is from N up
pub all_below : (N : ℕ) → NoBitFrom N (all_nodes N)
all_below N = omega (arith, pow_pos N)

-- sets that are the same where the image holds a book post a list alike
pub post_alike : {image : List ℕ} {mains mains' : ℕ} {index out index' out' answers' : List ℕ} {number len : ℕ} (qs : List Request) (answers : List ℕ)
    → ((v : ℕ) (b : Book) → Stored image v b → mains ≡ mains') → Post image mains qs index out answers number len index' out' answers'
    → Post image mains' qs index out answers number len index' out' answers'
post_alike {image} {mains} {mains'} {index} {out} {index'} {out'} {answers'} {number} {len} qs answers e p = record {
  says = go p.says;
  refused = p.refused;
  done = λ z.
      let (v, b, s, d) = p.done z in
      (v, b, s, subst (λ (k : ℕ). (c : Book) × InOrder (Work k) b qs answers' c × Posted answers' c out len out' × Indexed c index index') (e v b s) d);
}
  where
    go : SaysOf image (post_refusals mains (length qs) (length out) (length index)) number → SaysOf image (post_refusals mains' (length qs) (length out) (length index)) number
    go (inl n) = inl n
    go (inr (v, b, s, n)) = inr (v, b, s, subst (λ (k : ℕ). Says (post_refusals k (length qs) (length out) (length index) v b) number) (e v b s) n)
