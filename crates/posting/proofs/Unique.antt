-- Two results that the contract of a posting allows are equal: number, length, every word of the index, every byte of the output and every field of every record.
use mathlib.Core.Path.{◌≡◌, refl, sym, ap, ◌∙◌}
use mathlib.Core.List.{List, [], ◌∷◌, head-eq_of_cons-eq, tail-eq_of_cons-eq}
use Prim.Native.Nat.{ℕ}
use Rattle.rules.proofs.Unique.{Same, one_post}
use Rattle.posting.specs.declared.Request.{Request}
use Rattle.posting.specs.Records.{the_requests, answers, with_answer, OnlyMarked}
use Rattle.posting.specs.Posting.{Posts}

-- records with the same answers, and no other field changed, are the same
same_marked : (rs xs ys : List Request) → OnlyMarked rs xs → OnlyMarked rs ys → answers xs ≡ answers ys → xs ≡ ys
same_marked [] [] [] p q e = refl
same_marked [] [] (y ∷ ys) p q e = absurd q
same_marked [] (x ∷ xs) ys p q e = absurd p
same_marked (r ∷ rs) [] ys p q e = absurd p
same_marked (r ∷ rs) (x ∷ xs) [] p q e = absurd q
same_marked (r ∷ rs) (x ∷ xs) (y ∷ ys) p q e = λ i. first i ∷ same_marked rs xs ys p.1 q.1 (tail-eq_of_cons-eq e) i
  where
    first : x ≡ y
    first = p.0 ∙ ap (with_answer r) (head-eq_of_cons-eq e) ∙ sym q.0

pub one_posts : (image : List ℕ) (mains : ℕ) (rs : List Request) (index out : List ℕ) {n n' len len' : ℕ} {xs xs' : List Request} {x x' o o' : List ℕ}
    → Posts image mains rs index out n len xs x o → Posts image mains rs index out n' len' xs' x' o' → Same n len o n' len' o' × (xs ≡ xs') × (x ≡ x')
one_posts image mains rs index out {xs = xs} {xs'} {x} {x'} g h =
    let t = one_post image mains (the_requests rs) out (answers rs) index x (answers xs) x' (answers xs') g.post h.post in
    (t.0, same_marked rs xs xs' g.same h.same t.1, t.2)
