-- A book has one index, and a buffer holds it in one way.
use mathlib.Core.Path.{◌≡◌, sym, ap, ◌∙◌}
use mathlib.Core.List.{List, ◌++◌}
use Prim.Native.Nat.{ℕ, ◌+◌, ◌*◌, ◌/◌, ◌%◌, ◌<◌}
use native.Mathlib.Decide.{dec_lt}
use native.Mathlib.Omega.{arith}
use lib.ListN.{length, get_or, drop}
use lib.Seq.{ext_get_or}
use Rattle.rules.specs.Book.{Book}
use Rattle.rules.specs.Image.{plan_of, Stored}
use Rattle.rules.specs.Index.{index_length, IndexOf, Indexed}
use Rattle.rules.proofs.Sets.{set_unique}

pub index_unique : (b : Book) (xs ys : List ℕ) → IndexOf b xs → IndexOf b ys → xs ≡ ys
index_unique b xs ys g h = ext_get_or 0 xs ys (g.size ∙ sym h.size) (λ i l. go i l (dec_lt (i % 2) 1))
  where
    go : (i : ℕ) → i < length xs → Dec (i % 2 < 1) → get_or xs i 0 ≡ get_or ys i 0
    go i l (yes z) =
        let e : i ≡ 2 * (i / 2) = omega arith in
        rw e (set_unique (λ k m. m) (λ k m. m) (g.sending (i / 2) (omega (arith, g.size))) (h.sending (i / 2) (omega (arith, g.size))))
    go i l (no z) =
        let e : i ≡ 2 * (i / 2) + 1 = omega arith in
        rw e (set_unique (λ k m. m) (λ k m. m) (g.receiving (i / 2) (omega (arith, g.size))) (h.receiving (i / 2) (omega (arith, g.size))))

pub indexed_unique : (b : Book) (before xs ys : List ℕ) → Indexed b before xs → Indexed b before ys → xs ≡ ys
indexed_unique b before xs ys g h =
    g.buffer ∙ ap (λ (w : List ℕ). w ++ drop (length w) before) (index_unique b g.words h.words g.index h.index) ∙ sym h.buffer

-- the index of a stored book is as long as its image says
pub stored_index : {s : List ℕ} {v : ℕ} {b : Book} → Stored s v b → index_length (plan_of s) ≡ index_length b.site.plan
stored_index h = ap (λ (x : List ℕ). index_length (plan_of x)) h.bytes
