-- The index that is computed is the book's.
use mathlib.Core.Path.{◌≡◌, refl, sym, ap, ◌∙◌, subst}
use mathlib.Core.Logic.{inl, inr}
use mathlib.Core.Bool.{Bool, true, false, ◌&&◌}
use mathlib.Core.List.{List, [], ◌∷◌}
use Prim.Native.Nat.{ℕ, zero, suc, ◌+◌, ◌*◌, ◌/◌, ◌<◌}
use native.Mathlib.Nat.{pow-suc, add-zero, zero-add}
use native.Mathlib.Omega.{arith}
use lib.Dec.{eqb, leb}
use lib.ListN.{length, get_or}
use Rattle.rules.specs.Words.{Has, NoBitFrom, SetOf, ◌∈◌, Tests}
use Rattle.rules.specs.Tiles.{slots_of, short_tiles}
use Rattle.rules.specs.Topology.{Hop}
use Rattle.rules.specs.Book.{Row, Book, hops, row_hop, row_offset}
use Rattle.rules.specs.Index.{Marks, IndexOf}
use Rattle.rules.proofs.Tests.{alike, tests_and, tests_eq, tests_le, some_below, tests_some, tests_member}
use Rattle.rules.proofs.Counts.{if_so}
use Rattle.rules.proofs.Sets.{bit_zero, bit_suc, zero_none}
use Rattle.rules.proofs.Slots.{takes, tests_takes}
use Rattle.theorems.specs.model.Index.{set_below, marks, words_from, index_of}
use Rattle.theorems.proofs.model.Answers.{Workable}

-- A SET from a test
if_so_lem : (t : Bool) → if_so t < 2
if_so_lem true = omega arith
if_so_lem false = omega arith

set_low : (w : ℕ) (f : ℕ → Bool) → NoBitFrom w (set_below w f)
set_low zero f = omega arith
set_low (suc w) f = omega (arith, pow-suc 2 w, if_so_lem (f 0), set_low w (λ k. f (suc k)))

so_true : (t : Bool) → if_so t ≡ 1 → t ≡ true
so_true true e = refl
so_true false e = absurd (omega arith)

-- the other bits are those of the half
half : (w : ℕ) (f : ℕ → Bool) → set_below (suc w) f / 2 ≡ set_below w (λ (k : ℕ). f (suc k))
half w f = omega (arith, if_so_lem (f 0))

set_only : (w : ℕ) (f : ℕ → Bool) (k : ℕ) → Has (set_below w f) k → f k ≡ true
set_only zero f k h = absurd (zero_none k h)
set_only (suc w) f zero h = so_true (f 0) (omega (arith, if_so_lem (f 0), sym (bit_zero (set_below (suc w) f)) ∙ h))
set_only (suc w) f (suc k) h =
    set_only w (λ k. f (suc k)) k (subst (λ (n : ℕ). Has n k) (half w f) (sym (bit_suc (set_below (suc w) f) k) ∙ h))

set_all : (w : ℕ) (f : ℕ → Bool) (k : ℕ) → k < w → f k ≡ true → Has (set_below w f) k
set_all zero f k l e = absurd (omega arith)
set_all (suc w) f zero l e = bit_zero (set_below (suc w) f) ∙ omega (arith, ap if_so e)
set_all (suc w) f (suc k) l e =
    bit_suc (set_below (suc w) f) k ∙ subst (λ (n : ℕ). Has n k) (sym (half w f)) (set_all w (λ k. f (suc k)) k (omega arith) e)

set_of : {P : ℕ → Type 0} (f : ℕ → Bool) → ((k : ℕ) → Tests (f k) (P k)) → ((k : ℕ) → P k → k < 64) → SetOf P (set_below 64 f)
set_of f t low = record {
  fits = set_low 64 f;
  only = λ k h. (t k).yes (set_only 64 f k h);
  all = λ k p. set_all 64 f k (low k p) ((t k).back p);
}

-- WHAT A SLOT HAS
module _ (end : Hop → ℕ) (b : Book) (slot : ℕ) where
  tests_marks : (node : ℕ) → Tests (marks end b slot node) (Marks end b slot node)
  tests_marks node =
      alike
      (tests_member (λ r. leb r.period short_tiles && some_below (hops r) (λ (i : ℕ). at r i && eqb node (end (row_hop r i))))
      (λ r. tests_and (tests_le r.period short_tiles) (tests_some (λ i. at r i && eqb node (end (row_hop r i)))
      (λ i. tests_and (tests_takes b.site.plan.slots r.period (row_offset r i) slot) (tests_eq node (end (row_hop r i)))) (hops r))) b.rows)
      (λ p. record { row = p.0; hop = p.2.1.0; active = record { row = p.1; hop = p.2.1.1; takes = p.2.1.2.0 }; short = p.2.0; at = p.2.1.2.1 })
      (λ m. (m.row, m.active.row, (m.short, (m.hop, m.active.hop, (m.active.takes, m.at)))))
    where
      at : Row → ℕ → Bool
      at r i = takes b.site.plan.slots r.period (row_offset r i) slot

-- a node of a list of nodes below 64, or 0 behind its end
node_low : (xs : List ℕ) → ((a : ℕ) → a ∈ xs → a < 64) → (i : ℕ) → get_or xs i 0 < 64
node_low [] h i = omega arith
node_low (x ∷ xs) h zero = h x (inl refl)
node_low (x ∷ xs) h (suc i) = node_low xs (λ a m. h a (inr m)) i

module _ (b : Book) (w : Workable b) where
  route_low : (r : Row) → r ∈ b.rows → (i : ℕ) → get_or r.route i 0 < 64
  route_low r m = node_low r.route (λ a k. omega (arith, w.known r m a k, w.few))

  sending : (slot : ℕ) → SetOf (Marks (λ (h : Hop). h.from) b slot) (set_below 64 (marks (λ (h : Hop). h.from) b slot))
  sending slot =
      set_of (marks (λ h. h.from) b slot) (tests_marks (λ h. h.from) b slot)
      (λ k m. subst (λ (a : ℕ). a < 64) (sym m.at) (route_low m.row m.active.row m.hop))

  receiving : (slot : ℕ) → SetOf (Marks (λ (h : Hop). h.to) b slot) (set_below 64 (marks (λ (h : Hop). h.to) b slot))
  receiving slot =
      set_of (marks (λ h. h.to) b slot) (tests_marks (λ h. h.to) b slot)
      (λ k m. subst (λ (a : ℕ). a < 64) (sym m.at) (route_low m.row m.active.row (suc m.hop)))

  -- THE WORDS
  words_length : (n slot : ℕ) → length (words_from b n slot) ≡ 2 * n
  words_length zero slot = refl
  words_length (suc n) slot = let h = words_length n (suc slot) in omega arith

  module _ (P : ℕ → ℕ → Type 0) where
    sends_at : ((slot : ℕ) → P slot (set_below 64 (marks (λ (h : Hop). h.from) b slot))) → (n from k : ℕ) → k < n → P (from + k) (get_or (words_from b n from) (2 * k) 0)
    sends_at h zero from k l = absurd (omega arith)
    sends_at h (suc n) from zero l = subst (λ (x : ℕ). P x (set_below 64 (marks (λ (h : Hop). h.from) b from))) (sym (add-zero from)) (h from)
    sends_at h (suc n) from (suc k) l =
        let e : 2 * suc k ≡ suc (suc (2 * k)) = omega arith in
        let g : suc from + k ≡ from + suc k = omega arith in
        subst (λ (x : ℕ). P (from + suc k) (get_or (words_from b (suc n) from) x 0)) (sym e)
        (subst (λ (x : ℕ). P x (get_or (words_from b n (suc from)) (2 * k) 0)) g (sends_at h n (suc from) k (omega arith)))

    receives_at : ((slot : ℕ) → P slot (set_below 64 (marks (λ (h : Hop). h.to) b slot))) → (n from k : ℕ) → k < n → P (from + k) (get_or (words_from b n from) (2 * k + 1) 0)
    receives_at h zero from k l = absurd (omega arith)
    receives_at h (suc n) from zero l = subst (λ (x : ℕ). P x (set_below 64 (marks (λ (h : Hop). h.to) b from))) (sym (add-zero from)) (h from)
    receives_at h (suc n) from (suc k) l =
        let e : 2 * suc k + 1 ≡ suc (suc (2 * k + 1)) = omega arith in
        let g : suc from + k ≡ from + suc k = omega arith in
        subst (λ (x : ℕ). P (from + suc k) (get_or (words_from b (suc n) from) x 0)) (sym e)
        (subst (λ (x : ℕ). P x (get_or (words_from b n (suc from)) (2 * k + 1) 0)) g (receives_at h n (suc from) k (omega arith)))

  pub index_computed : IndexOf b (index_of b)
  index_computed = record {
    size = words_length (slots_of b.site.plan short_tiles) 0;
    sending = λ slot l. subst (λ (t : ℕ). SetOf (Marks (λ (h : Hop). h.from) b t) (get_or (index_of b) (2 * slot) 0)) (zero-add slot)
        (sends_at (λ slot. SetOf (Marks (λ (h : Hop). h.from) b slot)) sending (slots_of b.site.plan short_tiles) 0 slot l);
    receiving = λ slot l. subst (λ (t : ℕ). SetOf (Marks (λ (h : Hop). h.to) b t) (get_or (index_of b) (2 * slot + 1) 0)) (zero-add slot)
        (receives_at (λ slot. SetOf (Marks (λ (h : Hop). h.to) b slot)) receiving (slots_of b.site.plan short_tiles) 0 slot l);
  }
