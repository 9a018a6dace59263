-- The row at a place of an image, by the bytes that stand there, and that those bytes are what is written of it.
use mathlib.Core.Path.{◌≡◌, refl, sym, ap, ap₂, ◌∙◌, subst}
use mathlib.Core.Bool.{Bool, true, false, cond}
use mathlib.Core.List.{List, [], ◌∷◌, ◌++◌, append_assoc}
use Prim.Native.Nat.{ℕ, zero, suc, ◌+◌, ◌*◌, ◌<◌, ◌≤◌, ◌-◌}
use native.Mathlib.Omega.{arith}
use lib.Arith.{digits_div, digits_mod}
use lib.ListN.{length, get_or, take, drop, take-append-drop, length-take, length-drop}
use lib.Seq.{get_or-take, get_or-drop, drop-drop}
use Rattle.rules.specs.Tiles.{ShortPeriod}
use Rattle.rules.specs.Book.{Row, hops, row_offset}
use Rattle.rules.specs.Image.{has_ways, has_wide, has_accounts, RowFits, period_place, hops_place, row_length, word, in_turn, held, encode_period, encode_row, word_at}
use Rattle.rules.proofs.Encoding.{words_at, hops_in, body_in, front_row, Sized}
use Rattle.rules.proofs.Written.{older, Bytes}

-- NUMBERS
word_drop : (k : ℕ) (s : List ℕ) (i j : ℕ) → k + i ≡ j → word_at (drop k s) i ≡ word_at s j
word_drop k s i j e =
    let f : k + (i + 1) ≡ j + 1 = omega arith in
    let a : get_or (drop k s) i 0 ≡ get_or s j 0 = get_or-drop k s i 0 ∙ ap (λ (n : ℕ). get_or s n 0) e in
    let b : get_or (drop k s) (i + 1) 0 ≡ get_or s (j + 1) 0 = get_or-drop k s (i + 1) 0 ∙ ap (λ (n : ℕ). get_or s n 0) f in
    ap₂ (λ (x y : ℕ). x * 256 + y) a b

words_at_lem : (n : ℕ) (s : List ℕ) (i : ℕ) → i < n → get_or (words_at n s) i 0 ≡ word_at s (2 * i)
words_at_lem zero s i l = absurd (omega arith)
words_at_lem (suc n) s zero l = refl
words_at_lem (suc n) s (suc i) l = words_at_lem n (drop 2 s) i (omega arith) ∙ word_drop 2 s (2 * i) (2 * suc i) (omega arith)

length_words_at : (n : ℕ) (s : List ℕ) → length (words_at n s) ≡ n
length_words_at zero s = refl
length_words_at (suc n) s = ap suc (length_words_at n (drop 2 s))

-- what stands behind some bytes is bytes
pub bytes_drop : (k : ℕ) (s : List ℕ) → Bytes s → Bytes (drop k s)
bytes_drop k s b i = subst (λ (x : ℕ). x < 256) (sym (get_or-drop k s i 0)) (b (k + i))

words_written : (n : ℕ) (t : List ℕ) → Bytes t → 2 * n ≤ length t → t ≡ in_turn word (words_at n t) ++ drop (2 * n) t
words_written zero t b l = refl
words_written (suc n) [] b l = absurd (omega arith)
words_written (suc n) (x ∷ []) b l = absurd (omega arith)
words_written (suc n) (x ∷ y ∷ t) b l =
    let e : 2 * suc n ≡ suc (suc (2 * n)) = omega arith in
    let rest : t ≡ in_turn word (words_at n t) ++ drop (2 * suc n) (x ∷ y ∷ t) =
    words_written n t (λ i. b (suc (suc i))) (omega arith) ∙ ap (λ (k : ℕ). in_turn word (words_at n t) ++ drop k (x ∷ y ∷ t)) (sym e) in
    λ i. sym (digits_div x (b 1)) i ∷ sym (digits_mod x (b 1)) i ∷ rest i

-- THE ROW AT A PLACE
module _ (v : ℕ) (s : List ℕ) (at : ℕ) where
  pub front_id : (front_row v (drop at s)).id ≡ word_at s at
  front_id = word_drop at s 0 at (omega arith)

  pub front_way : (front_row v (drop at s)).way ≡ cond (has_ways v) (get_or s (at + 2) 0) 1
  front_way = ap (λ (n : ℕ). cond (has_ways v) n 1) (get_or-drop at s 2 0)

  pub front_period : (front_row v (drop at s)).period ≡ cond (has_wide v) (word_at s (at + period_place v)) (get_or s (at + period_place v) 0)
  front_period = ap₂ (cond (has_wide v)) (word_drop at s (period_place v) (at + period_place v) refl) (get_or-drop at s (period_place v) 0)

  pub front_count : hops_in v (drop at s) ≡ get_or s (at + hops_place v) 0
  front_count = get_or-drop at s (hops_place v) 0

  pub front_account : (front_row v (drop at s)).account ≡ cond (has_accounts v) (word_at s (at + (hops_place v + 2 + 3 * get_or s (at + hops_place v) 0))) 0
  front_account =
      ap (λ (h : ℕ). cond (has_accounts v) (word_at (drop at s) (hops_place v + 2 + 3 * h)) 0) front_count
      ∙ ap (λ (n : ℕ). cond (has_accounts v) n 0) (word_drop at s (hops_place v + 2 + 3 * get_or s (at + hops_place v) 0) _ refl)

  module _ (l : at + (row_length v + 3 * get_or s (at + hops_place v) 0) ≤ length s) where
    pub front_hops : hops (front_row v (drop at s)) ≡ get_or s (at + hops_place v) 0
    front_hops = simp (length-take, length-drop) (omega (arith, front_count, l))

    pub front_node : (i : ℕ) → i ≤ hops (front_row v (drop at s)) → get_or (front_row v (drop at s)).route i 0 ≡ get_or s (at + (hops_place v + 1) + i) 0
    front_node i m =
        let h : ℕ = hops_in v (drop at s) in
        let k : i < h + 1 = omega (arith, front_hops, front_count) in
        let e : at + (hops_place v + 1 + i) ≡ at + (hops_place v + 1) + i = omega arith in
        get_or-take (h + 1) (body_in v (drop at s)) i 0 k ∙ get_or-drop (hops_place v + 1) (drop at s) i 0
        ∙ get_or-drop at s (hops_place v + 1 + i) 0 ∙ ap (λ (n : ℕ). get_or s n 0) e

    pub front_offset : (i : ℕ) → i < hops (front_row v (drop at s))
        → row_offset (front_row v (drop at s)) i ≡ word_at s (at + (hops_place v + 2) + hops (front_row v (drop at s)) + 2 * i)
    front_offset i m =
        let h : ℕ = hops_in v (drop at s) in
        let p : ℕ = hops_place v + 1 in
        let k : i < h = omega (arith, front_hops, front_count) in
        let e : at + (p + (h + 1 + 2 * i)) ≡ at + (hops_place v + 2) + hops (front_row v (drop at s)) + 2 * i = omega (arith, front_hops, front_count) in
        words_at_lem h (drop (h + 1) (drop p (drop at s))) i k ∙ word_drop (h + 1) (drop p (drop at s)) (2 * i) (h + 1 + 2 * i) refl
        ∙ word_drop p (drop at s) (h + 1 + 2 * i) (p + (h + 1 + 2 * i)) refl
        ∙ word_drop at s (p + (h + 1 + 2 * i)) (at + (hops_place v + 2) + hops (front_row v (drop at s)) + 2 * i) e

    -- it has as many offsets as hops, and one node more
    pub front_sized : Sized v (front_row v (drop at s))
    front_sized = record {
      nodes = simp (length-take, length-drop) (omega (arith, front_count, l));
      offsets = length_words_at (hops_in v (drop at s)) (drop (hops_in v (drop at s) + 1) (body_in v (drop at s))) ∙ front_count ∙ sym front_hops;
    }

-- the version holds what it reads, if it holds the period
pub front_fits : (v : ℕ) (s : List ℕ) → (has_wide v ≡ false → ShortPeriod (front_row v s).period) → RowFits v (front_row v s)
front_fits v s f = record { one_way = older (has_ways v) _ 1; short = f; old_account = older (has_accounts v) _ 0 }

-- WHAT IS READ IS WRITTEN AGAIN
head_written : (t w : Bool) (s : List ℕ) → Bytes s → 2 + cond t 1 0 + 1 + cond w 1 0 + 1 ≤ length s
    → s
    ≡ word (word_at s 0) ++ held t (cond t (get_or s 2 0) 1 ∷ []) ++ encode_period w (cond w (word_at s (2 + cond t 1 0)) (get_or s (2 + cond t 1 0) 0))
    ++ (get_or s (2 + cond t 1 0 + 1 + cond w 1 0) 0 ∷ []) ++ drop (2 + cond t 1 0 + 1 + cond w 1 0 + 1) s
head_written t w [] b l = absurd (omega arith)
head_written t w (x ∷ []) b l = absurd (omega arith)
head_written t w (x ∷ y ∷ []) b l = absurd (omega arith)
head_written t w (x ∷ y ∷ z ∷ []) b l = absurd (omega arith)
head_written true true (x ∷ y ∷ w ∷ k ∷ []) b l = absurd (omega arith)
head_written true true (x ∷ y ∷ w ∷ k ∷ m ∷ []) b l = absurd (omega arith)
head_written true true (x ∷ y ∷ w ∷ k ∷ m ∷ h ∷ s) b l =
    λ i. sym (digits_div x (b 1)) i ∷ sym (digits_mod x (b 1)) i ∷ w ∷ sym (digits_div k (b 4)) i ∷ sym (digits_mod k (b 4)) i ∷ h ∷ s
head_written true false (x ∷ y ∷ w ∷ k ∷ []) b l = absurd (omega arith)
head_written true false (x ∷ y ∷ w ∷ k ∷ h ∷ s) b l = λ i. sym (digits_div x (b 1)) i ∷ sym (digits_mod x (b 1)) i ∷ w ∷ k ∷ h ∷ s
head_written false true (x ∷ y ∷ k ∷ m ∷ []) b l = absurd (omega arith)
head_written false true (x ∷ y ∷ k ∷ m ∷ h ∷ s) b l =
    λ i. sym (digits_div x (b 1)) i ∷ sym (digits_mod x (b 1)) i ∷ sym (digits_div k (b 3)) i ∷ sym (digits_mod k (b 3)) i ∷ h ∷ s
head_written false false (x ∷ y ∷ k ∷ h ∷ s) b l = λ i. sym (digits_div x (b 1)) i ∷ sym (digits_mod x (b 1)) i ∷ k ∷ h ∷ s

-- the account at the end, where the version holds it
end_written : (t : Bool) (s : List ℕ) → Bytes s → cond t 2 0 ≤ length s → s ≡ held t (word (cond t (word_at s 0) 0)) ++ drop (cond t 2 0) s
end_written true [] b l = absurd (omega arith)
end_written true (x ∷ []) b l = absurd (omega arith)
end_written true (x ∷ y ∷ s) b l = λ i. sym (digits_div x (b 1)) i ∷ sym (digits_mod x (b 1)) i ∷ s
end_written false s b l = refl

module _ (v : ℕ) (s : List ℕ) (b : Bytes s) (l : row_length v + 3 * hops_in v s ≤ length s) where
  -- what stands behind the nodes and the offsets
  account_written : drop (hops_place v + 2 + 3 * hops_in v s) s ≡ held (has_accounts v) (word (front_row v s).account) ++ drop (row_length v + 3 * hops_in v s) s
  account_written =
      let k : ℕ = hops_place v + 2 + 3 * hops_in v s in
      let n : ℕ = cond (has_accounts v) 2 0 in
      let e : k + n ≡ row_length v + 3 * hops_in v s = omega arith in
      let long : n ≤ length (drop k s) = simp length-drop (omega (arith, l)) in
      end_written (has_accounts v) (drop k s) (bytes_drop k s b) long
      ∙ ap₂ (λ (m : ℕ) (x : List ℕ). held (has_accounts v) (word (cond (has_accounts v) m 0)) ++ x) (word_drop k s 0 k (omega arith))
      (drop-drop n k s ∙ ap (λ (m : ℕ). drop m s) e)

  body_written : body_in v s
      ≡ (front_row v s).route ++ (in_turn word (front_row v s).offsets ++ (held (has_accounts v) (word (front_row v s).account) ++ drop (row_length v + 3 * hops_in v s) s))
  body_written =
      let h : ℕ = hops_in v s in
      let u : List ℕ = body_in v s in
      let long : length u ≡ length s - (hops_place v + 1) = length-drop (hops_place v + 1) s in
      let e : hops_place v + 1 + (h + 1 + 2 * h) ≡ hops_place v + 2 + 3 * h = omega arith in
      let behind : drop (h + 1) u ≡ in_turn word (words_at h (drop (h + 1) u)) ++ drop (2 * h) (drop (h + 1) u) =
      words_written h (drop (h + 1) u) (bytes_drop (h + 1) u (bytes_drop (hops_place v + 1) s b)) (simp length-drop (omega arith)) in
      let rest : drop (2 * h) (drop (h + 1) u) ≡ drop (hops_place v + 2 + 3 * h) s =
      drop-drop (2 * h) (h + 1) u ∙ drop-drop (h + 1 + 2 * h) (hops_place v + 1) s ∙ ap (λ (n : ℕ). drop n s) e in
      sym (take-append-drop (h + 1) u)
      ∙ ap (λ (x : List ℕ). take (h + 1) u ++ x) (behind ∙ ap (λ (x : List ℕ). in_turn word (words_at h (drop (h + 1) u)) ++ x) (rest ∙ account_written))

  pub front_written : s ≡ encode_row v (front_row v s) ++ drop (row_length v + 3 * hops_in v s) s
  front_written =
      let r : Row = front_row v s in
      let count : hops_in v s ≡ hops r = simp (length-take, length-drop) (omega (arith, l)) in
      head_written (has_ways v) (has_wide v) s b (omega (arith, l))
      ∙ ap₂ (λ (n : ℕ) (x : List ℕ). word r.id ++ held (has_ways v) (r.way ∷ []) ++ encode_period (has_wide v) r.period ++ (n ∷ []) ++ x) count body_written
      ∙ simp append_assoc
