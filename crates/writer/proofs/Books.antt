-- The parts of an image with rows more, or rows less, are the image of that book.
use mathlib.Core.Path.{◌≡◌, refl, sym, ◌∙◌, ap, ap₂}
use mathlib.Core.List.{List, [], ◌∷◌, ◌++◌, append_assoc}
use Prim.Native.Nat.{ℕ, suc, ◌+◌, ◌-◌, ◌≤◌}
use native.Mathlib.Omega.{arith}
use lib.ListN.{length, take, drop, length-append, length-drop}
use lib.Seq.{take_at, drop_at, drop-drop}
use Rattle.rules.specs.Words.{total}
use Rattle.rules.specs.Topology.{nodes}
use Rattle.rules.specs.Book.{Row, Book, hops, hops_in_all}
use Rattle.rules.specs.Image.{newest, header_length, word, in_turn, encode_header, encode_site, encode_row, encode, version_of, rows_place}
use Rattle.rules.proofs.Reading.{with_rows, rows_in, LawfulImage}
use Rattle.image.proofs.Stands.{stored_rows, stored_length}
use Rattle.writer.specs.Over.{headed}

pub in_turn_append : {A : Type 0} (f : A → List ℕ) (xs ys : List A) → in_turn f (xs ++ ys) ≡ in_turn f xs ++ in_turn f ys
in_turn_append f [] ys = refl
in_turn_append f (x ∷ xs) ys = rw (in_turn_append f xs ys) (sym (append_assoc (f x) (in_turn f xs) (in_turn f ys)))

pub total_append : {A : Type 0} (f : A → ℕ) (xs ys : List A) → total f (xs ++ ys) ≡ total f xs + total f ys
total_append f [] ys = omega arith
total_append f (x ∷ xs) ys = let h = total_append f xs ys in omega arith

-- the last rows of an image stand no further in front than all of them
pub rows_low : {s : List ℕ} {at : ℕ} (xs ys : List Row) → LawfulImage s → rows_in s ≡ xs ++ ys → at ≤ length s → drop at s ≡ in_turn (encode_row (version_of s)) ys → rows_place s ≤ at
rows_low {s} {at} xs ys w split inside bytes =
    let f = encode_row (version_of s) in
    let all : length (in_turn f (rows_in s)) ≡ length (in_turn f xs) + length (in_turn f ys) =
    ap length (ap (in_turn f) split ∙ in_turn_append f xs ys) ∙ length-append (in_turn f xs) (in_turn f ys) in
    omega (arith, all, ap length (stored_rows w).fill, length-drop (rows_place s) s, ap length bytes, length-drop at s, stored_length w)

module _ (b : Book) (xs ys : List Row) (split : b.rows ≡ xs ++ ys) where
  abbrev sited : List ℕ
  sited = encode_site newest b.site

  abbrev front : List ℕ
  front = sited ++ in_turn (encode_row newest) xs

  body : sited ++ in_turn (encode_row newest) b.rows ≡ front ++ in_turn (encode_row newest) ys
  body =
      ap (λ (rows : List Row). sited ++ in_turn (encode_row newest) rows) split
      ∙ ap (λ (l : List ℕ). sited ++ l) (in_turn_append (encode_row newest) xs ys) ∙ sym (append_assoc sited (in_turn (encode_row newest) xs) (in_turn (encode_row newest) ys))

  pub length_body : length (encode newest b) ≡ header_length + (length front + length (in_turn (encode_row newest) ys))
  length_body =
      let e : length (encode newest b) ≡ 16 + length (sited ++ in_turn (encode_row newest) b.rows) = omega arith in
      let f = ap length body ∙ length-append front (in_turn (encode_row newest) ys) in
      omega arith

  module _ (at : ℕ) (inside : at ≤ length (encode newest b)) (behind : drop at (encode newest b) ≡ in_turn (encode_row newest) ys) where
    place : at ≡ header_length + length front
    place = omega (arith, length_body, ap length behind, length-drop at (encode newest b))

    -- the front with other counts is that of another book
    pub headed_encode : (n h : ℕ) → headed (encode newest b) at n h ≡ encode_header newest b.site.plan (nodes b.site.links) n h ++ front
    unfolding headed
    headed_encode n h =
        let f : at - 15 ≡ suc (length front) = omega (arith, place) in
        let g : take (length front) (sited ++ in_turn (encode_row newest) b.rows) ≡ front = ap (take (length front)) body
        ∙ take_at front (in_turn (encode_row newest) ys) (length front) refl in
        let e : take (at - 15) (drop 15 (encode newest b)) ≡ 0 ∷ front = ap (λ (k : ℕ). take k (drop 15 (encode newest b))) f ∙ ap (λ (l : List ℕ). 0 ∷ l) g in
        ap (λ (l : List ℕ). take 12 (encode newest b) ++ (n ∷ word h) ++ l) e

    -- rows more, in front of those that stand from the place on
    pub rows_more : (new : List Row)
        → headed (encode newest b) at (length b.rows + length new) (hops_in_all b.rows + hops_in_all new) ++ in_turn (encode_row newest) new ++ drop at (encode newest b)
        ≡ encode newest (with_rows b (xs ++ (new ++ ys)))
    rows_more new =
        let n : length b.rows + length new ≡ length (xs ++ (new ++ ys)) = omega
        (arith, ap length split, length-append xs ys, length-append xs (new ++ ys), length-append new ys) in
        let h : hops_in_all b.rows + hops_in_all new ≡ hops_in_all (xs ++ (new ++ ys)) = omega
        (arith, ap hops_in_all split, total_append hops xs ys, total_append hops xs (new ++ ys), total_append hops new ys) in
        let t : front ++ in_turn (encode_row newest) new ++ in_turn (encode_row newest) ys ≡ sited ++ in_turn (encode_row newest) (xs ++ (new ++ ys)) =
        append_assoc front (in_turn (encode_row newest) new) (in_turn (encode_row newest) ys)
        ∙ ap (λ (l : List ℕ). front ++ l) (sym (in_turn_append (encode_row newest) new ys))
        ∙ append_assoc sited (in_turn (encode_row newest) xs) (in_turn (encode_row newest) (new ++ ys))
        ∙ ap (λ (l : List ℕ). sited ++ l) (sym (in_turn_append (encode_row newest) xs (new ++ ys))) in
        ap₂ (λ (a c : List ℕ). a ++ in_turn (encode_row newest) new ++ c) (headed_encode (length b.rows + length new) (hops_in_all b.rows + hops_in_all new)) behind
        ∙ ap₂ (λ (n h : ℕ). encode_header newest b.site.plan (nodes b.site.links) n h ++ (front ++ in_turn (encode_row newest) new ++ in_turn (encode_row newest) ys)) n h
        ∙ ap (λ (l : List ℕ). encode_header newest b.site.plan (nodes b.site.links) (length (xs ++ (new ++ ys))) (hops_in_all (xs ++ (new ++ ys))) ++ l) t

-- rows less: the first of those that stand from the place on
pub rows_less : (b : Book) (xs gone ys : List Row) (split : b.rows ≡ xs ++ (gone ++ ys)) (at next n h : ℕ) → at ≤ length (encode newest b)
    → drop at (encode newest b) ≡ in_turn (encode_row newest) (gone ++ ys)
    → next ≡ at + length (in_turn (encode_row newest) gone) → n + length gone ≡ length b.rows → h + hops_in_all gone ≡ hops_in_all b.rows
    → headed (encode newest b) at n h ++ drop next (encode newest b) ≡ encode newest (with_rows b (xs ++ ys))
rows_less b xs gone ys split at next n h inside behind e f g =
    let bytes : List ℕ = in_turn (encode_row newest) gone in
    let rest : drop next (encode newest b) ≡ in_turn (encode_row newest) ys =
    ap (λ (k : ℕ). drop k (encode newest b)) e ∙ sym (drop-drop (length bytes) at (encode newest b))
    ∙ ap (drop (length bytes)) (behind ∙ in_turn_append (encode_row newest) gone ys)
    ∙ drop_at bytes (in_turn (encode_row newest) ys) (length bytes) refl in
    let n' : n ≡ length (xs ++ ys) = omega (arith, ap length split, length-append xs ys, length-append xs (gone ++ ys), length-append gone ys) in
    let h' : h ≡ hops_in_all (xs ++ ys) = omega
    (arith, ap hops_in_all split, total_append hops xs ys, total_append hops xs (gone ++ ys), total_append hops gone ys) in
    let t : front b xs (gone ++ ys) split ++ in_turn (encode_row newest) ys ≡ encode_site newest b.site ++ in_turn (encode_row newest) (xs ++ ys) =
    append_assoc (encode_site newest b.site) (in_turn (encode_row newest) xs) (in_turn (encode_row newest) ys)
    ∙ ap (λ (l : List ℕ). encode_site newest b.site ++ l) (sym (in_turn_append (encode_row newest) xs ys)) in
    ap₂ ◌++◌ (headed_encode b xs (gone ++ ys) split at inside behind n h) rest
    ∙ ap₂ (λ (n h : ℕ). encode_header newest b.site.plan (nodes b.site.links) n h ++ (front b xs (gone ++ ys) split ++ in_turn (encode_row newest) ys)) n' h'
    ∙ ap (λ (l : List ℕ). encode_header newest b.site.plan (nodes b.site.links) (length (xs ++ ys)) (hops_in_all (xs ++ ys)) ++ l) t
