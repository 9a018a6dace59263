-- The bytes of a whole row from its hop count up to its account.
use mathlib.Core.Path.{◌≡◌, refl, sym, ap, ◌∙◌}
use mathlib.Core.Bool.{Bool, true, false, cond}
use mathlib.Core.List.{List, [], ◌∷◌, ◌++◌, append_assoc}
use Prim.Native.Nat.{ℕ, ◌+◌, ◌*◌, ◌-◌}
use native.Mathlib.Omega.{arith}
use lib.ListN.{length, take, drop, length-append, length-drop}
use lib.Seq.{get_or-drop, take_at, drop_at, drop-drop}
use Rattle.rules.specs.Book.{Row, hops}
use Rattle.rules.specs.Image.{has_ways, has_wide, has_accounts, hops_place, row_length, word, in_turn, held, encode_period, encode_row, version_of}
use Rattle.rules.proofs.Encoding.{length_words}
use Rattle.rules.proofs.Fronts.{bytes_drop, front_written}
use Rattle.rules.proofs.Written.{Bytes}
use Rattle.image.specs.Places.{row_at, next_at, hop_bytes, Whole}
use Rattle.image.proofs.Places.{whole_sized}

-- its id, its way where it is held, and its period in two bytes or one
abbrev named : Bool → Bool → Row → List ℕ
named t w r = word r.id ++ held t (r.way ∷ []) ++ encode_period w r.period

named_hops : (t w : Bool) (r : Row) (end : List ℕ)
    → word r.id ++ held t (r.way ∷ []) ++ encode_period w r.period ++ (hops r ∷ []) ++ r.route ++ in_turn word r.offsets ++ end ≡ named t w r ++ (hop_bytes r ++ end)
named_hops true true r end = refl
named_hops true false r end = refl
named_hops false true r end = refl
named_hops false false r end = refl

length_named : (t w : Bool) (r : Row) → length (named t w r) ≡ 2 + cond t 1 0 + 1 + cond w 1 0
length_named true true r = refl
length_named true false r = refl
length_named false true r = refl
length_named false false r = refl

module _ (s : List ℕ) (at : ℕ) (b : Bytes s) (w : Whole s at) where
  abbrev v : ℕ
  v = version_of s

  abbrev r : Row
  r = row_at s at

  abbrev end : List ℕ
  end = held (has_accounts v) (word r.account)

  stands : drop at s ≡ encode_row v r ++ drop (next_at s at) s
  unfolding row_at next_at
  stands =
      let e = get_or-drop at s (hops_place v) 0 in
      front_written v (drop at s) (bytes_drop at s b) (omega (arith, w.fits, e, length-drop at s))
      ∙ ap (λ (l : List ℕ). encode_row v r ++ l) (drop-drop _ at s ∙ ap (λ (h : ℕ). drop (at + (row_length v + 3 * h)) s) e)

  front_part : List ℕ
  front_part = named (has_ways v) (has_wide v) r

  parts : encode_row v r ≡ front_part ++ (hop_bytes r ++ end)
  unfolding front_part
  parts = named_hops (has_ways v) (has_wide v) r end

  front_size : length front_part ≡ hops_place v
  unfolding front_part
  front_size = length_named (has_ways v) (has_wide v) r

  pub size : length (hop_bytes r) ≡ 2 + 3 * hops r
  size =
      let k = whole_sized s at w in
      omega (arith, length-append r.route (in_turn word r.offsets), length_words r.offsets, k.nodes, k.offsets)

  -- its bytes from its hop count on
  pub hop_bytes_there : (from n : ℕ) → from ≡ at + hops_place v → n ≡ 2 + 3 * hops r → take (from + n - from) (drop from s) ≡ hop_bytes r
  hop_bytes_there from n e f =
      let tail : List ℕ = drop (next_at s at) s in
      let k : length (hop_bytes r) ≡ from + n - from = omega (arith, size, f) in
      ap (λ (k : ℕ). take (from + n - from) (drop k s)) e
      ∙ ap (take (from + n - from)) (sym (drop-drop (hops_place v) at s) ∙ ap (drop (hops_place v)) (stands ∙ ap (λ (l : List ℕ). l ++ tail) parts
      ∙ append_assoc front_part (hop_bytes r ++ end) tail) ∙ drop_at front_part ((hop_bytes r ++ end) ++ tail) (hops_place v) front_size ∙ append_assoc (hop_bytes r) end tail)
      ∙ take_at (hop_bytes r) (end ++ tail) (from + n - from) k
