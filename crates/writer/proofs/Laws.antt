-- Lists written over others, one behind the other.
use mathlib.Core.Path.{◌≡◌, refl, sym, ◌∙◌, ap, ap₂}
use mathlib.Core.List.{List, [], ◌∷◌, ◌++◌, append_assoc}
use Prim.Native.Nat.{ℕ, suc, ◌+◌, ◌*◌, ◌-◌, ◌≤◌, ◌<◌}
use native.Mathlib.Omega.{arith}
use native.Mathlib.Nat.{zero-add}
use native.Mathlib.Numerals.{add-one}
use lib.ListN.{length, get_or, set, take, drop, length-append, length-drop}
use lib.Seq.{take_at, drop_at, take-suc, take-add, take-take, take-append-le, drop-append-add, drop-drop, length-take-le, append_snoc, paste-zero, set_split}
use Rattle.rules.specs.Topology.{most_route_hops}
use Rattle.rules.specs.Tiles.{Plan}
use Rattle.rules.specs.Records.{the_offsets}
use Rattle.rules.specs.declared.{Placed.Placed}
use Rattle.rules.specs.Image.{newest, header_length, mark, word, in_turn, encode_header, encode_row}
use Rattle.rules.proofs.Encoding.{length_words}
use Rattle.rules.proofs.Records.{offset_at, offsets_length}
use Rattle.image.specs.Places.{Laid}
use Rattle.writer.specs.Over.{over, headed}

pub length_over : (d : List ℕ) (at : ℕ) (s : List ℕ) → at + length s ≤ length d → length (over d at s) ≡ length d
unfolding over
length_over d at s h = simp (length-append, length-drop, length-take-le at d (omega arith)) (omega arith)

-- y behind x is both
over_over : (d x y : List ℕ) (at e : ℕ) → at ≤ length d → e ≡ at + length x → over (over d at x) e y ≡ over d at (x ++ y)
unfolding over
over_over d x y at e h q =
    let p = take at d ++ x in
    let n : length p ≡ e = simp (length-append, length-take-le at d h) (sym q) in
    let rest : List ℕ = drop (at + length x) d in
    rw (take_at p rest e n, ← n, drop-append-add p rest (length y), drop-drop (length y) (at + length x) d, length-append x y, ← append_assoc (take at d) x y)
    (let k : at + length x + length y ≡ at + (length x + length y) = omega arith in ap (λ (k : ℕ). p ++ y ++ drop k d) k)

-- one part written, then another behind it
pub then : (d o o' x y : List ℕ) (at e : ℕ) → at ≤ length d → o ≡ over d at x → e ≡ at + length x → o' ≡ over o e y → o' ≡ over d at (x ++ y)
then d o o' x y at e h p q r = rw (r, p) (over_over d x y at e h q)

pub over_nil : (d : List ℕ) (at : ℕ) → d ≡ over d at []
unfolding over
over_nil d at = paste-zero d at []

pub over_one : (d : List ℕ) (at x : ℕ) → at < length d → set d at x ≡ over d at (x ∷ [])
unfolding over
over_one d at x h = rw (set_split d at x h, add-one) (sym (append_snoc (take at d) x (drop (suc at) d)))

-- a turn of a copy
pub copy_turn : (d s o : List ℕ) (at i : ℕ) → i < length s → at + length s ≤ length d → o ≡ over d at (take i s) → length o ≡ length d
    → set o (at + i) (get_or s i 0) ≡ over d at (take (i + 1) s)
copy_turn d s o at i h l e n =
    let k : at + i ≡ at + length (take i s) = rw (length-take-le i s (omega arith)) in
    rw (over_one o (at + i) (get_or s i 0) (omega arith), e, over_over d (take i s) (get_or s i 0 ∷ []) at (at + i) (omega arith) k, add-one, take-suc s i 0 h)

words_append : (x y : List ℕ) → in_turn word (x ++ y) ≡ in_turn word x ++ in_turn word y
words_append [] y = refl
words_append (a ∷ x) y = rw (words_append x y)

-- a turn of a copy of words
words_turn : (d s o o' : List ℕ) (at i : ℕ) → i < length s → at + 2 * length s ≤ length d → o ≡ over d at (in_turn word (take i s))
    → o' ≡ over o (at + 2 * i) (word (get_or s i 0)) → o' ≡ over d at (in_turn word (take (i + 1) s))
words_turn d s o o' at i h l e f =
    let n : at + 2 * i ≡ at + length (in_turn word (take i s)) = rw (length_words, length-take-le i s (omega arith)) in
    rw (f, e, over_over d (in_turn word (take i s)) (word (get_or s i 0)) at (at + 2 * i) (omega arith) n, add-one, take-suc s i 0 h, words_append)

-- a turn of offsets
pub offsets_turn : (d o o' : List ℕ) (p : Placed) (at i : ℕ) → length p.offsets ≡ most_route_hops → p.route.hops ≤ most_route_hops → i < p.route.hops
    → at + 2 * p.route.hops ≤ length d → o ≡ over d at (in_turn word (take i (the_offsets p)))
    → o' ≡ over o (at + 2 * i) (word (get_or p.offsets i (record { 0 = 0 })).0) → o' ≡ over d at (in_turn word (take (i + 1) (the_offsets p)))
offsets_turn d o o' p at i size few h l e f =
    let long = offsets_length p few size in
    words_turn d (the_offsets p) o o' at i (omega arith) (omega arith) e (f ∙ ap (λ (x : ℕ). over o (at + 2 * i) (word x)) (sym (offset_at p i h)))

-- a row, part by part
pub row_written : (d o₁ o₂ o₃ o₄ o₅ o₆ o₇ : List ℕ) (at id way k n account : ℕ) (route offsets : List ℕ) → at ≤ length d → length route ≡ n + 1 → length offsets ≡ n
    → o₁ ≡ over d at (word id) → o₂ ≡ over o₁ (at + 2) (way ∷ []) → o₃ ≡ over o₂ (at + 2 + 1) (word k) → o₄ ≡ over o₃ (at + 2 + 1 + 2) (n ∷ [])
    → o₅ ≡ over o₄ (at + 2 + 1 + 2 + 1) route → o₆ ≡ over o₅ (at + 2 + 1 + 2 + 1 + n + 1) (in_turn word offsets)
    → o₇ ≡ over o₆ (at + 2 + 1 + 2 + 1 + n + 1 + 2 * n) (word account)
    → o₇ ≡ over d at (encode_row newest (record { id = id; way = way; period = k; route = route; offsets = offsets; account = account }))
row_written d o₁ o₂ o₃ o₄ o₅ o₆ o₇ at id way k n account route offsets h l m p₁ p₂ p₃ p₄ p₅ p₆ p₇ =
    let named : List ℕ = word id ++ (way ∷ []) in
    let head : List ℕ = named ++ word k ++ (n ∷ []) in
    let q₂ = then d o₁ o₂ (word id) (way ∷ []) at (at + 2) h p₁ refl p₂ in
    let q₃ = then d o₂ o₃ named (word k) at (at + 2 + 1) h q₂ (omega arith) p₃ in
    let q₄ = then d o₃ o₄ (named ++ word k) (n ∷ []) at (at + 2 + 1 + 2) h q₃ (omega arith) p₄ in
    let q₅ = then d o₄ o₅ head route at (at + 2 + 1 + 2 + 1) h q₄ (omega arith) p₅ in
    let q₆ = then d o₅ o₆ (head ++ route) (in_turn word offsets) at (at + 2 + 1 + 2 + 1 + n + 1) h q₅ (omega (arith, l)) p₆ in
    let long = length-append (head ++ route) (in_turn word offsets) in
    let q₇ = then d o₆ o₇ (head ++ route ++ in_turn word offsets) (word account) at (at + 2 + 1 + 2 + 1 + n + 1 + 2 * n) h q₆
    (omega (arith, long, l, m, length_words offsets)) p₇ in
    let e : n ≡ length route - 1 = omega arith in
    q₇ ∙ ap (λ (x : ℕ). over d at (named ++ word k ++ (x ∷ []) ++ route ++ in_turn word offsets ++ word account)) e

-- the front of an image, part by part
pub head_written : (d o₁ o₂ o₃ o₄ s : List ℕ) (to n h : ℕ) → 15 ≤ length s → o₁ ≡ over d 0 (take 12 s) → o₂ ≡ over o₁ 12 (n ∷ []) → o₃ ≡ over o₂ 13 (word h)
    → o₄ ≡ over o₃ 15 (take (to - 15) (drop 15 s)) → o₄ ≡ over d 0 (headed s to n h)
unfolding headed
head_written d o₁ o₂ o₃ o₄ s to n h l p₁ p₂ p₃ p₄ =
    let f : length (take 12 s) ≡ 12 = length-take-le 12 s (omega arith) in
    let q₂ = then d o₁ o₂ (take 12 s) (n ∷ []) 0 12 (omega arith) p₁ (omega arith) p₂ in
    let q₃ = then d o₂ o₃ (take 12 s ++ (n ∷ [])) (word h) 0 13 (omega arith) q₂ (simp (length-append, f)) p₃ in
    let q₄ = then d o₃ o₄ (take 12 s ++ (n ∷ []) ++ word h) (take (to - 15) (drop 15 s)) 0 15 (omega arith) q₃ (simp (length-append, f)) p₄ in
    q₄ ∙ ap (λ (x : List ℕ). over d 0 (x ++ take (to - 15) (drop 15 s))) (append_assoc (take 12 s) (n ∷ []) (word h))

-- the image of a book without streams, part by part
pub new_written : (d o₁ o₂ o₃ o₄ o₅ o₆ rest accounts links hearing : List ℕ) (plan : Plan) (N n : ℕ) → o₁ ≡ over d 0 mark → rest ≡ drop 3 (encode_header newest plan N 0 0)
    → o₂ ≡ over o₁ 3 rest → o₃ ≡ over o₂ 16 (n ∷ []) → o₄ ≡ over o₃ 17 accounts → o₅ ≡ over o₄ (17 + length accounts) links
    → o₆ ≡ over o₅ (17 + length accounts + length links) hearing → o₆ ≡ over d 0 (encode_header newest plan N 0 0 ++ ((n ∷ accounts) ++ (links ++ hearing)))
new_written d o₁ o₂ o₃ o₄ o₅ o₆ rest accounts links hearing plan N n p₁ e p₂ p₃ p₄ p₅ p₆ =
    let head : List ℕ = encode_header newest plan N 0 0 in
    let q₂ = then d o₁ o₂ mark (drop 3 head) 0 3 (omega arith) p₁ refl (p₂ ∙ ap (over o₁ 3) e) in
    let q₃ = then d o₂ o₃ head (n ∷ []) 0 16 (omega arith) q₂ refl p₃ in
    let q₄ = then d o₃ o₄ (head ++ (n ∷ [])) accounts 0 17 (omega arith) q₃ refl p₄ in
    let q₅ = then d o₄ o₅ (head ++ (n ∷ []) ++ accounts) links 0 (17 + length accounts) (omega arith) q₄ (omega arith) p₅ in
    let q₆ = then d o₅ o₆ (head ++ (n ∷ []) ++ accounts ++ links) hearing 0 (17 + length accounts + length links) (omega arith) q₅
    (omega (arith, length-append (head ++ (n ∷ []) ++ accounts) links)) p₆ in
    q₆ ∙ ap (over d 0) (simp append_assoc)

-- what is written from the front on, and what was behind it
pub over_front : (d x : List ℕ) → over d 0 x ≡ x ++ drop (length x) d
unfolding over
over_front d x = ap (λ (n : ℕ). x ++ drop n d) (zero-add (length x))

pub length_headed : (s : List ℕ) (to n h : ℕ) → 15 ≤ to → to ≤ length s → length (headed s to n h) ≡ to
unfolding headed
length_headed s to n h low l =
    let f : to - 15 ≤ length (drop 15 s) = omega (arith, length-drop 15 s) in
    simp (length-append, length-take-le 12 s (omega arith), length-take-le (to - 15) (drop 15 s) f) (omega arith)

-- the front up to a place is the header, and what stands behind it up to there
headed_parts : (s : List ℕ) (at n h : ℕ) → header_length ≤ at → headed s at n h ≡ headed s header_length n h ++ take (at - header_length) (drop header_length s)
unfolding headed
headed_parts s at n h low =
    let a : at - 15 ≡ 1 + (at - 16) = omega arith in
    let all : take (at - 15) (drop 15 s) ≡ take 1 (drop 15 s) ++ take (at - 16) (drop 16 s) =
    ap (λ (k : ℕ). take k (drop 15 s)) a ∙ take-add 1 (at - 16) (drop 15 s) ∙ ap (λ (l : List ℕ). take 1 (drop 15 s) ++ take (at - 16) l) (drop-drop 1 15 s) in
    ap (λ (l : List ℕ). take 12 s ++ (n ∷ word h) ++ l) all ∙ sym (append_assoc (take 12 s ++ (n ∷ word h)) (take 1 (drop 15 s)) (take (at - 16) (drop 16 s)))

-- the header of an image that goes on behind the front of s, and what it goes on with, are the image laid out
pub laid : (s d o x image : List ℕ) (at n h len : ℕ) → header_length ≤ at → at ≤ length s → image ≡ headed s at n h ++ x → len ≡ length image → len ≤ length d
    → o ≡ over (over d 0 (headed s header_length n h)) at x → Laid s at image len o
unfolding over
laid s d o x image at n h len low inside p q fits f =
    let head : List ℕ = headed s header_length n h in
    let middle : List ℕ = take (at - 16) (drop 16 s) in
    let under : List ℕ = over d 0 head in
    let long_head : length head ≡ 16 = length_headed s 16 n h (omega arith) (omega arith) in
    let long_middle : length middle ≡ at - 16 = length-take-le (at - 16) (drop 16 s) (omega (arith, length-drop 16 s)) in
    let parts : image ≡ head ++ (middle ++ x) = p ∙ ap (λ (l : List ℕ). l ++ x) (headed_parts s at n h low) ∙ append_assoc head middle x in
    let long : len ≡ at + length x = omega (arith, q, ap length parts, length-append head (middle ++ x), length-append middle x, long_head, long_middle) in
    let long_under : length under ≡ length d = length_over d 0 head (omega (arith, long_head, long)) in
    let long_front : length (take at under) ≡ at = length-take-le at under (omega (arith, long_under, long)) in
    let front : take len o ≡ take at under ++ x =
    ap (take len) f ∙ take_at (take at under ++ x) (drop (at + length x) under) len
    (length-append (take at under) x ∙ ap (λ (k : ℕ). k + length x) long_front ∙ sym long) in
    let header : take 16 (take len o) ≡ head =
    ap (take 16) front ∙ take-append-le 16 (take at under) x (omega (arith, long_front)) ∙ take-take 16 at under low
    ∙ ap (take 16) (over_front d head) ∙ take_at head (drop (length head) d) 16 long_head in
    let rows : drop at (take len o) ≡ x = ap (drop at) front ∙ drop_at (take at under) x at long_front in
    record {
      low = low;
      inside = inside;
      long = q;
      fits = omega (arith, ap length f, length_over under at x (omega (arith, long_under, long)), long_under);
      whole = parts ∙ ap₂ (λ (a b : List ℕ). a ++ (middle ++ b)) (sym header) (sym rows);
    }
