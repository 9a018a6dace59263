-- Parts that are written one behind the other where there is room.
use mathlib.Core.Path.{◌≡◌, refl, sym, ap, ◌∙◌, subst}
use mathlib.Core.List.{List, [], ◌++◌, append_assoc}
use Prim.Native.Nat.{ℕ, ◌+◌, ◌-◌, ◌≤◌}
use native.Mathlib.Omega.{arith}
use lib.ListN.{length, take, drop, length-append, length-drop}
use lib.Seq.{drop_at, length-take-le}
use Rattle.writer.specs.Over.{over}
use Rattle.writer.proofs.Laws.{length_over, then, over_nil, over_front}
use Rattle.rescue.specs.salvaging.Walk.{PutIf}

pub put_none : (d : List ℕ) (at : ℕ) → PutIf d at [] d
put_none d at = record { size = refl; put = λ l. over_nil d at }

-- y behind x
pub put_more : {d o o' x : List ℕ} (y : List ℕ) {at e : ℕ} → PutIf d at x o → e ≡ at + length x → PutIf o e y o' → PutIf d at (x ++ y) o'
put_more {d} {o} {o'} {x} y {at} {e} p q r = record {
  size = r.size ∙ p.size;
  put = λ l.
      let f = length-append x y in
      then d o o' x y at e (omega (arith, f)) (p.put (omega (arith, f))) q (r.put (omega (arith, f, p.size)));
}

pub put_alike : {d o x : List ℕ} {y : List ℕ} {at e : ℕ} → x ≡ y → at ≡ e → PutIf d at x o → PutIf d e y o
put_alike {d} {o} {x} {y} {at} f g p = subst (λ (k : ℕ). PutIf d k y o) g (subst (λ (z : List ℕ). PutIf d at z o) f p)

-- and where there is room, it was
pub put_in : {d o : List ℕ} {at : ℕ} {x : List ℕ} → at + length x ≤ length d → o ≡ over d at x → PutIf d at x o
put_in {d} {at = at} {x} l e = record { size = ap length e ∙ length_over d at x l; put = λ m. e }

-- x in front of what was written behind it
pub over_before : (d x y : List ℕ) (e : ℕ) → e ≡ length x → e + length y ≤ length d → over (over d e y) 0 x ≡ (x ++ y) ++ drop (length (x ++ y)) d
unfolding over
over_before d x y e q l =
    let t : length (take e d) ≡ e = length-take-le e d (omega arith) in
    let rest : drop e (over d e y) ≡ y ++ drop (e + length y) d =
    ap (drop e) (append_assoc (take e d) y (drop (e + length y) d)) ∙ drop_at (take e d) (y ++ drop (e + length y) d) e t in
    let n : e + length y ≡ length (x ++ y) = omega (arith, q, length-append x y) in
    over_front (over d e y) x ∙ ap (λ (k : ℕ). x ++ drop k (over d e y)) (sym q) ∙ ap (λ (z : List ℕ). x ++ z) rest
    ∙ ap (λ (k : ℕ). x ++ (y ++ drop k d)) n ∙ sym (append_assoc x y (drop (length (x ++ y)) d))
