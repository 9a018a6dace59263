-- The list of routes, and whether a book keeps to a set, have one result in C too: the mark is one byte.
use mathlib.Core.Path.{◌≡◌, sym, ap, ◌∙◌}
use mathlib.Core.List.{List}
use Prim.Native.Nat.{ℕ}
use Rattle.rules.proofs.Unique.{Same, one_routes, one_keeps}
use Rattle.planner.specs.Marks.{mark_byte, RoutesMarked, KeepsMarked}

pub one_marked : (image : List ℕ) (mains source destination : ℕ) (out : List ℕ) (n l n' l' : ℕ) (o o' : List ℕ) (m m' : ℕ)
    → RoutesMarked image mains source destination out n l o m → RoutesMarked image mains source destination out n' l' o' m' → Same n l o n' l' o' × (m ≡ m')
one_marked image mains source destination out n l n' l' o o' m m' g h =
    let r = one_routes image mains source destination out n l n' l' o o' g.0 h.0 g.2 h.2 in
    (r.0, g.1 ∙ ap mark_byte r.1 ∙ sym h.1)

pub one_kept : (image : List ℕ) (mains n n' m m' : ℕ) → KeepsMarked image mains n m → KeepsMarked image mains n' m' → (n ≡ n') × (m ≡ m')
one_kept image mains n n' m m' g h =
    let r = one_keeps image mains n n' g.0 h.0 g.2 h.2 in
    (r.0, g.1 ∙ ap mark_byte r.1 ∙ sym h.1)
