-- Laws of the lists that the code's records hold.
use mathlib.Core.Path.{◌≡◌, refl, ap, ◌∙◌, sym, subst}
use mathlib.Core.List.{List, [], ◌∷◌, map}
use Prim.Native.Nat.{ℕ, zero, suc, ◌+◌, ◌<◌, ◌≤◌}
use native.Mathlib.Omega.{arith}
use lib.ListN.{length, get_or, set, length-map, get_or-map}
use lib.Seq.{length-take-le, get_or-take}
use Rattle.rules.specs.Words.{◌∈◌}
use Rattle.rules.specs.Topology.{most_route_hops}
use Rattle.rules.specs.Records.{node_numbers, slot_numbers, the_route, the_offsets}
use Rattle.rules.specs.declared.{Node.Node, Slot.Slot, Route.Route, Placed.Placed}
use Rattle.rules.proofs.Lists.{at_in}

-- an array's elements are as many as what it holds of them
pub unmapped : {A B : Type 0} (f : A → B) (xs : List A) (n : ℕ) → length (map f xs) ≡ n → length xs ≡ n
unmapped f xs n e = sym (length-map xs f) ∙ e

-- a number that is set among numbers
pub map_set : {A : Type 0} (f : A → ℕ) (xs : List A) (i : ℕ) (x : A) → map f (set xs i x) ≡ set (map f xs) i (f x)
map_set f [] i x = refl
map_set f (y ∷ ys) zero x = refl
map_set f (y ∷ ys) (suc i) x = ap (λ (zs : List ℕ). f y ∷ zs) (map_set f ys i x)

-- the node at a place of the route, and the offset of a hop, as they are read
abbrev pub node_of : Route → ℕ → Node
node_of r i = get_or r.nodes i (record { 0 = 0 })

abbrev pub offset_of : Placed → ℕ → Slot
offset_of p i = get_or p.offsets i (record { 0 = 0 })

-- the nodes of a route, and how many it has
pub node_at_lem : (r : Route) (i : ℕ) → i ≤ r.hops → get_or (the_route r) i 0 ≡ (node_of r i).0
unfolding the_route
node_at_lem r i l = get_or-take (r.hops + 1) (node_numbers r.nodes) i 0 (omega arith) ∙ get_or-map (λ (n : Node). n.0) r.nodes i (record { 0 = 0 })

pub route_length : (r : Route) → r.hops ≤ most_route_hops → length r.nodes ≡ most_route_hops + 1 → length (the_route r) ≡ r.hops + 1
unfolding the_route
route_length r l e =
    let n = length-map r.nodes (λ (n : Node). n.0) in
    length-take-le (r.hops + 1) (node_numbers r.nodes) (omega (arith, n))

-- the offset of a hop, and how many there are
pub offset_at : (p : Placed) (i : ℕ) → i < p.route.hops → get_or (the_offsets p) i 0 ≡ (offset_of p i).0
unfolding the_offsets
offset_at p i l = get_or-take p.route.hops (slot_numbers p.offsets) i 0 l ∙ get_or-map (λ (s : Slot). s.0) p.offsets i (record { 0 = 0 })

pub offsets_length : (p : Placed) → p.route.hops ≤ most_route_hops → length p.offsets ≡ most_route_hops → length (the_offsets p) ≡ p.route.hops
unfolding the_offsets
offsets_length p l e =
    let n = length-map p.offsets (λ (s : Slot). s.0) in
    length-take-le p.route.hops (slot_numbers p.offsets) (omega (arith, n))

-- what holds of every node of the route holds of each that is read
pub node_holds : (P : ℕ → Type 0) (r : Route) → r.hops ≤ most_route_hops → length r.nodes ≡ most_route_hops + 1 → ((a : ℕ) → a ∈ the_route r → P a)
    → (i : ℕ) → i ≤ r.hops → P (node_of r i).0
node_holds P r few e known i l = subst P (node_at_lem r i l) (known _ (at_in (the_route r) i (omega (arith, route_length r few e))))

-- and so of the offsets
pub offset_holds : (P : ℕ → Type 0) (p : Placed) → p.route.hops ≤ most_route_hops → length p.offsets ≡ most_route_hops → ((o : ℕ) → o ∈ the_offsets p → P o)
    → (i : ℕ) → i < p.route.hops → P (offset_of p i).0
offset_holds P p few e known i l = subst P (offset_at p i l) (known _ (at_in (the_offsets p) i (omega (arith, offsets_length p few e))))
