-- With all N nodes in the set every path keeps to it.
use mathlib.Core.Logic.{inl, inr}
use mathlib.Core.List.{List, [], ◌∷◌}
use Prim.Native.Nat.{ℕ, zero, suc, ◌-◌}
use lib.ListN.{take, drop}
use Rattle.rules.specs.Words.{◌∈◌}
use Rattle.rules.specs.Topology.{Topology, nodes, hop_count, middles, Path, KeepsTo, all_nodes}
use Rattle.rules.proofs.Sets.{all_has}

in_take : {A : Type 0} (n : ℕ) (xs : List A) (x : A) → x ∈ take n xs → x ∈ xs
in_take zero xs x h = absurd h
in_take (suc n) [] x h = h
in_take (suc n) (y ∷ xs) x (inl e) = inl e
in_take (suc n) (y ∷ xs) x (inr h) = inr (in_take n xs x h)

in_drop : {A : Type 0} (n : ℕ) (xs : List A) (x : A) → x ∈ drop n xs → x ∈ xs
in_drop zero xs x h = h
in_drop (suc n) [] x h = h
in_drop (suc n) (y ∷ xs) x h = inr (in_drop n xs x h)

-- a node in the middle is one of the path's
middle_in : (p : List ℕ) (a : ℕ) → a ∈ middles p → a ∈ p
middle_in p a h = in_drop 1 p a (in_take (hop_count p - 1) (drop 1 p) a h)

-- so every path keeps to the set of all nodes
pub all_keep : (T : Topology) (p : List ℕ) → Path T p → KeepsTo (all_nodes (nodes T)) p
all_keep T p w a h = all_has (nodes T) a (w.known a (middle_in p a h))
