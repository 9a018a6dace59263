-- The nodes near the destination, link by link.
use mathlib.Core.Path.{refl}
use mathlib.Core.Logic.{◌⊎◌, inl, inr, ⊎_elim}
use mathlib.Core.List.{[], ◌∷◌}
use Prim.Native.Nat.{ℕ, ◌+◌, ◌<◌, ◌≤◌}
use native.Mathlib.Omega.{arith}
use Rattle.rules.specs.Words.{Has}
use Rattle.rules.specs.Topology.{Topology, nodes}
use Rattle.bitset.specs.Sets.{SetOf}
use Rattle.routes.specs.Levels.{Neighbour}
use Rattle.routes.proofs.Distances.{joined_back}
use Rattle.routes.specs.choices.Search.{Near, Ground}

-- the set after n links
pub record Nearing (T : Topology) (z barred most set n : ℕ) : Type 0 where
  pub few : n ≤ most
  pub near : Near T z barred n set
  pub known : (a : ℕ) → Has set a → a < nodes T

module _ {T : Topology} {z : ℕ} (barred most : ℕ) (g : Ground T z) where
  pub near_more : {set n around wide fewer : ℕ} → Nearing T z barred most set n → n < most → SetOf (Neighbour T set) around
      → SetOf (λ (k : ℕ). Has set k ⊎ Has around k) wide → SetOf (λ (k : ℕ). Has wide k × (Has barred k → ⊥)) fewer
      → Nearing T z barred most fewer (n + 1)
  near_more {set} {n} {around} {wide} {fewer} h l s u d = record {
    few = omega arith;
    near = near;
    known = λ a i. ⊎_elim (λ (j : Has set a). h.known a j) (λ (j : Has around a). round a (s.only a j)) (u.only a (d.only a i).0);
  }
    where
      round : (a : ℕ) → Neighbour T set a → a < nodes T
      round a (m, i, j) = (joined_back T g.sound m a j).0

      near : Near T z barred (n + 1) fewer
      near a [] k w f = d.all a (u.all a (inl (h.near a [] (omega arith) w f)), f a (inl refl))
      near a (m ∷ p) k w f =
          let on = h.near m p (omega arith) (record { linked = w.linked.1; ends = w.ends }) (λ x i. f x (inr i)) in
          d.all a (
            u.all a (inr (s.all a (m, on, (joined_back T g.sound a m w.linked.0).1))),
            f a (inl refl),
          )
