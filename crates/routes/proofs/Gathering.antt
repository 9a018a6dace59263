-- The neighbours of a set, gathered from the rows of its members in turn.
use mathlib.Core.Path.{◌≡◌, subst}
use mathlib.Core.Logic.{◌⊎◌, inl, inr, ⊎_elim}
use Prim.Native.Nat.{ℕ}
use lib.ListN.{get_or}
use Rattle.rules.specs.Words.{Has, NoBitFrom}
use Rattle.rules.specs.Topology.{Topology, Joined}
use Rattle.bitset.specs.Sets.{SetOf, Lowest}
use Rattle.bitset.proofs.Members.{lowest_or_rest}
use Rattle.routes.specs.Levels.{Neighbour}

-- around has the neighbours of the members that are not left
pub record Gathering (T : Topology) (set around left : ℕ) : Type 0 where
  pub fits : NoBitFrom 64 around
  pub left_fits : NoBitFrom 64 left
  pub left_of : (a : ℕ) → Has left a → Has set a
  pub only : (b : ℕ) → Has around b → Neighbour T set b
  pub all : (a b : ℕ) → Has set a → Joined T a b → Has left a ⊎ Has around b

pub gather_more : {T : Topology} {set around left a more less : ℕ} → Gathering T set around left → Lowest left a
    → SetOf (λ (b : ℕ). Has around b ⊎ Has (get_or T.rows a 0) b) more → SetOf (λ (k : ℕ). Has left k × (Lowest left k → ⊥)) less
    → Gathering T set more less
gather_more {T} {set} {around} {left} {a} {more} {less} g low u s = record {
  fits = u.fits;
  left_fits = s.fits;
  left_of = λ k i. g.left_of k (s.only k i).0;
  only = λ b i. ⊎_elim (λ h. g.only b h) (λ l. (a, g.left_of a low.member, l)) (u.only b i);
  all = λ k b i l. ⊎_elim (λ h. kept k b l (lowest_or_rest k low s h)) (λ h. inr (u.all b (inl h))) (g.all k b i l);
}
  where
    kept : (k b : ℕ) → Joined T k b → (k ≡ a) ⊎ Has less k → Has less k ⊎ Has more b
    kept k b l (inl e) = inr (u.all b (inr (subst (λ (x : ℕ). Joined T x b) e l)))
    kept k b l (inr h) = inl h
