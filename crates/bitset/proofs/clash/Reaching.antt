-- The reach of a hop holds exactly the ends of the hops that clash with it.
use mathlib.Core.Path.{◌≡◌, refl, sym, ap, ◌∙◌, subst}
use mathlib.Core.Logic.{◌⊎◌, inl, inr, ⊎_elim}
use Prim.Native.Nat.{ℕ, ◌<◌}
use native.Mathlib.Nat.{lt_of_not-le}
use lib.ListN.{get_or, get_or-eq_default}
use Rattle.rules.specs.Words.{bit, Has}
use Rattle.rules.specs.Topology.{Topology, nodes, Joined, Touches, Hop, Clash}
use Rattle.bitset.specs.Sets.{SetOf}
use Rattle.bitset.proofs.Bits.{within, zero_none}
use Rattle.bitset.specs.clash.Reach.{Between, End, node_at, Clashes, ReachOf}
use Rattle.bitset.specs.clash.Reach.End.{sender, receiver}

-- A HOP CLASHES BY ITS SENDER OR BY ITS RECEIVER
pub clash_end : (T : Topology) (h k : Hop) → Clash T h k → (end : End) × Clashes T h end (node_at end k)
clash_end T h k (inl (a, p, inl e)) = (sender, inl (subst (λ (x : ℕ). Touches x h) e p))
clash_end T h k (inl (a, p, inr e)) = (receiver, inl (subst (λ (x : ℕ). Touches x h) e p))
clash_end T h k (inr (inl l)) = (receiver, inr l)
clash_end T h k (inr (inr l)) = (sender, inr l)

pub end_clash : (T : Topology) (h k : Hop) (end : End) → Clashes T h end (node_at end k) → Clash T h k
end_clash T h k sender (inl t) = inl (k.from, t, inl refl)
end_clash T h k sender (inr l) = inr (inr l)
end_clash T h k receiver (inl t) = inl (k.to, t, inr refl)
end_clash T h k receiver (inr l) = inr (inl l)

-- a linked node is one of the topology
linked_from : (T : Topology) (a b : ℕ) → Joined T a b → a < nodes T
linked_from T a b h = lt_of_not-le (λ l. zero_none b (sym (ap (λ (row : ℕ). bit row b) (get_or-eq_default T.rows 0 l)) ∙ h))

module _ {T : Topology} {h : Hop} (w : Between T h) where
  -- the hop's receiver hears exactly those that hear it
  heard : (a : ℕ) → Joined T a h.to → Joined T h.to a
  heard a l = w.sound.both_ways a h.to (linked_from T a h.to l) w.to l

  hears : (a : ℕ) → Joined T h.to a → Joined T a h.to
  hears a l = w.sound.both_ways h.to a w.to (within (nodes T) (get_or T.rows h.to 0) a (w.sound.low h.to w.to) l) l

  module _ {one ends senders receivers : ℕ} (s : SetOf (λ (k : ℕ). Has 0 k ⊎ (k ≡ h.from)) one) (t : SetOf (λ (k : ℕ). Has one k ⊎ (k ≡ h.to)) ends)
      (u : SetOf (λ (k : ℕ). Has ends k ⊎ Has (get_or T.rows h.to 0) k) senders)
      (v : SetOf (λ (k : ℕ). Has ends k ⊎ Has (get_or T.rows h.from 0) k) receivers) where
    touched : (a : ℕ) → Has ends a → Touches a h
    touched a m = ⊎_elim (λ i. ⊎_elim (λ z. absurd (zero_none a z)) (λ e. inl e) (s.only a i)) (λ e. inr e) (t.only a m)

    touch : (a : ℕ) → Touches a h → Has ends a
    touch a (inl e) = t.all a (inl (s.all a (inr e)))
    touch a (inr e) = t.all a (inr e)

    pub reach_law : ReachOf T h (record { senders = senders; receivers = receivers })
    reach_law sender = record {
      fits = u.fits;
      only = λ a m. ⊎_elim (λ i. inl (touched a i)) (λ l. inr (hears a l)) (u.only a m);
      all = λ a m. u.all a (⊎_elim (λ i. inl (touch a i)) (λ l. inr (heard a l)) m);
    }
    reach_law receiver = record {
      fits = v.fits;
      only = λ a m. ⊎_elim (λ i. inl (touched a i)) (λ l. inr l) (v.only a m);
      all = λ a m. v.all a (⊎_elim (λ i. inl (touch a i)) (λ l. inr l) m);
    }
