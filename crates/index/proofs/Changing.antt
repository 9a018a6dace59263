-- What is changed in the slots of a hop's turns, one turn after the other, and what the sets have then.
use mathlib.Core.Path.{◌≡◌, refl, sym, ◌∙◌, subst}
use mathlib.Core.Logic.{◌⊎◌, inl, inr, ⊎_elim}
use mathlib.Core.List.{List}
use Prim.Native.Nat.{ℕ, zero, suc, ◌+◌, ◌*◌, ◌<◌}
use native.Mathlib.Decide.{ℕ_discrete}
use native.Mathlib.Omega.{arith}
use lib.ListN.{length, get_or, set}
use lib.Seq.{get_or-set_other}
use Rattle.rules.specs.Words.{Has, NoBitFrom}
use Rattle.rules.specs.Topology.{Hop}
use Rattle.bitset.specs.Sets.{SetOf}
use Rattle.bitset.specs.clash.Reach.{End, node_at}
use Rattle.bitset.specs.clash.Reach.End.{sender, receiver}
use Rattle.index.specs.Areas.{index_slots, word_at}
use Rattle.index.specs.Turns.{TakesFirst}
use Rattle.index.specs.Marks.{Changed, Adds, Clears}
use Rattle.index.proofs.Setting.{after, the_word, as_long, here, elsewhere, behind_slots}
use Rattle.index.proofs.Turns.{turn_new, turn_more, turn_split}

pub changed_none : {C : ℕ → ℕ → ℕ → Type 0} {h : Hop} {P : ℕ → Type 0} (t : List ℕ) → ((slot : ℕ) → P slot → ⊥) → Changed C h P t t
changed_none t f = record { size = refl; made = λ end slot p. absurd (f slot p); kept = λ end slot n. refl; behind = refl }

-- the word of a slot is changed
abbrev MadeAt : (ℕ → ℕ → ℕ → Type 0) → Hop → List ℕ → List ℕ → End → ℕ → Type 0
MadeAt C h before after end slot = C (get_or before (word_at end slot) 0) (node_at end h) (get_or after (word_at end slot) 0)

-- ONE TURN MORE: the words of its slot are changed
module _ {C : ℕ → ℕ → ℕ → Type 0} {h : Hop} {span start turn : ℕ} {before t : List ℕ} (slot v w : ℕ) (e : slot ≡ start + turn * span) (some : 0 < span)
    (inside : 2 * slot + 1 < length t) (a : Changed C h (TakesFirst span start turn) before t) where
  new : TakesFirst span start turn slot → ⊥
  new p = turn_new some (subst (TakesFirst span start turn) e p)

  module _ (first : C (get_or t (2 * slot) 0) h.from v) (second : C (get_or (set t (2 * slot) v) (2 * slot + 1) 0) h.to w) where
    read : (end : End) → C (get_or t (word_at end slot) 0) (node_at end h) (the_word t slot v w inside end)
    read sender = first
    read receiver = subst (λ (x : ℕ). C x h.to w) (get_or-set_other t (2 * slot) (2 * slot + 1) v 0 (λ q. omega arith)) second

    fresh : (end : End) → MadeAt C h before (after t slot v w inside) end slot
    fresh end =
        subst (λ (x : ℕ). C x (node_at end h) (get_or (after t slot v w inside) (word_at end slot) 0)) (a.kept end slot new)
        (subst (C (get_or t (word_at end slot) 0) (node_at end h)) (sym (here t slot v w inside end)) (read end))

    stays : (end : End) (s : ℕ) → TakesFirst span start turn s → MadeAt C h before (after t slot v w inside) end s
    stays end s q =
        subst (C (get_or before (word_at end s) 0) (node_at end h))
        (sym (elsewhere t slot v w inside end s (λ k. new (subst (TakesFirst span start turn) k q)))) (a.made end s q)

    pub changed_more : slot < index_slots → Changed C h (TakesFirst span start (turn + 1)) before (after t slot v w inside)
    changed_more low = record {
      size = as_long t slot v w inside ∙ a.size;
      made = λ end s p.
          ⊎_elim (λ q. stays end s q) (λ k. subst (MadeAt C h before (after t slot v w inside) end) (e ∙ sym k) (fresh end)) (turn_split p);
      kept = λ end s n. elsewhere t slot v w inside end s (λ k. n (turn_more (inr (k ∙ e)))) ∙ a.kept end s (λ p. n (turn_more (inl p)));
      behind = behind_slots t slot v w inside low ∙ a.behind;
    }

-- a slot is one of the turns or it is not
takes_or_not : (span start n slot : ℕ) → Dec (TakesFirst span start n slot)
takes_or_not span start zero slot = no (λ h. omega (arith, h.within))
takes_or_not span start (suc n) slot = go (ℕ_discrete slot (start + n * span)) (takes_or_not span start n slot)
  where
    go : Dec (slot ≡ start + n * span) → Dec (TakesFirst span start n slot) → Dec (TakesFirst span start (suc n) slot)
    go (yes e) d = yes (record { turn = n; within = omega arith; at = e })
    go (no f) (yes h) = yes (record { turn = h.turn; within = omega (arith, h.within); at = h.at })
    go (no f) (no g) = no (λ h. ⊎_elim g f (turn_split (record { turn = h.turn; within = omega (arith, h.within); at = h.at })))

-- a slot's words are changed, or as they were
module _ {C : ℕ → ℕ → ℕ → Type 0} {h : Hop} {span start n : ℕ} {t u : List ℕ} (c : Changed C h (TakesFirst span start n) t u) (end : End) (slot : ℕ) where
  abbrev Made : Type 0
  Made = TakesFirst span start n slot × MadeAt C h t u end slot

  abbrev Kept : Type 0
  Kept = (TakesFirst span start n slot → ⊥) × (get_or u (word_at end slot) 0 ≡ get_or t (word_at end slot) 0)

  made_or_kept : Made ⊎ Kept
  made_or_kept = go (takes_or_not span start n slot)
    where
      go : Dec (TakesFirst span start n slot) → Made ⊎ Kept
      go (yes p) = inl (p, c.made end slot p)
      go (no f) = inr (f, c.kept end slot f)

-- the hop is in the slots of so many turns from a slot on
abbrev pub InTurn : ℕ → ℕ → ℕ → Hop → End → ℕ → ℕ → Type 0
InTurn span start turns h end slot node = TakesFirst span start turns slot × (node ≡ node_at end h)

-- where each change puts the node in, or takes it out, the sets have it, or not
module _ {h : Hop} {span start n : ℕ} {t u : List ℕ} where
  pub changed_adds : Changed (λ (x k y : ℕ). SetOf (λ (j : ℕ). Has x j ⊎ (j ≡ k)) y) h (TakesFirst span start n) t u → Adds (InTurn span start n h) t u
  changed_adds c = record {
    size = c.size;
    fits = λ end slot l. ⊎_elim (λ p. p.1.fits) (λ q. subst (NoBitFrom 64) (sym q.1) l) (made_or_kept c end slot);
    only = λ end slot node m.
        ⊎_elim (λ p. ⊎_elim (λ k. inl k) (λ e. inr (p.0, e)) (p.1.only node m)) (λ q. inl (subst (λ (x : ℕ). Has x node) q.1 m)) (made_or_kept c end slot);
    kept = λ end slot node m. ⊎_elim (λ p. p.1.all node (inl m)) (λ q. subst (λ (x : ℕ). Has x node) (sym q.1) m) (made_or_kept c end slot);
    all = λ end slot node p. (c.made end slot p.0).all node (inr p.1);
    behind = c.behind;
  }

  pub changed_clears : Changed (λ (x k y : ℕ). SetOf (λ (j : ℕ). Has x j × (j ≡ k → ⊥)) y) h (TakesFirst span start n) t u → Clears (InTurn span start n h) t u
  changed_clears c = record {
    size = c.size;
    fits = λ end slot l. ⊎_elim (λ p. p.1.fits) (λ q. subst (NoBitFrom 64) (sym q.1) l) (made_or_kept c end slot);
    only = λ end slot node m.
        ⊎_elim (λ p. let k = p.1.only node m in (k.0, λ r. k.1 r.1)) (λ q. (subst (λ (x : ℕ). Has x node) q.1 m, λ r. q.0 r.0)) (made_or_kept c end slot);
    all = λ end slot node m g.
        ⊎_elim (λ p. p.1.all node (m, λ e. g (p.0, e))) (λ q. subst (λ (x : ℕ). Has x node) (sym q.1) m) (made_or_kept c end slot);
    behind = c.behind;
  }
