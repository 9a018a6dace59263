-- The two functions of the search, each from what the other finds.
use mathlib.Core.Path.{◌≡◌, refl, sym, ◌∙◌, subst}
use mathlib.Core.Logic.{◌⊎◌, inl}
use mathlib.Core.List.{List, ◌∷◌}
use mathlib.Core.Bool.{true}
use Prim.Native.Nat.{ℕ, zero, suc, ◌+◌, ◌-◌, ◌^◌, ◌<◌, ◌≤◌}
use native.Mathlib.Omega.{arith}
use lib.ListN.{length, get_or, set, take, length-set}
use Rattle.rules.specs.Words.{Has, NoBitFrom}
use Rattle.rules.specs.Topology.{Topology, nodes}
use Rattle.bitset.specs.Sets.{SetOf, Lowest}
use Rattle.bitset.proofs.Bits.{within}
use Rattle.routes.specs.declared.choices.Tally.{Tally}
use Rattle.routes.specs.choices.Search.{short_places, Walk, Avoids, Leads, Onward, Near, Standing, Room, Finds}
use Rattle.routes.proofs.choices.Steps.{exactly_onward, exactly_barred, exactly_none, exactly_more, walks_over}
use Rattle.routes.proofs.choices.Keeping.{finds_nothing, finds_stopped, finds_same, finds_both, front_more}

-- WHAT FALLS: the hops left, and for each of them the neighbours left

-- more than any set of neighbours
abbrev pub any_next : ℕ
any_next = 2 ^ 64

pub turn : ℕ → ℕ → ℕ
turn zero next = next
turn (suc left) next = suc (turn left any_next) + next

pub turn_next : {t : ℕ} (left more next : ℕ) → turn left more ≡ t → next < more → turn left next < t
unfolding turn
turn_next zero more next e h = omega arith
turn_next (suc left) more next e h = omega arith

pub turn_hop : {t : ℕ} (left next : ℕ) → turn left next ≡ t → 1 ≤ left → turn (left - 1) any_next < t
unfolding turn
turn_hop zero next e h = absurd (omega arith)
turn_hop {t} (suc left) next e h = let q : suc left - 1 ≡ left = omega arith in subst (λ (k : ℕ). turn k any_next < t) (sym q) (omega arith)

module _ {T : Topology} {z left : ℕ} {path : List ℕ} (s : Standing T z left path) where
  -- DOWN
  module _ {a around next : ℕ} (barred close : ℕ) (known : a < nodes T) (n : Near T z barred (left - 1) close)
      (u : SetOf (λ (k : ℕ). Has (get_or T.rows a 0) k × Has close k) around) (d : SetOf (λ (k : ℕ). Has around k × (Has barred k → ⊥)) next) where
    -- the neighbours to go over are nodes
    pub next_known : (m : ℕ) → Has next m → m < nodes T
    next_known m h = within (nodes T) (get_or T.rows a 0) m (s.ground.sound.low a known) (u.only m (d.only m h).0).0

    pub finds_down : {f : List ℕ} {t t' : Tally} {b b' : List ℕ} → Has barred a → (a ≡ z → ⊥) → (left ≡ 0 → ⊥)
        → Finds (Onward T z (left - 1) barred next) f t b t' b' → Finds (Leads T z left barred a) f t b t' b'
    finds_down barred_a apart some x =
        finds_same (λ ws e. exactly_onward T z left (left - 1) barred a next (omega arith) apart barred_a only all e) x
      where
        only : (m : ℕ) → Has next m → Has (get_or T.rows a 0) m × (Has barred m → ⊥)
        only m h = ((u.only m (d.only m h).0).0, (d.only m h).1)

        all : (m : ℕ) (p : List ℕ) → Has (get_or T.rows a 0) m → length p ≤ left - 1 → Walk T z m p → Avoids barred (m ∷ p) → Has next m
        all m p l h w g = d.all m (u.all m (l, n m p h w g), g m (inl refl))

  -- OVER
  pub finds_enough : (barred next : ℕ) (f : List ℕ) (t : Tally) (b : List ℕ) → NoBitFrom 64 barred → NoBitFrom 64 next → ((m : ℕ) → Has next m → m < nodes T)
      → Room t b → t.more ≡ true → Finds (Onward T z (left - 1) barred next) f t b t b
  finds_enough barred next f t b h l g r e = finds_stopped f t b r e (walks_over T z s.ground (left - 1) barred next h l g)

  -- a node further on
  pub standing_on : (b : ℕ) → Standing T z (left - 1) (set path (short_places - left) b)
  standing_on b = record { ground = s.ground; most = omega (arith, s.most); size = length-set path (short_places - left) b ∙ s.size }

  pub finds_over : {barred barred' b next others : ℕ} {t t₁ t₂ : Tally} {o o₁ o₂ : List ℕ} → 1 ≤ left → Lowest next b
      → SetOf (λ (k : ℕ). Has barred k ⊎ (k ≡ b)) barred' → SetOf (λ (k : ℕ). Has next k × (Lowest next k → ⊥)) others
      → Finds (Leads T z (left - 1) barred' b) (take (short_places - (left - 1)) (set path (short_places - left) b)) t o t₁ o₁
      → Finds (Onward T z (left - 1) barred others) (take (short_places - left) path) t₁ o₁ t₂ o₂
      → Finds (Onward T z (left - 1) barred next) (take (short_places - left) path) t o t₂ o₂
  finds_over {b = b} l low i rest x y =
      finds_both (take (short_places - left) path) (take (short_places - (left - 1)) (set path (short_places - left) b)) b
      (front_more path left b s.size l s.most) (λ ws vs e f. exactly_more T z low rest (exactly_barred T z i e) f) x y

pub finds_none : {T : Topology} (z n barred : ℕ) {next : ℕ} (f : List ℕ) (t : Tally) (b : List ℕ) → next ≡ 0 → Room t b → Finds (Onward T z n barred next) f t b t b
finds_none {T} z n barred {next} f t b e r =
    subst (λ (v : ℕ). Finds (Onward T z n barred v) f t b t b) (sym e) (finds_nothing f t b r (exactly_none T z n barred))
