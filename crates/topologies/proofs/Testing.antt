-- The rows of a topology, tested member by member.
use mathlib.Core.Path.{◌≡◌, sym, subst}
use mathlib.Core.Logic.{◌⊎◌, inl, inr, ⊎_elim}
use Prim.Native.Nat.{ℕ, ◌<◌, ◌≤◌}
use native.Mathlib.Omega.{arith}
use lib.ListN.{get_or}
use Rattle.rules.specs.Words.{Has, NoBitFrom}
use Rattle.rules.specs.Topology.{Topology, nodes, Joined, SoundTopology}
use Rattle.bitset.specs.Sets.{SetOf, Lowest}
use Rattle.bitset.proofs.Bits.{has_or_not, within, zero_none}
use Rattle.bitset.proofs.Members.{some_member, lowest_or_rest, all_within}
use Rattle.topologies.specs.Rows.{SoundRow, LeftOf, HeardRow, Heard}

-- what the row of a has and is not left are right
pub record Testing (T : Topology) (a left : ℕ) : Type 0 where
  pub fits : NoBitFrom 64 (get_or T.rows a 0)
  pub no_self : Joined T a a → ⊥
  pub left_fits : NoBitFrom 64 left
  pub left_of : (b : ℕ) → Has left b → Joined T a b
  pub right : (b : ℕ) → Joined T a b → Has left b ⊎ ((b < nodes T) × Joined T b a)

pub test_more : {T : Topology} {a left b less : ℕ} → Testing T a left → Lowest left b → b < nodes T → Joined T b a
    → SetOf (λ (k : ℕ). Has left k × (Lowest left k → ⊥)) less → Testing T a less
test_more {T} {a} {left} {b} {less} t low k l s = record {
  fits = t.fits;
  no_self = t.no_self;
  left_fits = s.fits;
  left_of = λ x h. t.left_of x (s.only x h).0;
  right = λ x h. ⊎_elim (λ i. seen x (lowest_or_rest x low s i)) (λ r. inr r) (t.right x h);
}
  where
    seen : (x : ℕ) → (x ≡ b) ⊎ Has less x → Has less x ⊎ ((x < nodes T) × Joined T x a)
    seen x (inl e) = inr (subst (λ (y : ℕ). y < nodes T) (sym e) k, subst (λ (y : ℕ). Joined T y a) (sym e) l)
    seen x (inr h) = inl h

pub test_done : {T : Topology} {a : ℕ} → Testing T a 0 → SoundRow T a
test_done {T} {a} t = record {
  low = all_within 64 (nodes T) (get_or T.rows a 0) t.fits (λ b l. (right b l).0);
  no_self = t.no_self;
  both_ways = λ b k l. (right b l).1;
}
  where
    right : (b : ℕ) → Joined T a b → (b < nodes T) × Joined T b a
    right b l = ⊎_elim (λ h. absurd (zero_none b h)) (λ r. r) (t.right b l)

-- what a test that fails says of the row
pub too_high : {T : Topology} {a left b : ℕ} → Testing T a left → Lowest left b → nodes T ≤ b → SoundRow T a → ⊥
too_high {T} {a} {b = b} t low h s = omega (arith, within (nodes T) (get_or T.rows a 0) b s.low (t.left_of b low.member))

pub one_way : {T : Topology} {a left b : ℕ} → Testing T a left → Lowest left b → b < nodes T → (Joined T b a → ⊥) → SoundRow T a → ⊥
one_way {b = b} t low h f s = f (s.both_ways b h (t.left_of b low.member))

-- ALL ROWS: each row of a sound topology is sound
pub sound_row : {T : Topology} → SoundTopology T → (a : ℕ) → a < nodes T → SoundRow T a
sound_row s a h = record { low = s.low a h; no_self = s.no_self a h; both_ways = λ b k. s.both_ways a b h k }

-- BOTH TOPOLOGIES
module _ (links hearing : Topology) (a : ℕ) {rest : ℕ}
    (s : SetOf (λ (b : ℕ). Has (get_or links.rows a 0) b × (Has (get_or hearing.rows a 0) b → ⊥)) rest) where
  pub row_unheard : (rest ≡ 0 → ⊥) → HeardRow links hearing a → ⊥
  row_unheard n h = let m = some_member rest s.fits n in let p = s.only m.0 m.1 in p.1 (h m.0 p.0)

-- a link that is heard is heard both ways
pub left_unlinked : {links hearing : Topology} {a rest : ℕ} → nodes hearing ≡ nodes links → SoundTopology links → Heard links hearing → a < nodes links
    → SetOf (λ (b : ℕ). Has (get_or hearing.rows a 0) b × (Has (get_or links.rows a 0) b → ⊥)) rest → LeftOf hearing a rest
left_unlinked {links} {hearing} {a} {rest} e w f l s = record { left_of = λ b h. (s.only b h).0; right = λ b h. go b h (has_or_not (get_or links.rows a 0) b) }
  where
    go : (b : ℕ) → Joined hearing a b → Dec (Joined links a b) → Has rest b ⊎ ((b < nodes hearing) × Joined hearing b a)
    go b h (yes k) =
        let there : b < nodes links = within (nodes links) (get_or links.rows a 0) b (w.low a l) k in
        inr (omega (arith, there, e), f b there a (w.both_ways a b l there k))
    go b h (no n) = inl (s.all b (h, n))
