-- The search beyond 15 hops: from front to front until the source is met or no stop is left.
use mathlib.Core.Path.{◌≡◌, sym}
use mathlib.Core.Bool.{true, false}
use Prim.Native.Nat.{ℕ, suc, ◌<◌, ◌≤◌}
use native.Mathlib.Omega.{arith}
use lib.ListN.{get_or}
use Rattle.rules.specs.Words.{Has}
use Rattle.rules.specs.Topology.{Topology, nodes}
use Rattle.rules.proofs.Tests.{never}
use Rattle.bitset.specs.Sets.{SetOf}
use Rattle.bitset.proofs.Members.{some_member, without_less}
use Rattle.routes.specs.Levels.{Neighbour, Under, SomeFront, Meets}
use Rattle.routes.proofs.Distances.{stop_known}
use Rattle.routes.proofs.Searching.{front_hit, front_more, front_empty}

-- each search that had come to the front last, unmet has come to the front level, left
abbrev pub Going : Topology → ℕ → ℕ → ℕ → ℕ → ℕ → Type 0
Going T source last unmet level left =
    (middle z hops : ℕ) → Under T middle source z hops last unmet → (k : ℕ) × (hops ≤ k) × Under T middle source z k level left

module _ {T : Topology} {source last unmet level left : ℕ} (g : Going T source last unmet level left) where
  pub going_known : SomeFront T source last unmet → (a : ℕ) → Has level a → a < nodes T
  going_known s a h =
      let i = g s.0 s.1 s.2 s.3 in
      stop_known T s.0 s.1 i.0 a i.2.asked.destination_known (i.2.front.level.only a h)

  module _ {met : ℕ} (m : SetOf (λ (a : ℕ). Has (get_or T.rows source 0) a × Has level a) met) where
    pub going_met : (met ≡ 0 → ⊥) → Meets T source last unmet true
    going_met f = record {
      later = λ e middle z hops u.
          let i = g middle z hops u in
          (suc i.0, omega (arith, i.1), front_hit T middle source z i.2.asked i.2.front m f);
      never = λ e. never (sym e);
    }

    module _ {around next : ℕ} (n : SetOf (Neighbour T level) around) (d : SetOf (λ (a : ℕ). Has around a × Has left a) next) (e : met ≡ 0) where
      pub going_more : {less : ℕ} → SetOf (λ (a : ℕ). Has left a × (Has next a → ⊥)) less → Going T source last unmet next less
      going_more s middle z hops u =
          let i = g middle z hops u in
          (suc i.0, omega (arith, i.1), record { asked = i.2.asked; front = front_more T middle source z i.2.asked i.2.front m n d e s })

      pub going_empty : next ≡ 0 → Meets T source last unmet false
      going_empty f = record {
        later = λ e. never e;
        never = λ _ middle z hops u. let i = g middle z hops u in front_empty T middle source z i.2.asked i.2.front m n d e f;
      }

      -- a level of new nodes leaves fewer
      pub going_less : {less : ℕ} → SomeFront T source last unmet → (next ≡ 0 → ⊥) → SetOf (λ (a : ℕ). Has left a × (Has next a → ⊥)) less → less < left
      going_less p f s =
          let k = some_member next d.fits f in
          without_less (g p.0 p.1 p.2 p.3).2.front.ahead.fits d.fits s k.0 (d.only k.0 k.1).1 k.1
