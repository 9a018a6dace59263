-- What is found in a slot, and in those of a hop's turns.
use mathlib.Core.Path.{subst}
use mathlib.Core.Bool.{not}
use mathlib.Core.List.{List}
use Prim.Native.Nat.{ℕ, ◌+◌, ◌*◌}
use lib.Dec.{eqb}
use lib.ListN.{get_or}
use Rattle.rules.specs.Words.{Has, Tests}
use Rattle.rules.proofs.Tests.{alike, tests_not, tests_eq}
use Rattle.bitset.specs.Sets.{SetOf}
use Rattle.bitset.proofs.Bits.{zero_none}
use Rattle.bitset.proofs.Members.{some_member}
use Rattle.bitset.specs.clash.Reach.{End}
use Rattle.bitset.specs.clash.Reach.End.{sender, receiver}
use Rattle.bitset.specs.declared.clash.Reach.{Reach}
use Rattle.index.specs.Areas.{AtWork}
use Rattle.index.specs.Marks.{Busy, Common, InReach}
use Rattle.index.specs.Marks.Common.{sends, receives}

-- in a slot these are the nodes that are found there
module _ {words : List ℕ} {slot : ℕ} {reach : Reach} {common : ℕ} (s : SetOf (Common (get_or words (2 * slot) 0) (get_or words (2 * slot + 1) 0) reach) common) where
  pub common_busy : (k : ℕ) → Has common k → Busy (InReach reach) words slot
  common_busy k m = cases (s.only k m)
    where
      cases : Common (get_or words (2 * slot) 0) (get_or words (2 * slot + 1) 0) reach k → Busy (InReach reach) words slot
      cases (sends there p) = record { end = sender; node = k; sought = p; there = there }
      cases (receives there p) = record { end = receiver; node = k; sought = p; there = there }

  pub busy_common : Busy (InReach reach) words slot → (k : ℕ) × Has common k
  busy_common b = (b.node, s.all b.node (cases b.end b.sought b.there))
    where
      cases : (end : End) {k : ℕ} → InReach reach end k → AtWork words end slot k → Common (get_or words (2 * slot) 0) (get_or words (2 * slot + 1) 0) reach k
      cases sender m there = sends there m
      cases receiver m there = receives there m

  pub tests_busy : Tests (not (eqb common 0)) (Busy (InReach reach) words slot)
  tests_busy =
      alike (tests_not (tests_eq common 0)) (λ n. let k = some_member common s.fits n in common_busy k.0 k.1)
      (λ b e. let k = busy_common b in zero_none k.0 (subst (λ (x : ℕ). Has x k.0) e k.1))
