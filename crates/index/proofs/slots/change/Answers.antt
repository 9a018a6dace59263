-- One slot after the other is changed.
use Prim.Native.Nat.{◌+◌, ◌*◌, ◌<◌}
use mathlib.Core.Path.{◌≡◌, refl}
use native.Mathlib.Omega.{arith}
use Rattle.index.specs.Areas.{index_slots}
use Rattle.index.proofs.Changing.{changed_none, changed_more}
use Rattle.index.proofs.slots.change.Goals as goal

pub loop-turn-init : goal.loop-turn-init
loop-turn-init g c = changed_none _ (λ slot p. omega (arith, p.within))

pub loop-turn-preserved : goal.loop-turn-preserved
loop-turn-preserved g c =
    let low : c.args.start + c.loop-turn.turn * c.from-step.result < index_slots = rw c.from-step.ensures (c.requires.turns.inside c.loop-turn.turn (omega arith)) in
    changed_more {h = record { from = c.from-i.result; to = c.from-j.result }} _ _ _ refl (omega (arith, c.requires.turns.apart))
    (omega (arith, c.loop-turn.invariant.size)) c.loop-turn.invariant c.f.ensures c.f-in-loop-turn.ensures low

pub returns : goal.returns
returns g c =
    let all : c.loop-turn.turn ≡ c.args.turns = omega arith in
    rw (c.from-step.ensures, c.from-i.ensures, c.from-j.ensures, all) at c.loop-turn.invariant
