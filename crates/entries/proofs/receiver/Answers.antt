-- The first that receives.
use Prim.Native.Nat.{ℕ, ◌+◌, ◌*◌}
use native.Mathlib.Omega.{arith}
use Rattle.std.proofs.Common.{rules, tests, None, Some}
use Rattle.std.proofs.lemmas.Iterator.{first_from_Range}
use Rattle.entries.specs.Entries.{Receives}
use Rattle.entries.proofs.Seeking.{receiver_none, receiver_here}
use Rattle.entries.proofs.receiver.Goals as goal

pub returns-in_err-node : goal.returns-in_err-node
returns-in_err-node c =
    let a = c.args in
    let there : ℕ → Type 0 = λ node. Receives a.tables.now (node * c.from-table.result + a.slot.0) a.way a.id in
    rw c.from_residual.ensures (rw (← c.from-table.ensures) (receiver_none (first_from_Range _ _ _ None there (λ node. there node → ⊥) c.in_err-node.ensures.ran (λ x q k. search (rules, tests)) (λ x q k. search (rules, tests)))))

pub returns : goal.returns
returns c =
    let a = c.args in
    let there : ℕ → Type 0 = λ node. Receives a.tables.now (node * c.from-table.result + a.slot.0) a.way a.id in
    let first = first_from_Range _ _ _ (Some c.in_ok-node.node) there (λ node. there node → ⊥) c.in_ok-node.ensures.ran (λ x q k. search (rules, tests)) (λ x q k. search (rules, tests)) in
    (first.1, rw (← c.from-table.ensures) (receiver_here first))

pub overflow_cast-result : goal.overflow_cast-result
overflow_cast-result c =
    let a = c.args in
    let there : ℕ → Type 0 = λ node. Receives a.tables.now (node * c.from-table.result + a.slot.0) a.way a.id in
    let first = first_from_Range _ _ _ (Some c.in_ok-node.node) there (λ node. there node → ⊥) c.in_ok-node.ensures.ran (λ x q k. search (rules, tests)) (λ x q k. search (rules, tests)) in
    omega (arith, first.1, c.requires.0)
