-- The account stands behind the offsets, where the version holds it.
use mathlib.Core.Path.{sym, ap, ◌∙◌, subst}
use Prim.Native.Nat.{ℕ, ◌<◌, ◌≤◌}
use native.Mathlib.Omega.{arith}
use Rattle.rules.specs.Book.{Row}
use Rattle.image.proofs.Places.{account_without, account_there, account_inside}
use Rattle.image.proofs.row.Row.account.Goals as goal

pub returns-then-word_at-lt-ACCOUNTS : goal.returns-then-word_at-lt-ACCOUNTS
returns-then-word_at-lt-ACCOUNTS c =
    let none = account_without _ _ (subst (λ (v : ℕ). v < 5) c.word_at.ensures.0 c.if-word_at-lt-ACCOUNTS.true) in
    (sym none ∙ ap (λ (r : Row). r.account) c.self.view_is, omega arith)

pub word_at-requires-2 : goal.word_at-requires-2
word_at-requires-2 c =
    let r = c.self.invariant in
    let held = subst (λ (v : ℕ). 5 ≤ v) c.word_at.ensures.0 c.if-word_at-lt-ACCOUNTS.false in
    omega (arith, account_inside c.self.inside.image.now c.self.inside.at r.whole held, r.nodes_behind, r.hops_are)

pub returns : goal.returns
returns c =
    let r = c.self.invariant in
    let held = subst (λ (v : ℕ). 5 ≤ v) c.word_at.ensures.0 c.if-word_at-lt-ACCOUNTS.false in (
      c.word_at-2.ensures.0 ∙ account_there c.self.inside.image.now c.self.inside.at r.whole held _ _ r.nodes_behind r.hops_are
          ∙ ap (λ (r : Row). r.account) c.self.view_is,
      c.word_at-2.ensures.1,
    )
