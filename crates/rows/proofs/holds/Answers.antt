-- Where all else holds the offsets decide.
use mathlib.Core.Path.{sym, subst, ◌∙◌}
use Prim.Native.Nat.{ℕ}
use Rattle.rules.specs.Records.{the_plan}
use Rattle.rules.proofs.Tests.{never, alike}
use Rattle.rows.specs.Walk.{PeriodHeld, OffsetsHold}
use Rattle.rows.proofs.Walks.{nodes_most}
use Rattle.rows.proofs.Single.{parts_hold, hold_parts}
use Rattle.rows.proofs.holds.Goals.{then-key_holds, else-key_holds, then-account_known, else-account_known, then-period_held, else-period_held}
use Rattle.rows.proofs.holds.Goals as goal

pub route_holds-requires : goal.route_holds-requires
route_holds-requires c =
    nodes_most c.requires.0

pub returns-then-route_holds : goal.returns-then-route_holds
returns-then-route_holds c =
    let a = c.args in
    let K = c.period-then-route_holds.ensures.0 in
    elim c.if-period_held.branch [
      | then-period_held q ↦ elim c.if-account_known.branch [
        | then-account_known p ↦ elim c.if-key_holds.branch [
          | then-key_holds k ↦ alike c.offsets_hold.ensures
              (λ h. parts_hold c.requires.0 c.requires.1 (record {
                key = c.key_holds.ensures.yes k.if-key_holds.true;
                account = k.account_known.ensures.yes (cc);
                period = subst (PeriodHeld a.book.version) p.period.ensures.0 (p.period_held.ensures.yes (cc));
                route = q.route_holds.ensures.yes (cc);
                offsets = subst (λ (K : ℕ). OffsetsHold (the_plan a.book.plan) K a.row.now) K h;
              }))
              (λ g. subst (λ (K : ℕ). OffsetsHold (the_plan a.book.plan) K a.row.now) (sym K) (hold_parts c.requires.0 g).offsets)
          | else-key_holds k ↦ never (sym k.if-key_holds.false ∙ sym k.value-is ∙ p.if-account_known.true)
        ]
        | else-account_known p ↦ never (sym p.if-account_known.false ∙ sym p.value-is ∙ q.if-period_held.true)
      ]
      | else-period_held q ↦ never (sym q.if-period_held.false ∙ sym q.value-is ∙ c.if-route_holds.true)
    ]
