-- The tests are made in the order of the reasons.
use mathlib.Core.Path.{sym, ap, ◌∙◌, subst}
use mathlib.Core.List.{[], ◌∷◌, ◌++◌}
use Rattle.rules.specs.Tiles.{Plan}
use Rattle.rules.specs.Book.{Row, hops, Paid}
use Rattle.rules.specs.Image.{accounts_of}
use Rattle.rules.proofs.Tests.{fails}
use Rattle.image.specs.Places.{row_at, InRange}
use Rattle.rows.specs.Walk.{RowStands}
use Rattle.rows.proofs.Walks.{row_tested, stands_in_range}
use Rattle.damaged.specs.judging.Placed.{RowMeets}
use Rattle.damaged.specs.judging.Keeping.{Behind, Room}
use Rattle.damaged.proofs.judging.Reasons.{PaidWith, not_behind, not_paid, no_room, meets, stays, beside_row}
use Rattle.damaged.proofs.judging.stays_beside.Goals.{Else-not-comes_behind, Else-not-has_room, Else-not-may_draw, Else-not-holds}
use Rattle.damaged.proofs.judging.stays_beside.Goals as goal

-- the row is lawful by itself,
stands : (c : Else-not-holds) → RowStands c.args.image.now c.args.at
stands c =
    row_tested c.requires.1 c.new-row.ensures (c.holds.ensures.yes c.if-not-holds.false)

pub comes_behind-requires : goal.comes_behind-requires
comes_behind-requires c =
    let p = c.requires in
    let fields = p.0.read.fields in
    (fields, p.2.1.stands, subst InRange (sym c.new-row.ensures) (stands_in_range fields (stands (goal.at.comes_behind-requires c).Else-not-holds)))

pub returns-then-not-comes_behind : goal.returns-then-not-comes_behind
returns-then-not-comes_behind c =
    let a = c.args in
    not_behind (λ f. fails c.comes_behind.ensures c.if-not-comes_behind.true (subst (Behind a.image.now a.kept.last) (sym c.new-row.ensures) f))

-- behind those kept,
behind : (c : Else-not-comes_behind) → Behind c.args.image.now c.args.kept.last (row_at c.args.image.now c.args.at)
behind c =
    subst (Behind c.args.image.now c.args.kept.last) c.new-row.ensures (c.comes_behind.ensures.yes c.if-not-comes_behind.false)

pub returns-then-not-may_draw : goal.returns-then-not-may_draw
returns-then-not-may_draw c =
    not_paid c.new-row.ensures c.may_draw.ensures c.if-not-may_draw.true

-- paid for,
paid : (c : Else-not-may_draw) → PaidWith c.args.image.now c.args.at c.args.left.now
paid c =
    λ rows w. subst (λ (r : Row). Paid (accounts_of c.args.image.now) (rows ++ (r ∷ []))) c.new-row.ensures ((c.may_draw.ensures rows w).yes c.if-not-may_draw.false)

pub returns-then-not-has_room : goal.returns-then-not-has_room
returns-then-not-has_room c =
    no_room (stands (goal.at.returns-then-not-has_room c).Else-not-holds) (behind (goal.at.returns-then-not-has_room c).Else-not-comes_behind)
    (paid (goal.at.returns-then-not-has_room c).Else-not-may_draw)
    (λ r. fails c.has_room.ensures c.if-not-has_room.true (subst (Room c.args.kept) (sym (c.hops.ensures.0 ∙ ap hops c.new-row.ensures)) r))

-- and has room
room : (c : Else-not-has_room) → Room c.args.kept (hops (row_at c.args.image.now c.args.at))
room c =
    subst (Room c.args.kept) (c.hops.ensures.0 ∙ ap hops c.new-row.ensures) (c.has_room.ensures.yes c.if-not-has_room.false)

pub meets_kept-requires : goal.meets_kept-requires
meets_kept-requires c =
    let p = c.requires in (
      beside_row p.0.read.fields (c.holds.ensures.yes c.if-not-holds.false).lawful p.2,
      p.0.heard,
      ap (λ (plan : Plan). plan.slots) p.0.read.list.header.plan,
    )

pub returns-then-meets_kept : goal.returns-then-meets_kept
returns-then-meets_kept c =
    let p = c.requires in
    let a = c.args in
    meets (stands (goal.at.returns-then-meets_kept c).Else-not-holds) (behind (goal.at.returns-then-meets_kept c).Else-not-comes_behind)
    (paid (goal.at.returns-then-meets_kept c).Else-not-may_draw) (room (goal.at.returns-then-meets_kept c).Else-not-has_room) p.0.read.fields
    (subst (RowMeets a.index.now a.image.now a.places.now a.kept.rows) c.new-row.ensures (c.meets_kept.ensures.yes c.if-meets_kept.true))

pub returns : goal.returns
returns c =
    let p = c.requires in
    let a = c.args in
    stays (stands (goal.at.returns c).Else-not-holds) (behind (goal.at.returns c).Else-not-comes_behind) (paid (goal.at.returns c).Else-not-may_draw)
    (room (goal.at.returns c).Else-not-has_room) p.0.read.fields
    (λ h. fails c.meets_kept.ensures c.if-meets_kept.false (subst (RowMeets a.index.now a.image.now a.places.now a.kept.rows) (sym c.new-row.ensures) h))
