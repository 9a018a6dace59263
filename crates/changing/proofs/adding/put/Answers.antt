-- Row by row is written, and all are put in.
use mathlib.Core.Path.{◌≡◌, refl, sym}
use mathlib.Core.Logic.{⊎_elim}
use native.Mathlib.Omega.{arith}
use lib.ListN.{length}
use lib.Seq.{length-take-le}
use Rattle.rules.specs.Records.{the_asked}
use Rattle.changing.proofs.adding.Fresh.{written_none, way_few, next_few, next_fits, written_more, all_hops, all_size, all_count, all_fits, fresh}
use Rattle.changing.proofs.adding.put.Goals.{In-None}
use Rattle.changing.proofs.adding.put.Goals as goal

pub put_row-requires : goal.put_row-requires
put_row-requires c =
    let b = c.loop-placed.invariant in
    let e = c.in-Some.ensures.steps.0 in
    (next_few (the_asked c.args.q) c.requires b e, omega (arith, next_fits (the_asked c.args.q) c.requires b e))

pub row_size-requires : goal.row_size-requires
row_size-requires c =
    next_few (the_asked c.args.q) c.requires c.loop-placed.invariant c.in-Some.ensures.steps.0

pub overflow_add-end : goal.overflow_add-end
overflow_add-end c =
    omega (arith, c.row_size.ensures.0, next_fits (the_asked c.args.q) c.requires c.loop-placed.invariant c.in-Some.ensures.steps.0)

pub overflow_add-hops : goal.overflow_add-hops
overflow_add-hops c =
    omega (arith, c.loop-placed.invariant.size_is, next_fits (the_asked c.args.q) c.requires c.loop-placed.invariant c.in-Some.ensures.steps.0)

pub loop-placed-preserved : goal.loop-placed-preserved
loop-placed-preserved c =
    let e = c.in-Some.ensures.steps in
    written_more (the_asked c.args.q) c.requires c.loop-placed.invariant e.0 c.row_size.ensures.2 (omega (arith, e.1.0, e.1.1))
    (omega (arith, c.row_size.ensures.0)) refl (rw e.1.0 at c.put_row.ensures)

pub loop-placed-init : goal.loop-placed-init
loop-placed-init c =
    let g = c.into_iter-placed-iterator.ensures.into_iter_gives in
    written_none (the_asked c.args.q) (rw (g, c.zip-placed-items.ensures.first) c.iter.ensures.rest) (rw (g, c.zip-placed-items.ensures.second) refl)

-- no route is left, since the ways do not run out
none : (c : In-None) → length c.loop-placed.placed-iterator.a.rest.now ≡ 0
none c =
    ⊎_elim (λ x. x.1.0) (λ x. absurd (omega (arith, x.1.0, way_few (the_asked c.args.q) c.requires c.loop-placed.invariant))) c.in-None.ensures.steps

pub slice_bounds-new-end : goal.slice_bounds-new-end
slice_bounds-new-end c =
    omega (arith, all_fits (the_asked c.args.q) c.requires c.loop-placed.invariant (none c))

pub slice_bounds-put_in-end : goal.slice_bounds-put_in-end
slice_bounds-put_in-end c =
    sym (length-take-le _ _ (omega (arith, all_fits (the_asked c.args.q) c.requires c.loop-placed.invariant (none (goal.at.slice_bounds-put_in-end c).In-None))))

pub put_in-requires-clause-newest_image : goal.put_in-requires-clause-newest_image
put_in-requires-clause-newest_image c =
    let b = c.loop-placed.invariant in
    let n = none (goal.at.put_in-requires-clause-newest_image c).In-None in
    let r = c.requires.room in
    let long = length-take-le c.loop-placed.size c.loop-placed.new (omega (arith, all_fits (the_asked c.args.q) c.requires b n)) in
    (r.image, (_, r.vacant), omega (arith, long, all_size (the_asked c.args.q) c.requires b n))

pub put_in-requires-clause-rows_bound : goal.put_in-requires-clause-rows_bound
put_in-requires-clause-rows_bound c =
    let r = c.requires.room in
    (r.streams, omega (arith, r.hops_in_all, all_hops (the_asked c.args.q) c.requires c.loop-placed.invariant (none (goal.at.put_in-requires-clause-rows_bound c).In-None)))

pub returns : goal.returns
returns c =
    let q = the_asked c.args.q in
    let b = c.loop-placed.invariant in
    let n = none (goal.at.returns c).In-None in
    c.put_in.ensures _ _ (fresh q c.requires b n) (all_count q c.requires b n) (all_hops q c.requires b n)
