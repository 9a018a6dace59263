-- The bytes behind a row's hop count are inside the image.
use native.Mathlib.Omega.{arith}
use Rattle.image.proofs.Places.{next_hops, whole_sized}
use Rattle.image.proofs.Behind.{hop_bytes_there}
use Rattle.image.proofs.row.hop_bytes.Goals as goal

pub slice_bounds-result-end : goal.slice_bounds-result-end
slice_bounds-result-end c =
    let k = c.requires in
    omega (arith, next_hops _ _ k.whole, k.whole.fits, k.nodes_behind, k.hops_are)

pub returns-clause-bytes : goal.returns-clause-bytes
returns-clause-bytes c =
    let k = c.requires in
    hop_bytes_there c.args.image.now c.args.at (λ i. (c.type_inv.image i).fits) k.whole _ _ (omega (arith, k.nodes_behind)) (omega (arith, k.hops_are))

pub returns-clause-sized : goal.returns-clause-sized
returns-clause-sized c =
    let k = whole_sized c.args.image.now c.args.at c.requires.whole in
    (omega (arith, k.nodes, c.requires.hops_are), omega (arith, k.offsets, c.requires.hops_are))
