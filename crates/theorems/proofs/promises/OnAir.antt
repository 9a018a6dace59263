-- Two books never look alike on the air.
use native.Mathlib.Nat.{le_refl}
use Rattle.rules.specs.Tiles.{cycle_tiles}
use Rattle.rules.proofs.Air.{fit_long}
use Rattle.rules.proofs.Alike.{alike_same}
use Rattle.theorems.specs.promises.OnAir.{NeverAlike}

pub never_alike : NeverAlike
never_alike b c lb lc e numbers look =
    alike_same cycle_tiles (le_refl cycle_tiles) b c lb lc e (λ r m. fit_long r.period (lb.rows r m).period) (λ x m. fit_long x.period (lc.rows x m).period) numbers look
