-- More rows never make room.
use mathlib.Core.Path.{sym, subst}
use lib.ListN.{get_or}
use Rattle.rules.specs.Topology.{hop_count, hop_at}
use Rattle.rules.specs.Book.{Site, Offsets, OnData, MeetsClashing}
use Rattle.theorems.specs.promises.Promises.{MoreRowsNeverHelp}

pub more_rows_never_help : MoreRowsNeverHelp
more_rows_never_help b c K route s f none offsets w =
    none offsets record {
      offsets_hold = subst (λ (site : Site). Offsets site.plan.slots K (hop_count route) offsets) s w.offsets_hold;
      free = λ i l. record {
        on_data = subst (λ (site : Site). OnData site.plan K (get_or offsets i 0)) s (w.free i l).on_data;
        never_meet = λ r m d. (w.free i l).never_meet r (f r m) (subst (λ (site : Site). MeetsClashing site r K (hop_at route i) (get_or offsets i 0)) (sym s) d);
      };
    }
