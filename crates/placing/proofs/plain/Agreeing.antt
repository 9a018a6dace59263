-- Offsets that agree are those of hops that meet.
use mathlib.Core.Path.{◌≡◌, sym, subst, subst₂}
use mathlib.Core.Logic.{◌↔◌}
use mathlib.Core.Bool.{Bool, false}
use mathlib.Core.List.{List}
use Prim.Native.Nat.{ℕ, ◌+◌, ◌*◌, ◌%◌, ◌<◌}
use native.Mathlib.Numerals.{add-one}
use native.Mathlib.Decide.{dec_lt}
use native.Mathlib.Omega.{arith}
use lib.ListN.{get_or}
use Rattle.rules.specs.Words.{Tests}
use Rattle.rules.specs.Tiles.{PlanInRange, Period, Meet}
use Rattle.rules.specs.Topology.{hop_at}
use Rattle.rules.specs.Book.{Site, Row, hops, row_offset, LawfulRow}
use Rattle.rules.specs.Image.{plan_of}
use Rattle.rules.specs.Records.{the_route}
use Rattle.rules.specs.declared.{Node.Node, Placed.Placed}
use Rattle.rules.proofs.Records.{node_at_lem, node_of}
use Rattle.rules.proofs.Tests.{alike, said_no}
use Rattle.rules.proofs.Meeting.{meet_rule}
use Rattle.bitset.specs.clash.Reach.{End, hop}
use Rattle.bitset.specs.declared.clash.Reach.{Reach}
use Rattle.index.specs.Marks.{InReach}
use Rattle.image.proofs.Hops.{offset_within}
use Rattle.placing.specs.plain.Plain.{LeftOut, HasEnd, ModulusOf, Weighed, RowsThere, Weighs, AgreesRow, Agrees, MeetsRow, MeetsPlain, MeetsRouteHop}
use Rattle.placing.specs.plain.Plain.Weighed.{weighs, indexed}

-- ENDS IN REACH
-- a hop of a route, and one that was read of it
route_reach : (reach : Reach) (route : List ℕ) (i : ℕ) {s : Bool} → Tests s (HasEnd (InReach reach) (record { from = get_or route i 0; to = get_or route (i + 1) 0 }))
    → Tests s (HasEnd (InReach reach) (hop_at route i))
route_reach reach route i {s} r = subst (λ (j : ℕ). Tests s (HasEnd (InReach reach) (record { from = get_or route i 0; to = get_or route j 0 }))) (add-one i) r

pub reach_is : (reach : Reach) (from to : Node) (route : List ℕ) (i : ℕ) {s : Bool} → from.0 ≡ get_or route i 0 → to.0 ≡ get_or route (i + 1) 0
    → Tests s (HasEnd (InReach reach) (hop from to)) → Tests s (HasEnd (InReach reach) (hop_at route i))
reach_is reach from to route i {s} a b r = route_reach reach route i (subst₂ (λ (x y : ℕ). Tests s (HasEnd (InReach reach) (record { from = x; to = y }))) a b r)

pub placed_reach : (reach : Reach) (p : Placed) (i : ℕ) {s : Bool} → i < p.route.hops → Tests s (HasEnd (InReach reach) (hop (node_of p.route i) (node_of p.route (i + 1))))
    → Tests s (HasEnd (InReach reach) (hop_at (the_route p.route) i))
placed_reach reach p i l r =
    let route = p.route in
    reach_is reach (node_of route i) (node_of route (i + 1)) (the_route route) i (sym (node_at_lem route i (omega arith))) (sym (node_at_lem route (i + 1) (omega arith))) r

-- ITS OFFSET
module _ {C : End → ℕ → Type 0} where
  pub no_offset : {route offsets : List ℕ} {o i : ℕ} → (get_or offsets i 0 ≡ o → ⊥) → Tests false (MeetsRouteHop C route offsets o i)
  no_offset f = said_no (λ h. f h.is)

  pub offset_reach : {route offsets : List ℕ} {o i : ℕ} {s : Bool} → get_or offsets i 0 ≡ o → Tests s (HasEnd C (hop_at route i)) → Tests s (MeetsRouteHop C route offsets o i)
  offset_reach e a = alike a (λ h. record { sought = h; is = e }) (λ h. h.sought)

-- MEETING: of a row with a modulus, and of the rows
module _ {site : Site} {r : Row} (row : LawfulRow site r) (plan : PlanInRange site.plan) {K o : ℕ} (p : Period K) (l : o < K * site.plan.slots) where
  -- hop j of the row: its offset agrees exactly if it is met
  met_iff : (j : ℕ) {m : ℕ} → j < hops r → ModulusOf site.plan.slots K r.period m
      → Meet site.plan.slots K o r.period (row_offset r j) ↔ (o % m ≡ row_offset r j % m)
  met_iff j k m =
      subst (λ (x : ℕ). Meet site.plan.slots K o r.period (row_offset r j) ↔ (o % x ≡ row_offset r j % x)) (sym m.is)
      (meet_rule site.plan.slots K r.period m.divisor o (row_offset r j) plan.some p row.period m.greatest l (offset_within row j k))

  module _ {C : End → ℕ → Type 0} {m : ℕ} where
    pub row_agrees_meets : Weighed site.plan.slots K r.period m → 0 < m → AgreesRow C r m o → LeftOut K r.period × MeetsRow C site.plan.slots K r o
    row_agrees_meets (weighs out some q) z h =
        (out, record { hop = h.hop; there = h.there; sought = h.hop_agrees.sought; meet = (met_iff h.hop h.there q).1 h.hop_agrees.agrees })
    row_agrees_meets (indexed f e) z h = absurd (omega (arith, e, z))

    pub row_meets_agrees : Weighed site.plan.slots K r.period m → LeftOut K r.period → MeetsRow C site.plan.slots K r o → (0 < m) × AgreesRow C r m o
    row_meets_agrees (weighs out some q) z h = (
      some,
      record { hop = h.hop; there = h.there; hop_agrees = record { sought = h.sought; agrees = (met_iff h.hop h.there q).0 h.meet } },
    )
    row_meets_agrees (indexed f e) z h = absurd (f z)

module _ {s : List ℕ} {start n K o : ℕ} (there : RowsThere s start n) (plan : PlanInRange (plan_of s)) (p : Period K)
    (l : o < K * (plan_of s).slots) {C : End → ℕ → Type 0} {moduli : List ℕ} {rows : ℕ} (w : Weighs s start n K moduli rows) where
  pub agrees_meets : Agrees C s start rows moduli o → MeetsPlain C s start n K o
  agrees_meets a =
      let inside : a.row < n = omega (arith, a.there, w.most) in
      let k = row_agrees_meets (there.each a.row inside).lawful plan p l (w.each a.row a.there) a.weighed a.row_agrees in
      record { row = a.row; there = inside; left_out = k.0; meets = k.1 }

  pub meets_agrees : MeetsPlain C s start n K o → Agrees C s start rows moduli o
  meets_agrees m = go (dec_lt m.row rows)
    where
      go : Dec (m.row < rows) → Agrees C s start rows moduli o
      go (no f) = absurd (w.others m.row (omega arith) m.there m.left_out)
      go (yes h) =
          let k = row_meets_agrees (there.each m.row m.there).lawful plan p l (w.each m.row h) m.left_out m.meets in
          record { row = m.row; there = h; weighed = k.0; row_agrees = k.1 }
