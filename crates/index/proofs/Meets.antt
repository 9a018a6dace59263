-- What a hop meets by the index is a clashing hop of the rows.
use mathlib.Core.Path.{◌≡◌, refl, sym, ap, ◌∙◌, subst}
use mathlib.Core.Logic.{inl, inr, ⊎_elim}
use mathlib.Core.Bool.{Bool}
use mathlib.Core.List.{List}
use Prim.Native.Nat.{ℕ, ◌+◌, ◌*◌, ◌/◌, ◌%◌, ◌<◌, ◌≤◌}
use native.Mathlib.Omega.{arith}
use native.Mathlib.Nat.{mod-lt, mul-le-mul_right}
use Rattle.rules.specs.Words.{◌∈◌, Tests}
use Rattle.rules.specs.Tiles.{Period, Takes, Meet, short_tiles}
use Rattle.rules.specs.Topology.{Topology, Hop}
use Rattle.rules.specs.Book.{Site, Row, hops, row_hop, row_offset, Offsets, LawfulRow, MeetsClashing}
use Rattle.rules.proofs.Lists.{at_in, pair_at}
use Rattle.rules.proofs.Meeting.{own_never_meet}
use Rattle.rules.proofs.Periods.{short_period}
use Rattle.rules.proofs.Cycle.{meet_short}
use Rattle.rules.proofs.Tests.{alike}
use Rattle.bitset.specs.clash.Reach.{End, node_at, Clashes, ReachOf}
use Rattle.bitset.specs.declared.clash.Reach.{Reach}
use Rattle.bitset.proofs.clash.Reaching.{clash_end, end_clash}
use Rattle.index.specs.declared.Repeats.{Repeats}
use Rattle.index.specs.Areas.{quick_tiles, quick_place, fold_place, AtWork}
use Rattle.index.specs.Turns.{RepeatsOf, TakesFirst, Places, Looks, MarkedAt, LooksAt}
use Rattle.index.specs.Turns.Places.{quick, short, folded}
use Rattle.index.specs.Turns.Looks.{in_ten, in_fold, in_hundred, once_in_ten}
use Rattle.index.specs.Marks.{Adds, HopsTake, Finds, InReach, MeetsIn}
use Rattle.index.specs.Index.{IndexOf}
use Rattle.index.proofs.Classes.{Class, class_of, tens_on, fold_quick, fold_short}
use Rattle.index.proofs.Turns.{inside, short_takes, quick_turn, ten_turn, in_looks, looks_in}
use Rattle.index.proofs.Lending.{slot_parts, slot_ten, slot_rest}

-- what is found by the repeats of a period is met
pub tests_in : {C : End → ℕ → Type 0} {S K : ℕ} {repeats : Repeats} {words : List ℕ} {o : ℕ} {t : Bool} → RepeatsOf S K repeats
    → Tests t (Finds C words repeats o) → Tests t (MeetsIn C S words K o)
tests_in v t =
    alike t (λ f. record { slot = f.slot; looked = in_looks v _ f.slot f.looked; busy = f.busy }) (λ m. record { slot = m.slot; looked = looks_in v _ m.slot m.looked; busy = m.busy })

-- what the reach meets is what clashes
module _ (T : Topology) {h : Hop} {reach : Reach} {S : ℕ} {words : List ℕ} {K o : ℕ} (w : ReachOf T h reach) where
  pub reach_meets : MeetsIn (InReach reach) S words K o → MeetsIn (Clashes T h) S words K o
  reach_meets m =
      let b = m.busy in
      record { slot = m.slot; looked = m.looked; busy = record { end = b.end; node = b.node; sought = (w b.end).only b.node b.sought; there = b.there } }

  pub meets_reach : MeetsIn (Clashes T h) S words K o → MeetsIn (InReach reach) S words K o
  meets_reach m =
      let b = m.busy in
      record { slot = m.slot; looked = m.looked; busy = record { end = b.end; node = b.node; sought = (w b.end).all b.node b.sought; there = b.there } }

  pub tests_meets : {repeats : Repeats} {t : Bool} → RepeatsOf S K repeats → Tests t (Finds (InReach reach) words repeats o) → Tests t (MeetsIn (Clashes T h) S words K o)
  tests_meets v t = alike (tests_in v t) reach_meets meets_reach

-- MARKED WHERE IT IS LOOKED FOR: the two hops meet
module _ (S K o L p : ℕ) where
  -- in ten tiles both,
  both_ten : {slot : ℕ} → TakesFirst (K * S) (quick_place + o) (quick_tiles / K) slot → MarkedAt S L p slot → slot < fold_place → Meet S K o L p
  both_ten {slot} a m low = go m.places
    where
      go : Places (L * S) (short_tiles / L) (quick_tiles / L) (quick_tiles * S) p slot → Meet S K o L p
      go (quick l b) = record {
        slot = o + a.turn * (K * S);
        left = short_takes S K o (record { turn = a.turn; within = quick_turn K a.within; at = refl });
        right = short_takes S L p (record { turn = b.turn; within = quick_turn L b.within; at = omega (arith, a.at, b.at) });
      }
      go (short z l b) = absurd (omega (arith, a.at, l))
      go (folded z k e) = absurd (omega (arith, e, low))

  -- in 100 tiles both,
  both_hundred : {slot : ℕ} → Takes S K o slot → MarkedAt S L p slot → slot < quick_place → Meet S K o L p
  both_hundred {slot} a m low = go m.places
    where
      go : Places (L * S) (short_tiles / L) (quick_tiles / L) (quick_tiles * S) p slot → Meet S K o L p
      go (quick l b) = absurd (omega (arith, b.at, low))
      go (short z l b) = record { slot = slot; left = a; right = short_takes S L p b }
      go (folded z k e) = absurd (omega (arith, e, low))

  -- or the one in 100 tiles, and the other in the ten that it comes to
  once_ten : Period L → o < short_tiles * S → 0 < short_tiles / K → {slot : ℕ} → slot ≡ quick_place + o % (quick_tiles * S) → slot < fold_place → MarkedAt S L p slot → Meet S K o L p
  once_ten q low some {slot} e l m = go m.places
    where
      go : Places (L * S) (short_tiles / L) (quick_tiles / L) (quick_tiles * S) p slot → Meet S K o L p
      go (quick k b) = by_class (class_of L q)
        where
          by_class : Class L → Meet S K o L p
          by_class (inr c) = absurd (omega (arith, b.within, c.0))
          by_class (inl c) =
              let ten : ℕ = o / (quick_tiles * S) in
              record {
                slot = o;
                left = short_takes S K o (record { turn = 0; within = some; at = omega arith });
                right = short_takes S L p (record {
                  turn = b.turn + ten * (quick_tiles / L);
                  within = ten_turn L c.0 b.within (slot_ten S o low);
                  at = omega (arith, slot_parts S o low, e, b.at, tens_on S L p c.0 c.1 b.turn ten);
                });
              }
      go (short z k b) = absurd (omega (arith, e, k))
      go (folded z k f) = absurd (omega (arith, f, l))

-- the slots of a site's tiles
abbrev S : Site → ℕ
S site = site.plan.slots

-- a hop of a period
module _ {site : Site} {rows : List Row} {words : List ℕ} (w : IndexOf site.plan.slots rows words) {K o : ℕ} (p : Period K) (most : site.plan.slots ≤ 32)
    (l : o < K * site.plan.slots) {h : Hop} where
  -- the row of a node at work before the fold, whose hop is marked there
  found : (end : End) (slot node : ℕ) → slot < fold_place → AtWork words end slot node → Clashes site.hearing h end node
      → ((L q : ℕ) → Period L → MarkedAt (S site) L q slot → Meet (S site) K o L q) → (x : Row) × (x ∈ rows) × MeetsClashing site x K h o
  found end slot node low m c meets =
      let e = (w.sets end slot low).only node m in
      let t = e.hop_takes in (
        e.row,
        e.there,
        record {
          hop = t.hop;
          there = t.there;
          clash = end_clash site.hearing h (row_hop e.row t.hop) end (subst (Clashes site.hearing h end) t.is_end c);
          meet = meets e.row.period (row_offset e.row t.hop) e.period t.takes;
        },
      )

  pub meets_row : MeetsIn (Clashes site.hearing h) (S site) words K o → (x : Row) × (x ∈ rows) × MeetsClashing site x K h o
  meets_row m = go m.looked.looks
    where
      go : Looks (K * S site) (short_tiles / K) (quick_tiles / K) (quick_tiles * S site) o m.slot → (x : Row) × (x ∈ rows) × MeetsClashing site x K h o
      go (in_ten low a) = found m.busy.end m.slot m.busy.node low m.busy.there m.busy.sought (λ L q k n. both_ten (S site) K o L q a n low)
      go (in_fold a) = by_class (class_of K p)
        where
          by_class : Class K → (x : Row) × (x ∈ rows) × MeetsClashing site x K h o
          by_class (inr c) = absurd (omega (arith, a.within, c.0))
          by_class (inl c) =
              let f : ℕ = o + a.turn * (K * S site) in
              let low : f < quick_tiles * S site = inside (S site) K o quick_tiles a.turn l a.within in
              let k = w.folded.only m.busy.end f m.busy.node low (subst (λ (s : ℕ). AtWork words m.busy.end s m.busy.node) (omega (arith, a.at)) m.busy.there) in
              let slot : ℕ = f + k.ten * (quick_tiles * S site) in
              let below : slot < quick_place = omega (arith, low, most, mul-le-mul_right (quick_tiles * S site) k.few) in
              let takes : Takes (S site) K o slot =
              short_takes (S site) K o
              (record { turn = a.turn + k.ten * (quick_tiles / K); within = ten_turn K c.0 a.within k.few; at = tens_on (S site) K o c.0 c.1 a.turn k.ten }) in
              found m.busy.end slot m.busy.node (omega (arith, below)) k.there m.busy.sought (λ L q j n. both_hundred (S site) K o L q takes n below)
      go (in_hundred z low a) =
          found m.busy.end m.slot m.busy.node (omega (arith, low)) m.busy.there m.busy.sought (λ L q k n. both_hundred (S site) K o L q (short_takes (S site) K o a) n low)
      go (once_in_ten z some low e) =
          let few : o < short_tiles * S site = omega (arith, l, inside (S site) K o short_tiles 0 l some) in
          found m.busy.end m.slot m.busy.node low m.busy.there m.busy.sought (λ L q k n. once_ten (S site) K o L q k few some e low n)

  -- of two periods up to 100, what meets in the cycle is met where it is looked for
  pub row_meets : 1 ≤ S site → K ≤ short_tiles → (x : Row) → x ∈ rows → LawfulRow site x → x.period ≤ short_tiles → MeetsClashing site x K h o → MeetsIn (Clashes site.hearing h) (S site) words K o
  row_meets some few x there lawful small m = by_class (class_of K p) (class_of x.period lawful.period)
    where
      within : row_offset x m.hop < x.period * S site
      within = lawful.offsets.within (row_offset x m.hop) (at_in x.offsets m.hop (omega (arith, m.there, lawful.offsets.count)))

      q : (a c : ℕ) × (a < short_tiles / K) × (c < short_tiles / x.period) × (o + a * (K * S site) ≡ row_offset x m.hop + c * (x.period * S site))
          × (o + a * (K * S site) < short_tiles * S site)
      q = meet_short (S site) K o x.period (row_offset x m.hop) some (short_period K p few) (short_period x.period lawful.period small) l within m.meet

      c : (end : End) × Clashes site.hearing h end (node_at end (row_hop x m.hop))
      c = clash_end site.hearing h (row_hop x m.hop) m.clash

      -- where the row is marked before the fold, it is at work
      marked : (slot : ℕ) → slot < fold_place → Places (x.period * S site) (short_tiles / x.period) (quick_tiles / x.period) (quick_tiles * S site) (row_offset x m.hop) slot
          → AtWork words c.0 slot (node_at c.0 (row_hop x m.hop))
      marked slot low e =
          (w.sets c.0 slot low).all (node_at c.0 (row_hop x m.hop))
          (record { row = x; there = there; period = lawful.period; hop_takes = record { hop = m.hop; there = m.there; takes = record { places = e }; is_end = refl } })

      met : (slot : ℕ) → Looks (K * S site) (short_tiles / K) (quick_tiles / K) (quick_tiles * S site) o slot → AtWork words c.0 slot (node_at c.0 (row_hop x m.hop))
          → MeetsIn (Clashes site.hearing h) (S site) words K o
      met slot look at = record { slot = slot; looked = record { looks = look }; busy = record { end = c.0; node = node_at c.0 (row_hop x m.hop); sought = c.1; there = at } }

      by_class : Class K → Class x.period → MeetsIn (Clashes site.hearing h) (S site) words K o
      by_class (inl k) (inl r) =
          let t : ℕ = q.0 % (quick_tiles / K) in
          let u : ℕ = q.1 % (quick_tiles / x.period) in
          let e : o + t * (K * S site) ≡ row_offset x m.hop + u * (x.period * S site) =
          sym (fold_quick (S site) K o k.0 k.1 q.0 l) ∙ ap (λ (s : ℕ). s % (quick_tiles * S site)) q.4
          ∙ fold_quick (S site) x.period (row_offset x m.hop) r.0 r.1 q.1 within in
          let low = inside (S site) K o quick_tiles t l (mod-lt q.0 k.1) in
          let below : quick_place + o + t * (K * S site) < fold_place = omega (arith, low, most) in
          met (quick_place + o + t * (K * S site)) (in_ten below (record { turn = t; within = mod-lt q.0 k.1; at = refl }))
          (marked (quick_place + o + t * (K * S site)) below (quick below (record { turn = u; within = mod-lt q.1 r.1; at = omega (arith, e) })))
      by_class (inl k) (inr r) =
          let slot : ℕ = o + q.0 * (K * S site) in
          let low : slot < quick_place = omega (arith, q.5, most) in
          let t : ℕ = q.0 % (quick_tiles / K) in
          let f : slot % (quick_tiles * S site) ≡ o + t * (K * S site) = fold_quick (S site) K o k.0 k.1 q.0 l in
          let here = marked slot (omega (arith, low)) (short r.0 low (record { turn = q.1; within = q.3; at = q.4 })) in
          let parts : slot ≡ slot % (quick_tiles * S site) + slot / (quick_tiles * S site) * (quick_tiles * S site) = omega (arith, slot_parts (S site) slot q.5) in
          let there = w.folded.all c.0 (slot % (quick_tiles * S site)) (node_at c.0 (row_hop x m.hop)) (slot_rest (S site) slot q.5)
          (record { ten = slot / (quick_tiles * S site); few = slot_ten (S site) slot q.5; there = subst (λ (s : ℕ). AtWork words c.0 s (node_at c.0 (row_hop x m.hop))) parts here }) in
          met (fold_place + slot % (quick_tiles * S site)) (in_fold (record { turn = t; within = mod-lt q.0 k.1; at = omega (arith, f) })) there
      by_class (inr k) (inl r) =
          let u : ℕ = q.1 % (quick_tiles / x.period) in
          let e : o % (quick_tiles * S site) ≡ row_offset x m.hop + u * (x.period * S site) =
          sym (fold_short (S site) K o k.1.0 k.1.1 q.0) ∙ ap (λ (s : ℕ). s % (quick_tiles * S site)) q.4
          ∙ fold_quick (S site) x.period (row_offset x m.hop) r.0 r.1 q.1 within in
          let low = inside (S site) x.period (row_offset x m.hop) quick_tiles u within (mod-lt q.1 r.1) in
          let below : quick_place + o % (quick_tiles * S site) < fold_place = omega (arith, e, low, most) in
          met (quick_place + o % (quick_tiles * S site)) (once_in_ten k.0 (omega (arith, q.2)) below refl)
          (marked (quick_place + o % (quick_tiles * S site)) below (quick below (record { turn = u; within = mod-lt q.1 r.1; at = omega (arith, e) })))
      by_class (inr k) (inr r) =
          let slot : ℕ = o + q.0 * (K * S site) in
          let low : slot < quick_place = omega (arith, q.5, most) in
          met slot (in_hundred k.0 low (record { turn = q.0; within = q.2; at = refl })) (marked slot (omega (arith, low)) (short r.0 low (record { turn = q.1; within = q.3; at = q.4 })))

-- a hop meets no hop of its own row, so it may be looked up with those marked already
module _ {S : ℕ} {r : Row} {i : ℕ} {before words : List ℕ} (o : Offsets S r.period (hops r) r.offsets) (l : i < hops r)
    (a : Adds (HopsTake S r i) before words) where
  own : (slot : ℕ) → LooksAt S r.period (row_offset r i) slot → {end : End} {node : ℕ} → HopsTake S r i end slot node → ⊥
  own slot looked k = go looked.looks k.takes.places
    where
      never : Meet S r.period (row_offset r k.hop) r.period (row_offset r i) → ⊥
      never m =
          own_never_meet S r.period (row_offset r k.hop) (row_offset r i) (pair_at ◌<◌ r.offsets k.hop i o.rising k.there (omega (arith, o.count)))
          (o.within (row_offset r i) (at_in r.offsets i (omega (arith, o.count)))) m

      go : Looks (r.period * S) (short_tiles / r.period) (quick_tiles / r.period) (quick_tiles * S) (row_offset r i) slot
          → Places (r.period * S) (short_tiles / r.period) (quick_tiles / r.period) (quick_tiles * S) (row_offset r k.hop) slot → ⊥
      go (in_ten l a) (quick m b) = never (record {
        slot = row_offset r i + a.turn * (r.period * S);
        left = short_takes S r.period (row_offset r k.hop) (record { turn = b.turn; within = quick_turn r.period b.within; at = omega (arith, a.at, b.at) });
        right = short_takes S r.period (row_offset r i) (record { turn = a.turn; within = quick_turn r.period a.within; at = refl });
      })
      go (in_ten l a) (short z m b) = omega (arith, a.within, z)
      go (in_ten l a) (folded z m e) = omega (arith, a.within, z)
      go (in_fold a) (quick m b) = omega (arith, a.at, m)
      go (in_fold a) (short z m b) = omega (arith, a.within, z)
      go (in_fold a) (folded z m e) = omega (arith, a.within, z)
      go (in_hundred z l a) (quick m b) = omega (arith, b.within, z)
      go (in_hundred z l a) (short y m b) =
          never (record { slot = slot; left = short_takes S r.period (row_offset r k.hop) b; right = short_takes S r.period (row_offset r i) a })
      go (in_hundred z l a) (folded y m e) = omega (arith, l, e)
      go (once_in_ten z some l e) (quick m b) = omega (arith, b.within, z)
      go (once_in_ten z some l e) (short y m b) = omega (arith, e, m)
      go (once_in_ten z some l e) (folded y m f) = omega (arith, l, f)

  pub own_before : {C : End → ℕ → Type 0} → MeetsIn C S words r.period (row_offset r i) → MeetsIn C S before r.period (row_offset r i)
  own_before m = let b = m.busy in record {
    slot = m.slot;
    looked = m.looked;
    busy = record {
      end = b.end;
      node = b.node;
      sought = b.sought;
      there = ⊎_elim (λ k. k) (λ k. absurd (own m.slot m.looked k)) (a.only b.end m.slot b.node b.there);
    };
  }

  pub own_after : {C : End → ℕ → Type 0} → MeetsIn C S before r.period (row_offset r i) → MeetsIn C S words r.period (row_offset r i)
  own_after m = let b = m.busy in record {
    slot = m.slot;
    looked = m.looked;
    busy = record { end = b.end; node = b.node; sought = b.sought; there = a.kept b.end m.slot b.node b.there };
  }
