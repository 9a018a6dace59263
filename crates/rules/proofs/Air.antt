-- Rows that do the same in every slot of some tiles are one.
use mathlib.Core.Path.{◌≡◌, refl, sym, ap, ◌∙◌, subst}
use mathlib.Core.Logic.{◌⊎◌, inl, inr, ⊎_elim}
use mathlib.Core.List.{List}
use Prim.Native.Nat.{ℕ, zero, suc, ◌+◌, ◌*◌, ◌<◌, ◌≤◌}
use native.Mathlib.Decide.{dec_lt}
use native.Mathlib.Nat.{le_antisymm, le_refl, mul-le-mul, le_of_mul-le-mul_right, le-div_iff_mul-le}
use native.Mathlib.Omega.{arith}
use lib.ListN.{length, get_or}
use lib.Seq.{ext_get_or}
use Rattle.rules.specs.Words.{◌∈◌}
use Rattle.rules.specs.Tiles.{cycle_tiles, short_tiles, Period, ShortPeriod, repeats, Takes}
use Rattle.rules.specs.Book.{Site, Row, hops, row_hop, row_offset, LawfulRow}
use Rattle.rules.proofs.Lists.{at_in, pair_at, order_unique}
use Rattle.rules.proofs.Meeting.{in_at, cycle_period, same_place}
use Rattle.rules.proofs.Cycle.{whole_of}

-- a period comes once in so many tiles, which it then fills, or more often
pub record Fit (tiles K : ℕ) : Type 0 where
  pub some : 1 ≤ K
  pub most : K ≤ tiles
  pub often : (K ≡ tiles) ⊎ (2 * K ≤ tiles)

fit_of : (tiles K turns : ℕ) → 1 ≤ tiles → turns * K ≡ tiles → Fit tiles K
fit_of tiles zero turns l e = absurd (omega arith)
fit_of tiles (suc K) zero l e = absurd (omega arith)
fit_of tiles (suc K) (suc zero) l e = record { some = omega arith; most = omega arith; often = inl (omega arith) }
fit_of tiles (suc K) (suc (suc n)) l e = record { some = omega arith; most = omega arith; often = inr (omega arith) }

pub fit_long : (K : ℕ) → Period K → Fit cycle_tiles K
fit_long K h = fit_of cycle_tiles K (repeats K) (omega arith) (cycle_period K h)

pub fit_short : (K : ℕ) → ShortPeriod K → Fit short_tiles K
fit_short K h = fit_of short_tiles K _ (omega arith) (whole_of K h).whole

-- so often it comes in the cycle
repeats_some : (n K : ℕ) → 1 ≤ K → n * K ≤ cycle_tiles → n ≤ repeats K
repeats_some n K l h = (le-div_iff_mul-le {k = K} {x = n} {y = cycle_tiles} l).1 h

pub first_turn : {S K o : ℕ} → Period K → Takes S K o o
first_turn {K = K} p = record { turn = 0; within = let f = fit_long K p in repeats_some 1 K f.some (omega (arith, f.most)); at = omega arith }

-- in the slot hop i of the row r is this hop of the row x
pub record Follow (S : ℕ) (r x : Row) (i slot : ℕ) : Type 0 where
  pub hop : ℕ
  pub there : hop < hops x
  pub takes : Takes S x.period (row_offset x hop) slot
  pub from_same : (row_hop r i).from ≡ (row_hop x hop).from
  pub to_same : (row_hop r i).to ≡ (row_hop x hop).to
  pub first : i ≡ 0 → hop ≡ 0

-- wherever r is at work in so many tiles, x does the same
abbrev pub Follows : ℕ → ℕ → Row → Row → Type 0
Follows S tiles r x = (i slot : ℕ) → i < hops r → Takes S r.period (row_offset r i) slot → slot < tiles * S → Follow S r x i slot

-- a hop of x has the offset and the ends of hop i of r
record SameHop (r x : Row) (i : ℕ) : Type 0 where
  hop : ℕ
  there : hop < hops x
  offset : row_offset r i ≡ row_offset x hop
  from_same : (row_hop r i).from ≡ (row_hop x hop).from
  to_same : (row_hop r i).to ≡ (row_hop x hop).to

module _ (site : Site) (wide : 1 ≤ site.plan.slots) where
  abbrev S : ℕ
  S = site.plan.slots

  pub within : (r : Row) → LawfulRow site r → (i : ℕ) → i < hops r → row_offset r i < r.period * S
  within r l i h = l.offsets.within _ (at_in r.offsets i (omega (arith, l.offsets.count)))

  -- in the first turn, and in the second where the period comes twice
  pub first_inside : {tiles : ℕ} (r : Row) → LawfulRow site r → Fit tiles r.period → (i : ℕ) → i < hops r → row_offset r i < tiles * S
  first_inside r l t i h = omega (arith, within r l i h, mul-le-mul t.most (le_refl S))

  pub second_inside : {tiles : ℕ} (r : Row) → LawfulRow site r → 2 * r.period ≤ tiles → (i : ℕ) → i < hops r → row_offset r i + r.period * S < tiles * S
  second_inside {tiles} r l t i h = let k : 2 * r.period * S ≤ tiles * S = mul-le-mul t (le_refl S) in omega (arith, within r l i h)

  pub second_turn : {tiles : ℕ} (r : Row) → tiles ≤ cycle_tiles → Fit tiles r.period → 2 * r.period ≤ tiles → (i : ℕ)
      → Takes S r.period (row_offset r i) (row_offset r i + r.period * S)
  second_turn r most t h i = record { turn = 1; within = repeats_some 2 r.period t.some (omega arith); at = omega arith }

  module _ (tiles : ℕ) (most : tiles ≤ cycle_tiles) (r x : Row) (lr : LawfulRow site r) (lx : LawfulRow site x) (tr : Fit tiles r.period) (tx : Fit tiles x.period)
      (f : Follows S tiles r x) where
    first_le : row_offset x 0 ≤ row_offset r 0
    first_le =
        let t = f 0 (row_offset r 0) lr.route.some (first_turn lr.period) (first_inside r lr tr 0 lr.route.some) in
        let e : row_offset x t.hop ≡ row_offset x 0 = ap (row_offset x) (t.first refl) in
        omega (arith, t.takes.at)

    period_le : row_offset r 0 ≡ row_offset x 0 → x.period ≤ r.period
    period_le same = ⊎_elim (λ (e : r.period ≡ tiles). omega (arith, tx.most)) twice tr.often
      where
        turn : (n : ℕ) → r.period * S ≡ n * (x.period * S) → x.period * S ≤ r.period * S
        turn zero k = absurd (omega (arith, mul-le-mul tr.some wide))
        turn (suc n) k = omega arith

        twice : 2 * r.period ≤ tiles → x.period ≤ r.period
        twice l =
            let t = f 0 (row_offset r 0 + r.period * S) lr.route.some (second_turn r most tr l 0) (second_inside r lr l 0 lr.route.some) in
            let e : row_offset x t.hop ≡ row_offset x 0 = ap (row_offset x) (t.first refl) in
            let k : r.period * S ≡ t.takes.turn * (x.period * S) = omega (arith, t.takes.at) in
            le_of_mul-le-mul_right {k = S} (turn t.takes.turn k) wide

    -- with one period, hop i is the hop of the same offset
    same_hop : r.period ≡ x.period → (i : ℕ) → i < hops r → SameHop r x i
    same_hop same i l =
        let t = f i (row_offset r i) l (first_turn lr.period) (first_inside r lr tr i l) in
        let w : row_offset x t.hop < r.period * S = subst (λ (K : ℕ). row_offset x t.hop < K * S) (sym same) (within x lx t.hop t.there) in
        let e : row_offset r i ≡ row_offset x t.hop + t.takes.turn * (r.period * S) =
        subst (λ (K : ℕ). row_offset r i ≡ row_offset x t.hop + t.takes.turn * (K * S)) (sym same) t.takes.at in
        record {
          hop = t.hop;
          there = t.there;
          offset = same_place (r.period * S) (row_offset r i) (row_offset x t.hop) 0 t.takes.turn (within r lr i l) w (omega arith);
          from_same = t.from_same;
          to_same = t.to_same;
        }

    offsets_there : r.period ≡ x.period → (o : ℕ) → o ∈ r.offsets → o ∈ x.offsets
    offsets_there same o m =
        let i = in_at o r.offsets m in
        let t = same_hop same i.0 (omega (arith, i.1, lr.offsets.count)) in
        subst (λ (v : ℕ). v ∈ x.offsets) (sym (i.2 ∙ t.offset)) (at_in x.offsets t.hop (omega (arith, t.there, lx.offsets.count)))

  -- the offset of a hop tells its place
  place : (r : Row) → LawfulRow site r → (i j : ℕ) → i < hops r → j < hops r → row_offset r i ≡ row_offset r j → i ≡ j
  place r l i j p q e = go (dec_lt i j) (dec_lt j i)
    where
      go : Dec (i < j) → Dec (j < i) → i ≡ j
      go (yes h) k = absurd (omega (arith, pair_at ◌<◌ r.offsets i j l.offsets.rising h (omega (arith, l.offsets.count))))
      go (no h) (yes k) = absurd (omega (arith, pair_at ◌<◌ r.offsets j i l.offsets.rising k (omega (arith, l.offsets.count))))
      go (no h) (no k) = omega arith

  pub row_same : (tiles : ℕ) → tiles ≤ cycle_tiles → (r x : Row) → LawfulRow site r → LawfulRow site x → Fit tiles r.period → Fit tiles x.period
      → Follows S tiles r x → Follows S tiles x r → r.id ≡ x.id → r.way ≡ x.way → r.account ≡ x.account → r ≡ x
  row_same tiles most r x lr lx tr tx f g id way account = λ i. record { id = id i; way = way i; period = period i; route = route i; offsets = offsets i; account = account i }
    where
      first : row_offset r 0 ≡ row_offset x 0
      first = le_antisymm (first_le tiles most x r lx lr tx tr g) (first_le tiles most r x lr lx tr tx f)

      period : r.period ≡ x.period
      period = le_antisymm (period_le tiles most x r lx lr tx tr g (sym first)) (period_le tiles most r x lr lx tr tx f first)

      offsets : r.offsets ≡ x.offsets
      offsets =
          order_unique ◌<◌ (λ i j h k. omega arith) r.offsets x.offsets lr.offsets.rising lx.offsets.rising
          (offsets_there tiles most r x lr lx tr tx f period) (offsets_there tiles most x r lx lr tx tr g (sym period))

      long : hops r ≡ hops x
      long = sym lr.offsets.count ∙ ap length offsets ∙ lx.offsets.count

      ends : (i : ℕ) → i < hops r → ((row_hop r i).from ≡ (row_hop x i).from) × ((row_hop r i).to ≡ (row_hop x i).to)
      ends i l =
          let t = same_hop tiles most r x lr lx tr tx f period i l in
          let e : row_offset r i ≡ row_offset r t.hop = t.offset ∙ ap (λ (os : List ℕ). get_or os t.hop 0) (sym offsets) in
          let k : t.hop ≡ i = sym (place r lr i t.hop l (omega (arith, t.there, long)) e) in
          (t.from_same ∙ ap (λ (j : ℕ). (row_hop x j).from) k, t.to_same ∙ ap (λ (j : ℕ). (row_hop x j).to) k)

      node : (i : ℕ) → i < length r.route → Dec (i < hops r) → get_or r.route i 0 ≡ get_or x.route i 0
      node i l (yes h) = (ends i h).0
      node zero l (no h) = absurd (omega (arith, lr.route.some))
      node (suc i) l (no h) = (ends i (omega (arith, lr.route.some))).1

      route : r.route ≡ x.route
      route = ext_get_or 0 r.route x.route (omega (arith, long, lr.route.some, lx.route.some)) (λ i l. node i l (dec_lt i (hops r)))
