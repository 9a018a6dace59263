-- What is lent of an index are, slot by slot, the ends of the hops that take the slot.
use mathlib.Core.Path.{◌≡◌, ap, ◌∙◌}
use mathlib.Core.Logic.{◌⊎◌, inl, inr, ⊎_elim}
use mathlib.Core.List.{List}
use Prim.Native.Nat.{ℕ, ◌+◌, ◌*◌, ◌/◌, ◌%◌, ◌<◌, ◌≤◌}
use native.Mathlib.Omega.{arith}
use native.Mathlib.Decide.{dec_lt}
use native.Mathlib.Nat.{mod-lt, mul-le-mul_right}
use lib.ListN.{get_or}
use Rattle.rules.specs.Words.{◌∈◌}
use Rattle.rules.specs.Tiles.{Period, ShortPeriod, Takes, short_tiles}
use Rattle.rules.specs.Book.{Row, hops, row_offset}
use Rattle.rules.proofs.Cycle.{whole_of}
use Rattle.rules.proofs.Periods.{short_period}
use Rattle.bitset.specs.Sets.{SetOf}
use Rattle.bitset.specs.clash.Reach.{End}
use Rattle.index.specs.Areas.{quick_tiles, quick_place, fold_place, word_at, AtWork}
use Rattle.index.specs.Turns.{TakesFirst, Places}
use Rattle.index.specs.Turns.Places.{quick, short, folded}
use Rattle.index.specs.Folding.{Lent}
use Rattle.index.specs.Index.{Ends, RowsTake, IndexOf}
use Rattle.index.proofs.Classes.{Class, class_of, tens_on, fold_quick}
use Rattle.index.proofs.Turns.{turn_short, short_takes, ten_turn}
use Rattle.index.proofs.Lending.{slot_parts, slot_ten, slot_rest}

-- of a period up to 100 a slot of the first 100 tiles is taken in one of its turns there
takes_short : (S K o slot : ℕ) → ShortPeriod K → slot < short_tiles * S → Takes S K o slot → TakesFirst (K * S) o (short_tiles / K) slot
takes_short S K o slot p l h = record { turn = h.turn; within = go (dec_lt h.turn (short_tiles / K)); at = h.at }
  where
    whole : short_tiles / K * (K * S) ≡ short_tiles * S
    whole = omega (arith, ap (λ (x : ℕ). x * S) (whole_of K p).whole)

    go : Dec (h.turn < short_tiles / K) → h.turn < short_tiles / K
    go (yes m) = m
    go (no m) =
        let more : short_tiles / K ≤ h.turn = omega arith in
        absurd (omega (arith, l, h.at, whole, mul-le-mul_right (K * S) more))

module _ {S : ℕ} {rows : List Row} {words before after : List ℕ} (most : S ≤ 32) (w : IndexOf S rows words) (periods : (x : Row) → x ∈ rows → Period x.period)
    (within : (x : Row) → x ∈ rows → (i : ℕ) → i < hops x → row_offset x i < x.period * S) (lent : Lent S words before after) (end : End) (slot : ℕ) (l : slot < short_tiles * S) where
  abbrev F : ℕ
  F = quick_tiles * S

  low : quick_place + slot % F < fold_place
  low = omega (arith, slot_rest S slot l, most)

  -- what is marked among the 100 tiles,
  hundred : (node : ℕ) → RowsTake S rows end slot node → Ends S rows end slot node
  hundred node k = go k.hop_takes.takes.places
    where
      go : Places (k.row.period * S) (short_tiles / k.row.period) (quick_tiles / k.row.period) F (row_offset k.row k.hop_takes.hop) slot → Ends S rows end slot node
      go (quick m a) = absurd (omega (arith, a.at, l, most))
      go (short z m a) = record {
        row = k.row;
        row_there = k.there;
        short = turn_short a.within;
        hop = k.hop_takes.hop;
        hop_there = k.hop_takes.there;
        takes = short_takes S k.row.period (row_offset k.row k.hop_takes.hop) a;
        is_end = k.hop_takes.is_end;
      }
      go (folded z m e) = absurd (omega (arith, e, l, most))

  -- and what is marked among the ten
  ten : (node : ℕ) → RowsTake S rows end (quick_place + slot % F) node → Ends S rows end slot node
  ten node k = go k.hop_takes.takes.places
    where
      go : Places (k.row.period * S) (short_tiles / k.row.period) (quick_tiles / k.row.period) F (row_offset k.row k.hop_takes.hop) (quick_place + slot % F) → Ends S rows end slot node
      go (quick m a) = by_class (class_of k.row.period k.period)
        where
          by_class : Class k.row.period → Ends S rows end slot node
          by_class (inr c) = absurd (omega (arith, a.within, c.0))
          by_class (inl c) =
              let K : ℕ = k.row.period in
              let o : ℕ = row_offset k.row k.hop_takes.hop in
              let turn : TakesFirst (K * S) o (short_tiles / K) slot = record {
                turn = a.turn + slot / F * (quick_tiles / K);
                within = ten_turn K c.0 a.within (slot_ten S slot l);
                at = omega (arith, slot_parts S slot l, a.at, tens_on S K o c.0 c.1 a.turn (slot / F));
              } in
              record {
                row = k.row;
                row_there = k.there;
                short = turn_short turn.within;
                hop = k.hop_takes.hop;
                hop_there = k.hop_takes.there;
                takes = short_takes S K o turn;
                is_end = k.hop_takes.is_end;
              }
      go (short z m a) = absurd (omega (arith, m))
      go (folded z m e) = absurd (omega (arith, e, low))

  -- is what takes the slot
  back : (node : ℕ) → Ends S rows end slot node → AtWork words end slot node ⊎ AtWork words end (quick_place + slot % F) node
  back node e = by_class (class_of e.row.period (periods e.row e.row_there))
    where
      inner : row_offset e.row e.hop < e.row.period * S
      inner = within e.row e.row_there e.hop e.hop_there

      by_class : Class e.row.period → AtWork words end slot node ⊎ AtWork words end (quick_place + slot % F) node
      by_class (inl c) =
          let f = fold_quick S e.row.period (row_offset e.row e.hop) c.0 c.1 e.takes.turn inner in
          let g : slot % F ≡ row_offset e.row e.hop + e.takes.turn % (quick_tiles / e.row.period) * (e.row.period * S) = ap (λ (x : ℕ). x % F) e.takes.at ∙ f in
          inr ((w.sets end (quick_place + slot % F) low).all node (record {
            row = e.row;
            there = e.row_there;
            period = periods e.row e.row_there;
            hop_takes = record {
              hop = e.hop;
              there = e.hop_there;
              takes = record { places = quick low (record { turn = e.takes.turn % (quick_tiles / e.row.period); within = mod-lt e.takes.turn c.1; at = omega (arith, g) }) };
              is_end = e.is_end;
            };
          }))
      by_class (inr c) =
          let p = periods e.row e.row_there in
          inl ((w.sets end slot (omega (arith, l, most))).all node (record {
            row = e.row;
            there = e.row_there;
            period = p;
            hop_takes = record {
              hop = e.hop;
              there = e.hop_there;
              takes = record {
                places = short c.0 (omega (arith, l, most))
                    (takes_short S e.row.period (row_offset e.row e.hop) slot (short_period e.row.period p e.short) l e.takes);
              };
              is_end = e.is_end;
            };
          }))

  pub lent_ends : SetOf (Ends S rows end slot) (get_or after (word_at end slot) 0)
  lent_ends = record {
    fits = (lent.sets end slot l).fits;
    only = λ k m.
        ⊎_elim (λ q. hundred k ((w.sets end slot (omega (arith, l, most))).only k q)) (λ q. ten k ((w.sets end (quick_place + slot % F) low).only k q)) ((lent.sets end slot l).only k m);
    all = λ k e. (lent.sets end slot l).all k (back k e);
  }
