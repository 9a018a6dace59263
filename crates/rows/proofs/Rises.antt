-- A row's offsets tested one by one.
use mathlib.Core.Path.{◌≡◌, sym, subst}
use Prim.Native.Nat.{ℕ, ◌*◌, ◌<◌, ◌≤◌}
use native.Mathlib.Omega.{arith}
use lib.ListN.{length}
use Rattle.rules.specs.Words.{◌∈◌}
use Rattle.rules.specs.Tiles.{Plan}
use Rattle.rules.specs.Book.{Row, hops, row_offset, OnData}
use Rattle.rules.proofs.Lists.{at_in, pair_at}
use Rattle.rules.proofs.Meeting.{in_at}
use Rattle.rows.specs.Walk.{OffsetsHold}
use Rattle.rows.proofs.Nodes.{pairwise_at}

-- the offset of hop i may be there
pub record OffsetFits (plan : Plan) (K : ℕ) (r : Row) (i : ℕ) : Type 0 where
  pub later : (j : ℕ) → j < i → row_offset r j < row_offset r i
  pub within : row_offset r i < K * plan.slots
  pub on_data : OnData plan K (row_offset r i)

-- the loop before hop i: the least offset that it may have
pub record AtOffset (plan : Plan) (K : ℕ) (r : Row) (i least : ℕ) : Type 0 where
  pub fit : (j : ℕ) → j < i → OffsetFits plan K r j
  pub above : (j : ℕ) → j < i → row_offset r j < least
  pub lowest : (m : ℕ) → ((j : ℕ) → j < i → row_offset r j < m) → least ≤ m

module _ (plan : Plan) (K : ℕ) (r : Row) (size : length r.offsets ≡ hops r) where
  pub offsets_fit : OffsetsHold plan K r → (i : ℕ) → i < hops r → OffsetFits plan K r i
  offsets_fit h i l =
      let k : i < length r.offsets = omega arith in
      let m : row_offset r i ∈ r.offsets = at_in r.offsets i k in
      record {
        later = λ j b. pair_at ◌<◌ r.offsets j i h.offsets.rising b k;
        within = h.offsets.within (row_offset r i) m;
        on_data = h.on_data (row_offset r i) m;
      }

  pub fit_offsets : ((i : ℕ) → i < hops r → OffsetFits plan K r i) → OffsetsHold plan K r
  fit_offsets f = record {
    offsets = record {
      count = size;
      rising = pairwise_at ◌<◌ r.offsets (λ i j l m. (f j (omega arith)).later i l);
      within = λ o m. let k = in_at o r.offsets m in subst (λ (x : ℕ). x < K * plan.slots) (sym k.2) (f k.0 (omega (arith, k.1))).within;
    };
    on_data = λ o m. let k = in_at o r.offsets m in subst (OnData plan K) (sym k.2) (f k.0 (omega (arith, k.1))).on_data;
  }

module _ (plan : Plan) (K : ℕ) (r : Row) where
  module _ {i least o : ℕ} (a : AtOffset plan K r i least) (e : o ≡ row_offset r i) where
    pub offset_early : o < least → OffsetFits plan K r i → ⊥
    offset_early l f = omega (arith, a.lowest (row_offset r i) f.later)
