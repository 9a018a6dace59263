-- A row where one can be cut out, and the rows up to a place.
use mathlib.Core.Path.{◌≡◌, refl, sym, ap, ◌∙◌, subst}
use mathlib.Core.Bool.{Bool, true, false, cond}
use mathlib.Core.List.{List, [], ◌∷◌, ◌++◌, append_assoc, append-nil}
use Rattle.std.specs.Prelude.{◌↔◌, Option, Some, None as Nothing, IsSome, IfSome, MatchOption}
use Rattle.std.specs.Bool.{then_some}
use Prim.Native.Nat.{ℕ, ◌+◌, ◌*◌, ◌-◌, ◌≤◌}
use native.Mathlib.Omega.{arith}
use lib.ListN.{length, get_or, take, drop, length-append, length-drop}
use lib.Seq.{get_or-drop, take_at}
use Rattle.rules.specs.Words.{Tests}
use Rattle.rules.specs.Book.{Row, hops}
use Rattle.rules.specs.Topology.{most_route_hops}
use Rattle.rules.specs.Image.{has_ways, has_accounts, hops_place, encode_row, word_at, version_of}
use Rattle.rules.specs.Salvage.{Cuttable, Cut, CutAll}
use Rattle.rules.proofs.Encoding.{hops_in, length_row}
use Rattle.rules.proofs.Written.{Bytes}
use Rattle.rules.proofs.Tests.{never, fails}
use Rattle.image.specs.Places.{row_at, next_at, Whole}
use Rattle.image.proofs.Places.{row_hops, whole_sized, next_hops}
use Rattle.rows.proofs.Filling.{row_written}
use Rattle.damaged.specs.cutting.Cutting.{CutSo}

-- in a version without ways the row is a first way
row_way : (s : List ℕ) (at : ℕ) → has_ways (version_of s) ≡ false → (row_at s at).way ≡ 1
unfolding row_at
row_way s at e = ap (λ (t : Bool). cond t (get_or (drop at s) 2 0) 1) e

-- and without accounts it is of account 0
row_account : (s : List ℕ) (at : ℕ) → has_accounts (version_of s) ≡ false → (row_at s at).account ≡ 0
unfolding row_at
row_account s at e = ap (λ (t : Bool). cond t (word_at (drop at s) (hops_place (version_of s) + 2 + 3 * hops_in (version_of s) (drop at s))) 0) e

module _ (s : List ℕ) (at : ℕ) where
  stated : get_or (drop at s) (hops_place (version_of s)) 0 ≡ get_or s (at + hops_place (version_of s)) 0
  stated = get_or-drop at s (hops_place (version_of s)) 0

  -- by its hop count: a whole row of 1 to 15 hops
  pub whole_cuttable : Whole s at → 1 ≤ hops (row_at s at) → hops (row_at s at) ≤ most_route_hops → Cuttable (version_of s) (drop at s)
  whole_cuttable w some most = record {
    reaches = omega (arith, w.front, length-drop at s);
    some = omega (arith, stated, row_hops s at w);
    most = omega (arith, stated, row_hops s at w);
    whole = omega (arith, w.fits, next_hops s at w, stated, row_hops s at w, length-drop at s);
  }

  pub cuttable_whole : at ≤ length s → Cuttable (version_of s) (drop at s) → Whole s at
  unfolding next_at
  cuttable_whole l c = record { front = omega (arith, c.whole, length-drop at s); fits = omega (arith, c.whole, stated, length-drop at s) }

  module _ (inside : at ≤ length s) (c : Cuttable (version_of s) (drop at s)) where
    w : Whole s at
    w = cuttable_whole inside c

    pub cuttable_some : 1 ≤ hops (row_at s at)
    cuttable_some = omega (arith, c.some, stated, row_hops s at w)

    pub cuttable_most : hops (row_at s at) ≤ most_route_hops
    cuttable_most = omega (arith, c.most, stated, row_hops s at w)

    pub next_longer : at + 8 ≤ next_at s at
    next_longer = omega (arith, next_hops s at w, cuttable_some)

    module _ (b : Bytes s) where
      -- the row that is read there is cut out, before what stands behind it
      pub cut_here : Cut (version_of s) (drop at s) (row_at s at) (drop (next_at s at) s)
      cut_here = record {
        cuttable = c;
        bytes = row_written s at b w;
        nodes = (whole_sized s at w).nodes;
        offsets = (whole_sized s at w).offsets;
        one_way = row_way s at;
        old_account = row_account s at;
      }

      -- and these are its bytes
      pub row_bytes : take (next_at s at - at) (drop at s) ≡ encode_row (version_of s) (row_at s at)
      row_bytes =
          let n : next_at s at - at ≡ length (encode_row (version_of s) (row_at s at)) = omega
          (arith, next_hops s at w, length_row (version_of s) (row_at s at) [] (whole_sized s at w)) in
          ap (take (next_at s at - at)) (row_written s at b w) ∙ take_at (encode_row (version_of s) (row_at s at)) (drop (next_at s at) s) (next_at s at - at) (sym n)

-- the row that was found at the place: of a whole one the hop count decides
module _ (s : List ℕ) (at : ℕ) (inside : at ≤ length s) where
  pub record Found (found : Option Row) : Type 0 where
    pub there : IsSome found ↔ Cuttable (version_of s) (drop at s)
    pub row : IfSome found (λ (r : Row). r ≡ row_at s at)

  pub found_cuttable : (whole : Option Row) {found : Option Row} (P : Row → Bool → Type 0) → (IsSome whole ↔ Whole s at) → IfSome whole (λ (r : Row). r ≡ row_at s at)
      → MatchOption whole (found ≡ Nothing) (λ x. (t : Bool) × P x t × (found ≡ then_some t x))
      → ((r : Row) (t : Bool) → P r t → Tests t ((1 ≤ hops r) × (hops r ≤ most_route_hops))) → Found found
  found_cuttable Nothing P t e m h = subst Found (sym m) (record { there = (λ n. never n, λ c. t.1 (cuttable_whole s at inside c)); row = tt })
  found_cuttable (Some r) P t e (true, p, m) h =
      let k = subst (λ (x : Row). (1 ≤ hops x) × (hops x ≤ most_route_hops)) e ((h r true p).yes refl) in
      subst Found (sym m) (record { there = (λ n. whole_cuttable s at (t.0 refl) k.0 k.1, λ c. refl); row = e })
  found_cuttable (Some r) P t e (false, p, m) h = subst Found (sym m) (record { there = (λ n. never n, λ c. absurd (none c)); row = tt })
    where
      none : Cuttable (version_of s) (drop at s) → ⊥
      none c = fails (h r false p) refl
          (subst (λ (x : Row). (1 ≤ hops x) × (hops x ≤ most_route_hops)) (sym e) (cuttable_some s at inside c, cuttable_most s at inside c))

-- UP TO A PLACE
pub cut_none : (s : List ℕ) (start : ℕ) → start ≤ length s → CutSo s start start []
cut_none s start l = record { inside = l; few = omega arith; then = λ others lost g. g }

module _ {s : List ℕ} {start at : ℕ} {rows : List Row} (w : CutSo s start at rows) where
  pub cut_more : Bytes s → Cuttable (version_of s) (drop at s) → {next : ℕ} → next ≡ next_at s at → CutSo s start next (rows ++ (row_at s at ∷ []))
  cut_more b c e = subst (λ (k : ℕ). CutSo s start k (rows ++ (row_at s at ∷ []))) (sym e) (record {
    inside = (cuttable_whole s at w.inside c).fits;
    few = omega (arith, w.few, length-append rows (row_at s at ∷ []), next_longer s at w.inside c);
    then = λ others lost g. subst (λ (all : List Row). CutAll (version_of s) (drop start s) all lost) (sym (append_assoc rows (row_at s at ∷ []) others))
        (w.then (row_at s at ∷ others) lost (drop (next_at s at) s, cut_here s at w.inside c b, g));
  })

  -- where none can be cut out the rest is lost
  pub cut_done : (Cuttable (version_of s) (drop at s) → ⊥) → CutAll (version_of s) (drop start s) rows (drop at s)
  cut_done n = subst (λ (all : List Row). CutAll (version_of s) (drop start s) all (drop at s)) (append-nil rows) (w.then [] (drop at s) (n, refl))
