-- The rows of a walk: all at its start, one less behind a row, and none at its end.
use mathlib.Core.Path.{◌≡◌, refl, sym, ap, ap₂, ◌∙◌, subst, subst₂}
use mathlib.Core.Logic.{inl}
use mathlib.Core.List.{List, [], ◌∷◌, ◌++◌}
use Prim.Native.Nat.{ℕ, zero, suc, ◌-◌, ◌<◌, ◌≤◌}
use native.Mathlib.Numerals.{unary_clauses}
use native.Mathlib.Omega.{arith}
use Rattle.std.specs.Prelude.{All}
use Rattle.std.specs.Iterator.{Yields, YieldsFirst}
use Rattle.std.proofs.Math.Nat.{mul-le-mul_left}
use Rattle.rules.specs.Words.{◌∈◌}
use Rattle.rules.proofs.Lists.{in_all, all_in, in_right}
use Rattle.rules.specs.Tiles.{PlanInRange}
use Rattle.rules.specs.Topology.{nodes}
use Rattle.rules.specs.Book.{Site, Row, LawfulRow}
use Rattle.rules.specs.Image.{site_of}
use Rattle.rules.specs.Image.{rows_start, rows_place}
use Rattle.rules.proofs.Reading.{rows_in, LawfulImage}
use Rattle.image.specs.declared.Book.{Book}
use Rattle.image.specs.Header.{HeaderOf}
use Rattle.image.specs.Places.{InRange, row_at, next_at, rows_from, Whole, WholeRows, Stands}
use Rattle.image.proofs.Places.{rows_in_lem}
use Rattle.image.proofs.Hops.{node_known, offset_within}
use Rattle.image.proofs.Stands.{stands_start, stands_rest, stands_row, stands_split, stands_next}

module _ {s : List ℕ} where
  -- where the header that was read says that the rows start, they start
  pub rows_start_lem : {b : Book} {at : ℕ} → HeaderOf s b → at ≡ rows_start b.version b.accounts b.nodes → at ≡ rows_place s
  rows_start_lem h e = e ∙ λ i. rows_start (h.version i) (h.accounts i) (h.nodes i)

  pub stands_first : {b : Book} {at left : ℕ} → LawfulImage s → HeaderOf s b → at ≡ rows_start b.version b.accounts b.nodes → left ≡ b.streams → Stands s at left
  stands_first w h e l = subst₂ (Stands s) (sym (rows_start_lem h e)) (sym (l ∙ h.streams)) (stands_start w)

  pub rows_split : {at left : ℕ} → 0 < left → Stands s at left → rows_from s left at ≡ row_at s at ∷ rows_from s (left - 1) (next_at s at)
  rows_split l w = sym (stands_rest w) ∙ stands_split l w

module _ (s : List ℕ) where
  pub first_rows : {b : Book} {at left : ℕ} → HeaderOf s b → at ≡ rows_start b.version b.accounts b.nodes → left ≡ b.streams → rows_from s left at ≡ rows_in s
  first_rows h e l = ap₂ (rows_from s) (l ∙ h.streams) (rows_start_lem h e) ∙ sym (rows_in_lem s)

  pub no_rows : (left at : ℕ) → left ≤ 0 → rows_from s left at ≡ []
  no_rows zero at l = refl
  no_rows (suc n) at l = absurd (omega arith)

-- WHOLE ROWS
pub whole_first : (s : List ℕ) (n at : ℕ) → 0 < n → WholeRows s n at → Whole s at
unfolding WholeRows
whole_first s zero at l w = absurd (omega arith)
whole_first s (suc n) at l w = w.0

pub whole_behind : (s : List ℕ) (n at : ℕ) → 0 < n → WholeRows s n at → WholeRows s (n - 1) (next_at s at)
unfolding WholeRows
whole_behind s zero at l w = absurd (omega arith)
whole_behind s (suc n) at l w = simp unary_clauses (w.1)

pub rows_behind_first : (s : List ℕ) (n at : ℕ) → 0 < n → rows_from s n at ≡ row_at s at ∷ rows_from s (n - 1) (next_at s at)
rows_behind_first s zero at l = absurd (omega arith)
rows_behind_first s (suc n) at l = simp unary_clauses refl

-- those of a walk are
pub stands_whole : (s : List ℕ) (n at : ℕ) → Stands s at n → WholeRows s n at
unfolding WholeRows
stands_whole s zero at w = tt
stands_whole s (suc n) at w =
    let l : 0 < suc n = omega arith in
    let rest : Stands s (next_at s at) n = simp unary_clauses at (stands_next l w) in
    ((stands_row l w).whole, stands_whole s n (next_at s at) rest)

-- each row of a lawful image is lawful on its site
pub all_lawful : {s : List ℕ} → LawfulImage s → All (LawfulRow (site_of s)) (rows_in s)
all_lawful {s} w = in_all (LawfulRow (site_of s)) (rows_in s) w.lawful.rows

-- the numbers of a lawful row are in their ranges
pub lawful_in_range : {site : Site} {r : Row} → PlanInRange site.plan → nodes site.links ≤ 64 → LawfulRow site r → InRange r
lawful_in_range {site} {r} plan few w = record {
  period = w.period;
  some = w.route.some;
  most = w.route_most;
  nodes = λ i l. omega (arith, node_known w i l, few);
  offsets = λ i l. let m = mul-le-mul_left r.period plan.most in omega (arith, offset_within w i l, m);
}

pub all_in_range : {s : List ℕ} → LawfulImage s → All InRange (rows_in s)
all_in_range {s} w = in_all InRange (rows_in s) (λ r m. lawful_in_range w.lawful.site.plan w.lawful.site.nodes.1 (w.lawful.rows r m))

-- IN A `for`: the rows so far, and those that are left, are all
pub walked : (rows so_far left : List Row) → Yields (YieldsFirst (λ (l : List Row). l)) rows so_far left → rows ≡ so_far ++ left
walked rows [] left y = y
walked rows (r ∷ so_far) left y = y.1 ∙ ap (λ (l : List Row). r ∷ l) (walked y.0 so_far left y.2)

-- what holds of all holds of the one behind those so far
pub next_has : (P : Row → Type 0) (so_far rest : List Row) {rows : List Row} {r : Row} → All P rows → rows ≡ so_far ++ (r ∷ rest) → P r
next_has P so_far rest {rows} {r} h e =
    all_in P rows h r (subst (λ (l : List Row). r ∈ l) (sym e) (in_right r so_far (r ∷ rest) (inl refl)))
