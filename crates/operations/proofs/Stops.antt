-- A node that stands in a route is an end of the hop to its place and of the hop from it, and of no other.
use mathlib.Core.Path.{◌≡◌, sym, ap, ◌∙◌, subst}
use mathlib.Core.Logic.{◌⊎◌, inl, inr}
use mathlib.Core.Bool.{Bool, cond}
use Rattle.std.specs.Prelude.{Option, Some, None, MatchOption}
use Prim.Native.Nat.{ℕ, suc, ◌+◌, ◌-◌, ◌<◌, ◌≤◌}
use native.Mathlib.Decide.{dec_lt, ℕ_discrete}
use native.Mathlib.Omega.{arith}
use borrow.Author.Tests.{eq-eqb, ne_eqb}
use lib.ListN.{get_or}
use Rattle.rules.specs.Words.{Distinct}
use Rattle.rules.specs.Topology.{Touches}
use Rattle.rules.specs.Book.{Row, hops, row_hop}
use Rattle.rules.specs.Table.{Does}
use Rattle.rules.specs.Table.Does.{sends, receives, forwards, delivers}
use Rattle.rules.proofs.Lists.{pair_at}
use Rattle.operations.specs.Operations.{StopsAt, StopOf, arrival, departure}

-- a place where it stands is its only one
pub stops_at : {r : Row} {node place : ℕ} → Distinct r.route → place ≤ hops r → node ≡ get_or r.route place 0 → StopsAt node r place
stops_at {r} {node} {place} w l e = record { within = l; here = e; only = λ k m f. go k m f (dec_lt k place) (dec_lt place k) }
  where
    apart : (i j : ℕ) → i < j → j ≤ hops r → get_or r.route i 0 ≡ get_or r.route j 0 → ⊥
    apart i j m h = pair_at (λ (x y : ℕ). x ≡ y → ⊥) r.route i j w m (omega arith)

    go : (k : ℕ) → k ≤ hops r → node ≡ get_or r.route k 0 → Dec (k < place) → Dec (place < k) → k ≡ place
    go k m f (yes h) q = absurd (apart k place h l (sym f ∙ e))
    go k m f (no h) (yes q) = absurd (apart place k q m (sym e ∙ f))
    go k m f (no h) (no q) = omega arith

-- it was sought at all places
pub stop_sought : (r : Row) (node : ℕ) (place : Option ℕ) {end : ℕ} → Distinct r.route → end ≡ hops r + 1
    → MatchOption place ((k : ℕ) → 0 ≤ k → k < end → get_or r.route k 0 ≡ node → ⊥)
    (λ i. (0 ≤ i) × (i < end) × (get_or r.route i 0 ≡ node) × ((k : ℕ) → 0 ≤ k → k < i → get_or r.route k 0 ≡ node → ⊥)) → StopOf node r place
stop_sought r node None w e f = record { nowhere = λ k l q. f k (omega arith) (omega arith) (sym q) }
stop_sought r node (Some i) w e f = stops_at w (omega (arith, f.1, e)) (sym f.2)

module _ {r : Row} {node place : ℕ} (s : StopsAt node r place) where
  -- the hops that it is an end of
  pub its_hops : {i : ℕ} → i < hops r → Touches node (row_hop r i) → (i ≡ place) ⊎ (suc i ≡ place)
  its_hops {i} l (inl e) = inl (s.only i (omega arith) e)
  its_hops {i} l (inr e) = inr (s.only (suc i) (omega arith) e)

  -- what it does in the hop to its place
  pub arrives : {last operation : ℕ} → 0 < place → last ≡ hops r → operation ≡ arrival place last → Does node r (place - 1) operation
  arrives l e q = subst (Does node r (place - 1)) (sym (q ∙ ap (arrival place) e)) (go (ℕ_discrete place (hops r)))
    where
      behind : suc (place - 1) ≡ place
      behind = omega arith

      to : node ≡ (row_hop r (place - 1)).to
      to = s.here ∙ ap (λ (k : ℕ). get_or r.route k 0) (sym behind)

      go : Dec (place ≡ hops r) → Does node r (place - 1) (arrival place (hops r))
      go (yes m) = subst (Does node r (place - 1)) (sym (ap (λ (t : Bool). cond t 4 2) (eq-eqb place (hops r) m))) (delivers to (behind ∙ m))
      go (no m) = subst (Does node r (place - 1)) (sym (ap (λ (t : Bool). cond t 4 2) (ne_eqb place (hops r) m))) (receives to (omega (arith, s.within)))

  -- and in the hop from it
  pub leaves : {operation : ℕ} → operation ≡ departure place → Does node r place operation
  leaves q = subst (Does node r place) (sym q) (go (ℕ_discrete place 0))
    where
      go : Dec (place ≡ 0) → Does node r place (departure place)
      go (yes m) = subst (Does node r place) (sym (ap (λ (t : Bool). cond t 1 3) (eq-eqb place 0 m))) (sends s.here m)
      go (no m) = subst (Does node r place) (sym (ap (λ (t : Bool). cond t 1 3) (ne_eqb place 0 m))) (forwards s.here (omega arith))
