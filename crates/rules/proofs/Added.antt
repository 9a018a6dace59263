-- The rows that an open adds: each on one of its routes, as many as the routes, with their hops, and what they draw.
use mathlib.Core.Path.{◌≡◌, refl, sym, ap, ap₂, ◌∙◌, subst}
use mathlib.Core.Logic.{inl, inr}
use mathlib.Core.Bool.{Bool, true, false, cond}
use mathlib.Core.List.{List, [], ◌∷◌}
use Prim.Native.Nat.{ℕ, suc, ◌+◌, ◌*◌}
use native.Mathlib.Nat.{add-mul}
use native.Mathlib.Omega.{arith}
use lib.Dec.{eqb}
use lib.ListN.{length}
use Rattle.rules.specs.Words.{◌∈◌, total}
use Rattle.rules.specs.Tiles.{repeats}
use Rattle.rules.specs.Topology.{Topology, hop_count, most_route_hops, PathWithin, SecondRoute}
use Rattle.rules.specs.Book.{Row, Book, hops_in_all, draws, drawn}
use Rattle.rules.specs.Placing.{Asked, Planned, NewRow, beside, NewRows}
use Rattle.rules.specs.Placing.Planned.{one, two}
use Rattle.rules.proofs.Reading.{with_rows}

-- a second route is a path of at most 15 hops too
pub second_within : {T : Topology} {middle source destination : ℕ} {p p' : List ℕ} → SecondRoute T middle source destination p p'
    → PathWithin most_route_hops T middle source destination p'
second_within h = record { between = h.is.0; most = omega (arith, h.is.1.short) }

-- an open is given as many routes as it asks for
pub planned_count : {T : Topology} {middle : ℕ} {q : Asked} {ps : List (List ℕ)} → Planned T middle q ps → length ps ≡ cond q.second 2 1
planned_count (one n g) = ap (λ (t : Bool). cond t 2 1) (sym n)
planned_count (two y g h) = ap (λ (t : Bool). cond t 2 1) (sym y)

-- the row is new on one of the routes, beside some rows
pub record OnRoute (b : Book) (q : Asked) (ps : List (List ℕ)) (r : Row) : Type 0 where
  pub route : List ℕ
  pub given : route ∈ ps
  pub way : ℕ
  pub rows : List Row
  pub new : NewRow (with_rows b rows) q way route r

module _ (q : Asked) where
  pub new_route : (b : Book) (way : ℕ) (ps : List (List ℕ)) (rs : List Row) → NewRows b q way ps rs → (r : Row) → r ∈ rs → OnRoute b q ps r
  new_route b way [] [] n r m = absurd m
  new_route b way [] (x ∷ rs) n r m = absurd n
  new_route b way (p ∷ ps) [] n r m = absurd n
  new_route b way (p ∷ ps) (x ∷ rs) n r (inl e) =
      record { route = p; given = inl refl; way = way; rows = b.rows; new = subst (NewRow b q way p) (sym e) n.0 }
  new_route b way (p ∷ ps) (x ∷ rs) n r (inr m) =
      let t = new_route (beside x b) (suc way) ps rs n.1 r m in
      record { route = t.route; given = inr t.given; way = t.way; rows = t.rows; new = t.new }

  pub new_count : (b : Book) (way : ℕ) (ps : List (List ℕ)) (rs : List Row) → NewRows b q way ps rs → length rs ≡ length ps
  new_count b way [] [] n = refl
  new_count b way [] (r ∷ rs) n = absurd n
  new_count b way (p ∷ ps) [] n = absurd n
  new_count b way (p ∷ ps) (r ∷ rs) n = ap suc (new_count (beside r b) (suc way) ps rs n.1)

  pub new_hops : (b : Book) (way : ℕ) (ps : List (List ℕ)) (rs : List Row) → NewRows b q way ps rs → hops_in_all rs ≡ total hop_count ps
  new_hops b way [] [] n = refl
  new_hops b way [] (r ∷ rs) n = absurd n
  new_hops b way (p ∷ ps) [] n = absurd n
  new_hops b way (p ∷ ps) (r ∷ rs) n = ap₂ ◌+◌ (ap hop_count n.0.on) (new_hops (beside r b) (suc way) ps rs n.1)

  -- what they draw from an account: all their hops, as often as they come in a cycle, if it is the one asked for
  pub new_drawn : (b : Book) (way : ℕ) (ps : List (List ℕ)) (rs : List Row) → NewRows b q way ps rs
      → (n : ℕ) → drawn n rs ≡ cond (eqb q.account n) (total hop_count ps * repeats q.period) 0
  new_drawn b way [] [] g n = none_drawn (eqb q.account n)
    where
      none_drawn : (t : Bool) → 0 ≡ cond t (0 * repeats q.period) 0
      none_drawn true = omega arith
      none_drawn false = refl
  new_drawn b way [] (r ∷ rs) g n = absurd g
  new_drawn b way (p ∷ ps) [] g n = absurd g
  new_drawn b way (p ∷ ps) (r ∷ rs) g n =
      ap₂ ◌+◌ (ap (λ (a : ℕ). cond (eqb a n) (draws r) 0) g.0.paid_by ∙ ap (λ (k : ℕ). cond (eqb q.account n) k 0) one_draws)
      (new_drawn (beside r b) (suc way) ps rs g.1 n)
      ∙ joined (eqb q.account n) (hop_count p) (total hop_count ps) (repeats q.period)
    where
      one_draws : draws r ≡ hop_count p * repeats q.period
      one_draws = ap₂ (λ (h k : ℕ). h * repeats k) (ap hop_count g.0.on) g.0.every

      joined : (t : Bool) (h k m : ℕ) → cond t (h * m) 0 + cond t (k * m) 0 ≡ cond t ((h + k) * m) 0
      joined true h k m = sym (add-mul h k m)
      joined false h k m = refl
