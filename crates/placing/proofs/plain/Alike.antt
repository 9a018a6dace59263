-- What is met of hops with some ends is met of hops with others that are alike.
use mathlib.Core.List.{List}
use Prim.Native.Nat.{ℕ}
use Rattle.rules.specs.Topology.{Hop}
use Rattle.rules.specs.Book.{Row}
use Rattle.bitset.specs.clash.Reach.{End}
use Rattle.placing.specs.plain.Plain.{HasEnd, AgreesRow, Agrees, MeetsRoute}

module _ (C D : End → ℕ → Type 0) (f : (end : End) (k : ℕ) → C end k → D end k) where
  end_for : {h : Hop} → HasEnd C h → HasEnd D h
  end_for m = record { end = m.end; sought = f m.end _ m.sought }

  pub row_for : {r : Row} {m o : ℕ} → AgreesRow C r m o → AgreesRow D r m o
  row_for h = record { hop = h.hop; there = h.there; hop_agrees = record { sought = end_for h.hop_agrees.sought; agrees = h.hop_agrees.agrees } }

  pub agrees_for : {s : List ℕ} {start rows : ℕ} {moduli : List ℕ} {o : ℕ} → Agrees C s start rows moduli o → Agrees D s start rows moduli o
  agrees_for m = record { row = m.row; there = m.there; weighed = m.weighed; row_agrees = row_for m.row_agrees }

  pub route_for : {route offsets : List ℕ} {o : ℕ} → MeetsRoute C route offsets o → MeetsRoute D route offsets o
  route_for m = record { hop = m.hop; there = m.there; meets = record { sought = end_for m.meets.sought; is = m.meets.is } }
