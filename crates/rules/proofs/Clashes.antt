-- Clashing goes both ways, and so does apartness of routes.
use mathlib.Core.Logic.{inl, inr}
use mathlib.Core.List.{List}
use Prim.Native.Nat.{ℕ}
use Rattle.rules.specs.Topology.{Topology, Hop, Clash, NoClash}
use Rattle.rules.specs.Book.{Site, Row, row_hop, RowsMeet}

pub clash_turned : (T : Topology) (h k : Hop) → Clash T h k → Clash T k h
clash_turned T h k (inl s) = inl (s.0, s.2, s.1)
clash_turned T h k (inr (inl a)) = inr (inr a)
clash_turned T h k (inr (inr a)) = inr (inl a)

pub no_clash_turned : (T : Topology) (p q : List ℕ) → NoClash T p q → NoClash T q p
no_clash_turned T p q f i j l m c = f j i m l (clash_turned T _ _ c)

-- and so does meeting of rows
pub rows_meet_turned : (site : Site) (r x : Row) → RowsMeet site r x → RowsMeet site x r
rows_meet_turned site r x m = record {
  hop = m.meets.hop;
  there = m.meets.there;
  meets = record {
    hop = m.hop;
    there = m.there;
    clash = clash_turned site.hearing (row_hop r m.hop) (row_hop x m.meets.hop) m.meets.clash;
    meet = record { slot = m.meets.meet.slot; left = m.meets.meet.right; right = m.meets.meet.left };
  };
}
