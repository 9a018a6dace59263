-- No other row has a node at work where a row's hop has: their hops would share it, so they would clash and meet.
use mathlib.Core.Path.{◌≡◌, refl}
use mathlib.Core.Logic.{inl, inr}
use mathlib.Core.List.{List, ◌∷◌}
use Prim.Native.Nat.{ℕ, ◌+◌, ◌*◌, ◌/◌, ◌<◌}
use native.Mathlib.Omega.{arith}
use Rattle.rules.specs.Words.{◌∈◌}
use Rattle.rules.specs.Tiles.{short_tiles, Meet}
use Rattle.rules.specs.Topology.{Hop, Touches}
use Rattle.rules.specs.Book.{Site, Row, Book, key, hops, row_hop, row_offset, RowsMeet, LawfulBook}
use Rattle.bitset.specs.clash.Reach.{End, node_at}
use Rattle.bitset.specs.clash.Reach.End.{sender, receiver}
use Rattle.index.specs.Areas.{quick_tiles, fold_place}
use Rattle.index.specs.Turns.{MarkedAt, Places}
use Rattle.index.specs.Turns.Places.{quick, short, folded}
use Rattle.index.specs.Marks.{HopsTake}
use Rattle.index.specs.Folding.{Removes}
use Rattle.index.specs.Index.{RowsTake, Beside}
use Rattle.index.proofs.Turns.{short_takes, quick_turn}
use Rattle.index.proofs.Behind.{beside_less}

-- the node at an end is one of the hop
touches : (end : End) (h : Hop) {node : ℕ} → node ≡ node_at end h → Touches node h
touches sender h e = inl e
touches receiver h e = inr e

-- a row that meets none of the others
module _ (site : Site) (r : Row) (rows : List Row) (quiet : (x : Row) → x ∈ rows → RowsMeet site r x → ⊥) where
  -- before the fold two hops that are marked at a slot take a slot in common
  in_common : (S K o L p slot : ℕ) → slot < fold_place → MarkedAt S K o slot → MarkedAt S L p slot → Meet S K o L p
  in_common S K o L p slot low m n = go m.places n.places
    where
      go : Places (K * S) (short_tiles / K) (quick_tiles / K) (quick_tiles * S) o slot → Places (L * S) (short_tiles / L) (quick_tiles / L) (quick_tiles * S) p slot → Meet S K o L p
      go (quick l a) (quick k b) = record {
        slot = o + a.turn * (K * S);
        left = short_takes S K o (record { turn = a.turn; within = quick_turn K a.within; at = refl });
        right = short_takes S L p (record { turn = b.turn; within = quick_turn L b.within; at = omega (arith, a.at, b.at) });
      }
      go (quick l a) (short z k b) = absurd (omega (arith, a.at, k))
      go (quick l a) (folded z k e) = absurd (omega (arith, e, low))
      go (short z l a) (quick k b) = absurd (omega (arith, b.at, l))
      go (short z l a) (short y k b) = record { slot = slot; left = short_takes S K o a; right = short_takes S L p b }
      go (short z l a) (folded y k e) = absurd (omega (arith, e, low))
      go (folded z k e) b = absurd (omega (arith, e, low))

  pub apart : (end : End) (slot node : ℕ) → slot < fold_place → RowsTake site.plan.slots rows end slot node → HopsTake site.plan.slots r (hops r) end slot node → ⊥
  apart end slot node low e h = quiet e.row e.there (record {
    hop = h.hop;
    there = h.there;
    meets = record {
      hop = e.hop_takes.hop;
      there = e.hop_takes.there;
      clash = inl (node, touches end (row_hop r h.hop) h.is_end, touches end (row_hop e.row e.hop_takes.hop) e.hop_takes.is_end);
      meet = in_common site.plan.slots r.period (row_offset r h.hop) e.row.period (row_offset e.row e.hop_takes.hop) slot low h.takes e.hop_takes.takes;
    };
  })

  -- once its hops are taken out, the words are the index of the others
  pub beside_without : {t u : List ℕ} → Beside site (r ∷ rows) t → Removes (quick_tiles * site.plan.slots) (HopsTake site.plan.slots r (hops r)) t u → Beside site rows u
  beside_without w a = beside_less w a apart

-- a row of a lawful book meets none of another key
pub lawful_quiet : (b : Book) → LawfulBook b → (r x : Row) → r ∈ b.rows → x ∈ b.rows → (key r ≡ key x → ⊥) → RowsMeet b.site r x → ⊥
lawful_quiet b l r x m n d h = l.never_meet (record { one = r; other = x; one_there = m; other_there = n; different = d; meets = h })
