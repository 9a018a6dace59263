-- A node's links are the members of its row.
use mathlib.Core.Path.{◌≡◌, refl, sym, ap, ◌∙◌, subst}
use mathlib.Core.Logic.{inl, inr}
use mathlib.Core.List.{List}
use Prim.Native.Nat.{ℕ, zero, suc, ◌+◌, ◌*◌, ◌<◌, ◌≤◌}
use native.Mathlib.Omega.{arith}
use lib.ListN.{length, get_or}
use Rattle.rules.specs.Words.{Has, Count}
use Rattle.rules.specs.Topology.{nodes, SoundTopology}
use Rattle.rules.specs.Image.{links_place, version_of, nodes_of, word64_at, sets_at, links_of}
use Rattle.rules.specs.Calls.{balance_refusals, LinksOf, Links}
use Rattle.rules.specs.Said.{number_of}
use Rattle.rules.specs.declared.refusals.Refusal.{Refusal}
use Rattle.rules.proofs.Counts.{count_below}
use Rattle.rules.proofs.Written.{length_sets_at}
use Rattle.rules.proofs.Reading.{book_in, LawfulImage}
use Rattle.bitset.proofs.Bits.{within}
use Rattle.image.proofs.Stands.{stored_length}
use Rattle.lawful.specs.Verdict.{NumberOf}
use Rattle.planner.proofs.Lifts.{image_refused}

-- row i of a topology stands 8 × i bytes behind its start
row_at : (s : List ℕ) (at n i : ℕ) → i < n → get_or (sets_at s at n) i 0 ≡ word64_at s (at + 8 * i)
row_at s at zero i l = absurd (omega arith)
row_at s at (suc n) zero l = let e : at ≡ at + 8 * 0 = omega arith in ap (word64_at s) e
row_at s at (suc n) (suc i) l = let e : at + 8 + 8 * i ≡ at + 8 * suc i = omega arith in row_at s (at + 8) n i (omega arith) ∙ ap (word64_at s) e

module _ {s : List ℕ} (h : LawfulImage s) where
  -- a node of the book has its row in the image
  pub row_within : (node : ℕ) → node < nodes_of s → (node < 64) × (links_place s + 8 * node + 8 ≤ length s)
  row_within node l =
      let e : nodes (links_of s) ≡ nodes_of s = length_sets_at s (links_place s) (nodes_of s) in
      (omega (arith, e, h.lawful.site.nodes.1), omega (arith, stored_length h))

  pub counted_links : (node : ℕ) {row k : ℕ} → node < nodes_of s → row ≡ word64_at s (links_place s + 8 * node) → Count (Has row) 64 k → LinksOf (book_in s) node k
  counted_links node {row} {k} l e c =
      count_below (λ i m j. omega (arith, m, within (nodes (links_of s)) _ i (sound.low node (omega (arith, size))) j)) most (subst (λ (x : ℕ). Count (Has x) 64 k) (e ∙ sym (row_at s _ _ node l)) c)
    where
      sound : SoundTopology (links_of s)
      sound = h.lawful.site.topologies.links_sound

      size : nodes (links_of s) ≡ nodes_of s
      size = length_sets_at s (links_place s) (nodes_of s)

      most : nodes (links_of s) ≤ 64
      most = h.lawful.site.nodes.1

  module _ (node : ℕ) where
    pub links_unknown : nodes_of s ≤ node → Links s node 4 0
    links_unknown l = record {
      says = inr (version_of s, book_in s, h, inl (omega (arith, length_sets_at s (links_place s) (nodes_of s)), refl));
      refused = λ g. refl;
      done = λ q. absurd (omega (arith, q));
    }

    pub links_done : {k : ℕ} → node < nodes_of s → LinksOf (book_in s) node k → Links s node 0 k
    links_done l w = record {
      says = inr (version_of s, book_in s, h, inr (λ m. omega (arith, m, length_sets_at s (links_place s) (nodes_of s)), refl));
      refused = λ g. absurd (g refl);
      done = λ z. (version_of s, book_in s, h, w);
    }

pub links_refused : {s : List ℕ} (r : Refusal) → NumberOf s (number_of r) → (node : ℕ) → Links s node (number_of r) 0
links_refused r v node = image_refused r v (balance_refusals node) refl
