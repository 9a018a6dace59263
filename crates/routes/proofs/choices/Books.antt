-- The list over the links that were decoded is that of the book.
use Rattle.std.specs.Prelude.{Result}
use mathlib.Core.Path.{◌≡◌, sym, ap, ◌∙◌, subst}
use mathlib.Core.Logic.{◌⊎◌, inr, ⊎_elim}
use mathlib.Core.List.{List, ◌∷◌}
use Prim.Native.Nat.{ℕ, ◌+◌, ◌*◌, ◌<◌, ◌≤◌}
use native.Mathlib.Omega.{arith}
use lib.ListN.{length, take}
use Rattle.rules.specs.Says.{Refusal, ◌when◌}
use Rattle.rules.specs.Words.{NoBitFrom}
use Rattle.rules.specs.Topology.{Topology, nodes}
use Rattle.rules.specs.Image.{links_start, links_place, nodes_of, sets_at, links_of}
use Rattle.rules.proofs.Written.{length_sets_at}
use Rattle.rules.proofs.Reading.{LawfulImage}
use Rattle.image.specs.Header.{HeaderOf}
use Rattle.image.specs.Places.{Sets}
use Rattle.image.specs.declared.Book as head
use Rattle.image.proofs.Stands.{stored_length}
use Rattle.image.proofs.Topologies.{links_there}
use Rattle.bitset.specs.Rows.{topology}
use Rattle.routes.specs.declared.choices.Listed.{Listed}
use Rattle.rules.specs.declared.refusals.Refusal as names
use Rattle.routes.specs.choices.Listing.{Lists, ListSays, BookSays}

-- the first refusal does not apply, and the others say the number
lists_next : {T : Topology} {middle source destination : ℕ} {out out' : List ℕ} {rs : List Refusal} {A : Type 0} {k : ℕ} {r : Result Listed names.Refusal} → (A → ⊥)
    → Lists rs T middle source destination out r out' → Lists ((k when A) ∷ rs) T middle source destination out r out'
lists_next f w = record { says = inr (f, w.says); refused = w.refused; done = w.done }

-- THE BOOK OF A LAWFUL IMAGE
module _ {s : List ℕ} (h : LawfulImage s) {book : head.Book} (read : HeaderOf s book) where
  known : nodes (links_of s) ≡ book.nodes
  known = length_sets_at s (links_place s) (nodes_of s) ∙ sym read.nodes

  few : nodes (links_of s) ≤ 64
  few = h.lawful.site.nodes.1

  pub nodes_most : book.nodes ≤ 64
  nodes_most = omega (arith, known, few)

  -- the links stand where their place says
  module _ {at : ℕ} (place : at ≡ links_start book.version book.accounts) where
    pub links_inside : at + 8 * book.nodes ≤ length s
    links_inside = omega (arith, read.nodes, stored_length h, links_there read place)

  module _ (mains source destination : ℕ) where
    -- what is within the nodes that were read has no bit from N up
    below : NoBitFrom book.nodes mains → NoBitFrom (nodes (links_of s)) mains
    below l = subst (λ (N : ℕ). NoBitFrom N mains) (sym known) l

    module _ (low : NoBitFrom book.nodes mains) where
      module _ (from : source < book.nodes) (to : destination < book.nodes) where
        both_known : (nodes (links_of s) ≤ source) ⊎ (nodes (links_of s) ≤ destination) → ⊥
        both_known w = ⊎_elim (λ (k : nodes (links_of s) ≤ source). omega (arith, known)) (λ (k : nodes (links_of s) ≤ destination). omega (arith, known)) w

        module _ (apart : source ≡ destination → ⊥) {rows : List ℕ} (l : Sets s (links_place s) book.nodes rows) where
          same : topology (take book.nodes rows) ≡ links_of s
          same = ap topology (l.rows ∙ ap (sets_at s (links_place s)) read.nodes)

          pub listed : {out out' : List ℕ} {r : Result Listed names.Refusal} → ListSays (topology (take book.nodes rows)) mains source destination out r out'
              → BookSays s mains source destination out r out'
          listed {out} {out'} {r} w =
              lists_next (λ f. f (below low)) (lists_next both_known (lists_next apart
              (subst (λ (T : Topology). ListSays T mains source destination out r out') same w)))
