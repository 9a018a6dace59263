-- What a request that was judged by itself does on a book.
use mathlib.Core.Path.{◌≡◌, sym, ◌∙◌, subst}
use mathlib.Core.Logic.{inl, inr}
use mathlib.Core.List.{List}
use Rattle.std.specs.Prelude.{Ok, Err}
use Prim.Native.Nat.{ℕ, ◌<◌, ◌≤◌}
use native.Mathlib.Omega.{arith}
use native.Mathlib.Decide.{dec_lt}
use Rattle.rules.specs.Topology.{nodes}
use Rattle.rules.specs.Placing.{Asked}
use Rattle.rules.specs.Image.{links_place, nodes_of, links_of, site_of}
use Rattle.rules.specs.Calls.{asked_refusals, open_refusals, Opened}
use Rattle.rules.specs.Calls.Request.{Open}
use Rattle.rules.proofs.Says.{None}
use Rattle.rules.proofs.Written.{length_sets_at}
use Rattle.image.specs.Header.{HeaderOf}
use Rattle.image.specs.declared.Book as head
use Rattle.rules.proofs.Reading.{rows_in, book_in}
use Rattle.index.specs.Index.{Beside}
use Rattle.index.specs.Beside.{ImageBeside, Works}
use Rattle.opening.specs.Open.{JudgedBy, Outcome, OpensAsked}
use Rattle.opening.specs.Beside.{AskedBeside}
use Rattle.opening.proofs.Outcomes.{out_first, out_then}
use Rattle.rules.specs.Said.{number_of}
use Rattle.rules.specs.declared.refusals.Refusal.{Refusal}
use Rattle.rules.proofs.Said.{refuses}

-- ON A BOOK: what was judged by the nodes that the header gives
known_nodes : {s : List ℕ} {book : head.Book} → HeaderOf s book → book.nodes ≡ nodes (links_of s)
known_nodes {s} h = h.nodes ∙ sym (length_sets_at s (links_place s) (nodes_of s))

-- an outcome of all refusals of the open is what the open does
works : {s out words : List ℕ} {q : Asked} {mains at number len : ℕ}
    → Outcome (open_refusals mains q (book_in s)) (Opened mains (book_in s) q) s at number len out words → Works mains s (Open q) at number len out words
works r = record {
  says = r.says;
  refused = r.refused;
  done = λ z. let k = r.done z in record { after = k.after; made = k.is; laid = k.laid; index = k.index };
}

below : {s : List ℕ} {book : head.Book} → HeaderOf s book → (a : ℕ) → (book.nodes ≤ a → ⊥) → a < nodes_of s
below {s} h a f = go (dec_lt a (nodes_of s))
  where
    go : Dec (a < nodes_of s) → a < nodes_of s
    go (yes l) = l
    go (no l) = absurd (f (omega (arith, h.nodes)))

module _ {s : List ℕ} {book : head.Book} {q : Asked} (h : HeaderOf s book) where
  pub judged_refused : (r : Refusal) {mains at len : ℕ} {out words : List ℕ} → JudgedBy q book.nodes (Err r) → Beside (site_of s) (rows_in s) words
      → Works mains s (Open q) at (number_of r) len out words
  judged_refused r j i =
      works (out_first (asked_refusals q (nodes (links_of s))) _ (subst (λ (N : ℕ). JudgedBy q N (Err r)) (known_nodes h) j) (refuses r) i)

  module _ (j : JudgedBy q book.nodes (Ok tt)) where
    pub judged_opens : {mains at number len : ℕ} {out words : List ℕ} → OpensAsked s mains q at number len out words → Works mains s (Open q) at number len out words
    judged_opens r = works (out_then (asked_refusals q (nodes (links_of s))) _ (subst (λ (N : ℕ). None (asked_refusals q N)) (known_nodes h) j.0) r)

    pub judged_beside : {words : List ℕ} → ImageBeside s words → AskedBeside s words book q
    judged_beside i = record {
      image = i;
      header = h;
      source = below h q.source (λ l. j.0.1.0 (inl l));
      destination = below h q.destination (λ l. j.0.1.0 (inr l));
      apart = j.0.1.1.0;
      period = j.1;
    }
