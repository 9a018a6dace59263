-- The links and the hearing behind the index are the book's, and the planner's answer over the links is that of the book.
use mathlib.Core.Path.{◌≡◌, sym, ap, ◌∙◌, subst}
use mathlib.Core.List.{List}
use Prim.Native.Nat.{ℕ, ◌≤◌}
use native.Mathlib.Omega.{arith}
use lib.ListN.{take, drop}
use Rattle.std.specs.Prelude.{Option, Result, Ok}
use Rattle.rules.specs.Topology.{Topology, nodes, hop_count, Route}
use Rattle.rules.specs.Image.{links_place, nodes_of, links_of, hearing_of}
use Rattle.rules.specs.Records.{the_route}
use Rattle.rules.specs.declared.Route as held
use Rattle.rules.specs.declared.refusals.Refusal.{Refusal}
use Rattle.rules.specs.Placing as placing
use Rattle.rules.proofs.Written.{length_sets_at}
use Rattle.rules.proofs.Reading.{LawfulImage}
use Rattle.rules.proofs.Records.{route_length}
use Rattle.image.specs.declared.Book as head
use Rattle.image.proofs.Topologies.{hearing_nodes}
use Rattle.index.specs.Index.{links_behind, hearing_behind}
use Rattle.bitset.specs.Rows.{topology}
use Rattle.routes.specs.Planner.{Asked, PlannerSays}
use Rattle.routes.specs.Second.{SecondSays}
use Rattle.opening.specs.Beside.{AskedBeside}

module _ {s : List ℕ} (h : LawfulImage s) where
  pub known : nodes (links_of s) ≡ nodes_of s
  known = length_sets_at s (links_place s) (nodes_of s)

  pub nodes_few : nodes (links_of s) ≤ 64
  nodes_few = h.lawful.site.nodes.1

module _ {s words : List ℕ} {book : head.Book} {q : placing.Asked} (w : AskedBeside s words book q) where
  lawful : LawfulImage s
  lawful = w.image.newest.lawful

  pub nodes_most : book.nodes ≤ 64
  nodes_most = omega (arith, w.header.nodes, known lawful, nodes_few lawful)

  -- the links and the hearing that stand behind the index
  pub links_behind_lem : take book.nodes (drop links_behind words) ≡ (links_of s).rows
  links_behind_lem = ap (λ (n : ℕ). take n (drop links_behind words)) (w.header.nodes ∙ sym (known lawful)) ∙ w.image.index.links

  pub hearing_behind_lem : take book.nodes (drop hearing_behind words) ≡ (hearing_of s).rows
  hearing_behind_lem = ap (λ (n : ℕ). take n (drop hearing_behind words)) (w.header.nodes ∙ sym (hearing_nodes s)) ∙ w.image.index.hearing

  asked_book : Asked (links_of s) q.source q.destination
  asked_book = record {
    range = lawful.lawful.site.nodes;
    sound = lawful.lawful.site.topologies.links_sound;
    source_known = omega (arith, known lawful, w.source);
    destination_known = omega (arith, known lawful, w.destination);
    apart = w.apart;
  }

  module _ {links : List ℕ} (l : links ≡ take book.nodes (drop links_behind words)) where
    same_topology : topology links ≡ links_of s
    same_topology = ap topology (l ∙ links_behind_lem)

    pub asked : Asked (topology links) q.source q.destination
    asked = subst (λ (T : Topology). Asked T q.source q.destination) (sym same_topology) asked_book

    module _ (mains : ℕ) where
      -- what is said over those links is said over the book's
      pub planner_says : (r : Result held.Route Refusal) → PlannerSays (topology links) mains q.source q.destination r → PlannerSays (links_of s) mains q.source q.destination r
      planner_says r = subst (λ (T : Topology). PlannerSays T mains q.source q.destination r) same_topology

      module _ (r : held.Route) (p : PlannerSays (topology links) mains q.source q.destination (Ok r)) where
        pub planned_hops : hop_count (the_route r) ≡ r.hops
        planned_hops =
            let w = planner_says (Ok r) p in
            omega (arith, route_length r w.most w.size)

        pub planned_route : Route (links_of s) mains q.source q.destination (the_route r)
        planned_route = (planner_says (Ok r) p).route

      module _ (first : List ℕ) where
        pub route_on : Route (links_of s) mains q.source q.destination first → Route (topology links) mains q.source q.destination first
        route_on = subst (λ (T : Topology). Route T mains q.source q.destination first) (sym same_topology)

        pub second_says : (r : Option held.Route) → SecondSays (topology links) mains q.source q.destination first r → SecondSays (links_of s) mains q.source q.destination first r
        second_says r = subst (λ (T : Topology). SecondSays T mains q.source q.destination first r) same_topology
