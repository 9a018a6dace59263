-- The second route that was found, or that there is none, is that of the book.
use mathlib.Core.Path.{◌≡◌}
use mathlib.Core.List.{List, [], ◌∷◌}
use Rattle.std.specs.Prelude.{true, Some, None}
use Prim.Native.Nat.{ℕ}
use native.Mathlib.Omega.{arith}
use lib.ListN.{take, drop}
use Rattle.rules.specs.Topology.{hop_count, Route, SecondPath, SecondRoute}
use Rattle.rules.specs.Records.{the_route}
use Rattle.rules.specs.declared.Route as held
use Rattle.rules.proofs.Records.{route_length}
use Rattle.rules.specs.Placing.{Asked, Planned}
use Rattle.rules.specs.Placing.Planned.{two}
use Rattle.rules.specs.Image.{links_of}
use Rattle.image.specs.declared.Book.{Book}
use Rattle.index.specs.Index.{links_behind}
use Rattle.bitset.specs.Rows.{topology}
use Rattle.routes.specs.Planner as routes
use Rattle.routes.specs.Second.{SecondSays}
use Rattle.opening.specs.Beside.{AskedBeside, RouteAsked}
use Rattle.opening.proofs.Planned.{asked, route_on, second_says}

module _ {s words : List ℕ} {mains : ℕ} {book : Book} {q : Asked} {first : List ℕ} (w : AskedBeside s words book q)
    (p : Route (links_of s) mains q.source q.destination first) where
  pub first_asked : RouteAsked s words book q first
  first_asked = record { asked = w; path = p.is.between.path; few = p.is.most }

  module _ {links : List ℕ} (l : links ≡ take book.nodes (drop links_behind words)) where
    pub second_asked : routes.Asked (topology links) q.source q.destination × Route (topology links) mains q.source q.destination first
    second_asked = (asked w l, route_on w l mains first p)

    pub second_missing : SecondSays (topology links) mains q.source q.destination first None → (p : List ℕ) → SecondPath (links_of s) mains q.source q.destination first p → ⊥
    second_missing h = second_says w l mains first None h

    module _ (r : held.Route) (h : SecondSays (topology links) mains q.source q.destination first (Some r)) where
      says : SecondSays (links_of s) mains q.source q.destination first (Some r)
      says = second_says w l mains first (Some r) h

      second : SecondRoute (links_of s) mains q.source q.destination first (the_route r)
      second = says.route

      pub second_hops : hop_count (the_route r) ≡ r.hops
      second_hops =
          let w = says in
          omega (arith, route_length r (omega (arith, w.most)) w.size)

      pub second_planned : q.second ≡ true → Planned (links_of s) mains q (first ∷ the_route r ∷ [])
      second_planned y = two y p second

      pub second_route : RouteAsked s words book q (the_route r)
      second_route = record { asked = w; path = second.is.0.path; few = omega (arith, second.is.1.short) }
