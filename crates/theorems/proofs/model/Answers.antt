-- What a request answers on a book, and makes of it, is what the rules say.
use mathlib.Core.Path.{◌≡◌, refl, sym, ap, ◌∙◌, subst}
use mathlib.Core.Logic.{◌⊎◌, inl, inr, ⊎_elim}
use mathlib.Core.Bool.{Bool, true, false, cond, ◌&&◌}
use mathlib.Core.List.{List, [], ◌∷◌}
use mathlib.Core.Option.{Option, some, none}
use Prim.Native.Nat.{ℕ, zero, suc, ◌+◌, ◌*◌, ◌<◌, ◌≤◌}
use native.Mathlib.Omega.{arith}
use lib.Dec.{eqb, ltb}
use lib.ListN.{length}
use Rattle.rules.specs.Words.{◌∈◌, Pairwise, total, Tests}
use Rattle.rules.specs.Says.{Says}
use Rattle.rules.specs.Tiles.{periods, repeats}
use Rattle.rules.specs.Topology.{Topology, nodes, SoundTopology, Route, NoRoute, TooFar, hop_count, SecondPath, SecondRoute}
use Rattle.rules.specs.Book.{Account, Site, Row, Book, key, RisingByKey, LawfulBook, Known, hops_in_all, most_streams, most_hops, drawn}
use Rattle.rules.specs.Placing.{FirstPlacing, NoPlacing, Asked, Planned, NoSecond, Full, beside, NewRows, NoPlacings, NotPaid}
use Rattle.rules.specs.Placing.Planned.{one, two}
use Rattle.rules.specs.Calls.{OfRoutes, Opened, Closed, Request, Made, open_refusals, request_refusals, Work, InOrder}
use Rattle.rules.specs.Calls.Request.{Open, Close}
use Rattle.rules.proofs.Tests.{never, alike, tests_and, tests_or, tests_not, tests_eq, tests_le, tests_lt, tests_member}
use Rattle.rules.proofs.Says.{None, says_none}
use Rattle.rules.proofs.Lists.{reordered_in, reordered_back, in_append, in_right}
use Rattle.rules.proofs.Choice.{best_unique, planned_unique, new_unique}
use Rattle.rules.proofs.Reading.{with_rows}
use Rattle.theorems.specs.model.Search.{links_of, route_of, second_of, placing_of, and_then}
use Rattle.theorems.specs.model.Answer.{passes, is_none, or_given, insert_all, remove, routes_of, no_second, row_on, new_rows, is_full, is_short, made, request_tests, request_number, when_done}
use Rattle.theorems.specs.model.Answer.{book_after, answers_of, last_book}
use Rattle.theorems.proofs.model.Tests.{tests_in, tests_known, tests_known_account}
use Rattle.theorems.proofs.model.Searches.{Found}
use Rattle.theorems.proofs.model.Placings.{placing_found}
use Rattle.theorems.proofs.model.Routes.{links_found, links_some, route_found, route_only}
use Rattle.theorems.proofs.model.Seconds.{beside_found}
use Rattle.theorems.proofs.model.Firsts.{Agree, first_says, tests_none, tests_passes}
use Rattle.theorems.proofs.model.Rows.{insert_all_lem, all_rising, taken, taken_id, remove_in, remove_rising, remove_all}

-- ROUTES
module _ (T : Topology) (middle : ℕ) (q : Asked) where
  -- all routes are too far, or there is none
  abbrev pub NotRouted : Type 0
  NotRouted = TooFar T middle q.source q.destination ⊎ NoRoute T middle q.source q.destination

  -- or no second where one is asked for
  abbrev pub NotPlanned : Type 0
  NotPlanned = NotRouted ⊎ NoSecond T middle q

  pub planned_route : {ps : List (List ℕ)} → Planned T middle q ps → NotPlanned → ⊥
  planned_route (one n g) (inl f) = route_only T middle q.source q.destination g f
  planned_route (one n g) (inr f) = never (sym n ∙ f.asked)
  planned_route (two y g h) (inl f) = route_only T middle q.source q.destination g f
  planned_route (two {p' = p'} y g h) (inr f) =
      f.none p' (subst (λ (p : List ℕ). SecondPath T middle q.source q.destination p p') (best_unique g f.planned) h.is)

  module _ (sound : SoundTopology T) where
    second_found : (p : List ℕ) → Route T middle q.source q.destination p → Found (SecondRoute T middle q.source q.destination p)
        ((p' : List ℕ) → SecondPath T middle q.source q.destination p p' → ⊥) (second_of T middle q.source q.destination p)
    second_found p g = beside_found T middle q.source q.destination sound p g

    pub routes_found : Found (Planned T middle q) NotPlanned (routes_of T middle q)
    routes_found = go (route_of T middle q.source q.destination) (route_found T middle q.source q.destination)
      where
        at : (p : List ℕ) → q.second ≡ true → Route T middle q.source q.destination p → (o : Option (List ℕ))
            → Found (SecondRoute T middle q.source q.destination p) ((p' : List ℕ) → SecondPath T middle q.source q.destination p p' → ⊥) o
            → Found (Planned T middle q) NotPlanned (and_then o (λ (p' : List ℕ). some (p ∷ p' ∷ [])))
        at p e g none f = inr record { asked = e; first = p; planned = g; none = f }
        at p e g (some p') f = two e g f

        on : (p : List ℕ) → Route T middle q.source q.destination p → (t : Bool) → q.second ≡ t
            → Found (Planned T middle q) NotPlanned
            (cond t (and_then (second_of T middle q.source q.destination p) (λ (p' : List ℕ). some (p ∷ p' ∷ []))) (some (p ∷ [])))
        on p g true e = at p e g (second_of T middle q.source q.destination p) (second_found p g)
        on p g false e = one e g

        go : (o : Option (List ℕ)) → Found (Route T middle q.source q.destination) NotRouted o
            → Found (Planned T middle q) NotPlanned (and_then o (λ (p : List ℕ). cond q.second
            (and_then (second_of T middle q.source q.destination p) (λ (p' : List ℕ). some (p ∷ p' ∷ []))) (some (p ∷ []))))
        go none g = inl g
        go (some p) g = on p g q.second refl

    -- the test of 18
    tests_no_second : Tests (no_second T middle q) (NoSecond T middle q)
    tests_no_second =
        alike
        (tests_passes (λ p r. route_only T middle q.source q.destination r) (λ p p' g k. best_unique g k)
        (λ (p : List ℕ). (q.second ≡ true) × ((p' : List ℕ) → SecondPath T middle q.source q.destination p p' → ⊥))
        (λ (p : List ℕ). q.second && is_none (second_of T middle q.source q.destination p))
        (λ p g. tests_and record { yes = λ e. e; back = λ e. e } (tests_none (λ p' s n. n p' s.is) (second_of T middle q.source q.destination p) (second_found p g)))
        (route_of T middle q.source q.destination) (route_found T middle q.source q.destination))
        (λ p. record { asked = p.2.0; first = p.0; planned = p.1; none = p.2.1 })
        (λ n. (n.first, n.planned, (n.asked, n.none)))

-- the tests of 7, and of 17 where 7 does not apply
tests_no_route : (T : Topology) (middle a z : ℕ) → Tests (is_none (links_of T middle a z)) (NoRoute T middle a z)
tests_no_route T middle a z = tests_none (links_some T middle a z) (links_of T middle a z) (links_found T middle a z)

tests_too_far : (T : Topology) (middle a z : ℕ) → (NoRoute T middle a z → ⊥) → Tests (is_none (route_of T middle a z)) (TooFar T middle a z)
tests_too_far T middle a z f =
    alike (tests_none (λ p r. route_only T middle a z r) (route_of T middle a z) (route_found T middle a z))
    (λ n. ⊎_elim (λ (g : TooFar T middle a z). g) (λ (g : NoRoute T middle a z). absurd (f g)) n) (λ g. inl g)

-- NEW ROWS
module _ (q : Asked) where
  -- the rows of the routes, from a way on, beside a book
  abbrev Placed : Book → ℕ → List (List ℕ) → Option (List Row) → Type 0
  Placed b way ps = Found (NewRows b q way ps) (NoPlacings b q way ps)

  pub rows_found : (b : Book) (way : ℕ) (ps : List (List ℕ)) → Placed b way ps (new_rows b q way ps)
  rows_found b way [] = tt
  rows_found b way (p ∷ ps) = go (placing_of b q.period p) (placing_found b q.period p) (λ os. rows_found (with os) (suc way) ps)
    where
      with : List ℕ → Book
      with os = beside (row_on q way p os) b

      on : (os : List ℕ) → FirstPlacing b q.period p os → (o : Option (List Row)) → Placed (with os) (suc way) ps o
          → Placed b way (p ∷ ps) (and_then o (λ (rs : List Row). some (row_on q way p os ∷ rs)))
      on os f none g = inr (row_on q way p os, record { named = refl; nth = refl; every = refl; on = refl; placed = f; paid_by = refl }, g)
      on os f (some rs) g = (record { named = refl; nth = refl; every = refl; on = refl; placed = f; paid_by = refl }, g)

      go : (o : Option (List ℕ)) → Found (FirstPlacing b q.period p) (NoPlacing b q.period p) o
          → ((os : List ℕ) → Placed (with os) (suc way) ps (new_rows (with os) q (suc way) ps))
          → Placed b way (p ∷ ps) (and_then o (λ (os : List ℕ). and_then (new_rows (with os) q (suc way) ps) (λ (rs : List Row). some (row_on q way p os ∷ rs))))
      go none f g = inl f
      go (some os) f g = on os f (new_rows (with os) q (suc way) ps) (g os)

  pub rows_or_none : (b : Book) (way : ℕ) (ps : List (List ℕ)) (rs : List Row) → NewRows b q way ps rs → NoPlacings b q way ps → ⊥
  rows_or_none b way [] rs g n = n
  rows_or_none b way (p ∷ ps) [] g n = g
  rows_or_none b way (p ∷ ps) (r ∷ rs) g (inl n) = n r.offsets g.0.placed.placing
  rows_or_none b way (p ∷ ps) (r ∷ rs) g (inr n) =
      rows_or_none (beside r b) (suc way) ps rs g.1 (subst (λ (x : Row). NoPlacings (beside x b) q (suc way) ps) (new_unique n.1 g.0) n.2)

  -- the rows have the id and, one after the other, the ways
  pub new_ways : (b : Book) (way : ℕ) (ps : List (List ℕ)) (rs : List Row) → NewRows b q way ps rs
      → (r : Row) → r ∈ rs → (r.id ≡ q.id) × (way ≤ r.way) × (r.way < way + length ps)
  new_ways b way [] [] n r m = absurd m
  new_ways b way [] (x ∷ rs) n r m = absurd n
  new_ways b way (p ∷ ps) [] n r m = absurd n
  new_ways b way (p ∷ ps) (x ∷ rs) n r (inl e) =
      let w : r.way ≡ way = ap (λ (v : Row). v.way) e ∙ n.0.nth in
      (ap (λ (v : Row). v.id) e ∙ n.0.named, omega arith, omega arith)
  new_ways b way (p ∷ ps) (x ∷ rs) n r (inr m) =
      let h = new_ways (beside x b) (suc way) ps rs n.1 r m in
      (h.0, omega (arith, h.1), omega (arith, h.2))

  -- so they have keys of their own
  new_keys : (b : Book) (way : ℕ) (ps : List (List ℕ)) (rs : List Row) → NewRows b q way ps rs → Pairwise (λ (r x : Row). key r ≡ key x → ⊥) rs
  new_keys b way [] [] n = tt
  new_keys b way [] (r ∷ rs) n = absurd n
  new_keys b way (p ∷ ps) [] n = absurd n
  new_keys b way (p ∷ ps) (r ∷ rs) n = (
    λ x m e. let h = new_ways (beside r b) (suc way) ps rs n.1 x m in omega (arith, h.0, h.1, n.0.named, n.0.nth),
    new_keys (beside r b) (suc way) ps rs n.1,
  )

  -- and take the routes
  new_routes : (b : Book) (way : ℕ) (ps : List (List ℕ)) (rs : List Row) → NewRows b q way ps rs → (r : Row) → r ∈ rs → r.route ∈ ps
  new_routes b way [] [] n r m = absurd m
  new_routes b way [] (x ∷ rs) n r m = absurd n
  new_routes b way (p ∷ ps) [] n r m = absurd n
  new_routes b way (p ∷ ps) (x ∷ rs) n r (inl e) = inl (ap (λ (v : Row). v.route) e ∙ n.0.on)
  new_routes b way (p ∷ ps) (x ∷ rs) n r (inr m) = inr (new_routes (beside x b) (suc way) ps rs n.1 r m)

-- an open is given at most two routes
planned_most : {T : Topology} {middle : ℕ} {q : Asked} {ps : List (List ℕ)} → Planned T middle q ps → length ps ≤ 2
planned_most (one n g) = omega arith
planned_most (two y g h) = omega arith

-- of nodes that the topology has
planned_known : {T : Topology} {middle : ℕ} {q : Asked} {ps : List (List ℕ)} → Planned T middle q ps → (p : List ℕ) → p ∈ ps → (a : ℕ) → a ∈ p → a < nodes T
planned_known (one n g) p (inl e) a m = g.is.between.path.known a (subst (λ (z : List ℕ). a ∈ z) e m)
planned_known (one n g) p (inr k) a m = absurd k
planned_known (two y g h) p (inl e) a m = g.is.between.path.known a (subst (λ (z : List ℕ). a ∈ z) e m)
planned_known (two y g h) p (inr (inl e)) a m = h.is.0.path.known a (subst (λ (z : List ℕ). a ∈ z) e m)
planned_known (two y g h) p (inr (inr k)) a m = absurd k

-- what requests need of a book, and leave
pub record Workable (b : Book) : Type 0 where
  pub links_sound : SoundTopology b.site.links
  pub rising : RisingByKey b.rows
  pub ways : (r : Row) → r ∈ b.rows → r.way ≤ 2
  pub few : nodes b.site.links ≤ 64
  pub known : (r : Row) → r ∈ b.rows → (a : ℕ) → a ∈ r.route → a < nodes b.site.links

pub workable : {b : Book} → LawfulBook b → Workable b
workable w = record {
  links_sound = w.site.topologies.links_sound;
  rising = w.rising;
  ways = λ r m. (w.rows r m).way_most;
  few = w.site.nodes.1;
  known = λ r m. (w.rows r m).route.known;
}

-- A REQUEST ON A BOOK
module _ (middle : ℕ) (b : Book) (w : Workable b) where
  opened : (q : Asked) (new : List Row) → (Known b q.id → ⊥) → OfRoutes middle q b (λ (ps : List (List ℕ)). NewRows b q 1 ps new)
      → Opened middle b q (with_rows b (insert_all new b.rows))
  opened q new fresh h = record {
    routes = h.0;
    planned = h.1;
    new = new;
    placed = h.2;
    plus = record {
      site = refl;
      rows = insert_all_lem new b.rows;
      rising = all_rising new b.rows w.rising (new_keys q b 1 h.0 new h.2) (λ r x m k e. fresh record { row = x; there = k; named = same r x m k e });
    };
  }
    where
      same : (r x : Row) → r ∈ new → x ∈ b.rows → key x ≡ key r → x.id ≡ q.id
      same r x m k e =
          let g = new_ways q b 1 h.0 new h.2 r m in
          omega (arith, g.0, g.2, planned_most h.1, w.ways x k)

  closed : (id : ℕ) → Closed b id (with_rows b (remove id b.rows))
  closed id = record {
    gone = taken id b.rows;
    of_id = taken_id id b.rows;
    none_left = λ r m. (remove_in id b.rows r m).1;
    rising = remove_rising id b.rows w.rising;
    plus = record { site = refl; rows = remove_all id b.rows; rising = w.rising };
  }

  -- TESTS
  module _ (q : Asked) (Q : List (List ℕ) → Type 0) (f : List (List ℕ) → Bool) (h : (ps : List (List ℕ)) → Tests (f ps) (Q ps)) where
    routes_tests : Tests (passes f (routes_of b.site.links middle q)) (OfRoutes middle q b Q)
    routes_tests =
        tests_passes (λ ps g n. planned_route b.site.links middle q g n) (λ ps qs g k. planned_unique g k) Q f (λ ps g. h ps)
        (routes_of b.site.links middle q) (routes_found b.site.links middle q w.links_sound)

  full_tests : (ps : List (List ℕ)) → Tests (is_full b ps) (Full b ps)
  full_tests ps = tests_or (tests_lt most_streams (length b.rows + length ps)) (tests_lt most_hops (hops_in_all b.rows + total hop_count ps))

  short_tests : (q : Asked) (ps : List (List ℕ)) → Tests (is_short b q ps) (NotPaid b q ps)
  short_tests q ps =
      let cost : ℕ = drawn q.account b.rows + total hop_count ps * repeats q.period in
      alike (tests_member (λ (a : Account). eqb a.number q.account && ltb a.bought cost) (λ a. tests_and (tests_eq a.number q.account) (tests_lt a.bought cost)) b.site.accounts)
      (λ p. record { known = record { account = p.0; there = p.1; named = p.2.0 }; short = p.2.1 })
      (λ n. (n.known.account, n.known.there, (n.known.named, n.short)))

  request_agrees : (q : Request) → Agree (request_tests middle b q) (request_refusals middle b q)
  request_agrees (Close id) = (refl, tests_eq id 0, λ n1. (refl, tests_not (tests_known b id), λ n3. tt))
  request_agrees (Open q) = (
    refl,
    tests_eq q.id 0,
    λ n1. (
      refl,
      tests_or (tests_le (nodes b.site.links) q.source) (tests_le (nodes b.site.links) q.destination),
      λ n4. (
        refl,
        tests_eq q.source q.destination,
        λ n5. (
          refl,
          tests_not (tests_in q.period periods),
          λ n6. (
            refl,
            tests_not (tests_known_account b.site.accounts q.account),
            λ n22. (
              refl,
              tests_known b q.id,
              λ n2. (
                refl,
                tests_no_route b.site.links middle q.source q.destination,
                λ n7. (
                  refl,
                  tests_too_far b.site.links middle q.source q.destination n7,
                  λ n17. (
                    refl,
                    tests_no_second b.site.links middle q w.links_sound,
                    λ n18. (
                      refl,
                      routes_tests q (Full b) (is_full b) full_tests,
                      λ n8. (
                        refl,
                        routes_tests q (NoPlacings b q 1) (λ ps. is_none (new_rows b q 1 ps))
                            (λ ps. tests_none (λ rs g n. rows_or_none q b 1 ps rs g n) (new_rows b q 1 ps) (rows_found q b 1 ps)),
                        λ n9. (
                          refl,
                          routes_tests q (NotPaid b q) (is_short b q) (short_tests q),
                          λ n23.
                              tt,
                        ),
                      ),
                    ),
                  ),
                ),
              ),
            ),
          ),
        ),
      ),
    ),
  )

  pub request_says : (q : Request) → Says (request_refusals middle b q) (request_number middle b q)
  request_says q = first_says (request_tests middle b q) (request_refusals middle b q) (request_agrees q)

  -- of these new rows comes a book, and it is what the open makes
  abbrev Done : Asked → Option (List Row) → Type 0
  Done q o = (c : Book) × (and_then o (λ (new : List Row). some (with_rows b (insert_all new b.rows))) ≡ some c) × Opened middle b q c

  -- where no refusal applies it makes a book, and that is the one computed
  request_done : (q : Request) → request_number middle b q ≡ 0 → (c : Book) × (made middle b q ≡ some c) × Made middle b q c
  request_done (Close id) e = (_, refl, closed id)
  request_done (Open q) e = go (routes_of b.site.links middle q) (routes_found b.site.links middle q w.links_sound)
    where
      n : None (open_refusals middle q b)
      n = says_none (open_refusals middle q b) (omega arith) (subst (Says (open_refusals middle q b)) e (request_says (Open q)))

      on : (ps : List (List ℕ)) → Planned b.site.links middle q ps → (o : Option (List Row)) → Found (NewRows b q 1 ps) (NoPlacings b q 1 ps) o → Done q o
      on ps g none f = absurd (n.1.1.1.1.1.1.1.1.1.1.0 (ps, g, f))
      on ps g (some new) f = (_, refl, opened q new n.1.1.1.1.1.0 (ps, g, f))

      go : (o : Option (List (List ℕ))) → Found (Planned b.site.links middle q) (NotPlanned b.site.links middle q) o
          → Done q (and_then o (new_rows b q 1))
      go none (inl (inl g)) = absurd (n.1.1.1.1.1.1.1.0 g)
      go none (inl (inr g)) = absurd (n.1.1.1.1.1.1.0 g)
      go none (inr g) = absurd (n.1.1.1.1.1.1.1.1.0 g)
      go (some ps) g = on ps g (new_rows b q 1 ps) (rows_found q b 1 ps)

  -- its answer, and the book after it
  pub work_computed : (q : Request) → Work middle b q (request_number middle b q) (book_after middle b q)
  work_computed q = go (request_number middle b q) (request_says q) (request_done q)
    where
      go : (n : ℕ) → Says (request_refusals middle b q) n → (n ≡ 0 → (c : Book) × (made middle b q ≡ some c) × Made middle b q c)
          → Work middle b q n (when_done n (or_given (made middle b q) b) b)
      go zero s d = record {
        says = s;
        refused = λ f. absurd (f refl);
        done = λ e. let (c, is, m) = d refl in subst (Made middle b q) (sym (ap (λ (o : Option Book). or_given o b) is)) m;
      }
      go (suc n) s d = record { says = s; refused = λ f. refl; done = λ e. absurd (omega arith) }

  made_workable : (q : Request) (c : Book) → Made middle b q c → Workable c
  made_workable (Close id) c m = record {
    links_sound = subst (λ (site : Site). SoundTopology site.links) m.plus.site w.links_sound;
    rising = m.rising;
    ways = λ r k. w.ways r (there r k);
    few = subst (λ (site : Site). nodes site.links ≤ 64) m.plus.site w.few;
    known = λ r k. subst (λ (site : Site). (a : ℕ) → a ∈ r.route → a < nodes site.links) m.plus.site (w.known r (there r k));
  }
    where
      there : (r : Row) → r ∈ c.rows → r ∈ b.rows
      there r k = reordered_back r m.plus.rows (in_right r m.gone c.rows k)
  made_workable (Open q) c m = record {
    links_sound = subst (λ (site : Site). SoundTopology site.links) (sym m.plus.site) w.links_sound;
    rising = m.plus.rising;
    ways = λ r k. ⊎_elim (λ (n : r ∈ m.new). new_way r n) (w.ways r) (from r k);
    few = subst (λ (site : Site). nodes site.links ≤ 64) (sym m.plus.site) w.few;
    known = λ r k. subst (λ (site : Site). (a : ℕ) → a ∈ r.route → a < nodes site.links) (sym m.plus.site)
        (⊎_elim (λ (n : r ∈ m.new). planned_known m.planned r.route (new_routes q b 1 m.routes m.new m.placed r n)) (w.known r) (from r k));
  }
    where
      from : (r : Row) → r ∈ c.rows → (r ∈ m.new) ⊎ (r ∈ b.rows)
      from r k = in_append r m.new b.rows (reordered_in r m.plus.rows k)

      new_way : (r : Row) → r ∈ m.new → r.way ≤ 2
      new_way r n = omega (arith, (new_ways q b 1 m.routes m.new m.placed r n).2, planned_most m.planned)

  work_workable : (q : Request) (n : ℕ) (c : Book) → Work middle b q n c → Workable c
  work_workable q zero c h = made_workable q c (h.done refl)
  work_workable q (suc n) c h = subst Workable (sym (h.refused (λ e. omega arith))) w

-- A LIST OF REQUESTS
pub in_order_computed : (middle : ℕ) (b : Book) → Workable b → (qs : List Request) → InOrder (Work middle) b qs (answers_of middle b qs) (last_book middle b qs)
in_order_computed middle b w [] = refl
in_order_computed middle b w (q ∷ qs) =
    let h = work_computed middle b w q in
    (book_after middle b q, h, in_order_computed middle (book_after middle b q) (work_workable middle b w q (request_number middle b q) (book_after middle b q) h) qs)

pub last_workable : (middle : ℕ) (b : Book) → Workable b → (qs : List Request) → Workable (last_book middle b qs)
last_workable middle b w [] = w
last_workable middle b w (q ∷ qs) =
    last_workable middle (book_after middle b q) (work_workable middle b w q (request_number middle b q) (book_after middle b q) (work_computed middle b w q)) qs
