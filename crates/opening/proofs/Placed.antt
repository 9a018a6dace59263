-- The placing that was found by the index, the moduli and another route is that of a book with the rows of the image.
use mathlib.Core.Path.{◌≡◌, refl, sym, ap, ◌∙◌, subst, subst₂}
use mathlib.Core.Logic.{◌⊎◌, inl, inr}
use mathlib.Core.List.{List, [], ◌∷◌}
use Rattle.std.specs.Prelude.{Option, Some, None}
use Rattle.std.specs.Option.{ok_or}
use Rattle.rules.specs.declared.refusals.Refusal.TheVariants.{NoSlots}
use Prim.Native.Nat.{ℕ, ◌+◌, ◌-◌, ◌<◌, ◌≤◌}
use native.Mathlib.Omega.{arith}
use lib.ListN.{length, get_or, take, drop}
use Rattle.rules.specs.Words.{◌∈◌}
use Rattle.rules.specs.Tiles.{Plan, short_tiles}
use Rattle.rules.specs.Topology.{Topology, hop_count, most_route_hops}
use Rattle.rules.specs.Records.{the_plan, slot_numbers, the_route, the_offsets}
use Rattle.rules.specs.declared.{Node.Node, Slot.Slot, Route.Route}
use Rattle.rules.specs.declared.Placed as held
use Rattle.rules.specs.Book as books
use Rattle.rules.specs.Book.{Row, LawfulBook}
use Rattle.rules.specs.Placing as placings
use Rattle.rules.specs.Placing.{Asked, FirstPlacing, beside}
use Rattle.rules.specs.Image.{plan_of, hearing_of, streams_of, rows_place}
use Rattle.rules.proofs.Meeting.{in_at}
use Rattle.rules.proofs.Records.{node_of, node_at_lem, node_holds, route_length, offsets_length}
use Rattle.rules.proofs.Reading.{rows_in, book_in}
use Rattle.image.specs.declared.Book.{Book}
use Rattle.bitset.specs.Rows.{topology}
use Rattle.index.specs.Index.{slow_place, hearing_behind}
use Rattle.placing.specs.plain.Plain.{nth_row, RowsThere, Weighs}
use Rattle.placing.specs.Covers.{RowOn, Covers}
use Rattle.placing.specs.Answers as placing
use Rattle.placing.specs.Answers.{around, Standing, AnswersBy}
use Rattle.placing.proofs.Beside.{first_beside, none_beside}
use Rattle.changing.specs.adding.Puts.{row_on}
use Rattle.opening.specs.Beside.{RouteAsked, PlacedIn}
use Rattle.opening.specs.Keeping.{RouteHeld}
use Rattle.opening.proofs.Around.{image_beside}
use Rattle.opening.proofs.Planned.{hearing_behind_lem}

-- the first placing of the route in a book, or that there is none
abbrev PlacedBy : books.Book → Asked → List ℕ → Option (List Slot) → Type 0
PlacedBy c q route (Some offsets) = FirstPlacing c q.period route (take (hop_count route) (slot_numbers offsets))
PlacedBy c q route None = placings.NoPlacing c q.period route

module _ {s words : List ℕ} {book : Book} {q : Asked} {route : List ℕ} (w : RouteAsked s words book q route) {hearing : List ℕ}
    (t : hearing ≡ take book.nodes (drop hearing_behind words)) where
  lawful : LawfulBook (book_in s)
  lawful = w.asked.image.newest.lawful.lawful

  same_topology : topology hearing ≡ hearing_of s
  same_topology = ap topology (t ∙ hearing_behind_lem w.asked)

  pub placing_asked : placing.Asked (the_plan book.plan) (topology hearing) route q.period
  placing_asked =
      subst₂ (λ (plan : Plan) (T : Topology). placing.Asked plan T route q.period) (sym w.asked.header.plan) (sym same_topology) (record {
        in_range = lawful.site.plan;
        sound = lawful.site.topologies.hearing_sound;
        most = omega (arith, lawful.site.topologies.even, lawful.site.nodes.1);
        some = omega (arith, w.path.some);
        few = w.few;
        known = λ a m. omega (arith, lawful.site.topologies.even, w.path.known a m);
        period = w.asked.period;
      })

  module _ {start n : ℕ} (e : start ≡ rows_place s) (f : n ≡ streams_of s) where
    -- the rows of the image stand from the start on
    pub rows_stand : RowsThere s start n
    rows_stand = subst₂ (RowsThere s) (sym e) (sym f) (image_beside w.asked.image).there

    -- where no period over 100 was noted, none is
    pub none_noted : get_or words slow_place 0 ≡ 0 → (i : ℕ) → i < n → (nth_row s start i).period ≤ short_tiles
    none_noted z i l =
        let b = image_beside w.asked.image in
        subst (λ (k : ℕ). (nth_row s k i).period ≤ short_tiles) (sym e) (b.index.none_slow z _ (b.known i (omega (arith, l, f))))

    module _ {K rows : ℕ} {moduli first taken : List ℕ} (g : K ≡ q.period) (v : Weighs s start n K moduli rows) where
      pub stands_around : length taken ≤ length first - 1 → ((a : ℕ) → a ∈ first → a < 64) → Standing (around words s start rows moduli first taken)
      stands_around fits small =
          record { there = record { each = λ i l. rows_stand.each i (omega (arith, l, v.most)); few = omega (arith, v.most, rows_stand.few) }; fits = fits; small = small }

      -- in each book with the rows of the image, and beside them one on the first route
      pub placed_by : (r : Option (List Slot)) → AnswersBy (the_plan book.plan) (topology hearing) (around words s start rows moduli first taken) q.period route r
          → (c : books.Book) → Covers s (rows_in s) q.period first taken c → PlacedBy c q route r
      placed_by r a c h = placed r answers
        where
          answers : AnswersBy (plan_of s) (hearing_of s) (around words s (rows_place s) rows moduli first taken) q.period route r
          answers =
              subst (λ (k : ℕ). AnswersBy (plan_of s) (hearing_of s) (around words s k rows moduli first taken) q.period route r) e
              (subst₂ (λ (plan : Plan) (T : Topology). AnswersBy plan T (around words s start rows moduli first taken) q.period route r)
              w.asked.header.plan same_topology a)

          weighs : Weighs s (rows_place s) (streams_of s) q.period moduli rows
          weighs = subst₂ (λ (k m : ℕ). Weighs s k m q.period moduli rows) e f (subst (λ (K : ℕ). Weighs s start n K moduli rows) g v)

          placed : (r : Option (List Slot)) → AnswersBy (plan_of s) (hearing_of s) (around words s (rows_place s) rows moduli first taken) q.period route r → PlacedBy c q route r
          placed (Some offsets) x = first_beside (image_beside w.asked.image) w.asked.period weighs h route offsets x
          placed None x = none_beside (image_beside w.asked.image) w.asked.period weighs h route x

-- as the code's records hold it, where the hops are those of the route
pub placed_in : (c : books.Book) (q : Asked) (route : Route) (r : Option (List Slot)) → hop_count (the_route route) ≡ route.hops → PlacedBy c q (the_route route) r
    → PlacedIn c q route (ok_or r NoSlots)
unfolding the_offsets
placed_in c q route (Some offsets) k h = subst (λ (n : ℕ). FirstPlacing c q.period (the_route route) (take n (slot_numbers offsets))) k h
placed_in c q route None k h = (refl, h)

-- a route of no hops with node 0 alone: nothing is beside it, and the book itself has no other row
module _ (nodes : List Node) (offsets : List Slot) where
  abbrev pub nothing : held.Placed
  nothing = record { route = record { hops = 0; nodes = record { 0 = 0 } ∷ nodes }; offsets = offsets }

  one_node : the_route nothing.route ≡ 0 ∷ []
  unfolding the_route
  one_node = refl

  no_offsets : the_offsets nothing ≡ []
  unfolding the_offsets
  no_offsets = refl

  pub nothing_fits : (length (the_offsets nothing) ≤ length (the_route nothing.route) - 1) × ((a : ℕ) → a ∈ the_route nothing.route → a < 64) × (0 ≤ most_route_hops)
  nothing_fits = (
    omega (arith, ap length no_offsets),
    λ a m. small a (subst (λ (route : List ℕ). a ∈ route) one_node m),
    omega arith,
  )
    where
      small : (a : ℕ) → a ∈ (0 ∷ []) → a < 64
      small a (inl e) = omega (arith, e)
      small a (inr m) = absurd m

  pub covers_none : (s : List ℕ) (K : ℕ) → Covers s (rows_in s) K (the_route nothing.route) (the_offsets nothing) (book_in s)
  covers_none s K =
      subst₂ (λ (first taken : List ℕ). Covers s (rows_in s) K first taken (book_in s)) (sym one_node) (sym no_offsets)
      (record { site = refl; known = λ x m. m; each = λ x m. inl m; other = λ l. absurd (omega arith); count = refl; within = λ o m. absurd m })

-- and with the first's row it has that one
pub covers_first : {s : List ℕ} (q : Asked) {first offsets : List ℕ} → FirstPlacing (book_in s) q.period first offsets
    → Covers s (rows_in s) q.period first offsets (beside (row_on q 1 first offsets) (book_in s))
covers_first {s} q {first} {offsets} w = record {
  site = refl;
  known = λ x m. inr m;
  each = each;
  other = λ l. (row_on q 1 first offsets, inl refl, record { period_is = refl; route_is = refl; offsets_are = refl });
  count = w.placing.offsets_hold.count;
  within = w.placing.offsets_hold.within;
}
  where
    each : (x : Row) → x ∈ (row_on q 1 first offsets ∷ rows_in s) → (x ∈ rows_in s) ⊎ RowOn q.period first offsets x
    each x (inl e) = inr (record { period_is = ap (λ (r : Row). r.period) e; route_is = ap (λ (r : Row). r.route) e; offsets_are = ap (λ (r : Row). r.offsets) e })
    each x (inr m) = inl m

-- a first placing and its route stay in bounds
pub first_bounds : {s words : List ℕ} {book : Book} {q : Asked} {first offsets : List ℕ} → RouteAsked s words book q first
    → FirstPlacing (book_in s) q.period first offsets → (length offsets ≤ length first - 1) × ((a : ℕ) → a ∈ first → a < 64)
first_bounds w p = (
  omega (arith, p.placing.offsets_hold.count),
  λ a m. omega (arith, w.path.known a m, w.asked.image.newest.lawful.lawful.site.nodes.1),
)

-- the nodes of the first route are known
pub first_small : {s words : List ℕ} {book : Book} {q : Asked} (first : Route) → RouteAsked s words book q (the_route first) → first.hops ≤ most_route_hops
    → length first.nodes ≡ most_route_hops + 1 → (i : ℕ) → i ≤ first.hops → (node_of first i).0 < 64
first_small first w few sized =
    node_holds (λ (a : ℕ). a < 64) first few sized (λ a m. omega (arith, w.path.known a m, w.asked.image.newest.lawful.lawful.site.nodes.1))

-- and what it has stays in bounds, where the second is placed beside it
module _ (first : held.Placed) (few : first.route.hops ≤ most_route_hops) (nodes : length first.route.nodes ≡ most_route_hops + 1) where
  pub bounds : length first.offsets ≡ most_route_hops → ((i : ℕ) → i ≤ first.route.hops → (node_of first.route i).0 < 64)
      → (length (the_offsets first) ≤ length (the_route first.route) - 1) × ((a : ℕ) → a ∈ the_route first.route → a < 64)
  bounds offsets small = (omega (arith, offsets_length first few offsets, route_length first.route few nodes), known)
    where
      known : (a : ℕ) → a ∈ the_route first.route → a < 64
      known a m =
          let q = in_at a (the_route first.route) m in
          let l : q.0 ≤ first.route.hops = omega (arith, q.1, route_length first.route few nodes) in
          omega (arith, q.2, node_at_lem first.route q.0 l, small q.0 l)

-- what is asked of a route that is placed
pub route_held : {s words : List ℕ} {book : Book} {q : Asked} (p : held.Placed) → RouteAsked s words book q (the_route p.route)
    → hop_count (the_route p.route) ≡ p.route.hops → RouteHeld s p
route_held p w e = record { path = w.path; few = w.few; hops_are = e }
