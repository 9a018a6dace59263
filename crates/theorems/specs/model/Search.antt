-- The planner's route, the second beside it, and the first placing, searched for.
use Rattle.std.specs.Prelude.{Bool, true, cond, ◌&&◌, List, [], ◌∷◌, ℕ, zero, suc, ◌*◌, ◌-◌, ◌^◌, eqb, leb, ltb, get_or, set}
use Rattle.std.proofs.Math.Option.{Option, some, none}
use Rattle.rules.specs.Words.{bit}
use Rattle.rules.specs.Topology.{Topology, nodes, most_route_hops, most_short_hops, hop_count, middles, hop_at}
use Rattle.rules.specs.Book.{Book}
use Rattle.rules.proofs.Tests.{some_of}
use Rattle.theorems.specs.model.Test.{has, joined, is_free}

-- the first answer, or the second
abbrev pub or_else : {A : Type 0} → Option A → Option A → Option A
or_else none o = o
or_else (some x) o = some x

-- the answer with x in front
abbrev pub before : ℕ → Option (List ℕ) → Option (List ℕ)
before x none = none
before x (some p) = some (x ∷ p)

-- the first answer of f at count numbers from lo on
abbrev pub first_from : {A : Type 0} → ℕ → ℕ → (ℕ → Option A) → Option A
first_from zero lo f = none
first_from (suc count) lo f = or_else (f lo) (first_from count (suc lo) f)

-- the node may stand n links before the destination
abbrev pub may_stand : ℕ → ℕ → ℕ → Bool
may_stand middle zero m = true
may_stand middle (suc n) m = has middle m

-- the least of count numbers from lo on that pass
abbrev pub least_from : ℕ → ℕ → (ℕ → Bool) → Option ℕ
least_from count lo f = first_from count lo (λ (o : ℕ). cond (f o) (some o) none)

abbrev pub and_then : {A B : Type 0} → Option A → (A → Option B) → Option B
and_then none f = none
and_then (some x) f = f x

-- the numbers below n that pass
abbrev pub keep_below : ℕ → (ℕ → Bool) → List ℕ
keep_below zero f = []
keep_below (suc n) f = cond (f n) (n ∷ keep_below n f) (keep_below n f)

-- the nodes with a way of n links to the destination over the set of middles
abbrev pub level : Topology → ℕ → ℕ → ℕ → List ℕ
level T middle destination zero = destination ∷ []
level T middle destination (suc n) =
    keep_below (nodes T) (λ (a : ℕ). some_of (λ (m : ℕ). ltb m (nodes T) && (joined T a m && may_stand middle n m)) (level T middle destination n))

abbrev pub on_level : Topology → ℕ → ℕ → ℕ → ℕ → Bool
on_level T middle destination n a = some_of (eqb a) (level T middle destination n)

-- the links of the shortest way between different nodes
abbrev pub links_of : Topology → ℕ → ℕ → ℕ → Option ℕ
links_of T middle source destination =
    cond (eqb source destination) none (least_from (nodes T) 0 (λ (n : ℕ). on_level T middle destination n source))

-- the lowest way of n links from a node to the destination, without the node
abbrev pub way_of : Topology → ℕ → ℕ → ℕ → ℕ → Option (List ℕ)
way_of T middle destination zero a = cond (eqb a destination) (some []) none
way_of T middle destination (suc n) a =
    first_from (nodes T) 0
    (λ (m : ℕ). cond ((joined T a m && may_stand middle n m) && on_level T middle destination n m) (before m (way_of T middle destination n m)) none)

-- the planner's route: the lowest of the shortest ways, where these have at most 15 links
abbrev pub route_of : Topology → ℕ → ℕ → ℕ → Option (List ℕ)
route_of T middle source destination =
    and_then (links_of T middle source destination)
    (λ (n : ℕ). cond (leb n most_route_hops) (before source (way_of T middle destination n source)) none)

-- the set without b
abbrev pub without : ℕ → ℕ → ℕ
without b n = n - bit n b * 2 ^ b

-- and without all of a list
abbrev pub without_all : List ℕ → ℕ → ℕ
without_all [] n = n
without_all (b ∷ bs) n = without b (without_all bs n)

-- the topology without the link between a and b
abbrev pub without_link : Topology → ℕ → ℕ → Topology
without_link T a b = record { rows = set (set T.rows a (without b (get_or T.rows a 0))) b (without a (get_or T.rows b 0)) }

-- the second route beside the first: the planner's without the link between the ends, over the nodes that are no middle of the first
abbrev pub second_of : Topology → ℕ → ℕ → ℕ → List ℕ → Option (List ℕ)
second_of T middle source destination first =
    and_then (route_of (without_link T source destination) (without_all (middles first) middle) source destination)
    (λ (p : List ℕ). cond (leb (hop_count p) most_short_hops) (some p) none)

-- each of n hops from the hop i on at the least free offset after the one before
abbrev pub place_from : (ℕ → ℕ → Bool) → ℕ → ℕ → ℕ → ℕ → Option (List ℕ)
place_from free B zero i lo = some []
place_from free B (suc n) i lo = and_then (least_from (B - lo) lo (free i)) (λ (o : ℕ). before o (place_from free B n (suc i) (suc o)))

-- the first placing
abbrev pub placing_of : Book → ℕ → List ℕ → Option (List ℕ)
placing_of b K route = place_from (λ (i o : ℕ). is_free b K (hop_at route i) o) (K * b.site.plan.slots) (hop_count route) 0 0
