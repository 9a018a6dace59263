-- The tests of an image are its refusals, and where none applies the image holds the book that is read.
use mathlib.Core.Path.{◌≡◌, refl, sym, subst}
use mathlib.Core.Bool.{Bool, true, false, not, ◌||◌}
use mathlib.Core.List.{List, [], ◌∷◌}
use Prim.Native.Nat.{ℕ, ◌*◌, ◌/◌, ◌^◌, ◌<◌, ◌≤◌}
use native.Mathlib.Omega.{arith}
use native.Mathlib.Nat.{div-eq_of_lt, pow-le-pow_right, le_of_suc-le-suc, lt_of_not-le}
use lib.Dec.{eqb, leb, ltb}
use lib.ListN.{length, get_or, take, drop}
use Rattle.rules.specs.Words.{Has, NoBitFrom, Pairwise, Tests}
use Rattle.rules.specs.Says.{Says}
use Rattle.rules.specs.Tiles.{Plan, PlanInRange, tile_counts, short_periods, periods}
use Rattle.rules.specs.Topology.{Topology, nodes, NodesInRange, Joined, SoundTopology, SoundTopologies}
use Rattle.rules.specs.Topology.{LinkedInTurn, Path, hop_count, middles, most_route_hops, most_short_hops, Beside}
use Rattle.rules.specs.Book.{Site, Row, Book, key, hops, hops_in_all, row_hop, row_offset, RisingByKey, LawfulSite, LawfulRow, RowsMeet, ClashingHopsMeet}
use Rattle.rules.specs.Book.{Account, most_streams, most_hops, most_accounts, AccountsInRange, Pair, Paired, drawn, Paid, LawfulBook}
use Rattle.rules.specs.Image.{newest, Version, has_ways, has_wide, has_accounts, RowFits, mark, in_turn, encode_row, header_length, stated_length, version_of, plan_of, nodes_of, streams_of, hops_of}
use Rattle.rules.specs.Image.{accounts_of, links_place, links_of, hearing_of, site_of, book_of, rows_place, FieldsInRange, RowsOf, image_refusals}
use Rattle.rules.proofs.Tests.{never, alike, tests_and, tests_not, tests_eq, tests_le, tests_lt, all_below, tests_all, tests_some, some_of, tests_member, tests_every}
use Rattle.rules.proofs.Says.{None, says_none}
use Rattle.rules.proofs.Written.{Bytes, stored}
use Rattle.rules.proofs.Reading.{rows_in, book_in, rows_are, LawfulImage}
use Rattle.theorems.specs.model.Test.{joined, on_data}
use Rattle.theorems.specs.model.Reading.{is_version, plan_fits, nodes_fit, fields_fit, where_joined, is_sound, are_sound, accounts_fit, is_lawful_site, all_pairs, all_linked, is_path, is_lawful}
use Rattle.theorems.specs.model.Reading.{is_rising, row_fits, is_beside, is_pair, is_paired, all_paid, rows_hold, rows_meet, clashing_hops_meet, is_lawful_book, image_tests, image_number}
use Rattle.theorems.proofs.model.Tests.{tests_same, tests_if, tests_in, tests_joined, tests_on_data, tests_meets_clashing, tests_known_account}
use Rattle.theorems.proofs.model.Firsts.{first_says}

-- what is tested and not false is true
pub stable : {t : Bool} {P : Type 0} → Tests t P → ((P → ⊥) → ⊥) → P
stable {t = true} a f = a.yes refl
stable {t = false} a f = absurd (f (λ p. never (a.back p)))

pub tests_pairs : {A : Type 0} (R : A → A → Type 0) (f : A → A → Bool) → ((x y : A) → Tests (f x y) (R x y)) → (xs : List A) → Tests (all_pairs f xs) (Pairwise R xs)
tests_pairs R f h [] = record { yes = λ e. tt; back = λ p. refl }
tests_pairs R f h (x ∷ xs) = tests_and (tests_every (f x) (h x) xs) (tests_pairs R f h xs)

pub tests_version : (v : ℕ) → Tests (is_version v) (Version v)
tests_version v = tests_and (tests_le 1 v) (tests_le v newest)

-- FIELDS
pub tests_plan : (plan : Plan) → Tests (plan_fits plan) (PlanInRange plan)
tests_plan plan =
    alike
    (tests_and (tests_le 1 plan.slots) (tests_and (tests_le plan.slots 32) (tests_and (tests_in plan.tiles tile_counts)
    (tests_and (tests_lt plan.kinds (2 ^ plan.tiles)) (tests_and (tests_le plan.down plan.slots) (tests_le plan.up plan.slots))))))
    (λ p. record { some = p.0; most = p.1.0; tiles = p.1.1.0; kinds = p.1.1.1.0; down = p.1.1.1.1.0; up = p.1.1.1.1.1 })
    (λ r. (r.some, (r.most, (r.tiles, (r.kinds, (r.down, r.up))))))

pub tests_nodes : (N : ℕ) → Tests (nodes_fit N) (NodesInRange N)
tests_nodes N = tests_and (tests_le 2 N) (tests_le N 64)

pub tests_fields : (s : List ℕ) → Tests (fields_fit s) (FieldsInRange s)
tests_fields s =
    alike
    (tests_and (tests_plan (plan_of s)) (tests_and (tests_nodes (nodes_of s)) (tests_and (tests_le (streams_of s) most_streams)
    (tests_and (tests_le (hops_of s) most_hops) (tests_eq (get_or s 15 0) 0)))))
    (λ p. record { plan = p.0; nodes = p.1.0; streams = p.1.1.0; hops = p.1.1.1.0; last = p.1.1.1.1 })
    (λ r. (r.plan, (r.nodes, (r.streams, (r.hops, r.last)))))

-- TOPOLOGIES
module _ (N : ℕ) (P Q : ℕ → ℕ → Type 0) (f g : ℕ → ℕ → Bool) (h : (a b : ℕ) → Tests (f a b) (P a b)) (k : (a b : ℕ) → Tests (g a b) (Q a b)) where
  tests_where : Tests (where_joined N f g) ((a b : ℕ) → a < N → b < N → P a b → Q a b)
  tests_where =
      alike (tests_all (λ a. all_below N (λ b. not (f a b) || g a b)) (λ a. tests_all (λ b. not (f a b) || g a b) (λ b. tests_if (h a b) (k a b)) N) N)
      (λ p a b l m. p a l b m) (λ r a l b m. r a b l m)

pub tests_sound : (T : Topology) → Tests (is_sound T) (SoundTopology T)
tests_sound T =
    alike
    (tests_and (tests_all (λ a. ltb (get_or T.rows a 0) (2 ^ nodes T)) (λ a. tests_lt (get_or T.rows a 0) (2 ^ nodes T)) (nodes T))
    (tests_and (tests_all (λ a. not (joined T a a)) (λ a. tests_not (tests_joined T a a)) (nodes T))
    (tests_where (nodes T) (Joined T) (λ a b. Joined T b a) (joined T) (λ a b. joined T b a) (tests_joined T) (λ a b. tests_joined T b a))))
    (λ p. record { low = p.0; no_self = p.1.0; both_ways = p.1.1 })
    (λ r. (r.low, (r.no_self, r.both_ways)))

-- a set without bits from w up has only numbers below w
below : (w n b : ℕ) → NoBitFrom w n → Has n b → b < w
below w n b low h = lt_of_not-le (λ l. none l)
  where
    none : w ≤ b → ⊥
    none l =
        let p : 2 ^ w ≤ 2 ^ b = pow-le-pow_right (omega arith) l in
        let m : n < 2 ^ b = omega arith in
        let z : n / 2 ^ b ≡ 0 = div-eq_of_lt m in
        omega (arith, h, z)

pub tests_topologies : (links hearing : Topology) → Tests (are_sound links hearing) (SoundTopologies links hearing)
tests_topologies links hearing =
    alike
    (tests_and (tests_sound links) (tests_and (tests_sound hearing) (tests_and (tests_eq (nodes hearing) (nodes links))
    (tests_where (nodes links) (Joined links) (Joined hearing) (joined links) (joined hearing) (tests_joined links) (tests_joined hearing)))))
    (λ p. record {
      links_sound = p.0;
      hearing_sound = p.1.0;
      even = p.1.1.0;
      heard = λ a b l h. p.1.1.1 a b l (below (nodes links) (get_or links.rows a 0) b (p.0.low a l) h) h;
    })
    (λ r. (r.links_sound, (r.hearing_sound, (r.even, λ a b l m. r.heard a b l))))

pub tests_accounts : (accounts : List Account) → Tests (accounts_fit accounts) (AccountsInRange accounts)
tests_accounts accounts =
    alike
    (tests_and (tests_le 1 (length accounts)) (tests_and (tests_le (length accounts) most_accounts)
    (tests_and (tests_pairs (λ (a c : Account). a.number < c.number) (λ a c. ltb a.number c.number) (λ a c. tests_lt a.number c.number) accounts)
    (tests_and (tests_every (λ a. ltb a.number 65536) (λ a. tests_lt a.number 65536) accounts)
    (tests_every (λ a. ltb a.bought 4294967296) (λ a. tests_lt a.bought 4294967296) accounts)))))
    (λ p. record { some = p.0; most = p.1.0; rising = p.1.1.0; number = p.1.1.1.0; bought = p.1.1.1.1 })
    (λ r. (r.some, (r.most, (r.rising, (r.number, r.bought)))))

pub tests_site : (site : Site) → Tests (is_lawful_site site) (LawfulSite site)
tests_site site =
    alike (tests_and (tests_plan site.plan) (tests_and (tests_nodes (nodes site.links))
    (tests_and (tests_topologies site.links site.hearing) (tests_accounts site.accounts))))
    (λ p. record { plan = p.0; nodes = p.1.0; topologies = p.1.1.0; accounts = p.1.1.1 })
    (λ r. (r.plan, (r.nodes, (r.topologies, r.accounts))))

-- ROWS
tests_in_turn : (T : Topology) (p : List ℕ) → Tests (all_linked T p) (LinkedInTurn T p)
tests_in_turn T [] = record { yes = λ e. tt; back = λ p. refl }
tests_in_turn T (a ∷ []) = record { yes = λ e. tt; back = λ p. refl }
tests_in_turn T (a ∷ b ∷ p) = tests_and (tests_joined T a b) (tests_in_turn T (b ∷ p))

pub tests_path : (T : Topology) (p : List ℕ) → Tests (is_path T p) (Path T p)
tests_path T p =
    alike
    (tests_and (tests_le 1 (hop_count p)) (tests_and (tests_every (λ a. ltb a (nodes T)) (λ a. tests_lt a (nodes T)) p)
    (tests_and (tests_pairs (λ (a b : ℕ). a ≡ b → ⊥) (λ a b. not (eqb a b)) (λ a b. tests_not (tests_eq a b)) p) (tests_in_turn T p))))
    (λ q. record { some = q.0; known = q.1.0; distinct = q.1.1.0; linked = q.1.1.1 })
    (λ r. (r.some, (r.known, (r.distinct, r.linked))))

pub tests_lawful : (site : Site) (r : Row) → Tests (is_lawful site r) (LawfulRow site r)
tests_lawful site r =
    alike
    (tests_and (tests_le 1 r.id) (tests_and (tests_lt r.id 65536) (tests_and (tests_le 1 r.way) (tests_and (tests_le r.way 2)
    (tests_and (tests_in r.period periods) (tests_and (tests_path site.links r.route) (tests_and (tests_le (hops r) most_route_hops)
    (tests_and (tests_and (tests_eq (length r.offsets) (hops r)) (tests_and (tests_pairs ◌<◌ ltb tests_lt r.offsets)
    (tests_every (λ o. ltb o (r.period * site.plan.slots)) (λ o. tests_lt o (r.period * site.plan.slots)) r.offsets)))
    (tests_and (tests_every (on_data site.plan r.period) (tests_on_data site.plan r.period) r.offsets)
    (tests_known_account site.accounts r.account))))))))))
    (λ p. record {
      id_some = p.0;
      id_most = p.1.0;
      way_some = p.1.1.0;
      way_most = p.1.1.1.0;
      period = p.1.1.1.1.0;
      route = p.1.1.1.1.1.0;
      route_most = p.1.1.1.1.1.1.0;
      offsets = record { count = p.1.1.1.1.1.1.1.0.0; rising = p.1.1.1.1.1.1.1.0.1.0; within = p.1.1.1.1.1.1.1.0.1.1 };
      on_data = p.1.1.1.1.1.1.1.1.0;
      account = p.1.1.1.1.1.1.1.1.1;
    })
    (λ l. (
      l.id_some,
      (l.id_most, (l.way_some, (l.way_most, (l.period, (l.route, (l.route_most, ((l.offsets.count, (l.offsets.rising, l.offsets.within)), (l.on_data, l.account)))))))),
    ))

pub tests_rising : (rows : List Row) → Tests (is_rising rows) (RisingByKey rows)
tests_rising = tests_pairs (λ (r x : Row). key r < key x) (λ r x. ltb (key r) (key x)) (λ r x. tests_lt (key r) (key x))

-- a test where the version does not hold something
tests_older : (t : Bool) {u : Bool} {P : Type 0} → Tests u P → Tests (t || u) (t ≡ false → P)
tests_older true h = record { yes = λ e f. never (sym f); back = λ f. refl }
tests_older false h = record { yes = λ e f. h.yes e; back = λ f. h.back (f refl) }

pub tests_fits : (v : ℕ) (r : Row) → Tests (row_fits v r) (RowFits v r)
tests_fits v r =
    alike (tests_and (tests_older (has_ways v) (tests_eq r.way 1)) (tests_and (tests_older (has_wide v) (tests_in r.period short_periods))
    (tests_older (has_accounts v) (tests_eq r.account 0))))
    (λ f. record { one_way = f.0; short = f.1.0; old_account = f.1.1 }) (λ f. (f.one_way, (f.short, f.old_account)))

-- PAIRS
tests_beside : (first p : List ℕ) → Tests (is_beside first p) (Beside first p)
tests_beside first p =
    alike
    (tests_and (tests_le (hop_count p) most_short_hops) (tests_and (tests_not (tests_same p first))
    (tests_not (tests_member (λ a. some_of (eqb a) (middles p)) (λ a. tests_in a (middles p)) (middles first)))))
    (λ t. record { short = t.0; another = t.1.0; no_common = λ a m k. t.1.1 (a, m, k) })
    (λ b. (b.short, (b.another, λ t. b.no_common t.0 t.1 t.2)))

tests_pair : (r x : Row) → Tests (is_pair r x) (Pair r x)
tests_pair r x =
    alike
    (tests_and (tests_eq r.id x.id) (tests_and (tests_eq r.way 1) (tests_and (tests_eq r.period x.period)
    (tests_and (tests_eq (get_or r.route 0 0) (get_or x.route 0 0)) (tests_and (tests_eq (get_or r.route (hops r) 0) (get_or x.route (hops x) 0))
    (tests_and (tests_beside r.route x.route) (tests_eq r.account x.account)))))))
    (λ p. record { id = p.0; first = p.1.0; period = p.1.1.0; starts = p.1.1.1.0; ends = p.1.1.1.1.0; beside = p.1.1.1.1.1.0; account = p.1.1.1.1.1.1 })
    (λ p. (p.id, (p.first, (p.period, (p.starts, (p.ends, (p.beside, p.account)))))))

pub tests_paired : (rows : List Row) (x : Row) → Tests (is_paired rows x) (Paired rows x)
tests_paired rows x = tests_if (tests_eq x.way 2) (tests_member (λ r. is_pair r x) (λ r. tests_pair r x) rows)

pub tests_paid : (accounts : List Account) (rows : List Row) → Tests (all_paid accounts rows) (Paid accounts rows)
tests_paid accounts rows = tests_every (λ a. leb (drawn a.number rows) a.bought) (λ a. tests_le (drawn a.number rows) a.bought) accounts

pub tests_rows : (s : List ℕ) (rows : List Row) → Tests (rows_hold s rows) (RowsOf s rows)
tests_rows s rows =
    alike
    (tests_and (tests_eq (length rows) (streams_of s)) (tests_and (tests_every (is_lawful (site_of s)) (tests_lawful (site_of s)) rows)
    (tests_and (tests_every (row_fits (version_of s)) (tests_fits (version_of s)) rows) (tests_and (tests_rising rows)
    (tests_and (tests_every (is_paired rows) (tests_paired rows) rows) (tests_and (tests_paid (accounts_of s) rows) (tests_and (tests_eq (hops_in_all rows) (hops_of s))
    (tests_same (drop (rows_place s) s) (in_turn (encode_row (version_of s)) rows)))))))))
    (λ p. record {
      count = p.0;
      lawful = p.1.0;
      fits = p.1.1.0;
      rising = p.1.1.1.0;
      paired = p.1.1.1.1.0;
      paid = p.1.1.1.1.1.0;
      hops = p.1.1.1.1.1.1.0;
      fill = p.1.1.1.1.1.1.1;
    })
    (λ r. (r.count, (r.lawful, (r.fits, (r.rising, (r.paired, (r.paid, (r.hops, r.fill))))))))

pub tests_no_rows : (s : List ℕ) → Tests (not (rows_hold s (rows_in s))) ((rows : List Row) → RowsOf s rows → ⊥)
tests_no_rows s =
    alike (tests_not (tests_rows s (rows_in s)))
    (λ n rows h. n (subst (RowsOf s) (sym (rows_are s rows h)) h))
    (λ f h. f (rows_in s) h)

pub tests_rows_meet : (site : Site) (one other : Row) → Tests (rows_meet site one other) (RowsMeet site one other)
tests_rows_meet site one other =
    alike (tests_some _ (λ i. tests_meets_clashing site other one.period (row_hop one i) (row_offset one i)) (hops one))
    (λ p. record { hop = p.0; there = p.1; meets = p.2 })
    (λ m. (m.hop, m.there, m.meets))

pub tests_meet : (b : Book) → Tests (clashing_hops_meet b) (ClashingHopsMeet b)
tests_meet b =
    alike
    (tests_member _ (λ r. tests_member _ (λ x. tests_and (tests_not (tests_eq (key r) (key x))) (tests_rows_meet b.site r x)) b.rows) b.rows)
    (λ p. record { one = p.0; other = p.2.0; one_there = p.1; other_there = p.2.1; different = p.2.2.0; meets = p.2.2.1 })
    (λ m. (m.one, m.one_there, (m.other, m.other_there, (m.different, m.meets))))

-- A BOOK
pub tests_book : (b : Book) → Tests (is_lawful_book b) (LawfulBook b)
tests_book b =
    alike
    (tests_and (tests_site b.site) (tests_and (tests_and (tests_le (length b.rows) most_streams) (tests_le (hops_in_all b.rows) most_hops))
    (tests_and (tests_every (is_lawful b.site) (tests_lawful b.site) b.rows) (tests_and (tests_rising b.rows)
    (tests_and (tests_every (is_paired b.rows) (tests_paired b.rows) b.rows)
    (tests_and (tests_paid b.site.accounts b.rows) (tests_not (tests_meet b))))))))
    (λ p. record {
      site = p.0;
      streams = p.1.0.0;
      hops = p.1.0.1;
      rows = p.1.1.0;
      rising = p.1.1.1.0;
      paired = p.1.1.1.1.0;
      paid = p.1.1.1.1.1.0;
      never_meet = p.1.1.1.1.1.1;
    })
    (λ l. (l.site, ((l.streams, l.hops), (l.rows, (l.rising, (l.paired, (l.paid, l.never_meet)))))))

-- THE IMAGE
pub image_says : (s : List ℕ) → Says (image_refusals s) (image_number s)
image_says s =
    first_says (image_tests s) (image_refusals s) (
      refl,
      tests_lt (length s) header_length,
      λ n1. (
        refl,
        tests_not (tests_and (tests_same (take 3 s) mark) (tests_version (version_of s))),
        λ n2. (
          refl,
          tests_not (tests_fields s),
          λ n3. (
            refl,
            tests_lt (length s) (links_place s),
            λ n4. (
              refl,
              tests_not (tests_accounts (accounts_of s)),
              λ n5. (
                refl,
                tests_not (tests_eq (length s) (stated_length s)),
                λ n6. (
                  refl,
                  tests_not (tests_topologies (links_of s) (hearing_of s)),
                  λ n7. (
                    refl,
                    tests_no_rows s,
                    λ n8.
                        (refl, meet n8, λ n9. tt),
                  ),
                ),
              ),
            ),
          ),
        ),
      ),
    )
  where
    meet : (((rows : List Row) → RowsOf s rows → ⊥) → ⊥) → Tests (clashing_hops_meet (book_in s)) ((rows : List Row) × RowsOf s rows × ClashingHopsMeet (book_of s rows))
    meet held =
        alike (tests_meet (book_in s)) (λ m. (rows_in s, stable (tests_rows s (rows_in s)) (λ f. held ((tests_no_rows s).yes ((tests_not (tests_rows s (rows_in s))).back f))), m))
        (λ p. subst (λ (rows : List Row). ClashingHopsMeet (book_of s rows)) (sym (rows_are s p.0 p.1)) p.2)

-- where the image's number is 0 it holds the book that is read
pub stored_in : (s : List ℕ) → Bytes s → image_number s ≡ 0 → LawfulImage s
stored_in s bytes e =
    stored s bytes (rows_in s) (le_of_suc-le-suc (lt_of_not-le n.0)) known.0 known.1 (stable (tests_fields s) n.1.1.0)
    (stable (tests_accounts (accounts_of s)) n.1.1.1.1.0) (stable (tests_eq (length s) (stated_length s)) n.1.1.1.1.1.0)
    (stable (tests_topologies (links_of s) (hearing_of s)) n.1.1.1.1.1.1.0) rows (λ m. n.1.1.1.1.1.1.1.1.0 (rows_in s, rows, m))
  where
    n : None (image_refusals s)
    n = says_none (image_refusals s) (omega arith) (subst (Says (image_refusals s)) e (image_says s))

    known : (take 3 s ≡ mark) × Version (version_of s)
    known = stable (tests_and (tests_same (take 3 s) mark) (tests_version (version_of s))) n.1.0

    rows : RowsOf s (rows_in s)
    rows = stable (tests_rows s (rows_in s)) (λ f. n.1.1.1.1.1.1.1.0 ((tests_no_rows s).yes ((tests_not (tests_rows s (rows_in s))).back f)))
