-- The tests of an image.
use Rattle.std.specs.Prelude.{Bool, true, not, ◌&&◌, ◌||◌, List, [], ◌∷◌, ℕ, ◌*◌, ◌^◌, eqb, leb, ltb, length, get_or, take, drop}
use Rattle.rules.specs.Tiles.{Plan, tile_counts, short_periods, periods}
use Rattle.rules.specs.Topology.{Topology, nodes, hop_count, middles, most_route_hops, most_short_hops}
use Rattle.rules.specs.Book.{Account, Site, Row, Book, key, hops, hops_in_all, row_hop, row_offset, most_streams, most_hops, most_accounts, drawn}
use Rattle.rules.specs.Image.{newest, has_ways, has_wide, has_accounts, mark, in_turn, encode_row, header_length, stated_length, version_of, plan_of, nodes_of, streams_of, hops_of}
use Rattle.rules.specs.Image.{accounts_of, links_place, links_of, hearing_of, site_of, rows_place}
use Rattle.rules.proofs.Tests.{all_below, some_below, all_of, some_of}
use Rattle.rules.proofs.Reading.{rows_in, book_in}
use Rattle.theorems.specs.model.Test.{same, joined, on_data, meets_clashing, is_known_account}
use Rattle.theorems.specs.model.Answer.{Tested, ◌if◌, first_number}

abbrev pub is_version : ℕ → Bool
is_version v = leb 1 v && leb v newest

-- the test passes of each element and each later one
abbrev pub all_pairs : {A : Type 0} → (A → A → Bool) → List A → Bool
all_pairs f [] = true
all_pairs f (x ∷ xs) = all_of (f x) xs && all_pairs f xs

-- THE SITE
abbrev pub plan_fits : Plan → Bool
plan_fits plan =
    leb 1 plan.slots && (leb plan.slots 32 && (some_of (eqb plan.tiles) tile_counts
    && (ltb plan.kinds (2 ^ plan.tiles) && (leb plan.down plan.slots && leb plan.up plan.slots))))

abbrev pub nodes_fit : ℕ → Bool
nodes_fit N = leb 2 N && leb N 64

abbrev pub fields_fit : List ℕ → Bool
fields_fit s =
    plan_fits (plan_of s) && (nodes_fit (nodes_of s) && (leb (streams_of s) most_streams && (leb (hops_of s) most_hops && eqb (get_or s 15 0) 0)))

-- where f passes of two nodes, g does
abbrev pub where_joined : ℕ → (ℕ → ℕ → Bool) → (ℕ → ℕ → Bool) → Bool
where_joined N f g = all_below N (λ (a : ℕ). all_below N (λ (b : ℕ). not (f a b) || g a b))

abbrev pub is_sound : Topology → Bool
is_sound T =
    all_below (nodes T) (λ (a : ℕ). ltb (get_or T.rows a 0) (2 ^ nodes T))
    && (all_below (nodes T) (λ (a : ℕ). not (joined T a a)) && where_joined (nodes T) (joined T) (λ (a b : ℕ). joined T b a))

abbrev pub are_sound : Topology → Topology → Bool
are_sound links hearing =
    is_sound links && (is_sound hearing && (eqb (nodes hearing) (nodes links) && where_joined (nodes links) (joined links) (joined hearing)))

abbrev pub accounts_fit : List Account → Bool
accounts_fit accounts =
    leb 1 (length accounts) && (leb (length accounts) most_accounts && (all_pairs (λ (a c : Account). ltb a.number c.number) accounts
    && (all_of (λ (a : Account). ltb a.number 65536) accounts && all_of (λ (a : Account). ltb a.bought 4294967296) accounts)))

abbrev pub is_lawful_site : Site → Bool
is_lawful_site site = plan_fits site.plan && (nodes_fit (nodes site.links) && (are_sound site.links site.hearing && accounts_fit site.accounts))

-- ROWS

abbrev pub all_linked : Topology → List ℕ → Bool
all_linked T [] = true
all_linked T (a ∷ []) = true
all_linked T (a ∷ b ∷ p) = joined T a b && all_linked T (b ∷ p)

abbrev pub is_path : Topology → List ℕ → Bool
is_path T p =
    leb 1 (hop_count p) && (all_of (λ (a : ℕ). ltb a (nodes T)) p && (all_pairs (λ (a b : ℕ). not (eqb a b)) p && all_linked T p))

abbrev pub is_lawful : Site → Row → Bool
is_lawful site r =
    leb 1 r.id && (ltb r.id 65536 && (leb 1 r.way && (leb r.way 2 && (some_of (eqb r.period) periods
    && (is_path site.links r.route && (leb (hops r) most_route_hops
    && ((eqb (length r.offsets) (hops r) && (all_pairs ltb r.offsets && all_of (λ (o : ℕ). ltb o (r.period * site.plan.slots)) r.offsets))
    && (all_of (on_data site.plan r.period) r.offsets && is_known_account site.accounts r.account))))))))

abbrev pub is_rising : List Row → Bool
is_rising = all_pairs (λ (r x : Row). ltb (key r) (key x))

-- what the version can hold of a row
abbrev pub row_fits : ℕ → Row → Bool
row_fits v r = (has_ways v || eqb r.way 1) && ((has_wide v || some_of (eqb r.period) short_periods) && (has_accounts v || eqb r.account 0))

-- at most 6 hops, not the first route, and no middle node in common with it
abbrev pub is_beside : List ℕ → List ℕ → Bool
is_beside first p = leb (hop_count p) most_short_hops && (not (same p first) && not (some_of (λ (a : ℕ). some_of (eqb a) (middles p)) (middles first)))

abbrev pub is_pair : Row → Row → Bool
is_pair r x =
    eqb r.id x.id && (eqb r.way 1 && (eqb r.period x.period && (eqb (get_or r.route 0 0) (get_or x.route 0 0)
    && (eqb (get_or r.route (hops r) 0) (get_or x.route (hops x) 0) && (is_beside r.route x.route && eqb r.account x.account)))))

-- where the row is a second way its first stands among the rows
abbrev pub is_paired : List Row → Row → Bool
is_paired rows x = not (eqb x.way 2) || some_of (λ (r : Row). is_pair r x) rows

-- no account is overdrawn
abbrev pub all_paid : List Account → List Row → Bool
all_paid accounts rows = all_of (λ (a : Account). leb (drawn a.number rows) a.bought) accounts

abbrev pub rows_hold : List ℕ → List Row → Bool
rows_hold s rows =
    eqb (length rows) (streams_of s)
    && (all_of (is_lawful (site_of s)) rows && (all_of (row_fits (version_of s)) rows && (is_rising rows && (all_of (is_paired rows) rows
    && (all_paid (accounts_of s) rows && (eqb (hops_in_all rows) (hops_of s) && same (drop (rows_place s) s) (in_turn (encode_row (version_of s)) rows)))))))

abbrev pub rows_meet : Site → Row → Row → Bool
rows_meet site one other = some_below (hops one) (λ (i : ℕ). meets_clashing site other one.period (row_hop one i) (row_offset one i))

abbrev pub clashing_hops_meet : Book → Bool
clashing_hops_meet b = some_of (λ (r : Row). some_of (λ (x : Row). not (eqb (key r) (key x)) && rows_meet b.site r x) b.rows) b.rows

-- A BOOK
abbrev pub is_lawful_book : Book → Bool
is_lawful_book b =
    is_lawful_site b.site
    && ((leb (length b.rows) most_streams && leb (hops_in_all b.rows) most_hops)
    && (all_of (is_lawful b.site) b.rows && (is_rising b.rows && (all_of (is_paired b.rows) b.rows
    && (all_paid b.site.accounts b.rows && not (clashing_hops_meet b))))))

-- THE IMAGE
abbrev pub image_tests : List ℕ → List Tested
image_tests s =
    (14 if ltb (length s) header_length)
    ∷ (13 if not (same (take 3 s) mark && is_version (version_of s)))
    ∷ (10 if not (fields_fit s))
    ∷ (14 if ltb (length s) (links_place s))
    ∷ (10 if not (accounts_fit (accounts_of s)))
    ∷ (14 if not (eqb (length s) (stated_length s)))
    ∷ (11 if not (are_sound (links_of s) (hearing_of s)))
    ∷ (15 if not (rows_hold s (rows_in s)))
    ∷ (16 if clashing_hops_meet (book_in s))
    ∷ []

-- the number that a check answers
abbrev pub image_number : List ℕ → ℕ
image_number s = first_number (image_tests s)
