-- The tests say what the rules mean.
use mathlib.Core.Path.{◌≡◌, refl, sym, ap, ap₂, subst}
use mathlib.Core.Logic.{◌⊎◌, inl, inr, ⊎_elim}
use mathlib.Core.Bool.{Bool, true, false, not, cond, ◌&&◌, ◌||◌}
use mathlib.Core.List.{List, [], ◌∷◌}
use Prim.Native.Nat.{ℕ, zero, suc, ◌+◌, ◌*◌, ◌%◌, ◌<◌, ◌≤◌}
use native.Mathlib.Nat.{mod-lt, dvd_of_mod-eq-zero}
use native.Mathlib.Omega.{arith}
use lib.Dec.{eqb, ltb}
use lib.ListN.{length, get_or, drop}
use Rattle.rules.specs.Words.{◌∈◌, Has, Tests}
use Rattle.rules.specs.Tiles.{Plan, cycle_tiles, Data, Takes, Meet, Gcd, repeats}
use Rattle.rules.specs.Topology.{Topology, Joined, Hop, Touches, Clash}
use Rattle.rules.specs.Book.{Account, Site, Row, Book, hops, row_hop, row_offset, KnownAccount, OnData, MeetsClashing, Known}
use Rattle.rules.specs.Placing.{Free}
use Rattle.rules.proofs.Tests.{never, alike, tests_and, tests_or, tests_not, tests_eq, tests_lt, tests_all, tests_some, some_below, some_of, tests_member}
use Rattle.rules.proofs.Bezout.{gcd_zero, gcd_step}
use Rattle.rules.proofs.Meeting.{meet_iff}
use Rattle.rules.proofs.Plans.{tiles_again, on_data_tests}
use Rattle.rules.proofs.Slots.{is_data, takes, tests_data, tests_takes, tests_touches}
use Rattle.theorems.specs.model.Test.{same_by, same, same_row, has, joined, clashes, turns_of, on_data, gcd_of, is_ruled, meets, meets_clashing, is_free, is_known, is_known_account}

-- LISTS
module _ {A : Type 0} (f : A → A → Bool) (h : (x y : A) → Tests (f x y) (x ≡ y)) where
  pub tests_same_by : (xs ys : List A) → Tests (same_by f xs ys) (xs ≡ ys)
  tests_same_by [] [] = record { yes = λ e. refl; back = λ p. refl }
  tests_same_by [] (y ∷ ys) = record { yes = λ e. never e; back = λ p. absurd (omega (arith, ap length p)) }
  tests_same_by (x ∷ xs) [] = record { yes = λ e. never e; back = λ p. absurd (omega (arith, ap length p)) }
  tests_same_by (x ∷ xs) (y ∷ ys) =
      alike (tests_and (h x y) (tests_same_by xs ys)) (λ p. ap₂ ◌∷◌ p.0 p.1) (λ e. (ap (λ (l : List A). get_or l 0 x) e, ap (drop 1) e))

pub tests_same : (xs ys : List ℕ) → Tests (same xs ys) (xs ≡ ys)
tests_same = tests_same_by eqb tests_eq

pub tests_same_row : (r x : Row) → Tests (same_row r x) (r ≡ x)
tests_same_row r x =
    alike
    (tests_and (tests_eq r.id x.id) (tests_and (tests_eq r.way x.way) (tests_and (tests_eq r.period x.period)
    (tests_and (tests_same r.route x.route) (tests_and (tests_same r.offsets x.offsets) (tests_eq r.account x.account))))))
    (λ p i. record { id = p.0 i; way = p.1.0 i; period = p.1.1.0 i; route = p.1.1.1.0 i; offsets = p.1.1.1.1.0 i; account = p.1.1.1.1.1 i })
    (λ e. (
      ap (λ (v : Row). v.id) e,
      (ap (λ (v : Row). v.way) e, (ap (λ (v : Row). v.period) e, (ap (λ (v : Row). v.route) e, (ap (λ (v : Row). v.offsets) e, ap (λ (v : Row). v.account) e)))),
    ))

-- a test of what follows from another
pub tests_if : {s t : Bool} {P Q : Type 0} → Tests s P → Tests t Q → Tests (not s || t) (P → Q)
tests_if {s = true} a b = record { yes = λ e p. b.yes e; back = λ f. b.back (f (a.yes refl)) }
tests_if {s = false} a b = record { yes = λ e p. never (a.back p); back = λ f. refl }

pub tests_in : (K : ℕ) (xs : List ℕ) → Tests (some_of (eqb K) xs) (K ∈ xs)
tests_in K [] = record { yes = λ e. never e; back = λ p. absurd p }
tests_in K (x ∷ xs) = tests_or (tests_eq K x) (tests_in K xs)

-- HOPS
pub tests_has : (n b : ℕ) → Tests (has n b) (Has n b)
tests_has n b = tests_eq _ 1

pub tests_joined : (T : Topology) (a b : ℕ) → Tests (joined T a b) (Joined T a b)
tests_joined T a b = tests_eq _ 1

pub tests_clashes : (T : Topology) (h k : Hop) → Tests (clashes T h k) (Clash T h k)
tests_clashes T h k =
    alike
    (tests_or (tests_or (tests_touches h.from k) (tests_touches h.to k)) (tests_or (tests_joined T h.from k.to) (tests_joined T k.from h.to)))
    (λ p. ⊎_elim (λ q. inl (⊎_elim (λ t. (h.from, inl refl, t)) (λ t. (h.to, inr refl, t)) q)) (λ q. inr q) p)
    (λ p. ⊎_elim (λ q. inl (shared q.0 q.1 q.2)) (λ q. inr q) p)
  where
    shared : (a : ℕ) → Touches a h → Touches a k → Touches h.from k ⊎ Touches h.to k
    shared a (inl e) t = inl (subst (λ (x : ℕ). Touches x k) e t)
    shared a (inr e) t = inr (subst (λ (x : ℕ). Touches x k) e t)

-- SLOTS

-- so many turns tell whether a hop takes only data slots
record Enough (plan : Plan) (K turns : ℕ) : Type 0 where
  most : turns ≤ repeats K
  tell : (o : ℕ) → ((turn : ℕ) → turn < turns → Data plan (o + turn * (K * plan.slots))) → OnData plan K o

turns_enough : (plan : Plan) (K : ℕ) → Enough plan K (turns_of plan K)
turns_enough plan K =
    go (ltb 0 plan.slots && ltb 0 plan.tiles) (tests_and (tests_lt 0 plan.slots) (tests_lt 0 plan.tiles)) (ltb (repeats K) plan.tiles) (tests_lt (repeats K) plan.tiles)
  where
    all : Enough plan K (repeats K)
    all = record { most = omega arith; tell = λ o g slot t. subst (Data plan) (sym t.at) (g t.turn t.within) }

    go : (t : Bool) → Tests t ((0 < plan.slots) × (0 < plan.tiles)) → (u : Bool) → Tests u (repeats K < plan.tiles)
        → Enough plan K (cond t (cond u (repeats K) plan.tiles) (repeats K))
    go true h true g = all
    go true h false g = record {
      most = lt_or_le (λ l. never (g.back l));
      tell = λ o. on_data_tests plan (h.yes refl).0 K o plan.tiles (h.yes refl).1 (inr (tiles_again plan.tiles K));
    }
      where
        lt_or_le : (repeats K < plan.tiles → ⊥) → plan.tiles ≤ repeats K
        lt_or_le f = omega arith
    go false h u g = all

pub tests_on_data : (plan : Plan) (K o : ℕ) → Tests (on_data plan K o) (OnData plan K o)
tests_on_data plan K o =
    let w = turns_enough plan K in
    alike (tests_all (λ turn. is_data plan (o + turn * (K * plan.slots))) (λ turn. tests_data plan (o + turn * (K * plan.slots))) (turns_of plan K))
    (λ g. w.tell o g)
    (λ g turn l. g _ record { turn = turn; within = omega (arith, w.most); at = refl })

gcd_of_lem : (n a b : ℕ) → b < n → Gcd a b (gcd_of n a b)
gcd_of_lem zero a b l = absurd (omega arith)
gcd_of_lem (suc n) a zero l = gcd_zero a
gcd_of_lem (suc n) a (suc b) l = let less : a % suc b < suc b = mod-lt a (omega arith) in gcd_step (gcd_of_lem n (suc b) (a % suc b) (omega arith))

pub tests_meets : (S K o L p : ℕ) → Tests (meets S K o L p) (Meet S K o L p)
tests_meets S K o L p = go (is_ruled S K o L p) refl
  where
    by_turns : Tests (some_below (repeats K) (λ (turn : ℕ). takes S L p (o + turn * (K * S)))) (Meet S K o L p)
    by_turns =
        alike (tests_some (λ turn. takes S L p (o + turn * (K * S))) (λ turn. tests_takes S L p (o + turn * (K * S))) (repeats K))
        (λ h. record { slot = o + h.0 * (K * S); left = record { turn = h.0; within = h.1; at = refl }; right = h.2 })
        (λ m. (m.left.turn, m.left.within, subst (Takes S L p) m.left.at m.right))

    tests_ruled : Tests (is_ruled S K o L p) ((0 < S) × ((cycle_tiles % K ≡ 0) × ((cycle_tiles % L ≡ 0) × ((o < K * S) × (p < L * S)))))
    tests_ruled =
        tests_and (tests_lt 0 S) (tests_and (tests_eq (cycle_tiles % K) 0) (tests_and (tests_eq (cycle_tiles % L) 0) (tests_and (tests_lt o (K * S)) (tests_lt p (L * S)))))

    by_rule : is_ruled S K o L p ≡ true → Tests (eqb (o % (gcd_of (suc L) K L * S)) (p % (gcd_of (suc L) K L * S))) (Meet S K o L p)
    by_rule e =
        let h = tests_ruled.yes e in
        let rule = meet_iff S K L (gcd_of (suc L) K L) o p h.0 (dvd_of_mod-eq-zero _ h.1.0) (dvd_of_mod-eq-zero _ h.1.1.0)
        (gcd_of_lem (suc L) K L (omega arith)) h.1.1.1.0 h.1.1.1.1 in
        alike (tests_eq _ _) rule.1 rule.0

    go : (t : Bool) → is_ruled S K o L p ≡ t
        → Tests (cond t (eqb (o % (gcd_of (suc L) K L * S)) (p % (gcd_of (suc L) K L * S))) (some_below (repeats K) (λ (turn : ℕ). takes S L p (o + turn * (K * S))))) (Meet S K o L p)
    go true e = by_rule e
    go false e = by_turns

-- ROWS
pub tests_meets_clashing : (site : Site) (r : Row) (K : ℕ) (h : Hop) (o : ℕ) → Tests (meets_clashing site r K h o) (MeetsClashing site r K h o)
tests_meets_clashing site r K h o =
    alike
    (tests_some (λ j. clashes site.hearing h (row_hop r j) && meets site.plan.slots K o r.period (row_offset r j))
    (λ j. tests_and (tests_clashes site.hearing h (row_hop r j)) (tests_meets site.plan.slots K o r.period (row_offset r j))) (hops r))
    (λ p. record { hop = p.0; there = p.1; clash = p.2.0; meet = p.2.1 })
    (λ m. (m.hop, m.there, (m.clash, m.meet)))

pub tests_free : (b : Book) (K : ℕ) (h : Hop) (o : ℕ) → Tests (is_free b K h o) (Free b K h o)
tests_free b K h o =
    alike
    (tests_and (tests_on_data b.site.plan K o)
    (tests_not (tests_member (λ r. meets_clashing b.site r K h o) (λ r. tests_meets_clashing b.site r K h o) b.rows)))
    (λ p. record { on_data = p.0; never_meet = λ r m c. p.1 (r, m, c) })
    (λ f. (f.on_data, λ p. f.never_meet p.0 p.1 p.2))

pub tests_known : (b : Book) (id : ℕ) → Tests (is_known b id) (Known b id)
tests_known b id =
    alike (tests_member (λ r. eqb r.id id) (λ r. tests_eq r.id id) b.rows)
    (λ p. record { row = p.0; there = p.1; named = p.2 })
    (λ k. (k.row, k.there, k.named))

pub tests_known_account : (accounts : List Account) (n : ℕ) → Tests (is_known_account accounts n) (KnownAccount accounts n)
tests_known_account accounts n =
    alike (tests_member (λ a. eqb a.number n) (λ a. tests_eq a.number n) accounts) (λ p. record { account = p.0; there = p.1; named = p.2 })
    (λ k. (k.account, k.there, k.named))
