-- All of the document's worked examples hold.
use mathlib.Core.Path.{◌≡◌, refl, sym, subst}
use mathlib.Core.Logic.{⊎_elim}
use mathlib.Core.Bool.{Bool, true, false, not, ◌&&◌, ◌||◌}
use mathlib.Core.List.{List, [], ◌∷◌}
use Prim.Native.Nat.{ℕ, zero, suc}
use lib.Dec.{T, eqb}
use lib.ListN.{get_or}
use Rattle.rules.specs.Words.{Tests}
use Rattle.rules.specs.Topology.{all_nodes, Route}
use Rattle.rules.specs.Book.{Row, Book}
use Rattle.rules.specs.Placing.{Asked, Planned, NewRows}
use Rattle.rules.specs.Image.{newest, old_accounts, encode, Stored}
use Rattle.rules.specs.Table.{Entry}
use Rattle.rules.specs.Calls.{Request, Work}
use Rattle.rules.specs.Calls.Request.{Open, Close}
use Rattle.rules.proofs.Choice.{best_unique, planned_unique, rows_unique}
use Rattle.rules.proofs.Tests.{tests_and, tests_or, tests_not, tests_eq, all_of, tests_all, tests_every}
use Rattle.rules.proofs.Slots.{takes, tests_takes}
use Rattle.theorems.specs.model.Test.{same_by, same, same_row, on_data}
use Rattle.theorems.specs.model.Search.{route_of}
use Rattle.theorems.specs.model.Answer.{passes, routes_of, new_rows}
use Rattle.theorems.specs.model.Table.{cell_of}
use Rattle.theorems.specs.model.Reading.{row_fits, is_lawful_book}
use Rattle.theorems.specs.model.Examples.{plan_a, line_a, heard_a, square, pair, empty, asked, asked_two, opening, opening_two, number_on, SaysOn, after, rows_on, opens_with, is_stored}
use Rattle.theorems.specs.model.Examples.{any_middle, after2, after3, after7, hop, operations_p9, image_p10, image_p11, wide_p10, wide_p11}
use Rattle.theorems.specs.model.Examples.{heard_p10, heard_p11, older_p10, older_p11, old_p10, old_p11, examples, Leaves, OpensWith, ExamplesHold}
use Rattle.theorems.proofs.model.Tests.{tests_same_by, tests_same, tests_same_row, tests_on_data, tests_meets, tests_clashes}
use Rattle.theorems.proofs.model.Routes.{route_found, route_only}
use Rattle.theorems.proofs.model.Firsts.{tests_passes}
use Rattle.theorems.proofs.model.Answers.{planned_route, routes_found, rows_found, rows_or_none, Workable, workable, request_says, work_computed}
use Rattle.theorems.proofs.model.Tables.{entry_computed}
use Rattle.theorems.proofs.model.Reading.{tests_version, tests_fits, tests_book}

pub all_examples : T (all_of (λ (t : Bool). t) examples)
all_examples = tt

true_of : (t : Bool) → T t → t ≡ true
true_of true h = refl
true_of false h = absurd h

-- number n of the list
abbrev at : ℕ → List Bool → Bool
at n [] = true
at zero (t ∷ ts) = t
at (suc n) (t ∷ ts) = at n ts

each_true : (n : ℕ) (ts : List Bool) → T (all_of (λ (t : Bool). t) ts) → at n ts ≡ true
each_true n [] h = refl
each_true zero (true ∷ ts) h = refl
each_true zero (false ∷ ts) h = absurd h
each_true (suc n) (true ∷ ts) h = each_true n ts h
each_true (suc n) (false ∷ ts) h = absurd h

holds : (n : ℕ) → at n examples ≡ true
holds n = each_true n examples all_examples

-- what a request says that the list has
module _ (b : Book) (h : T (is_lawful_book b)) where
  fit : Workable b
  fit = workable ((tests_book b).yes (true_of _ h))

  pub number_says : (q : Request) (n : ℕ) → eqb (number_on b q) n ≡ true → SaysOn b q n
  number_says q n e = subst (SaysOn b q) ((tests_eq (number_on b q) n).yes e) (request_says (any_middle b) b fit q)

  pub leaves : (q : Request) → eqb (number_on b q) 0 ≡ true → Leaves b q (after b q)
  leaves q e = subst (λ (n : ℕ). Work (any_middle b) b q n (after b q)) ((tests_eq (number_on b q) 0).yes e) (work_computed (any_middle b) b fit q)

  pub opens_with_lem : (q : Asked) (routes offsets : List (List ℕ)) → opens_with b q routes offsets ≡ true → OpensWith b q routes offsets (after b (Open q))
  opens_with_lem q routes offsets e =
      let t = (tests_and (tests_eq (number_on b (Open q)) 0) (tests_and given placed)).yes e in
      record {
        leaves = leaves (Open q) ((tests_eq (number_on b (Open q)) 0).back t.0);
        planned = subst (Planned b.site.links (any_middle b) q) (sym t.1.0.2) t.1.0.1;
        placed = subst (NewRows b q 1 routes) (sym t.1.1.2) t.1.1.1;
      }
    where
      given : Tests (passes (same_by same routes) (routes_of b.site.links (any_middle b) q))
          ((ps : List (List ℕ)) × Planned b.site.links (any_middle b) q ps × (routes ≡ ps))
      given =
          tests_passes (λ ps g. planned_route b.site.links (any_middle b) q g) (λ ps qs g k. planned_unique g k) (λ (ps : List (List ℕ)). routes ≡ ps)
          (same_by same routes) (λ ps g. tests_same_by same tests_same routes ps) (routes_of b.site.links (any_middle b) q)
          (routes_found b.site.links (any_middle b) q fit.links_sound)

      placed : Tests (passes (same_by same_row (rows_on q 1 routes offsets)) (new_rows b q 1 routes))
          ((rs : List Row) × NewRows b q 1 routes rs × (rows_on q 1 routes offsets ≡ rs))
      placed =
          tests_passes (λ rs. rows_or_none q b 1 routes rs) (rows_unique b q 1 routes) (λ (rs : List Row). rows_on q 1 routes offsets ≡ rs)
          (same_by same_row (rows_on q 1 routes offsets)) (λ rs g. tests_same_by same_row tests_same_row (rows_on q 1 routes offsets) rs)
          (new_rows b q 1 routes) (rows_found q b 1 routes)

-- a book whose hearing is its links, with the account of older books, and its image
pub stored : (s : List ℕ) (v : ℕ) (b : Book) → b.site.hearing ≡ b.site.links → b.site.accounts ≡ old_accounts → is_stored s v b ≡ true → Stored s v b
stored s v b hearing accounts e =
    let t = (tests_and (tests_version v) (tests_and (tests_book b) (tests_and (tests_every (row_fits v) (tests_fits v) b.rows) (tests_same s (encode v b))))).yes e in
    record { version = t.0; lawful = t.1.0; fits = record { rows = t.1.1.0; hearing = λ older. hearing; accounts = λ older. accounts }; bytes = t.1.1.1 }

-- the theorem
pub examples_hold : ExamplesHold
examples_hold = record {
  p1 = number_says (empty line_a) tt (opening 1 3 0 1) 9 (holds 0);
  p1_only = λ o l h. ⊎_elim (λ n. absurd (n h)) (λ q. q)
      ((tests_all (λ (o : ℕ). not (on_data plan_a 1 o) || (eqb o 2 || eqb o 3)) (λ o. tests_or (tests_not (tests_on_data plan_a 1 o)) (tests_or (tests_eq o 2) (tests_eq o 3))) 4
      ).yes (holds 1) o l);
  p1_two = (tests_on_data plan_a 1 2).yes (holds 2);
  p1_three = (tests_on_data plan_a 1 3).yes (holds 3);
  p2 = opens_with_lem (empty line_a) tt (asked 1 3 0 2) ((3 ∷ 2 ∷ 1 ∷ 0 ∷ []) ∷ []) ((2 ∷ 3 ∷ 5 ∷ []) ∷ []) (holds 4);
  p3 = opens_with_lem after2 tt (asked 2 0 3 2) ((0 ∷ 1 ∷ 2 ∷ 3 ∷ []) ∷ []) ((2 ∷ 6 ∷ 7 ∷ []) ∷ []) (holds 5);
  p4 = number_says after3 tt (opening 3 3 2 2) 9 (holds 6);
  p5_close = leaves after3 tt (Close 1) (holds 7);
  p5 = opens_with_lem (after after3 (Close 1)) tt (asked 3 3 2 2) ((3 ∷ 2 ∷ []) ∷ []) ((2 ∷ []) ∷ []) (holds 8);
  p6 = (tests_meets 4 2 3 5 7).yes (holds 9);
  p6_in = (tests_and (tests_takes 4 2 3 27) (tests_takes 4 5 7 27)).yes (holds 10);
  p6_first =
      (tests_all (λ (slot : ℕ). not (takes 4 2 3 slot && takes 4 5 7 slot)) (λ slot. tests_not (tests_and (tests_takes 4 2 3 slot) (tests_takes 4 5 7 slot))) 27).yes (holds 11);
  p7 = route_of_lem;
  p8 = (tests_clashes line_a (hop 0 1) (hop 2 3)).yes (holds 13);
  p8_not = (tests_not (tests_clashes line_a (hop 0 1) (hop 3 2))).yes (holds 14);
  p8_heard = (tests_clashes heard_a (hop 0 1) (hop 3 2)).yes (holds 23);
  p9 = λ slot l. (
    _,
    subst (λ (o : ℕ). Entry after2 2 slot o (cell_of after2 2 slot after2.rows).stream)
        ((tests_all (λ (slot : ℕ). eqb (cell_of after2 2 slot after2.rows).operation (get_or operations_p9 slot 0))
        (λ slot. tests_eq (cell_of after2 2 slot after2.rows).operation (get_or operations_p9 slot 0)) 8).yes (holds 15) slot l) (entry_computed after2 2 slot),
  );
  p10 = stored image_p10 newest (empty pair) refl refl (holds 16);
  p11 = opens_with_lem (empty pair) tt (asked 7 1 0 2) ((1 ∷ 0 ∷ []) ∷ []) ((2 ∷ []) ∷ []) (holds 17);
  p11_image = stored image_p11 newest after7 refl refl (holds 18);
  p10_old = stored old_p10 1 (empty pair) refl refl (holds 19);
  p11_old = stored old_p11 1 after7 refl refl (holds 20);
  p10_older = stored older_p10 2 (empty pair) refl refl (holds 24);
  p11_older = stored older_p11 2 after7 refl refl (holds 25);
  p10_heard = stored heard_p10 3 (empty pair) refl refl (holds 26);
  p11_heard = stored heard_p11 3 after7 refl refl (holds 27);
  p10_wide = stored wide_p10 4 (empty pair) refl refl (holds 28);
  p11_wide = stored wide_p11 4 after7 refl refl (holds 29);
  second = opens_with_lem (empty square) tt (asked_two 1 0 3 2) ((0 ∷ 1 ∷ 3 ∷ []) ∷ (0 ∷ 2 ∷ 3 ∷ []) ∷ []) ((2 ∷ 3 ∷ []) ∷ (3 ∷ 5 ∷ []) ∷ []) (holds 21);
  no_second = number_says (empty line_a) tt (opening_two 1 3 0 2) 18 (holds 22);
}
  where
    route_of_lem : Route square (all_nodes 4) 0 3 (0 ∷ 1 ∷ 3 ∷ [])
    route_of_lem =
        let h = (tests_passes {P = Route square (all_nodes 4) 0 3} (λ p r n. route_only square (all_nodes 4) 0 3 r n) (λ p q g k. best_unique g k)
        (λ (p : List ℕ). (0 ∷ 1 ∷ 3 ∷ []) ≡ p) (same (0 ∷ 1 ∷ 3 ∷ []))
        (λ p g. tests_same (0 ∷ 1 ∷ 3 ∷ []) p) (route_of square (all_nodes 4) 0 3) (route_found square (all_nodes 4) 0 3)).yes (holds 12) in
        subst (Route square (all_nodes 4) 0 3) (sym h.2) h.1
