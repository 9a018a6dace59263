-- A node's part of the tables and the table that its book expands to.
use mathlib.Core.Path.{◌≡◌, refl, sym, ap, ap₂, ◌∙◌, subst}
use mathlib.Core.Bool.{Bool, true, false}
use Rattle.std.specs.Prelude.{Result, Ok, Err, is_ok}
use Rattle.std.specs.Bool.{MatchBool}
use Rattle.std.specs.List.{AllWithin, HoldsAt, range_with_len}
use Rattle.std.proofs.lemmas.List.FromFn.{length-range_with_len, get_or-range_with_len}
use Rattle.std.proofs.lemmas.Bool.Decides.{Decides-eqb}
use Rattle.std.proofs.lemmas.Slice.Eq.{slice_eq-Decides}
use lib.Dec.{eqb}
use lib.Pointwise.{pointwise}
use Rattle.rules.specs.Said.{number_of, said}
use Rattle.rules.specs.declared.refusals.Refusal.{Refusal}
use mathlib.Core.List.{List}
use Prim.Native.Nat.{ℕ, ◌+◌, ◌*◌, ◌-◌, ◌<◌, ◌≤◌}
use native.Mathlib.Nat.{mul-le-mul, le_refl}
use native.Mathlib.Omega.{arith}
use lib.ListN.{length, get_or, take, drop, length-drop}
use lib.Seq.{take_at, length-take-le}
use Rattle.rules.specs.Words.{Tests}
use Rattle.rules.specs.Tiles.{Plan, PlanInRange, short_tiles}
use Rattle.rules.specs.Records.{the_plan}
use Rattle.rules.specs.Image.{plan_of, nodes_of, image_refusals}
use Rattle.rules.specs.Table.{table_length, TablePart}
use Rattle.rules.specs.Tables.{entries_of, table_at}
use Rattle.rules.proofs.Tests.{alike, never, said_yes, said_no}
use Rattle.rules.proofs.Says.{says_unique}
use Rattle.rules.proofs.Encoding.{stored_says}
use Rattle.rules.proofs.Entries.{table_unique}
use Rattle.rules.proofs.Reading.{book_in, LawfulImage}
use Rattle.image.specs.Header.{HeaderOf}
use Rattle.image.specs.declared.Book as head
use Rattle.tables.specs.Entries.{Filled}
use Rattle.lawful.specs.Verdict.{NumberOf}
use Rattle.adopting.specs.Expanded.{SameAt, Expanded}

-- a table's length, and its place in the tables
pub record Room (s tables : List ℕ) (node len : ℕ) : Type 0 where
  pub len_is : len ≡ table_length (plan_of s) short_tiles
  pub few : len ≤ 9600
  pub inside : node * len + len ≤ length tables

pub plan_in_range : {s : List ℕ} {b : head.Book} → LawfulImage s → HeaderOf s b → PlanInRange (the_plan b.plan)
plan_in_range h r = subst PlanInRange (sym r.plan) h.lawful.site.plan

pub room_for : {s tables : List ℕ} {b : head.Book} {node len : ℕ} → LawfulImage s → HeaderOf s b → node < b.nodes → length tables ≡ 3 * entries_of (plan_of s) b.nodes
    → len ≡ table_length (the_plan b.plan) short_tiles → Room s tables node len
room_for {s} {tables} {b} {node} {len} h r l e f =
    let g : len ≡ table_length (plan_of s) short_tiles = f ∙ ap (λ (p : Plan). table_length p short_tiles) r.plan in
    let most = h.lawful.site.plan.most in
    let k : (node + 1) * len ≤ b.nodes * len = mul-le-mul (omega arith) (le_refl len) in
    let m : b.nodes * len ≡ length tables = ap (λ (x : ℕ). b.nodes * x) g ∙ (omega arith) ∙ sym e in
    record { len_is = g; few = omega arith; inside = omega arith }

module _ {s tables : List ℕ} {node len : ℕ} (w : Room s tables node len) where
  abbrev part : List ℕ
  part = take (node * len + len - node * len) (drop (node * len) tables)

  part_is : part ≡ table_at (plan_of s) tables node
  part_is = let e : node * len + len - node * len ≡ len = omega arith in ap₂ (λ (k m : ℕ). take k (drop (node * m) tables)) (e ∙ w.len_is) w.len_is

  pub as_long : (new : List ℕ) → length new ≡ 9600 → length part ≡ length (take len new)
  as_long new e =
      let k : node * len + len - node * len ≡ len = omega arith in
      ap (λ (x : ℕ). length (take x (drop (node * len) tables))) k ∙ length-take-le len (drop (node * len) tables) (omega (arith, length-drop (node * len) tables, w.inside))
      ∙ sym (length-take-le len new (omega (arith, w.few)))

  pub tests_same : {old new : List ℕ} {t : Bool} → LawfulImage s → Filled s node 0 short_tiles old new → Tests t (part ≡ take len new) → Tests t (SameAt s tables node)
  tests_same {old} {new} h f g =
      let written : take len new ≡ f.table = ap (take len) f.buffer ∙ take_at f.table (drop (length f.table) old) len (f.part_of.size ∙ sym w.len_is) in
      alike g (λ e. subst (TablePart (book_in s) node 0 short_tiles) (sym written ∙ sym e ∙ part_is) f.part_of)
      (λ p. part_is ∙ table_unique (book_in s) h.lawful node 0 short_tiles (table_at (plan_of s) tables node) f.table p f.part_of ∙ sym written)

-- what `==` says of bytes
pub tests_equal : (xs ys : List ℕ) (t : Bool) → t ≡ pointwise eqb xs ys → Tests t (xs ≡ ys)
tests_equal xs ys t e = let d = slice_eq-Decides {E = eqb} Decides-eqb xs ys t e in record { yes = d.0; back = d.1 }

-- EVERY NODE was asked
pub tests_all : (P : ℕ → Type 0) (t : Bool) (n : ℕ)
    → MatchBool t (AllWithin P (range_with_len 0 n) 0 (length (range_with_len 0 n)))
    ((k : ℕ) × (k < length (range_with_len 0 n)) × HoldsAt (λ (j : ℕ). P j → ⊥) (range_with_len 0 n) k) → Tests t ((j : ℕ) → j < n → P j)
tests_all P true n h = said_yes (λ j l. subst P (get_or-range_with_len 0 n j 0 l ∙ omega arith) (h j 0 (omega arith) (omega (arith, l, length-range_with_len 0 n))))
tests_all P false n (k, l, h) =
    let m : k < n = omega (arith, l, length-range_with_len 0 n) in
    let e : get_or (range_with_len 0 n) k 0 ≡ k = get_or-range_with_len 0 n k 0 m ∙ omega arith in
    said_no (λ f. subst (λ (j : ℕ). P j → ⊥) e (h 0) (f k m))

-- THE WHOLE
pub ok_said : (r : Result (Unit {0}) Refusal) → is_ok r ≡ true → said r ≡ 0
ok_said (Ok x) e = refl
ok_said (Err why) e = never e

some_number : (why : Refusal) → 1 ≤ number_of why
some_number why = grind arith

pub err_said : (r : Result (Unit {0}) Refusal) → is_ok r ≡ false → said r ≡ 0 → ⊥
err_said (Ok x) e z = never (sym e)
err_said (Err why) e z = omega (arith, some_number why)

pub size_read : {s : List ℕ} (tables : List ℕ) {b : head.Book} → HeaderOf s b → length tables ≡ 3 * entries_of (plan_of s) (nodes_of s) → length tables ≡ 3 * entries_of (plan_of s) b.nodes
size_read {s} tables r e = e ∙ ap (λ (n : ℕ). 3 * entries_of (plan_of s) n) (sym r.nodes)

pub not_lawful : {s tables : List ℕ} {n : ℕ} → NumberOf s n → (n ≡ 0 → ⊥) → Tests false (Expanded s tables)
not_lawful {s} {n = n} v f = said_no (λ x. f (says_unique (image_refusals s) n 0 v.says (stored_says s _ _ x.lawful)))

pub tests_expanded : {s tables : List ℕ} {b : head.Book} {t : Bool} → LawfulImage s → HeaderOf s b → Tests t ((node : ℕ) → node < b.nodes → SameAt s tables node) → Tests t (Expanded s tables)
tests_expanded h r g =
    alike g (λ f. record { lawful = h; same = λ node l. f node (omega (arith, r.nodes)) }) (λ x node l. x.same node (omega (arith, r.nodes)))
