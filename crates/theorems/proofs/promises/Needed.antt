-- Each premise of the theorem that two books never look alike is needed.
use mathlib.Core.Path.{◌≡◌, refl, sym, ap, ◌∙◌, subst}
use mathlib.Core.List.{List}
use mathlib.Core.Bool.{Bool}
use Prim.Native.Nat.{ℕ}
use lib.Dec.{T, eqb}
use Rattle.rules.specs.Words.{◌∈◌}
use Rattle.rules.specs.Tiles.{cycle_tiles}
use Rattle.rules.specs.Topology.{Topology, nodes}
use Rattle.rules.specs.Book.{Row, Book, LawfulBook}
use Rattle.rules.specs.Image.{newest, encode, Stored}
use Rattle.rules.proofs.Tests.{all_below, tests_all, all_of, tests_every, tests_eq}
use Rattle.rules.proofs.Encoding.{stored_unique}
use Rattle.theorems.specs.model.Test.{same}
use Rattle.theorems.specs.model.Table.{table_of}
use Rattle.theorems.specs.model.Reading.{is_lawful_book}
use Rattle.theorems.proofs.model.Tests.{tests_same}
use Rattle.theorems.proofs.model.Tables.{part_computed}
use Rattle.theorems.proofs.model.Reading.{tests_book}
use Rattle.theorems.proofs.order.Premises.{so, held, newly}
use Rattle.theorems.proofs.order.Examples.{unlike}
use Rattle.theorems.specs.promises.OnAir.{TableOf, LookAlike, SameAccounts, SameNumbers}
use Rattle.theorems.specs.promises.Needed.{Needed, alone, in_line, sold, paid, Examples}
use Rattle.theorems.proofs.promises.Expanding.{expand_alike}

-- the tables of a node are computed to be the same
abbrev one_table : Book → Book → ℕ → Bool
one_table b c node = same (table_of b node) (table_of c node)

alike : (b c : Book) → T (all_below (nodes b.site.links) (one_table b c)) → LookAlike b c
alike b c h node l =
    let e = (tests_all (one_table b c) (λ node. tests_same (table_of b node) (table_of c node)) (nodes b.site.links)).yes (so h) node l in
    (table_of b node, part_computed b node 0 cycle_tiles, subst (TableOf c node) (sym e) (part_computed c node 0 cycle_tiles))

lawful : (b : Book) → T (is_lawful_book b) → LawfulBook b
lawful b h = (tests_book b).yes (so h)

-- the books have all their rows on one account
same_accounts : (n : ℕ) (b c : Book) → T (all_of (λ (r : Row). eqb r.account n) b.rows) → T (all_of (λ (r : Row). eqb r.account n) c.rows) → SameAccounts b c
same_accounts n b c h k r x m l e = all b h r m ∙ sym (all c k x l)
  where
    all : (b : Book) → T (all_of (λ (r : Row). eqb r.account n) b.rows) → (r : Row) → r ∈ b.rows → r.account ≡ n
    all b h = (tests_every (λ r. eqb r.account n) (λ r. tests_eq r.account n) b.rows).yes (so h)

same_numbers : {s t : List ℕ} {v w : ℕ} {b c : Book} → Stored s v b → Stored t w c → SameAccounts b c → SameNumbers s t
same_numbers {s} {t} {v} {w} {b} {c} g h a v' w' b' c' g' h' =
    subst (SameAccounts b') (stored_unique t w w' c c' h h').1 (subst (λ (x : Book). SameAccounts x c) (stored_unique s v v' b b' g g').1 a)

old : Stored (encode 1 (sold 0 alone alone)) 1 (sold 0 alone alone)
old = held 1 (sold 0 alone alone) refl refl tt

new : Stored (encode newest (sold 0 alone alone)) newest (sold 0 alone alone)
new = held newest (sold 0 alone alone) refl refl tt

pub examples : Examples
examples = record {
  version = record { alike = expand_alike old new refl (alike (sold 0 alone alone) (sold 0 alone alone) tt); different = unlike tt };
  plan = record { alike = expand_alike new (held newest (sold 1 alone alone) refl refl tt) refl (alike (sold 0 alone alone) (sold 1 alone alone) tt); different = unlike tt };
  topologies = record { alike = expand_alike new (held newest (sold 0 in_line in_line) refl refl tt) refl (alike (sold 0 alone alone) (sold 0 in_line in_line) tt); different = unlike tt };
  accounts = record { alike = expand_alike (newly (paid 500 3) tt) (newly (paid 501 3) tt) refl (alike (paid 500 3) (paid 501 3) tt); different = unlike tt };
  numbers = record { alike = expand_alike (newly (paid 500 3) tt) (newly (paid 500 9) tt) refl (alike (paid 500 3) (paid 500 9) tt); different = unlike tt };
  links = record {
    one = lawful (sold 0 alone in_line) tt;
    other = lawful (sold 0 in_line in_line) tt;
    alike = alike (sold 0 alone in_line) (sold 0 in_line in_line) tt;
    different = λ e. unlike {xs = alone.rows} {ys = in_line.rows} tt (ap (λ (b : Book). b.site.links.rows) e);
  };
  hearing = record {
    one = lawful (sold 0 alone alone) tt;
    other = lawful (sold 0 alone in_line) tt;
    alike = alike (sold 0 alone alone) (sold 0 alone in_line) tt;
    different = λ e. unlike {xs = alone.rows} {ys = in_line.rows} tt (ap (λ (b : Book). b.site.hearing.rows) e);
  };
}

-- the stream of the examples is on account 0
one_account : (D D' : ℕ) (links hearing links' hearing' : Topology) → SameAccounts (sold D links hearing) (sold D' links' hearing')
one_account D D' links hearing links' hearing' = same_accounts 0 (sold D links hearing) (sold D' links' hearing') tt tt

pub needed : Needed
needed = record {
  version = λ f. examples.version.different (f _ _ refl refl refl refl (same_numbers old new (one_account 0 0 alone alone alone alone)) examples.version.alike);
  plan = λ f. examples.plan.different
      (f _ _ refl refl refl refl (same_numbers new (held newest (sold 1 alone alone) refl refl tt) (one_account 0 1 alone alone alone alone)) examples.plan.alike);
  topologies = λ f. examples.topologies.different
      (f _ _ refl refl refl (same_numbers new (held newest (sold 0 in_line in_line) refl refl tt) (one_account 0 0 alone alone in_line in_line)) examples.topologies.alike);
  accounts = λ f. examples.accounts.different
      (f _ _ refl refl refl refl (same_numbers (newly (paid 500 3) tt) (newly (paid 501 3) tt) (same_accounts 3 (paid 500 3) (paid 501 3) tt tt)) examples.accounts.alike);
  numbers = λ f. examples.numbers.different (f _ _ refl refl refl refl refl examples.numbers.alike);
  links = λ f. let h = examples.links in h.different (f _ _ h.one h.other refl refl refl (one_account 0 0 alone in_line in_line in_line) h.alike);
  hearing = λ f. let h = examples.hearing in h.different (f _ _ h.one h.other refl refl refl (one_account 0 0 alone alone alone in_line) h.alike);
}
