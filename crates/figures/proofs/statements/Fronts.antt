-- Of an image that is longer than the longest, the first bytes say its number.
use mathlib.Core.Path.{◌≡◌, refl, sym, ap, ap₂, ◌∙◌, subst}
use mathlib.Core.Logic.{◌↔◌, inl, inr}
use mathlib.Core.Bool.{Bool, true, false, cond}
use mathlib.Core.List.{List, [], ◌∷◌}
use Prim.Native.Nat.{ℕ, zero, suc, ◌+◌, ◌*◌, ◌<◌, ◌≤◌}
use native.Mathlib.Omega.{arith}
use lib.ListN.{length, get_or, take}
use lib.Seq.{get_or-take, length-take-le, take-take, take_all}
use Rattle.rules.specs.Says.{Says}
use Rattle.rules.specs.Tiles.{PlanInRange}
use Rattle.rules.specs.Book.{Account, Book, most_accounts, AccountsInRange}
use Rattle.rules.specs.Image.{newest, header_length, has_ways, has_wide, has_hearing, has_accounts, old_accounts, links_start, longest_image, mark, Version, word32_at, accounts_at, account_count_of}
use Rattle.rules.specs.Image.{version_of, plan_of, nodes_of, streams_of, hops_of, FieldsInRange, accounts_of, links_place, stated_length, image_refusals}
use Rattle.rules.specs.Calls.{OfBook, SaysOf}
use Rattle.rules.proofs.Says.{says_none, same_says}
use Rattle.rules.proofs.Encoding.{stored_says}
use Rattle.rules.proofs.Written.{length_accounts_at}
use Rattle.std.specs.Prelude.{Result}
use Rattle.rules.specs.declared.refusals.Refusal.{Refusal}
use Rattle.rules.specs.Said.{said}
use Rattle.figures.specs.declared.statements.Figures.{Figures}
use Rattle.figures.specs.statements.Figures.{FiguresSay, Decides}

-- THE LONGEST
-- fields in their ranges state no more
stated_most : (s : List ℕ) → FieldsInRange s → AccountsInRange (accounts_of s) → stated_length s ≤ longest_image newest
stated_most s f g =
    omega (
      arith,
      rows (has_ways (version_of s)) (has_wide (version_of s)) (has_accounts (version_of s)),
      hearing (has_hearing (version_of s)),
      list (has_accounts (version_of s)) g.most,
      f.nodes.1,
      f.streams,
      f.hops,
    )
  where
    list : (t : Bool) → length (cond t (accounts_at s (header_length + 1) (account_count_of s)) old_accounts) ≤ most_accounts → cond t (1 + 6 * account_count_of s) 0 ≤ 1 + 6 * most_accounts
    list true l = omega (arith, l, length_accounts_at s (header_length + 1) (account_count_of s))
    list false l = omega arith

    hearing : (t : Bool) → cond t (8 * nodes_of s) 0 ≤ 8 * nodes_of s
    hearing true = omega arith
    hearing false = omega arith

    rows : (t u w : Bool) → (2 + cond t 1 0 + 1 + cond u 1 0 + 2 + cond w 2 0) * streams_of s ≤ 9 * streams_of s
    rows true true true = omega arith
    rows true true false = omega arith
    rows true false true = omega arith
    rows true false false = omega arith
    rows false true true = omega arith
    rows false true false = omega arith
    rows false false true = omega arith
    rows false false false = omega arith

-- so one that is longer does not have the length that it states
too_long : (s : List ℕ) → longest_image newest < length s → ((FieldsInRange s → ⊥) → ⊥) → ((AccountsInRange (accounts_of s) → ⊥) → ⊥) → length s ≡ stated_length s → ⊥
too_long s l f a e = f (λ g. a (λ h. omega (arith, stated_most s g h)))

never_lawful : (s : List ℕ) → longest_image newest < length s → Says (image_refusals s) 0 → ⊥
never_lawful s l h =
    let n = says_none (image_refusals s) (omega arith) h in
    n.1.1.1.1.1.0 (too_long s l n.1.1.0 n.1.1.1.1.0)

-- ITS FRONT
-- the header's fields, where two lists agree
same_fields : {s t : List ℕ} → plan_of s ≡ plan_of t → nodes_of s ≡ nodes_of t → streams_of s ≡ streams_of t → hops_of s ≡ hops_of t → get_or s 15 0 ≡ get_or t 15 0
    → FieldsInRange s → FieldsInRange t
same_fields a b c d e f = record {
  plan = subst PlanInRange a f.plan;
  nodes = (omega (arith, f.nodes.0), omega (arith, f.nodes.1));
  streams = omega (arith, f.streams);
  hops = omega (arith, f.hops);
  last = sym e ∙ f.last;
}

module _ (s : List ℕ) (k : ℕ) (over : longest_image newest < k) (inside : k ≤ length s) (bytes : (i : ℕ) → get_or s i 0 < 256) where
  abbrev t : List ℕ
  t = take k s

  size : length t ≡ k
  size = length-take-le k s inside

  at : (i : ℕ) → i < k → get_or t i 0 ≡ get_or s i 0
  at i l = get_or-take k s i 0 l

  word : (i : ℕ) → i + 1 < k → get_or t i 0 * 256 + get_or t (i + 1) 0 ≡ get_or s i 0 * 256 + get_or s (i + 1) 0
  word i l = ap₂ (λ (x y : ℕ). x * 256 + y) (at i (omega arith)) (at (i + 1) l)

  word32 : (i : ℕ) → i + 3 < k → word32_at t i ≡ word32_at s i
  word32 i l = ap₂ (λ (x y : ℕ). x * 65536 + y) (word i (omega arith)) (word (i + 2) (omega arith))

  accounts_at_lem : (i n : ℕ) → i + 6 * n ≤ k → accounts_at t i n ≡ accounts_at s i n
  accounts_at_lem i zero l = refl
  accounts_at_lem i (suc n) l = λ j. record { number = word i (omega arith) j; bought = word32 (i + 2) (omega arith) j } ∷ accounts_at_lem (i + 6) n (omega arith) j

  same_plan : plan_of t ≡ plan_of s
  same_plan = λ i. record {
    slots = at 5 (omega arith) i;
    tiles = at 6 (omega arith) i;
    kinds = word 7 (omega arith) i;
    down = at 9 (omega arith) i;
    up = at 10 (omega arith) i;
  }

  nodes_are : nodes_of t ≡ nodes_of s
  nodes_are = at 11 (omega arith)

  streams_are : streams_of t ≡ streams_of s
  streams_are = at 12 (omega arith)

  hops_are : hops_of t ≡ hops_of s
  hops_are = word 13 (omega arith)

  marked : ((take 3 t ≡ mark) × Version (version_of t)) ↔ ((take 3 s ≡ mark) × Version (version_of s))
  marked =
      let e = take-take 3 k s (omega arith) in
      let v = word 3 (omega arith) in
      (λ p. (sym e ∙ p.0, subst Version v p.1), λ p. (e ∙ p.0, subst Version (sym v) p.1))

  fields : FieldsInRange t ↔ FieldsInRange s
  fields = (
    same_fields same_plan nodes_are streams_are hops_are (at 15 (omega arith)),
    same_fields (sym same_plan) (sym nodes_are) (sym streams_are) (sym hops_are) (sym (at 15 (omega arith))),
  )

  -- the account list is in its first bytes
  version_is : version_of t ≡ version_of s
  version_is = word 3 (omega arith)

  count_is : account_count_of t ≡ account_count_of s
  count_is = at header_length (omega arith)

  few : account_count_of t < 256
  few = omega (arith, count_is, bytes header_length)

  list_place : links_place t ≡ links_place s
  list_place = ap₂ links_start version_is count_is

  place_small : links_place t ≤ header_length + 1 + 6 * 255
  place_small = go (has_accounts (version_of t))
    where
      go : (u : Bool) → header_length + cond u (1 + 6 * account_count_of t) 0 ≤ header_length + 1 + 6 * 255
      go true = omega (arith, few)
      go false = omega arith

  list_is : accounts_of t ≡ accounts_of s
  list_is =
      ap (λ (l : List Account). cond (has_accounts (version_of t)) l old_accounts) (accounts_at_lem (header_length + 1) (account_count_of t) (omega (arith, few)))
      ∙ ap₂ (λ (v n : ℕ). cond (has_accounts v) (accounts_at s (header_length + 1) n) old_accounts) version_is count_is

  front_says : (n : ℕ) → Says (image_refusals t) n → Says (image_refusals s) n
  front_says n h =
      same_says (image_refusals t) (image_refusals s) n (
        refl,
        (λ l. absurd (omega (arith, size)), λ l. absurd (omega arith)),
        λ f g. (
          refl,
          (λ f p. f (marked.1 p), λ f p. f (marked.0 p)),
          λ f g. (
            refl,
            (λ f p. f (fields.1 p), λ f p. f (fields.0 p)),
            λ f g. (
              refl,
              (λ l. absurd (omega (arith, l, place_small, size)), λ l. absurd (omega (arith, l, place_small, list_place))),
              λ c d. (
                refl,
                (λ f p. f (subst AccountsInRange (sym list_is) p), λ f p. f (subst AccountsInRange list_is p)),
                λ a b. (
                  refl,
                  (λ q. too_long s (omega arith) g b, λ q. too_long t (omega (arith, size)) f a),
                  λ q r. absurd (q (too_long t (omega (arith, size)) f a)),
                ),
              ),
            ),
          ),
        ),
      )
      h

  not_stored : {D : ℕ → Book → Type 0} → OfBook t D → ⊥
  not_stored p = never_lawful t (omega (arith, size)) (stored_says t p.0 p.1 p.2)

  front_figures : (f : Result Figures Refusal) → FiguresSay t f → FiguresSay s f
  front_figures f w = record { says = says w.says; refused = w.refused; done = λ e. absurd (not_stored (w.done e)) }
    where
      says : SaysOf t (λ (v : ℕ) (b : Book). []) (said f) → SaysOf s (λ (v : ℕ) (b : Book). []) (said f)
      says (inl p) = inl (front_says (said f) p.0, p.1)
      says (inr p) = absurd (not_stored p)

-- all bytes decide, and so does one more than the longest image has
pub all_decide : (size : ℕ) → Decides size size
all_decide size = record { most = omega arith; figures = λ image f e b w. subst (λ (s : List ℕ). FiguresSay s f) (take_all size image (omega arith)) w }

pub front_decides : (size r : ℕ) → longest_image newest < r → r ≤ size → Decides size r
front_decides size r l m = record { most = m; figures = λ image f e b w. front_figures image r l (omega arith) b f w }
