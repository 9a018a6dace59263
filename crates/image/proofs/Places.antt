-- What stands at a place, by the bytes of the image.
use mathlib.Core.Path.{◌≡◌, refl, sym, ap, ap₂, ◌∙◌}
use mathlib.Core.Bool.{Bool, true, false, cond}
use mathlib.Core.List.{List, ◌∷◌}
use Prim.Native.Nat.{ℕ, zero, suc, ◌+◌, ◌*◌, ◌<◌, ◌≤◌, ◌-◌}
use native.Mathlib.Omega.{arith}
use borrow.Author.Tests.{le-leb, lt-leb}
use lib.Dec.{leb}
use lib.ListN.{length, get_or, drop}
use lib.Seq.{get_or-drop, drop-drop}
use Rattle.rules.specs.Book.{Row, hops, row_offset}
use Rattle.rules.specs.Image.{has_ways, has_hearing, has_wide, has_accounts, old_accounts, header_length, links_start, rows_start, period_place, hops_place, row_length}
use Rattle.rules.specs.Image.{word_at, topology_at, accounts_at, version_of, nodes_of, account_count_of, accounts_of, links_place, hearing_of, rows_place, streams_of}
use Rattle.rules.specs.Words.{Tests}
use Rattle.rules.proofs.Tests.{never, alike, tests_le}
use Rattle.rules.proofs.Encoding.{hops_in, Sized}
use Rattle.rules.proofs.Fronts.{front_id, front_way, front_period, front_account, front_hops, front_node, front_offset, front_sized}
use Rattle.rules.proofs.Written.{length_accounts_at}
use Rattle.rules.proofs.Reading.{read_rows, rows_in}
use Rattle.image.specs.Places.{hearing_place, row_at, next_at, rows_from, Whole}

pub row_with : (v p : ℕ) → 5 ≤ v → p ≡ hops_place v → p + 4 ≡ row_length v
row_with v p l e = let f = ap (λ (t : Bool). cond {A = ℕ} t 2 0) (le-leb 5 v l) in omega arith

pub links_most : (v A : ℕ) → links_start v A ≤ header_length + 1 + 6 * A
links_most v A = most (has_accounts v)
  where
    most : (t : Bool) → header_length + cond t (1 + 6 * A) 0 ≤ header_length + 1 + 6 * A
    most true = omega arith
    most false = omega arith

-- where the links of the image stand, by the accounts that it holds
pub links_counted : (s : List ℕ) → links_start (version_of s) (length (accounts_of s)) ≡ links_place s
links_counted s = counted (has_accounts (version_of s))
  where
    counted : (t : Bool)
        → header_length + cond t (1 + 6 * length (cond t (accounts_at s (header_length + 1) (account_count_of s)) old_accounts)) 0 ≡ header_length + cond t (1 + 6 * account_count_of s) 0
    counted true = ap (λ (k : ℕ). header_length + (1 + 6 * k)) (length_accounts_at s (header_length + 1) (account_count_of s))
    counted false = refl

pub hearing_most : (v A N : ℕ) → hearing_place v A N ≤ links_start v A + 8 * N
hearing_most v A N = most (has_hearing v)
  where
    most : (t : Bool) → cond t (links_start v A + 8 * N) (links_start v A) ≤ links_start v A + 8 * N
    most true = omega arith
    most false = omega arith

-- and in every version the rows start behind it
pub rows_behind : (v A N : ℕ) → hearing_place v A N + 8 * N ≡ rows_start v A N
rows_behind v A N = behind (has_hearing v)
  where
    behind : (t : Bool) → cond t (links_start v A + 8 * N) (links_start v A) + 8 * N ≡ links_start v A + 8 * N + cond t (8 * N) 0
    behind true = refl
    behind false = omega arith

-- what is read there is the hearing
pub hearing_there : (s : List ℕ) → topology_at s (hearing_place (version_of s) (account_count_of s) (nodes_of s)) (nodes_of s) ≡ hearing_of s
hearing_there s = there (has_hearing (version_of s))
  where
    there : (t : Bool) → topology_at s (cond t (links_place s + 8 * nodes_of s) (links_place s)) (nodes_of s)
        ≡ cond t (topology_at s (links_place s + 8 * nodes_of s) (nodes_of s)) (topology_at s (links_place s) (nodes_of s))
    there true = refl
    there false = refl

module _ (s : List ℕ) (at : ℕ) where
  pub row_id : (row_at s at).id ≡ word_at s at
  unfolding row_at
  row_id = front_id (version_of s) s at

  row_way : (row_at s at).way ≡ cond (has_ways (version_of s)) (get_or s (at + 2) 0) 1
  unfolding row_at
  row_way = front_way (version_of s) s at

  pub way_without : version_of s < 2 → (row_at s at).way ≡ 1
  way_without l = row_way ∙ ap (λ (t : Bool). cond t (get_or s (at + 2) 0) 1) (lt-leb 2 (version_of s) l)

  pub way_with : 2 ≤ version_of s → (row_at s at).way ≡ get_or s (at + 2) 0
  way_with l = row_way ∙ ap (λ (t : Bool). cond t (get_or s (at + 2) 0) 1) (le-leb 2 (version_of s) l)

  period : Bool → ℕ
  period t = cond t (word_at s (at + period_place (version_of s))) (get_or s (at + period_place (version_of s)) 0)

  row_period : (row_at s at).period ≡ period (has_wide (version_of s))
  unfolding row_at period
  row_period = front_period (version_of s) s at

  pub period_wide : (p : ℕ) → p ≡ period_place (version_of s) → has_wide (version_of s) ≡ true → word_at s (at + p) ≡ (row_at s at).period
  unfolding period
  period_wide p e t = ap (λ (n : ℕ). word_at s (at + n)) e ∙ sym (row_period ∙ ap period t)

  pub period_narrow : (p : ℕ) → p ≡ period_place (version_of s) → has_wide (version_of s) ≡ false → get_or s (at + p) 0 ≡ (row_at s at).period
  unfolding period
  period_narrow p e t = ap (λ (n : ℕ). get_or s (at + n) 0) e ∙ sym (row_period ∙ ap period t)

  row_account : (row_at s at).account ≡ cond (has_accounts (version_of s)) (word_at s (at + (hops_place (version_of s) + 2 + 3 * get_or s (at + hops_place (version_of s)) 0))) 0
  unfolding row_at
  row_account = front_account (version_of s) s at

  pub account_without : version_of s < 5 → (row_at s at).account ≡ 0
  account_without l =
      row_account ∙ ap (λ (t : Bool). cond t (word_at s (at + (hops_place (version_of s) + 2 + 3 * get_or s (at + hops_place (version_of s)) 0))) 0) (lt-leb 5 (version_of s) l)

  account_with : 5 ≤ version_of s → (row_at s at).account ≡ word_at s (at + (hops_place (version_of s) + 2 + 3 * get_or s (at + hops_place (version_of s)) 0))
  account_with l =
      row_account ∙ ap (λ (t : Bool). cond t (word_at s (at + (hops_place (version_of s) + 2 + 3 * get_or s (at + hops_place (version_of s)) 0))) 0) (le-leb 5 (version_of s) l)

  pub next_stated : (k p h : ℕ) → k ≡ row_length (version_of s) → p ≡ hops_place (version_of s) → h ≡ get_or s (at + p) 0 → at + (k + 3 * h) ≡ next_at s at
  unfolding next_at
  next_stated k p h g e f =
      ap₂ (λ (x y : ℕ). at + (x + 3 * y)) g (f ∙ ap (λ (n : ℕ). get_or s (at + n) 0) e)

  module _ (w : Whole s at) where
    enough : at + (row_length (version_of s) + 3 * get_or s (at + hops_place (version_of s)) 0) ≤ length s
    unfolding next_at
    enough = w.fits

    pub row_hops : hops (row_at s at) ≡ get_or s (at + hops_place (version_of s)) 0
    unfolding row_at
    row_hops = front_hops (version_of s) s at enough

    pub row_node : (i : ℕ) → i ≤ hops (row_at s at) → get_or (row_at s at).route i 0 ≡ get_or s (at + (hops_place (version_of s) + 1) + i) 0
    unfolding row_at
    row_node = front_node (version_of s) s at enough

    pub row_offset_lem : (i : ℕ) → i < hops (row_at s at) → row_offset (row_at s at) i ≡ word_at s (at + (hops_place (version_of s) + 2) + hops (row_at s at) + 2 * i)
    unfolding row_at
    row_offset_lem = front_offset (version_of s) s at enough

    -- its account stands behind its offsets
    pub account_there : 5 ≤ version_of s → (n h : ℕ) → n ≡ hops_place (version_of s) + 1 → h ≡ hops (row_at s at) → word_at s (at + (n + 1 + 3 * h)) ≡ (row_at s at).account
    account_there l n h e f =
        let behind : n + 1 ≡ hops_place (version_of s) + 2 = omega arith in
        ap₂ (λ (x y : ℕ). word_at s (at + (x + 3 * y))) behind (f ∙ row_hops) ∙ sym (account_with l)

    pub account_inside : 5 ≤ version_of s → at + (hops_place (version_of s) + 2 + 3 * hops (row_at s at)) + 2 ≤ length s
    account_inside l = let g = row_with (version_of s) (hops_place (version_of s)) l refl in omega (arith, g, enough, row_hops)

    pub next_hops : next_at s at ≡ at + (row_length (version_of s) + 3 * hops (row_at s at))
    unfolding next_at
    next_hops = omega (arith, row_hops)

    -- a whole row has as many offsets as hops, and one node more
    pub whole_sized : Sized (version_of s) (row_at s at)
    unfolding row_at
    whole_sized = front_sized (version_of s) s at enough

-- the rows from a place on are those that are read there
pub rows_from_lem : (s : List ℕ) (n at : ℕ) → rows_from s n at ≡ read_rows (version_of s) n (drop at s)
unfolding row_at next_at
rows_from_lem s zero at = refl
rows_from_lem s (suc n) at =
    let v : ℕ = version_of s in
    let e : drop (next_at s at) s ≡ drop (row_length v + 3 * hops_in v (drop at s)) (drop at s) =
    ap (λ (h : ℕ). drop (at + (row_length v + 3 * h)) s) (sym (get_or-drop at s (hops_place v) 0)) ∙ sym (drop-drop (row_length v + 3 * hops_in v (drop at s)) at s) in
    ap (λ (rows : List Row). row_at s at ∷ rows) (rows_from_lem s n (next_at s at) ∙ ap (read_rows (version_of s) n) e)

pub rows_in_lem : (s : List ℕ) → rows_in s ≡ rows_from s (streams_of s) (rows_place s)
rows_in_lem s = sym (rows_from_lem s (streams_of s) (rows_place s))

pub length_rows_from : (s : List ℕ) (n at : ℕ) → length (rows_from s n at) ≡ n
length_rows_from s zero at = refl
length_rows_from s (suc n) at = ap suc (length_rows_from s n (next_at s at))

-- a place where a whole row is
module _ (s : List ℕ) (at : ℕ) (inside : at ≤ length s) where
  pub no_front : length s - at < row_length (version_of s) → Tests false (Whole s at)
  no_front l = record { yes = λ e. never e; back = λ w. absurd (omega (arith, w.front)) }

  pub tests_whole : (k p h : ℕ) → k ≡ row_length (version_of s) → p ≡ hops_place (version_of s) → h ≡ get_or s (at + p) 0 → k ≤ length s - at
      → Tests (leb (k + 3 * h) (length s - at)) (Whole s at)
  unfolding next_at
  tests_whole k p h i g e l =
      let f : h ≡ get_or s (at + hops_place (version_of s)) 0 = e ∙ ap (λ (n : ℕ). get_or s (at + n) 0) g in
      alike (tests_le (k + 3 * h) (length s - at)) (λ m. record { front = omega arith; fits = omega arith }) (λ w. omega (arith, w.fits))
