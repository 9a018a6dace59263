-- Over the rows of an image: what is summed and what those left draw is the whole.
use mathlib.Core.Path.{◌≡◌, refl, ◌∙◌}
use mathlib.Core.Bool.{Bool, false, true, cond}
use mathlib.Core.Logic.{inl, inr}
use mathlib.Core.List.{List, [], ◌∷◌, ◌++◌}
use Prim.Native.Nat.{ℕ, ◌+◌, ◌*◌, ◌≤◌}
use native.Mathlib.Nat.{mul-le-mul, div-le_self}
use native.Mathlib.Omega.{arith}
use lib.Dec.{eqb, leb}
use lib.ListN.{length}
use Rattle.rules.specs.Words.{◌∈◌, total, Tests}
use Rattle.rules.specs.Tiles.{repeats, cycle_tiles}
use Rattle.rules.specs.Book.{Account, Site, Row, hops, most_streams, drawn, draws, KnownAccount, LawfulRow, Paid}
use Rattle.rules.specs.Image.{accounts_of, links_place, site_of}
use Rattle.rules.proofs.Tests.{alike, tests_le}
use Rattle.rules.proofs.Lists.{total_append}
use Rattle.rules.proofs.Reading.{rows_in, LawfulImage}
use Rattle.image.proofs.Stands.{stored_length}
use Rattle.accounts.specs.Lists.{most_drawn, HoldMost, HasBought, draws_from, Pays}

-- A ROW
pub draws_most : (h turns : ℕ) → h ≤ 15 → turns ≤ cycle_tiles → h * turns ≤ 15000
draws_most h turns l m = mul-le-mul l m

-- all rows of a book
pub drawn_most : (site : Site) (n : ℕ) (rows : List Row) → ((r : Row) → r ∈ rows → LawfulRow site r) → length rows ≤ most_streams → drawn n rows ≤ most_drawn
drawn_most site n rows lawful few = omega (arith, sum rows lawful, few)
  where
    each : (r : Row) → LawfulRow site r → draws_from n r ≤ 15000
    each r w = go (eqb r.account n)
      where
        go : (t : Bool) → cond t (draws r) 0 ≤ 15000
        go true = draws_most (hops r) (repeats r.period) w.route_most (div-le_self cycle_tiles r.period)
        go false = omega arith

    sum : (xs : List Row) → ((r : Row) → r ∈ xs → LawfulRow site r) → total (draws_from n) xs ≤ 15000 * length xs
    sum [] f = omega arith
    sum (x ∷ xs) f = omega (arith, each x (f x (inl refl)), sum xs (λ r m. f r (inr m)))

-- so none that has bought as much is overdrawn
pub most_paid : (site : Site) (accounts : List Account) (rows : List Row) → ((r : Row) → r ∈ rows → LawfulRow site r) → length rows ≤ most_streams → HoldMost accounts → Paid accounts rows
most_paid site accounts rows lawful few held a m = omega (arith, drawn_most site a.number rows lawful few, held a m)

pub pays_most : {s : List ℕ} {n bought cost : ℕ} → LawfulImage s → HasBought (accounts_of s) n bought → cost ≤ 30000 → most_drawn + 30000 ≤ bought → Pays s n cost
pays_most {s} {n} w h few l a m e =
    omega (arith, drawn_most (site_of s) n (rows_in s) (λ r k. w.lawful.rows r k) w.lawful.streams, h a m e, l, few)

-- THE ROWS
-- with one more
pub drawn_more : (n : ℕ) (rows : List Row) (r : Row) → drawn n (rows ++ (r ∷ [])) ≡ drawn n rows + draws_from n r
drawn_more n rows r = total_append (draws_from n) rows (r ∷ []) ∙ omega arith

-- WHAT IS LEFT
pub tests_pays : (s : List ℕ) (n used bought cost : ℕ) → KnownAccount (accounts_of s) n → used ≡ drawn n (rows_in s) → HasBought (accounts_of s) n bought
    → Tests (leb (used + cost) bought) (Pays s n cost)
tests_pays s n used bought cost k d h =
    alike (tests_le (used + cost) bought) (λ l a m e. omega (arith, l, d, h a m e))
    (λ f. omega (arith, f k.account k.there k.named, d, h k.account k.there k.named))

-- the list of a lawful image is inside it
pub stored_list : {s : List ℕ} → LawfulImage s → links_place s ≤ length s
stored_list w = omega (arith, stored_length w)
