-- The refusals of each call stand in the documents' order.
use mathlib.Core.Path.{◌≡◌, refl}
use mathlib.Core.List.{List, [], ◌∷◌}
use Prim.Native.Nat.{ℕ}
use Rattle.rules.specs.Says.{Refusal}
use Rattle.rules.specs.Tiles.{Plan}
use Rattle.rules.specs.Book.{Book}
use Rattle.rules.specs.Placing.{Asked}
use Rattle.rules.specs.Image.{image_refusals}
use Rattle.rules.specs.Calls.{new_refusals, rewrite_refusals, post_refusals, open_refusals, request_refusals, expand_refusals, balance_refusals}
use Rattle.rules.specs.Calls.{routes_refusals, purchase_refusals, keeps_refusals}
use Rattle.rules.specs.Calls.Request.{Close}
use Rattle.rules.specs.Tables.{tables_refusals}

abbrev numbers : List Refusal → List ℕ
numbers [] = []
numbers (r ∷ rs) = r.number ∷ numbers rs

-- image; then post, and of its records open and close; rewrite, expand, balance, routes between, purchase, keeps to; new book, book of tables
pub record Ordered : Type 0 where
  pub image : (s : List ℕ) → numbers (image_refusals s) ≡ 14 ∷ 13 ∷ 10 ∷ 14 ∷ 10 ∷ 14 ∷ 11 ∷ 15 ∷ 16 ∷ []
  pub posts : (mains count room index_room v : ℕ) (b : Book) → numbers (post_refusals mains count room index_room v b) ≡ 25 ∷ 26 ∷ 12 ∷ []
  pub opens : (mains : ℕ) (q : Asked) (b : Book) → numbers (open_refusals mains q b) ≡ 1 ∷ 4 ∷ 5 ∷ 6 ∷ 22 ∷ 2 ∷ 7 ∷ 17 ∷ 18 ∷ 8 ∷ 9 ∷ 23 ∷ []
  pub closes : (mains id : ℕ) (b : Book) → numbers (request_refusals mains b (Close id)) ≡ 1 ∷ 3 ∷ []
  pub rewrites : (room v : ℕ) (b : Book) → numbers (rewrite_refusals room v b) ≡ 12 ∷ []
  pub expands : (node first tiles room v : ℕ) (b : Book) → numbers (expand_refusals node first tiles room v b) ≡ 4 ∷ 21 ∷ 12 ∷ []
  pub balances : (node v : ℕ) (b : Book) → numbers (balance_refusals node v b) ≡ 4 ∷ []
  pub lists : (mains source destination room v : ℕ) (b : Book) → numbers (routes_refusals mains source destination room v b) ≡ 25 ∷ 4 ∷ 5 ∷ 12 ∷ []
  pub purchases : (n amount room v : ℕ) (b : Book) → numbers (purchase_refusals n amount room v b) ≡ 22 ∷ 24 ∷ 12 ∷ []
  pub keeps : (mains v : ℕ) (b : Book) → numbers (keeps_refusals mains v b) ≡ 25 ∷ []
  pub news : (plan : Plan) (N : ℕ) (links hearing accounts : List ℕ) (room : ℕ) → numbers (new_refusals plan N links hearing accounts room) ≡ 10 ∷ 11 ∷ 12 ∷ []
  pub tables : (plan : Plan) (N : ℕ) (links hearing tables : List ℕ) (room : ℕ) → numbers (tables_refusals plan N links hearing tables room) ≡ 10 ∷ 11 ∷ 19 ∷ 8 ∷ 20 ∷ 12 ∷ []

pub ordered : Ordered
ordered = record {
  image = λ s. refl;
  posts = λ mains count room index_room v b. refl;
  opens = λ mains q b. refl;
  closes = λ mains id b. refl;
  rewrites = λ room v b. refl;
  expands = λ node first tiles room v b. refl;
  balances = λ node v b. refl;
  lists = λ mains source destination room v b. refl;
  purchases = λ n amount room v b. refl;
  keeps = λ mains v b. refl;
  news = λ plan N links hearing accounts room. refl;
  tables = λ plan N links hearing tables room. refl;
}
