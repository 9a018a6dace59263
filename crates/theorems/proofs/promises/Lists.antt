-- A list moves the streams of its done records alone, and gives what its requests give one call after the other.
use mathlib.Core.Path.{◌≡◌, refl, sym, subst}
use mathlib.Core.Logic.{inl, inr, ◌↔◌}
use mathlib.Core.List.{List, [], ◌∷◌, ◌++◌}
use Prim.Native.Nat.{ℕ}
use native.Mathlib.Decide.{ℕ_discrete}
use native.Mathlib.Omega.{arith}
use lib.ListN.{length-append}
use Rattle.rules.specs.Words.{NoBitFrom, ◌∈◌, Each}
use Rattle.rules.specs.Topology.{nodes, all_nodes}
use Rattle.rules.specs.Book.{Site, Row, Book}
use Rattle.rules.specs.Image.{Stored}
use Rattle.rules.specs.Calls.{Request, Work, InOrder}
use Rattle.rules.specs.Order.{id_of, IdInRange, current}
use Rattle.rules.proofs.Lists.{in_left, in_right}
use Rattle.rules.proofs.Mains.{all_below}
use Rattle.rules.proofs.Lawful.{work_site, in_order_site}
use Rattle.theorems.proofs.order.Calls.{Ran, posting_ran, ran_unique, ran_joined, ran_one, served_ran}
use Rattle.theorems.specs.promises.Promises.{PostMovesItsOwn, ListsJoin, OneByOne, ListIsItsCalls}
use Rattle.theorems.proofs.promises.Changes.{made_only}

-- ONLY THE STREAMS OF DONE RECORDS
module _ (middle : ℕ) (r : Row) where
  -- the record was not done, or names another id
  abbrev Passes : Request → ℕ → Type 0
  Passes q n = n ≡ 0 → id_of q ≡ r.id → ⊥

  work_passes : (b : Book) (q : Request) (n : ℕ) (c : Book) → Work middle b q n c → Passes q n → (r ∈ b.rows) ↔ (r ∈ c.rows)
  work_passes b q n c w f = go (ℕ_discrete n 0)
    where
      go : Dec (n ≡ 0) → (r ∈ b.rows) ↔ (r ∈ c.rows)
      go (yes z) = (made_only middle b q c (w.done z)).others r (λ e. f z (sym e))
      go (no g) = let e = w.refused g in (λ m. subst (λ (d : Book). r ∈ d.rows) (sym e) m, λ m. subst (λ (d : Book). r ∈ d.rows) e m)

  works_pass : (b : Book) (qs : List Request) (ns : List ℕ) (c : Book) → InOrder (Work middle) b qs ns c → Each Passes qs ns → (r ∈ b.rows) ↔ (r ∈ c.rows)
  works_pass b [] [] c w f = (λ m. subst (λ (d : Book). r ∈ d.rows) (sym w) m, λ m. subst (λ (d : Book). r ∈ d.rows) w m)
  works_pass b [] (n ∷ ns) c w f = absurd w
  works_pass b (q ∷ qs) [] c w f = absurd w
  works_pass b (q ∷ qs) (n ∷ ns) c (d, step, rest) f =
      let s = work_passes b q n d step f.0 in
      let t = works_pass d qs ns c rest f.1 in
      (λ m. t.0 (s.0 m), λ m. s.1 (t.1 m))

pub post_moves_its_own : PostMovesItsOwn
post_moves_its_own image v b mains qs held low few small number answers last p =
    let r = (posting_ran held low qs small few number answers last p).1 in (
      r.version,
      r.book,
      r.holds,
      in_order_site mains b qs answers r.book r.works,
      λ x f. works_pass mains x b qs answers r.book r.works f,
    )

-- ONE AFTER THE OTHER
pub lists_join : ListsJoin
lists_join image v b mains qs ps held low few small n m k ns ms ks between last last' p p' whole =
    let less = length-append qs ps in
    let r = (posting_ran held low qs (λ q i. small q (in_left q qs ps i)) (omega (arith, few, less)) n ns between p).1 in
    let e = in_order_site mains b qs ns r.book r.works in
    let low' = subst (λ (site : Site). NoBitFrom (nodes site.links) mains) (sym e) low in
    let r' = (posting_ran r.holds low' ps (λ q i. small q (in_right q qs ps i)) (omega (arith, few, less)) m ms last p').1 in
    ran_unique (posting_ran held low (qs ++ ps) small few k ks last' whole).1 (ran_joined r r')

-- all nodes of a site
abbrev every_node : Site → ℕ
every_node site = all_nodes (nodes site.links)

one_by_one : (image : List ℕ) (v : ℕ) (b : Book) (qs : List Request) (ns last : List ℕ) → Stored image v b → ((q : Request) → q ∈ qs → IdInRange q)
    → OneByOne image qs ns last → Ran image (every_node b.site) b qs ns last
one_by_one image v b [] [] last held small h = record {
  book = b;
  works = refl;
  version = v;
  holds = subst (λ (t : List ℕ). Stored t v b) (sym h) held;
  some = λ z. absurd z;
  none = λ f. h;
}
one_by_one image v b [] (n ∷ ns) last held small h = absurd h
one_by_one image v b (q ∷ qs) [] last held small h = absurd h
one_by_one image v b (q ∷ qs) (n ∷ ns) last held small (out, out', len, full, call, rest) =
    let r = served_ran held q (small q (inl refl)) out full n len out' call in
    let (k, e, w) = ran_one (n ∷ []) r in
    let t = one_by_one (current image len out') r.version r.book qs ns last r.holds (λ x m. small x (inr m)) rest in
    let same = work_site (every_node b.site) b q k r.book w in
    ran_joined r (subst (λ (site : Site). Ran (current image len out') (every_node site) r.book qs ns last) same t)

pub list_is_its_calls : ListIsItsCalls
list_is_its_calls image v b qs held few small n ns ms last last' calls p =
    ran_unique (posting_ran held (all_below (nodes b.site.links)) qs small few n ms last' p).1 (one_by_one image v b qs ns last held small calls)
