-- No account is ever overdrawn, only purchases change what one has bought, and a close gives back what its open drew.
use mathlib.Core.Path.{◌≡◌, refl, sym, ap, ap₂, ◌∙◌, subst}
use mathlib.Core.Logic.{inl, inr, ⊎_elim}
use mathlib.Core.Bool.{Bool, true, false, cond}
use mathlib.Core.List.{List, [], ◌∷◌, ◌++◌}
use Prim.Native.Nat.{ℕ, ◌+◌}
use native.Mathlib.Decide.{ℕ_discrete}
use native.Mathlib.Omega.{arith}
use borrow.Author.Tests.{eqb-true, eq-eqb}
use lib.Dec.{eqb}
use lib.ListN.{length, take}
use Rattle.rules.specs.Words.{FourBytes, TwoBytes, ◌∈◌, Reordered, Each}
use Rattle.rules.specs.Says.{Says}
use Rattle.rules.specs.Topology.{nodes, all_nodes}
use Rattle.rules.specs.Book.{Account, Site, Row, Book, draws, drawn, LawfulBook}
use Rattle.rules.specs.Placing.{Asked}
use Rattle.rules.specs.Image.{newest, encode, nodes_of, Stored}
use Rattle.rules.specs.Calls.{SaysOf, Wrote, Request, Opened, Made, Work, InOrder, Post, purchase_refusals, purchased, raised}
use Rattle.rules.specs.Calls.Request.{Open, Close}
use Rattle.rules.specs.Order.{id_of, IdInRange, current, Posting}
use Rattle.rules.proofs.Tests.{never, tests_lt}
use Rattle.rules.proofs.Says.{says_none}
use Rattle.rules.proofs.Lists.{joined_total}
use Rattle.rules.proofs.Lawful.{in_order_site}
use Rattle.rules.proofs.Encoding.{stored_unique}
use Rattle.rules.proofs.Reading.{lawful_stored}
use Rattle.rules.proofs.Added.{new_route}
use Rattle.rules.proofs.Accounts.{opened_drawn, Raises, raised_from, raised_to, purchased_lawful}
use Rattle.theorems.proofs.model.Reading.{stable}
use Rattle.theorems.proofs.order.Calls.{of_stored, current_wrote, current_kept, ran, low_post}
use Rattle.theorems.specs.promises.Accounts.{Bought, Purchasing, Serving, OfAnySize, After, amounts, RaisedBy, OnlyRaisedBy, PaysItsWay, NeverOverdrawn}
use Rattle.theorems.specs.promises.Accounts.{drawn_for, cost, OpenDraws, CloseGivesBack, Leaves, OpenComesBack}
use Rattle.theorems.specs.promises.Accounts.After.{none, posted, served, bought, refused}
use Rattle.theorems.proofs.promises.Changes.{Done, done, moves, fresh, closing_known}

-- WHAT WAS BOUGHT
only_none : (accounts : List Account) → OnlyRaisedBy [] accounts accounts
only_none accounts = record { kept = λ a m. (a, m, same a); only = λ a m. (a, m, same a) }
  where
    same : (a : Account) → RaisedBy [] a a
    same a = record { number = refl; bought = omega arith }

-- a purchase more
raised_more : (n amount : ℕ) (ps : List Bought) (a y x : Account) → RaisedBy ps a y → Raises n amount y x → RaisedBy (record { account = n; amount = amount } ∷ ps) a x
raised_more n amount ps a y x r s = record { number = s.number_is ∙ r.number; bought = go (eqb n a.number) refl }
  where
    go : (t : Bool) → eqb n a.number ≡ t → x.bought ≡ a.bought + (cond t amount 0 + amounts a.number ps)
    go true e = omega (arith, s.own (r.number ∙ sym (eqb-true n a.number e)), r.bought)
    go false e = omega (arith, s.other (λ k. never (sym e ∙ eq-eqb n a.number (sym k ∙ r.number))), r.bought)

only_more : (n amount : ℕ) (ps : List Bought) (before after : List Account) → OnlyRaisedBy ps before after
    → OnlyRaisedBy (record { account = n; amount = amount } ∷ ps) before (raised n amount after)
only_more n amount ps before after h = record {
  kept = λ a m.
      let (y, k, r) = h.kept a m in
      let (x, l, s) = raised_to n amount after y k in
      (x, l, raised_more n amount ps a y x r s);
  only = λ x m.
      let (y, k, s) = raised_from n amount after x m in
      let (a, l, r) = h.only y k in
      (a, l, raised_more n amount ps a y x r s);
}

-- DRAWN FOR AN ID
module _ (id n : ℕ) where
  -- rows that all have it
  for_all : (rows : List Row) → ((r : Row) → r ∈ rows → r.id ≡ id) → drawn_for id n rows ≡ drawn n rows
  for_all [] f = refl
  for_all (r ∷ rows) f =
      ap₂ ◌+◌ (ap (λ (t : Bool). cond t (cond (eqb r.account n) (draws r) 0) 0) (eq-eqb r.id id (f r (inl refl)))) (for_all rows (λ x m. f x (inr m)))

  -- and rows of which none has it
  for_none : (rows : List Row) → ((r : Row) → r ∈ rows → r.id ≡ id → ⊥) → drawn_for id n rows ≡ 0
  for_none [] f = refl
  for_none (r ∷ rows) f = ap₂ ◌+◌ (go (eqb r.id id) refl) (for_none rows (λ x m. f x (inr m)))
    where
      go : (t : Bool) → eqb r.id id ≡ t → cond t (cond (eqb r.account n) (draws r) 0) 0 ≡ 0
      go true e = absurd (f r (inl refl) (eqb-true r.id id e))
      go false e = refl

  -- put together
  for_joined : (gone rest all : List Row) → Reordered (gone ++ rest) all → ((r : Row) → r ∈ gone → r.id ≡ id) → ((r : Row) → r ∈ rest → r.id ≡ id → ⊥)
      → drawn n all ≡ drawn n rest + drawn_for id n all
  for_joined gone rest all p own others =
      let t = joined_total (λ (r : Row). cond (eqb r.id id) (cond (eqb r.account n) (draws r) 0) 0) gone rest p in
      let u = joined_total (λ (r : Row). cond (eqb r.account n) (draws r) 0) gone rest p in
      omega (arith, t, u, for_all gone own, for_none rest others)

  -- rows of which none has it, put to others
  for_others : (new rest all : List Row) → Reordered (new ++ rest) all → ((r : Row) → r ∈ new → r.id ≡ id → ⊥) → drawn_for id n all ≡ drawn_for id n rest
  for_others new rest all p others =
      omega (arith, joined_total (λ (r : Row). cond (eqb r.id id) (cond (eqb r.account n) (draws r) 0) 0) new rest p, for_none new others)

  -- a request of another id leaves it as it is
  made_leaves : (mains : ℕ) (b : Book) (q : Request) (c : Book) → Made mains b q c → (id_of q ≡ id → ⊥) → drawn_for id n c.rows ≡ drawn_for id n b.rows
  made_leaves mains b (Open q) c o f =
      for_others o.new b.rows c.rows o.plus.rows
      (λ r m e. f (sym (new_route q b 1 o.routes o.new o.placed r m).new.named ∙ e))
  made_leaves mains b (Close x) c o f = sym (for_others o.gone c.rows b.rows o.plus.rows (λ r m e. f (sym (o.of_id r m) ∙ e)))

  -- and so a list in which none of it was done
  works_leave : (mains : ℕ) (b : Book) (qs : List Request) (ns : List ℕ) (c : Book) → InOrder (Work mains) b qs ns c
      → Each (λ (q : Request) (k : ℕ). k ≡ 0 → id_of q ≡ id → ⊥) qs ns → drawn_for id n c.rows ≡ drawn_for id n b.rows
  works_leave mains b [] [] c w f = ap (λ (d : Book). drawn_for id n d.rows) w
  works_leave mains b [] (k ∷ ns) c w f = absurd w
  works_leave mains b (q ∷ qs) [] c w f = absurd w
  works_leave mains b (q ∷ qs) (k ∷ ns) c (d, step, rest) f = works_leave mains d qs ns c rest f.1 ∙ go (ℕ_discrete k 0)
    where
      go : Dec (k ≡ 0) → drawn_for id n d.rows ≡ drawn_for id n b.rows
      go (yes z) = made_leaves mains b q d (step.done z) (f.0 z)
      go (no g) = ap (λ (x : Book). drawn_for id n x.rows) (step.refused g)

-- ONE CALL MORE
module _ {b : Book} {ps : List Bought} {now : List ℕ} (h : PaysItsWay b ps now) where
  -- that left the image
  kept : (len : ℕ) (out' : List ℕ) {last : List ℕ} → last ≡ current now len out' → len ≡ 0 → PaysItsWay b ps last
  kept len out' e z = record {
    version = h.version;
    book = h.book;
    holds = subst (λ (s : List ℕ). Stored s h.version h.book) (sym (e ∙ current_kept now len out' z)) h.holds;
    paid = h.paid;
    accounts = h.accounts;
  }

  -- a list: what a stream draws of which none was done stays the same
  abbrev Posts : List Request → ℕ → List ℕ → List ℕ → Type 0
  Posts qs number answers last =
      (w : PaysItsWay b ps last)
      × ((id n : ℕ) → (number ≡ 0 → Each (λ (q : Request) (k : ℕ). k ≡ 0 → id_of q ≡ id → ⊥) qs answers) → drawn_for id n w.book.rows ≡ drawn_for id n h.book.rows)

  after_post : (mains : ℕ) (qs : List Request) (number : ℕ) (answers : List ℕ) {last : List ℕ} → ((q : Request) → q ∈ qs → IdInRange q)
      → Posting OfAnySize now mains qs number answers last → Posts qs number answers last
  unfolding kept
  after_post mains qs number answers {last} small p = go (ℕ_discrete number 0)
    where
      go : Dec (number ≡ 0) → Posts qs number answers last
      go (no f) = (kept p.len p.out' p.last_is (p.post.refused f).0.length_is, λ id n l. refl)
      go (yes z) =
          let q : Post now mains qs p.index p.out p.before 0 p.len p.index' p.out' answers =
          subst (λ (k : ℕ). Post now mains qs p.index p.out p.before k p.len p.index' p.out' answers) z p.post in
          let r = ran h.holds (low_post qs h.holds q) qs small p.index p.out p.before p.len p.index' p.out' answers q in
          let e = in_order_site mains h.book qs answers r.book r.works in (
            record {
              version = r.version;
              book = r.book;
              holds = subst (λ (s : List ℕ). Stored s r.version r.book) (sym p.last_is) r.holds;
              paid = r.holds.lawful.paid;
              accounts = subst (OnlyRaisedBy ps b.site.accounts) (ap (λ (s : Site). s.accounts) (sym e)) h.accounts;
            },
            λ id n l. works_leave id n mains h.book qs answers r.book r.works (l z),
          )

  -- a single call is a list of one
  after_serve : (q : Request) (number : ℕ) {last : List ℕ} → IdInRange q → (p : Serving now q number last) → Posts (q ∷ []) p.serve.whole (p.serve.answer ∷ []) last
  after_serve q number small p =
      after_post (all_nodes (nodes_of now)) (q ∷ []) p.serve.whole (p.serve.answer ∷ [])
      (λ x m. ⊎_elim (λ (e : x ≡ q). subst IdInRange (sym e) small) (λ (k : ⊥). absurd k) m)
      record {
        index = p.serve.index;
        index' = p.serve.index';
        out = p.out;
        out' = p.out';
        before = 0 ∷ [];
        len = p.len;
        size = tt;
        post = p.serve.posted;
        last_is = p.last_is;
      }

  -- a purchase that is done writes the book with the account raised
  after_purchase : (n amount : ℕ) {last : List ℕ} → Purchasing now n amount 0 last → PaysItsWay b (record { account = n; amount = amount } ∷ ps) last
  after_purchase n amount {last} p = record {
    version = newest;
    book = purchased n amount h.book;
    holds = subst (λ (s : List ℕ). Stored s newest (purchased n amount h.book)) (sym (p.last_is ∙ bytes)) (lawful_stored (purchased n amount h.book) lawful);
    paid = lawful.paid;
    accounts = only_more n amount ps b.site.accounts h.book.site.accounts h.accounts;
  }
    where
      said : SaysOf now (purchase_refusals n amount (length p.out)) 0 → Says (purchase_refusals n amount (length p.out) h.version h.book) 0
      said (inl f) = absurd (f.1 refl)
      said (inr o) = of_stored {P = λ v b. Says (purchase_refusals n amount (length p.out) v b) 0} h.holds o

      fits : (a : Account) → a ∈ h.book.site.accounts → a.number ≡ n → FourBytes (a.bought + amount)
      fits a m e =
          stable (tests_lt (a.bought + amount) 4294967296)
          (λ f. (says_none (purchase_refusals n amount (length p.out) h.version h.book) (omega arith) (said p.purchase.says)).1.0
          (record { account = a; there = m; named = e }, f))

      lawful : LawfulBook (purchased n amount h.book)
      lawful = purchased_lawful h.book h.holds.lawful n amount fits

      bytes : current now p.len p.out' ≡ encode newest (purchased n amount h.book)
      bytes =
          let (s, o, w) = p.purchase.done refl in
          let e : s ≡ encode newest (purchased n amount h.book) = of_stored {P = λ v b. s ≡ encode newest (purchased n amount b)} h.holds o in
          current_wrote now (purchased n amount h.book) p.out p.len p.out' (subst (λ (t : List ℕ). Wrote t p.out p.len p.out') e w)

-- after them: as is promised, and a stream that they leave draws what it drew
record Goes (b : Book) {image : List ℕ} {ps : List Bought} {last : List ℕ} (calls : After image ps last) : Type 0 where
  pays : PaysItsWay b ps last
  leaves : (id n : ℕ) → Leaves id calls → drawn_for id n pays.book.rows ≡ drawn_for id n b.rows

goes : (image : List ℕ) (v : ℕ) (b : Book) → Stored image v b → (ps : List Bought) (last : List ℕ) (calls : After image ps last) → Goes b calls
unfolding kept after_purchase
goes image v b s ps last none = record {
  pays = record { version = v; book = b; holds = s; paid = s.lawful.paid; accounts = only_none b.site.accounts };
  leaves = λ id n l. refl;
}
goes image v b s ps last (posted mains qs number answers c small p) =
    let g = goes image v b s _ _ c in
    let t = after_post g.pays mains qs number answers small p in
    record { pays = t.0; leaves = λ id n l. t.1 id n l.1 ∙ g.leaves id n l.0 }
goes image v b s ps last (served q number c small p) =
    let g = goes image v b s _ _ c in
    let t = after_serve g.pays q number small p in
    record { pays = t.0; leaves = λ id n l. t.1 id n (λ z. (λ e. l.1 (p.serve.done z ∙ e), tt)) ∙ g.leaves id n l.0 }
goes image v b s ps last (bought n amount c p) =
    let g = goes image v b s _ _ c in
    record { pays = after_purchase g.pays n amount p; leaves = λ id n l. g.leaves id n l }
goes image v b s ps last (refused n amount number c p f) =
    let g = goes image v b s _ _ c in
    record { pays = kept g.pays p.len p.out' p.last_is (p.purchase.refused f).length_is; leaves = λ id n l. g.leaves id n l }

pub never_overdrawn : NeverOverdrawn
never_overdrawn image v b s ps last calls = (goes image v b s ps last calls).pays

-- AN OPEN
module _ {image : List ℕ} {q : Asked} {len : ℕ} {out' : List ℕ} (d : Done image (Open q) len out') where
  made : Opened (all_nodes (nodes d.before.site.links)) d.before q d.after
  made = d.work.done refl

  opened_cost : (n : ℕ) → drawn n d.after.rows ≡ drawn n d.before.rows + cost q made.routes n
  opened_cost n = omega (arith, opened_drawn made n)

  -- and this is what its stream draws then
  opened_for : (n : ℕ) → drawn_for q.id n d.after.rows ≡ cost q made.routes n
  opened_for n =
      let e = for_joined q.id n made.new d.before.rows d.after.rows made.plus.rows
      (λ r m. (new_route q d.before 1 made.routes made.new made.placed r m).new.named) (fresh d) in
      omega (arith, e, opened_cost n)

pub open_draws : OpenDraws
open_draws image q out len out' small h =
    let d = done image (Open q) out len out' h in
    (d.before, d.after, moves d small, (made d).routes, (made d).planned, opened_cost d)

-- A CLOSE
closed_for : {image : List ℕ} {id len : ℕ} {out' : List ℕ} (d : Done image (Close id) len out') (n : ℕ)
    → drawn n d.before.rows ≡ drawn n d.after.rows + drawn_for id n d.before.rows
closed_for {id = id} d n =
    let o = d.work.done refl in
    for_joined id n o.gone d.after.rows d.before.rows o.plus.rows o.of_id o.none_left

pub close_gives_back : CloseGivesBack
close_gives_back image id out len out' h =
    let d = done image (Close id) out len out' h in
    let k = closing_known d in
    let small : TwoBytes id = omega (arith, (d.held.lawful.rows k.row k.there).id_most, k.named) in
    (d.before, d.after, moves d small, closed_for d)

-- AN OPEN, CALLS AND A CLOSE
pub open_comes_back : OpenComesBack
open_comes_back image q out len out' small h ps later calls left out₂ len₂ out₂' k =
    let d = done image (Open q) out len out' h in
    let e = done later (Close q.id) out₂ len₂ out₂' k in
    let m = moves d small in
    let g = goes (take len out') newest d.after m.after ps later calls in
    let same : g.pays.book ≡ e.before = (stored_unique later g.pays.version e.version g.pays.book e.before g.pays.holds e.held).1 in (
      d.before,
      d.after,
      e.before,
      e.after,
      m,
      moves e small,
      (made d).routes,
      (made d).planned,
      λ n. (
        opened_cost d n,
        omega (arith, closed_for e n, ap (λ (x : Book). drawn_for q.id n x.rows) same, g.leaves q.id n left, opened_for d n),
      ),
    )
