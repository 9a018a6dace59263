-- What accounts have bought and what rows draw: no request overdraws one, and a purchase raises its own by exactly its amount.
use mathlib.Core.Path.{◌≡◌, refl, sym, ap, ◌∙◌, subst}
use mathlib.Core.Logic.{inl, inr, ⊎_elim}
use mathlib.Core.Bool.{Bool, true, false, cond}
use mathlib.Core.List.{List, [], ◌∷◌}
use Prim.Native.Nat.{ℕ, suc, ◌+◌, ◌*◌, ◌<◌, ◌≤◌}
use native.Mathlib.Decide.{ℕ_discrete}
use native.Mathlib.Omega.{arith}
use borrow.Author.Tests.{eqb-true, eq-eqb}
use lib.Dec.{eqb}
use lib.ListN.{length}
use Rattle.rules.specs.Words.{FourBytes, ◌∈◌, Pairwise, total}
use Rattle.rules.specs.Tiles.{repeats}
use Rattle.rules.specs.Topology.{hop_count}
use Rattle.rules.specs.Book.{Account, Row, Book, draws, drawn, Paid, KnownAccount, LawfulBook}
use Rattle.rules.specs.Placing.{Asked, NotPaid}
use Rattle.rules.specs.Calls.{Opened, Closed, raised, purchased}
use Rattle.rules.proofs.Tests.{never}
use Rattle.rules.proofs.Lists.{joined_total}
use Rattle.rules.proofs.Added.{new_drawn}

-- KNOWN ACCOUNTS

-- whether an account is known can be told
pub account_dec : (n : ℕ) (accounts : List Account) → Dec (KnownAccount accounts n)
account_dec n [] = no (λ k. k.there)
account_dec n (a ∷ accounts) = go (ℕ_discrete a.number n) (account_dec n accounts)
  where
    not_here : (a.number ≡ n → ⊥) → (KnownAccount accounts n → ⊥) → KnownAccount (a ∷ accounts) n → ⊥
    not_here f g k =
        ⊎_elim (λ (e : k.account ≡ a). f (ap (λ (x : Account). x.number) (sym e) ∙ k.named))
        (λ (h : k.account ∈ accounts). g record { account = k.account; there = h; named = k.named }) k.there

    go : Dec (a.number ≡ n) → Dec (KnownAccount accounts n) → Dec (KnownAccount (a ∷ accounts) n)
    go (yes e) d = yes record { account = a; there = inl refl; named = e }
    go (no f) (yes k) = yes record { account = k.account; there = inr k.there; named = k.named }
    go (no f) (no g) = no (not_here f g)

pub known_account : (n : ℕ) (accounts : List Account) → ((KnownAccount accounts n → ⊥) → ⊥) → KnownAccount accounts n
known_account n accounts f = go (account_dec n accounts)
  where
    go : Dec (KnownAccount accounts n) → KnownAccount accounts n
    go (yes k) = k
    go (no g) = absurd (f g)

-- DRAWN, by requests

-- an open draws its hops, as often as they come in a cycle, from its own account alone
pub opened_drawn : {mains : ℕ} {b : Book} {q : Asked} {c : Book} (o : Opened mains b q c) (n : ℕ)
    → drawn n c.rows ≡ cond (eqb q.account n) (total hop_count o.routes * repeats q.period) 0 + drawn n b.rows
opened_drawn {mains} {b} {q} o n =
    joined_total (λ (r : Row). cond (eqb r.account n) (draws r) 0) o.new b.rows o.plus.rows
    ∙ ap (λ (k : ℕ). k + drawn n b.rows) (new_drawn q b 1 o.routes o.new o.placed n)

-- a close gives back what its rows drew
pub closed_drawn : {b : Book} {id : ℕ} {c : Book} (o : Closed b id c) (n : ℕ) → drawn n b.rows ≡ drawn n o.gone + drawn n c.rows
closed_drawn {b} {id} {c} o n = joined_total (λ (r : Row). cond (eqb r.account n) (draws r) 0) o.gone c.rows o.plus.rows

-- so an open that its account pays for overdraws none
pub opened_paid : (mains : ℕ) (b : Book) → Paid b.site.accounts b.rows → (q : Asked) (c : Book) (o : Opened mains b q c) → (NotPaid b q o.routes → ⊥)
    → Paid b.site.accounts c.rows
opened_paid mains b paid q c o pays a h = go (eqb q.account a.number) refl
  where
    sum : (t : Bool) → eqb q.account a.number ≡ t
        → drawn a.number c.rows ≡ cond t (total hop_count o.routes * repeats q.period) 0 + drawn a.number b.rows
    sum t e = opened_drawn o a.number ∙ ap (λ (u : Bool). cond u (total hop_count o.routes * repeats q.period) 0 + drawn a.number b.rows) e

    go : (t : Bool) → eqb q.account a.number ≡ t → drawn a.number c.rows ≤ a.bought
    go true e =
        let cost : ℕ = total hop_count o.routes * repeats q.period in
        let n : q.account ≡ a.number = eqb-true q.account a.number e in
        let g : (a.bought < drawn a.number b.rows + cost) → ⊥ =
        λ s. pays record { known = record { account = a; there = h; named = sym n }; short = subst (λ (z : ℕ). a.bought < drawn z b.rows + cost) (sym n) s } in
        omega (arith, sum true e)
    go false e = omega (arith, paid a h, sum false e)

-- and a close none
pub closed_paid : (b : Book) → Paid b.site.accounts b.rows → (id : ℕ) (c : Book) → Closed b id c → Paid b.site.accounts c.rows
closed_paid b paid id c o a h = omega (arith, paid a h, closed_drawn o a.number)

-- A PURCHASE

-- x is a after it: the same number, raised by exactly the amount if it is its own account, and otherwise as before
pub record Raises (n amount : ℕ) (a x : Account) : Type 0 where
  pub number_is : x.number ≡ a.number
  pub own : a.number ≡ n → x.bought ≡ a.bought + amount
  pub other : (a.number ≡ n → ⊥) → x.bought ≡ a.bought

abbrev raise : ℕ → ℕ → Account → Account
raise n amount a = cond (eqb a.number n) (record { number = a.number; bought = a.bought + amount }) a

raises : (n amount : ℕ) (a : Account) → Raises n amount a (raise n amount a)
raises n amount a = go (eqb a.number n) refl
  where
    go : (t : Bool) → eqb a.number n ≡ t → Raises n amount a (cond t (record { number = a.number; bought = a.bought + amount }) a)
    go true e = record { number_is = refl; own = λ h. refl; other = λ f. absurd (f (eqb-true a.number n e)) }
    go false e = record { number_is = refl; own = λ h. never (sym e ∙ eq-eqb a.number n h); other = λ f. refl }

-- each account after it was there before, and each before is there after
pub raised_from : (n amount : ℕ) (accounts : List Account) (x : Account) → x ∈ raised n amount accounts → (a : Account) × (a ∈ accounts) × Raises n amount a x
raised_from n amount [] x h = absurd h
raised_from n amount (a ∷ accounts) x (inl e) = (a, inl refl, subst (Raises n amount a) (sym e) (raises n amount a))
raised_from n amount (a ∷ accounts) x (inr h) = let t = raised_from n amount accounts x h in (t.0, inr t.1, t.2)

pub raised_to : (n amount : ℕ) (accounts : List Account) (a : Account) → a ∈ accounts → (x : Account) × (x ∈ raised n amount accounts) × Raises n amount a x
raised_to n amount [] a h = absurd h
raised_to n amount (c ∷ accounts) a (inl e) = (raise n amount c, inl refl, subst (λ (v : Account). Raises n amount v (raise n amount c)) (sym e) (raises n amount c))
raised_to n amount (c ∷ accounts) a (inr h) = let t = raised_to n amount accounts a h in (t.0, inr t.1, t.2)

pub raised_length : (n amount : ℕ) (accounts : List Account) → length (raised n amount accounts) ≡ length accounts
raised_length n amount [] = refl
raised_length n amount (a ∷ accounts) = ap suc (raised_length n amount accounts)

raised_rising : (n amount : ℕ) (accounts : List Account) → Pairwise (λ (a c : Account). a.number < c.number) accounts
    → Pairwise (λ (a c : Account). a.number < c.number) (raised n amount accounts)
raised_rising n amount [] p = tt
raised_rising n amount (a ∷ accounts) p = (
  λ x h. let t = raised_from n amount accounts x h in omega (arith, p.0 t.0 t.1, t.2.number_is, (raises n amount a).number_is),
  raised_rising n amount accounts p.1,
)

-- a purchase that stays within 32 bits leaves a lawful book
module _ (b : Book) (l : LawfulBook b) (n amount : ℕ) (fits : (a : Account) → a ∈ b.site.accounts → a.number ≡ n → FourBytes (a.bought + amount)) where
  whole : (x a : Account) → a ∈ b.site.accounts → Raises n amount a x → Dec (a.number ≡ n) → FourBytes x.bought
  whole x a h r (yes e) = omega (arith, fits a h e, r.own e)
  whole x a h r (no f) = omega (arith, l.site.accounts.bought a h, r.other f)

  enough : (x a : Account) → a ∈ b.site.accounts → Raises n amount a x → Dec (a.number ≡ n) → drawn x.number b.rows ≤ x.bought
  enough x a h r (yes e) = let p : drawn x.number b.rows ≤ a.bought = rw r.number_is (l.paid a h) in omega (arith, r.own e)
  enough x a h r (no f) = let p : drawn x.number b.rows ≤ a.bought = rw r.number_is (l.paid a h) in omega (arith, r.other f)

  pub purchased_lawful : LawfulBook (purchased n amount b)
  purchased_lawful = record {
    site = record {
      plan = l.site.plan;
      nodes = l.site.nodes;
      topologies = l.site.topologies;
      accounts = record {
        some = omega (arith, l.site.accounts.some, raised_length n amount b.site.accounts);
        most = omega (arith, l.site.accounts.most, raised_length n amount b.site.accounts);
        rising = raised_rising n amount b.site.accounts l.site.accounts.rising;
        number = λ x h. let t = raised_from n amount b.site.accounts x h in omega (arith, l.site.accounts.number t.0 t.1, t.2.number_is);
        bought = λ x h. let t = raised_from n amount b.site.accounts x h in whole x t.0 t.1 t.2 (ℕ_discrete t.0.number n);
      };
    };
    streams = l.streams;
    hops = l.hops;
    rows = λ r m. let o = l.rows r m in record {
      id_some = o.id_some;
      id_most = o.id_most;
      way_some = o.way_some;
      way_most = o.way_most;
      period = o.period;
      route = o.route;
      route_most = o.route_most;
      offsets = o.offsets;
      on_data = o.on_data;
      account = let t = raised_to n amount b.site.accounts o.account.account o.account.there in
          record { account = t.0; there = t.1; named = t.2.number_is ∙ o.account.named };
    };
    rising = l.rising;
    paired = l.paired;
    paid = λ x h. let t = raised_from n amount b.site.accounts x h in enough x t.0 t.1 t.2 (ℕ_discrete t.0.number n);
    never_meet = λ m. l.never_meet record {
      one = m.one;
      other = m.other;
      one_there = m.one_there;
      other_there = m.other_there;
      different = m.different;
      meets = record {
        hop = m.meets.hop;
        there = m.meets.there;
        meets = record { hop = m.meets.meets.hop; there = m.meets.meets.there; clash = m.meets.meets.clash; meet = m.meets.meets.meet };
      };
    };
  }
