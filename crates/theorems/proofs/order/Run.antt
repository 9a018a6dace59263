-- Requests apart from each other, one after the other: each is answered as alone, and the order drops out of the rows.
use mathlib.Core.Path.{◌≡◌, refl, sym, ap, ◌∙◌, subst}
use mathlib.Core.Logic.{◌⊎◌, inl, inr, ⊎_elim, ◌↔◌}
use mathlib.Core.List.{List, [], ◌∷◌}
use mathlib.Core.Bool.{Bool, true, false, cond}
use Prim.Native.Nat.{ℕ, ◌+◌, ◌*◌, ◌<◌, ◌≤◌}
use native.Mathlib.Nat.{le_refl, mul-le-mul}
use native.Mathlib.Omega.{arith}
use borrow.Author.Tests.{eq-eqb}
use lib.Dec.{eqb}
use lib.ListN.{length}
use Rattle.rules.specs.Words.{◌∈◌, Reordered, Pairwise, Each, total, total_each}
use Rattle.rules.specs.Tiles.{repeats}
use Rattle.rules.specs.Topology.{hop_count}
use Rattle.rules.specs.Book.{Account, Site, Row, Book, hops, hops_in_all, drawn, most_streams, most_hops}
use Rattle.rules.specs.Calls.{Request, Work, InOrder}
use Rattle.rules.specs.Calls.Request.{Open, Close}
use Rattle.rules.specs.Order.{id_of, DifferentIds, Apart, opens, Asks, may_draw, Room}
use Rattle.rules.proofs.Lists.{reordered_total, joined_length, joined_total}
use Rattle.rules.proofs.Lawful.{same_site, work_site}
use Rattle.rules.proofs.Clashes.{no_clash_turned}
use Rattle.rules.proofs.Added.{planned_count, new_count, new_hops}
use Rattle.rules.proofs.Accounts.{opened_drawn, closed_drawn}
use Rattle.theorems.specs.order.Depends.{Clashing, FullFor, ShortFor, Agree}
use Rattle.theorems.proofs.order.Lists.{in_total, each_map, each_in, each_at, each_reordered}
use Rattle.theorems.proofs.order.Steps.{Rows, on, Answers, Adds, Drops, Makes, Step, step_is, Own, adds_own, drops_own, after}
use Rattle.theorems.proofs.order.Same.{agree_turned, answers_same, adds_same}

-- ROOM, in another order
pub room_reordered : (mains : ℕ) (b : Book) (qs ps : List Request) → Reordered qs ps → Room mains b qs → Room mains b ps
room_reordered mains b qs ps perm room =
    let (ks, asks, p, sums) = each_reordered (Asks mains b) room.asked perm room.asks in
    record {
      streams = omega (arith, room.streams, reordered_total opens perm);
      asked = ks;
      asks = asks;
      hops = omega (arith, room.hops, reordered_total (λ (k : ℕ). k) p);
      pays = λ a m. omega (arith, room.pays a m, sums (may_draw a.number));
    }

module _ (mains : ℕ) (site : Site) where
  -- in the room for all there is room for each
  not_full : (b : Rows) (qs : List Request) (q : Request) → Room mains (on site b) qs → q ∈ qs → FullFor mains (on site b) q → ⊥
  not_full b qs (Open q) room m (ps, pl, f) =
      let (k, i, a) = each_in (Asks mains (on site b)) qs room.asked (Open q) room.asks m in
      ⊎_elim (λ (g : most_streams < length b + length ps). omega (arith, room.streams, planned_count pl, in_total opens (Open q) qs m))
      (λ (g : most_hops < hops_in_all b + total hop_count ps). omega (arith, room.hops, a ps pl, in_total (λ (k : ℕ). k) k room.asked i)) f
  not_full b qs (Close id) room m f = f

  -- and for each its account has enough left
  not_short : (b : Rows) (qs : List Request) (q : Request) → Room mains (on site b) qs → q ∈ qs → ShortFor mains (on site b) q → ⊥
  not_short b qs (Open q) room m (ps, pl, n) =
      let (k, i, a, part) = each_at (Asks mains (on site b)) qs room.asked (Open q) room.asks m in
      let cost : total hop_count ps * repeats q.period ≤ k * repeats q.period = mul-le-mul (a ps pl) (le_refl (repeats q.period)) in
      let own : may_draw n.known.account.number (Open q) k ≡ k * repeats q.period =
      ap (λ (t : Bool). cond t (k * repeats q.period) 0) (eq-eqb q.account n.known.account.number (sym n.known.named)) in
      let same : drawn q.account b ≡ drawn n.known.account.number b = ap (λ (x : ℕ). drawn x b) (sym n.known.named) in
      omega (arith, n.short, room.pays n.known.account n.known.there, part (may_draw n.known.account.number))
  not_short b qs (Close id) room m f = f

  -- the rows d are no more than b and what the request asks for
  record Most (b : Rows) (q : Request) (k : ℕ) (d : Rows) : Type 0 where
    rows : length d ≤ length b + opens q
    hops : hops_in_all d ≤ hops_in_all b + k
    draws : (n : ℕ) → drawn n d ≤ drawn n b + may_draw n q k

  cond_le : (t : Bool) {x y : ℕ} → x ≤ y → cond t x 0 ≤ cond t y 0
  cond_le true l = l
  cond_le false l = omega arith

  -- a step takes no more than it asks for
  made_most : (b : Rows) (q : Request) (d : Rows) (k : ℕ) → Asks mains (on site b) q k → Makes mains site b q d → Most b q k d
  made_most b (Open q) d k a g = record {
    rows = omega (arith, joined_length g.new b g.plus.rows, new_count q (on site b) 1 g.routes g.new g.placed, planned_count g.planned);
    hops = omega (arith, joined_total hops g.new b g.plus.rows, new_hops q (on site b) 1 g.routes g.new g.placed, a g.routes g.planned);
    draws = λ n. let cost = cond_le (eqb q.account n) (mul-le-mul (a g.routes g.planned) (le_refl (repeats q.period))) in omega (arith, opened_drawn g n, cost);
  }
  made_most b (Close id) d k a g = record {
    rows = omega (arith, joined_length g.gone d g.plus.rows);
    hops = omega (arith, joined_total hops g.gone d g.plus.rows);
    draws = λ n. omega (arith, closed_drawn g n);
  }

  step_most : (b : Rows) (q : Request) (n : ℕ) (d : Rows) (k : ℕ) → Asks mains (on site b) q k → Step mains site b q n d → Most b q k d
  step_most b q n d k a s =
      ⊎_elim (λ (e : (n ≡ 0 → ⊥) × (d ≡ b)). record {
        rows = omega (arith, ap (λ (rs : Rows). length rs) e.1);
        hops = omega (arith, ap hops_in_all e.1);
        draws = λ n. omega (arith, ap (drawn n) e.1);
      })
      (λ (g : Answers mains site b q 0 × Makes mains site b q d). made_most b q d k a g.1) (step_is mains site b q n d s)

  -- and leaves room for the others
  room_left : (b : Rows) (q : Request) (qs : List Request) (n : ℕ) (d : Rows) → Room mains (on site b) (q ∷ qs) → Step mains site b q n d → Room mains (on site d) qs
  room_left b q qs n d room step = go room.asked room.asks room.hops room.pays
    where
      asks_same : (v : Request) (k : ℕ) → Asks mains (on site b) v k → Asks mains (on site d) v k
      asks_same (Open r) k a = a
      asks_same (Close id) k a = a

      go : (ks : List ℕ) → Each (Asks mains (on site b)) (q ∷ qs) ks → hops_in_all b + total (λ (k : ℕ). k) ks ≤ most_hops
          → ((x : Account) → x ∈ site.accounts → drawn x.number b + total_each (may_draw x.number) (q ∷ qs) ks ≤ x.bought) → Room mains (on site d) qs
      go [] a h p = absurd a
      go (k ∷ ks) a h p = record {
        streams = omega (arith, room.streams, (step_most b q n d k a.0 step).rows);
        asked = ks;
        asks = each_map (Asks mains (on site b)) (Asks mains (on site d)) qs ks (λ v m k. asks_same v k) a.1;
        hops = omega (arith, (step_most b q n d k a.0 step).hops);
        pays = λ x m. omega (arith, p x m, (step_most b q n d k a.0 step).draws x.number);
      }

  -- different ids, and routes that are apart
  abbrev pub Separate : Rows → Request → Request → Type 0
  Separate s q q' = DifferentIds q q' × Apart mains (on site s) q q'

  pub separate_turned : (s : Rows) (q q' : Request) → Separate s q q' → Separate s q' q
  separate_turned s q q' a = (λ e. a.0 (sym e), λ p p' h k. no_clash_turned site.hearing p' p (a.1 p' p k h))

  -- the row has the request's id, or clashes with its route
  abbrev Bears : Rows → Request → Row → Type 0
  Bears s q x = (x.id ≡ id_of q) ⊎ Clashing mains (on site s) q x

  not_bears : (s : Rows) (q q' : Request) (x : Row) → Separate s q q' → Own mains site s q x → Bears s q' x → ⊥
  not_bears s q q' x a o (inl e) = a.0 (sym o.0 ∙ e)
  not_bears s q (Open r) x a o (inr (p, h, f)) = f (no_clash_turned site.hearing x.route p (a.1 x.route p o.1 h))
  not_bears s q (Close id) x a o (inr h) = h

  -- where the requests qs are still to come, on the rows b that those before made of s
  pub record Here (s b : Rows) (qs : List Request) : Type 0 where
    pub separate : Pairwise (Separate s) qs
    pub same : (q : Request) → q ∈ qs → (x : Row) → Bears s q x → (x ∈ b) ↔ (x ∈ s)
    pub alone : (q : Request) → q ∈ qs → FullFor mains (on site s) q → ⊥
    pub paid : (q : Request) → q ∈ qs → ShortFor mains (on site s) q → ⊥
    pub room : Room mains (on site b) qs

  pub begin : (s : Rows) (ps : List Request) → Pairwise (Separate s) ps → Room mains (on site s) ps → Here s s ps
  begin s ps separate room = record {
    separate = separate;
    same = λ q m x h. (λ k. k, λ k. k);
    alone = λ q m. not_full s ps q room m;
    paid = λ q m. not_short s ps q room m;
    room = room;
  }

  module _ (s b : Rows) (q : Request) (qs : List Request) (i : Here s b (q ∷ qs)) where
    agree : Agree mains (on site b) (on site s) q
    agree = record {
      site = refl;
      known = (
        λ k. record { row = k.row; there = (own k.row k.named).0 k.there; named = k.named },
        λ k. record { row = k.row; there = (own k.row k.named).1 k.there; named = k.named },
      );
      clashing = λ x k. i.same q (inl refl) x (inr (turned q x k));
      room = (λ f. absurd (not_full b (q ∷ qs) q i.room (inl refl) f), λ f. absurd (i.alone q (inl refl) f));
      pays = (λ f. absurd (not_short b (q ∷ qs) q i.room (inl refl) f), λ f. absurd (i.paid q (inl refl) f));
    }
      where
        turned : (q : Request) (x : Row) → Clashing mains (on site b) q x → Clashing mains (on site s) q x
        turned (Open r) x k = k
        turned (Close id) x k = k

        own : (x : Row) → x.id ≡ id_of q → (x ∈ b) ↔ (x ∈ s)
        own x e = i.same q (inl refl) x (inl e)

    as_alone : (n : ℕ) → Answers mains site b q n → Answers mains site s q n
    as_alone = answers_same mains site b s q agree

    drops_same : (x : Row) → Drops mains site b q x ↔ Drops mains site s q x
    drops_same x = go q (i.same q (inl refl) x) (as_alone 0) (answers_same mains site s b q (agree_turned mains site b s q agree) 0)
      where
        go : (q : Request) → (Bears s q x → (x ∈ b) ↔ (x ∈ s)) → (Answers mains site b q 0 → Answers mains site s q 0) → (Answers mains site s q 0 → Answers mains site b q 0)
            → Drops mains site b q x ↔ Drops mains site s q x
        go (Open r) own f g = (λ h. h, λ h. h)
        go (Close id) own f g = (λ h. (f h.0, (own (inl h.2)).0 h.1, h.2), λ h. (g h.0, (own (inl h.2)).1 h.1, h.2))

    adds_alike : (x : Row) → Adds mains site b q x ↔ Adds mains site s q x
    adds_alike x = (adds_same mains site b s q agree x, adds_same mains site s b q (agree_turned mains site b s q agree) x)

    -- the rows after the step are as if the request were alone on s
    moved : (n : ℕ) (d : Rows) → Step mains site b q n d → (x : Row) → (x ∈ d) ↔ (((x ∈ b) × (Drops mains site s q x → ⊥)) ⊎ Adds mains site s q x)
    moved n d step x =
        let t = after mains site b q n d step x in (
          λ k. ⊎_elim (λ h. inl (h.0, λ c. h.1 ((drops_same x).1 c))) (λ h. inr ((adds_alike x).0 h)) (t.0 k),
          ⊎_elim (λ h. t.1 (inl (h.0, λ c. h.1 ((drops_same x).0 c)))) (λ h. t.1 (inr ((adds_alike x).1 h))),
        )

    onward : (n : ℕ) (d : Rows) → Step mains site b q n d → Here s d qs
    onward n d step = record {
      separate = i.separate.1;
      same = λ v l x h.
          let t = moved n d step x in
          let e = i.same v (inr l) x h in (
            λ k. ⊎_elim (λ m. e.0 m.0) (λ m. absurd (not_bears s q v x (i.separate.0 v l) (adds_own mains site s q x m) h)) (t.0 k),
            λ k. t.1 (inl (e.1 k, λ m. not_bears s q v x (i.separate.0 v l) (drops_own mains site s q x m) h)),
          );
      alone = λ v l. i.alone v (inr l);
      paid = λ v l. i.paid v (inr l);
      room = room_left b q qs n d i.room step;
    }

  -- the rows that the requests make of b, each as alone on s
  abbrev pub From : Rows → Rows → List Request → Row → Type 0
  From s b qs x =
      ((x ∈ b) × ((q : Request) → q ∈ qs → Drops mains site s q x → ⊥)) ⊎ ((q : Request) × (q ∈ qs) × Adds mains site s q x)

  more : (s b d : Rows) (q : Request) (qs : List Request) (x : Row) → Pairwise (Separate s) (q ∷ qs)
      → ((x ∈ d) ↔ (((x ∈ b) × (Drops mains site s q x → ⊥)) ⊎ Adds mains site s q x)) → From s d qs x ↔ From s b (q ∷ qs) x
  more s b d q qs x a e = (onto, back)
    where
      onto : From s d qs x → From s b (q ∷ qs) x
      onto (inl h) =
          ⊎_elim (λ k. inl (k.0, λ v. ⊎_elim (λ m c. k.1 (subst (λ (u : Request). Drops mains site s u x) m c)) (λ m c. h.1 v m c)))
          (λ k. inr (q, inl refl, k)) (e.0 h.0)
      onto (inr h) = inr (h.0, inr h.1, h.2)

      back : From s b (q ∷ qs) x → From s d qs x
      back (inl h) = inl (e.1 (inl (h.0, h.1 q (inl refl))), λ v m c. h.1 v (inr m) c)
      back (inr (v, inl m, c)) =
          let k : Adds mains site s q x = subst (λ (u : Request). Adds mains site s u x) m c in
          inl (e.1 (inr k), λ u l h. (a.0 u l).0 (sym (adds_own mains site s q x k).0 ∙ (drops_own mains site s u x h).0))
      back (inr (v, inr m, c)) = inr (v, m, c)

  -- what a list comes to: each request is answered as alone on s, and of the last rows it can be said without the order
  pub record Ends (s b : Rows) (qs : List Request) (ns : List ℕ) (c : Book) : Type 0 where
    pub each : Each (Answers mains site s) qs ns
    pub from : (x : Row) → (x ∈ c.rows) ↔ From s b qs x

  pub run : (s b : Rows) (qs : List Request) (ns : List ℕ) (c : Book) → Here s b qs → InOrder (Work mains) (on site b) qs ns c → Ends s b qs ns c
  run s b [] [] c i h = record {
    each = tt;
    from = λ x. (
      λ k. inl (subst (λ (d : Book). x ∈ d.rows) h k, λ q m k. absurd m),
      ⊎_elim (λ k. subst (λ (d : Book). x ∈ d.rows) (sym h) k.0) (λ k. absurd k.1),
    );
  }
  run s b [] (n ∷ ns) c i h = absurd h
  run s b (q ∷ qs) [] c i h = absurd h
  run s b (q ∷ qs) (n ∷ ns) c i (d, work, rest) =
      let same : d ≡ on site d.rows = sym (same_site (on site b) d (work_site mains (on site b) q n d work)) in
      let step : Step mains site b q n d.rows = subst (Work mains (on site b) q n) same work in
      let left : InOrder (Work mains) (on site d.rows) qs ns c = subst (λ (x : Book). InOrder (Work mains) x qs ns c) same rest in
      let e = run s d.rows qs ns c (onward s b q qs i n d.rows step) left in
      let m : (x : Row) → From s d.rows qs x ↔ From s b (q ∷ qs) x = λ x. more s b d.rows q qs x i.separate (moved s b q qs i n d.rows step x) in
      record { each = (as_alone s b q qs i n step.says, e.each); from = λ x. (λ k. (m x).0 ((e.from x).0 k), λ k. (e.from x).1 ((m x).1 k)) }
