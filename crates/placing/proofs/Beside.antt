-- What is free by the index, by the moduli and beside another route is free beside the rows of a book, and the first placing by them is the book's.
use mathlib.Core.Path.{◌≡◌, sym, ap, ◌∙◌, subst, subst₂}
use mathlib.Core.Logic.{◌⊎◌, inl, inr, ⊎_elim}
use mathlib.Core.List.{List, [], ◌∷◌}
use Prim.Native.Nat.{ℕ, zero, suc, ◌*◌, ◌<◌}
use native.Mathlib.Decide.{dec_lt}
use native.Mathlib.Omega.{arith}
use lib.ListN.{length, get_or, take}
use Rattle.rules.specs.Words.{◌∈◌}
use Rattle.rules.specs.Tiles.{Period, Takes, Meet, repeats}
use Rattle.rules.specs.Topology.{Hop, hop_at, hop_count}
use Rattle.rules.specs.Book.{Site, Row, Book, row_hop, OnData, MeetsClashing}
use Rattle.rules.specs.Image.{plan_of, hearing_of, site_of}
use Rattle.rules.specs.Placing as rules
use Rattle.rules.specs.Placing.{Free, FirstPlacing}
use Rattle.rules.proofs.Greedy.{Places, placing_places, places_placing}
use Rattle.rules.proofs.Lists.{at_in}
use Rattle.rules.proofs.Meeting.{same_place, cycle_period}
use Rattle.bitset.specs.clash.Reach.{Clashes}
use Rattle.bitset.proofs.clash.Reaching.{clash_end, end_clash}
use Rattle.placing.specs.plain.Plain.{Weighs, HasEnd, MeetsRoute}
use Rattle.placing.proofs.plain.Agreeing.{agrees_meets, meets_agrees}
use Rattle.placing.proofs.plain.Beside.{IndexBeside, meets_some, some_meets}
use Rattle.placing.specs.Covers.{RowOn, Covers}
use Rattle.placing.specs.Answers.{around, FreeBy, FreeAt, AnswersBy}
use Rattle.std.specs.Prelude.{Some, None}
use Rattle.rules.specs.Records.{slot_numbers}
use Rattle.rules.specs.declared.Slot.{Slot}

-- places that serve for F serve for what holds wherever F does
places_alike : {F G : ℕ → ℕ → Type 0} {B : ℕ} → ((i o : ℕ) → o < B → F i o → G i o) → (n i lo : ℕ) (os : List ℕ) → Places F B n i lo os → Places G B n i lo os
places_alike f zero i lo [] p = tt
places_alike f zero i lo (o ∷ os) p = absurd p
places_alike f (suc n) i lo [] p = absurd p
places_alike f (suc n) i lo (o ∷ os) p = (p.0, p.1, f i o p.1 p.2, places_alike f n (suc i) (suc o) os p.3)

some_turn : (K : ℕ) → Period K → 0 < repeats K
some_turn K p = go (dec_lt 0 (repeats K))
  where
    go : Dec (0 < repeats K) → 0 < repeats K
    go (yes l) = l
    go (no l) =
        let e : repeats K ≡ 0 = omega arith in
        absurd (omega (arith, cycle_period K p, ap (λ (x : ℕ). x * K) e))

-- hops of one period meet exactly where they have one offset
module _ (s : List ℕ) {K : ℕ} {first taken : List ℕ} (count : length taken ≡ hop_count first) (within : (o : ℕ) → o ∈ taken → o < K * (plan_of s).slots) {h : Hop} {o : ℕ} {x : Row}
    (on : RowOn K first taken x) where
  met_route : o < K * (plan_of s).slots → MeetsClashing (site_of s) x K h o → MeetsRoute (Clashes (hearing_of s) h) first taken o
  met_route l q =
      let c = clash_end (hearing_of s) h (row_hop x q.hop) q.clash in
      let there : q.hop < length taken = omega (arith, q.there, ap hop_count on.route_is, count) in
      let meet : Meet (plan_of s).slots K o K (get_or taken q.hop 0) =
      subst₂ (λ (L : ℕ) (os : List ℕ). Meet (plan_of s).slots K o L (get_or os q.hop 0)) on.period_is on.offsets_are q.meet in
      let e : o ≡ get_or taken q.hop 0 =
      same_place (K * (plan_of s).slots) o (get_or taken q.hop 0) meet.left.turn meet.right.turn l (within _ (at_in taken q.hop there)) (sym meet.left.at ∙ meet.right.at) in
      record {
        hop = q.hop;
        there = there;
        meets = record {
          sought = subst (λ (route : List ℕ). HasEnd (Clashes (hearing_of s) h) (hop_at route q.hop)) on.route_is (record { end = c.0; sought = c.1 });
          is = sym e;
        };
      }

  route_met : Period K → MeetsRoute (Clashes (hearing_of s) h) first taken o → MeetsClashing (site_of s) x K h o
  route_met p m =
      let takes : Takes (plan_of s).slots K o o = record { turn = 0; within = some_turn K p; at = omega arith } in
      let end = subst (λ (route : List ℕ). HasEnd (Clashes (hearing_of s) h) (hop_at route m.hop)) (sym on.route_is) m.meets.sought in
      record {
        hop = m.hop;
        there = omega (arith, m.there, ap hop_count on.route_is, count);
        clash = end_clash (hearing_of s) h (row_hop x m.hop) end.end end.sought;
        meet = subst₂ (λ (L : ℕ) (os : List ℕ). Meet (plan_of s).slots K o L (get_or os m.hop 0)) (sym on.period_is) (sym on.offsets_are)
            (subst (λ (q : ℕ). Meet (plan_of s).slots K o K q) (sym m.meets.is) (record { slot = o; left = takes; right = takes }));
      }

module _ {s : List ℕ} {start n : ℕ} {rows : List Row} {words : List ℕ} (w : IndexBeside s start n rows words) {K : ℕ} (p : Period K) {moduli : List ℕ} {upto : ℕ}
    (v : Weighs s start n K moduli upto) {first taken : List ℕ} {c : Book} (g : Covers s rows K first taken c) where
  free_beside : (h : Hop) (o : ℕ) → o < K * (plan_of s).slots → FreeBy (Clashes (hearing_of s) h) (plan_of s) (around words s start upto moduli first taken) K o → Free c K h o
  free_beside h o l f = record {
    on_data = subst (λ (site : Site). OnData site.plan K o) (sym g.site) f.on_data;
    never_meet = λ x m q. go x (g.each x m) (subst (λ (site : Site). MeetsClashing site x K h o) g.site q);
  }
    where
      go : (x : Row) → (x ∈ rows) ⊎ RowOn K first taken x → MeetsClashing (site_of s) x K h o → ⊥
      go x (inl m) q = ⊎_elim (λ k. f.quiet k) (λ k. f.apart (meets_agrees w.there w.in_range p l v k)) (some_meets w p l x m q)
      go x (inr on) q = f.alone (met_route s g.count g.within on l q)

  beside_free : (h : Hop) (o : ℕ) → o < K * (plan_of s).slots → Free c K h o → FreeBy (Clashes (hearing_of s) h) (plan_of s) (around words s start upto moduli first taken) K o
  beside_free h o l f = record {
    on_data = subst (λ (site : Site). OnData site.plan K o) g.site f.on_data;
    quiet = λ m. by (meets_some w p l (inl m));
    apart = λ m. by (meets_some w p l (inr (agrees_meets w.there w.in_range p l v m)));
    alone = λ m. let k = g.other (omega (arith, m.there)) in never k.0 k.1 (route_met s g.count g.within k.2 p m);
  }
    where
      never : (x : Row) → x ∈ c.rows → MeetsClashing (site_of s) x K h o → ⊥
      never x m q = f.never_meet x m (subst (λ (site : Site). MeetsClashing site x K h o) (sym g.site) q)

      by : (x : Row) × (x ∈ rows) × MeetsClashing (site_of s) x K h o → ⊥
      by k = never k.0 (g.known k.0 k.1) k.2

  module _ (route : List ℕ) where
    same_bound : K * (plan_of s).slots ≡ K * c.site.plan.slots
    same_bound = ap (λ (site : Site). K * site.plan.slots) (sym g.site)

    -- a placing of the book, as places by what is around
    by_index : (ps : List ℕ) → rules.Placing c K route ps
        → Places (FreeAt (plan_of s) (hearing_of s) (around words s start upto moduli first taken) K route) (K * (plan_of s).slots) (hop_count route) 0 0 ps
    by_index ps q =
        places_alike (λ i o l f. beside_free _ o l f) (hop_count route) 0 0 ps
        (subst (λ (B : ℕ). Places (λ (i o : ℕ). Free c K (hop_at route i) o) B (hop_count route) 0 0 ps) (sym same_bound) (placing_places c K route ps q))

    pub first_beside : (offsets : List Slot) → AnswersBy (plan_of s) (hearing_of s) (around words s start upto moduli first taken) K route (Some offsets)
        → FirstPlacing c K route (take (hop_count route) (slot_numbers offsets))
    first_beside offsets a =
        let os = take (hop_count route) (slot_numbers offsets) in
        record {
          placing = places_placing c K route os
              (subst (λ (B : ℕ). Places (λ (i o : ℕ). Free c K (hop_at route i) o) B (hop_count route) 0 0 os) same_bound
              (places_alike (λ i o l f. free_beside _ o l f) (hop_count route) 0 0 _ a.0.places));
          first = λ ps q. a.0.first ps (by_index ps q);
        }

    pub none_beside : AnswersBy (plan_of s) (hearing_of s) (around words s start upto moduli first taken) K route None → rules.NoPlacing c K route
    none_beside a ps q = a ps (by_index ps q)
