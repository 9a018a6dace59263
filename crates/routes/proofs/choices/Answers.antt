-- The walks from the source are the routes, and the list of them is what is written.
use Rattle.std.specs.Prelude.{Ok, Err}
use mathlib.Core.Path.{◌≡◌, refl, sym, ap, ◌∙◌, subst}
use mathlib.Core.Logic.{◌⊎◌, inl, inr, ⊎_elim}
use mathlib.Core.Bool.{false}
use mathlib.Core.List.{List, [], ◌∷◌}
use Prim.Native.Nat.{ℕ, zero, suc, ◌-◌, ◌<◌, ◌≤◌}
use native.Mathlib.Omega.{arith}
use lib.ListN.{length, get_or, take, drop}
use lib.Seq.{take_at}
use Rattle.rules.specs.Words.{Has, ◌∈◌, Distinct}
use Rattle.rules.specs.Topology.{Topology, nodes, SoundTopology, LinkedInTurn, hop_count, all_nodes, PathWithin, most_short_hops, most_listed, Exactly}
use Rattle.rules.specs.Calls.{list_bytes, ListTooLong}
use Rattle.rules.proofs.Lists.{at_in}
use Rattle.rules.proofs.Sets.{all_has}
use Rattle.rules.proofs.Listing.{first_unique}
use Rattle.bitset.specs.Sets.{SetOf}
use Rattle.bitset.proofs.Bits.{has_or_not}
use Rattle.routes.specs.Planner.{Asked}
use Rattle.routes.proofs.Distances.{joined_back}
use Rattle.writer.specs.Over.{over}
use Rattle.writer.proofs.Laws.{over_front}
use Rattle.routes.specs.declared.choices.Tally.{Tally}
use Rattle.rules.specs.declared.refusals.Refusal.TheVariants.{NoRoom}
use Rattle.routes.specs.choices.Search.{Leads, behind, Kept, Finds, Found}
use Rattle.routes.specs.choices.Listing.{ListSays}
use Rattle.routes.proofs.choices.Lists.{in_behind, behind_in, behind_rising}
use Rattle.routes.proofs.choices.Keeping.{kept_none}

-- each node after the first but the last is none that the last is
before_last : {z x : ℕ} (k a : ℕ) (p : List ℕ) → k < length p → Distinct (a ∷ p) → get_or (a ∷ p) (length p) 0 ≡ z → x ∈ take k p → (x ∈ p) × (x ≡ z → ⊥)
before_last k a [] l d e h = absurd (omega arith)
before_last zero a (m ∷ p) l d e h = absurd h
before_last (suc k) a (m ∷ []) l d e h = absurd (omega arith)
before_last {z} {x} (suc k) a (m ∷ b ∷ p) l d e (inl q) = (
  inl q,
  λ f. d.1.0 z (subst (λ (v : ℕ). v ∈ (b ∷ p)) e (at_in (b ∷ p) (length p) (omega arith))) (sym q ∙ f),
)
before_last (suc k) a (m ∷ b ∷ p) l d e (inr h) = let r = before_last k m (b ∷ p) (omega arith) d.1 e h in (inr r.0, r.1)

-- each is before the last, or the last
or_last : {z : ℕ} (x k a : ℕ) (p : List ℕ) → length p ≤ suc k → get_or (a ∷ p) (length p) 0 ≡ z → x ∈ p → (x ∈ take k p) ⊎ (x ≡ z)
or_last x k a [] l e h = absurd h
or_last x k a (m ∷ []) l e (inl q) = inr (q ∙ e)
or_last x k a (m ∷ []) l e (inr h) = absurd h
or_last x zero a (m ∷ b ∷ p) l e h = absurd (omega arith)
or_last x (suc k) a (m ∷ b ∷ p) l e (inl q) = inl (inl q)
or_last x (suc k) a (m ∷ b ∷ p) l e (inr h) = ⊎_elim (λ i. inl (inr i)) (λ i. inr i) (or_last x k m (b ∷ p) (omega arith) e h)

walk_known : (T : Topology) → SoundTopology T → (m : ℕ) (p : List ℕ) → m < nodes T → LinkedInTurn T (m ∷ p) → (x : ℕ) → x ∈ (m ∷ p) → x < nodes T
walk_known T sound m [] l w x (inl e) = subst (λ (v : ℕ). v < nodes T) (sym e) l
walk_known T sound m [] l w x (inr h) = absurd h
walk_known T sound m (n ∷ p) l w x (inl e) = subst (λ (v : ℕ). v < nodes T) (sym e) l
walk_known T sound m (n ∷ p) l w x (inr h) = walk_known T sound n p (joined_back T sound m n w.0).0 w.1 x h

-- A WALK FROM THE SOURCE IS A ROUTE
module _ {T : Topology} (middle : ℕ) {s z allowed outside barred : ℕ} (asked : Asked T s z) (a : SetOf (λ (k : ℕ). Has middle k ⊎ (k ≡ z)) allowed)
    (o : SetOf (λ (k : ℕ). Has (all_nodes 64) k × (Has allowed k → ⊥)) outside) (b : SetOf (λ (k : ℕ). Has outside k ⊎ (k ≡ s)) barred) where
  -- what is neither barred nor the destination may stand in the middle
  may_stand : (x : ℕ) → x < nodes T → (Has barred x → ⊥) → (x ≡ z → ⊥) → Has middle x
  may_stand x l f g = go (has_or_not allowed x)
    where
      go : Dec (Has allowed x) → Has middle x
      go (yes h) = ⊎_elim (λ i. i) (λ (e : x ≡ z). absurd (g e)) (a.only x h)
      go (no h) = absurd (f (b.all x (inl (o.all x (all_has 64 x (omega (arith, asked.range.1)), h)))))

  leads_route : (p : List ℕ) → Leads T z most_short_hops barred s p → PathWithin most_short_hops T middle s z (s ∷ p)
  leads_route [] l = absurd (asked.apart l.walk.ends)
  leads_route (m ∷ p) l =
      let e : hop_count (s ∷ m ∷ p) ≡ length (m ∷ p) = omega arith in
      record {
        between = record {
          path = record { some = omega arith; known = known; distinct = l.distinct; linked = l.walk.linked };
          starts = refl;
          ends = ap (λ (n : ℕ). get_or (s ∷ m ∷ p) n 0) e ∙ l.walk.ends;
          keeps = λ x h.
              let r = before_last (hop_count (s ∷ m ∷ p) - 1) s (m ∷ p) (omega arith) l.distinct l.walk.ends h in
              may_stand x (known x (inr r.0)) (l.avoids x r.0) r.1;
        };
        most = omega (arith, l.short);
      }
    where
      known : (x : ℕ) → x ∈ (s ∷ m ∷ p) → x < nodes T
      known = walk_known T asked.sound s (m ∷ p) asked.source_known l.walk.linked

  route_leads : (q : List ℕ) → PathWithin most_short_hops T middle s z q → (p : List ℕ) × (q ≡ s ∷ p) × Leads T z most_short_hops barred s p
  route_leads [] r = absurd (omega (arith, r.between.path.some))
  route_leads (t ∷ p) r =
      let e : hop_count (t ∷ p) ≡ length p = omega arith in
      let ends : get_or (t ∷ p) (length p) 0 ≡ z = ap (λ (n : ℕ). get_or (t ∷ p) n 0) (sym e) ∙ r.between.ends in (
        p,
        ap (λ (v : ℕ). v ∷ p) r.between.starts,
        subst (λ (v : ℕ). Leads T z most_short_hops barred v p) r.between.starts (record {
          short = omega (arith, r.most);
          walk = record { linked = r.between.path.linked; ends = ends };
          distinct = r.between.path.distinct;
          avoids = λ x h i. ⊎_elim (λ (j : Has outside x). (o.only x j).1 (a.all x (stands x ends h)))
              (λ (f : x ≡ s). r.between.path.distinct.0 x h (r.between.starts ∙ sym f)) (b.only x i);
        }),
      )
    where
      stands : (x : ℕ) → get_or (t ∷ p) (length p) 0 ≡ z → x ∈ p → Has middle x ⊎ (x ≡ z)
      stands x e h = ⊎_elim (λ i. inl (r.between.keeps x i)) (λ i. inr i) (or_last x (hop_count (t ∷ p) - 1) t p (omega arith) e h)

  exactly_routes : {ws : List (List ℕ)} → Exactly (Leads T z most_short_hops barred s) ws → Exactly (PathWithin most_short_hops T middle s z) (behind (s ∷ []) ws)
  exactly_routes {ws} e = record {
    rising = behind_rising s ws e.rising;
    only = λ q h. let r = in_behind (s ∷ []) q ws h in subst (PathWithin most_short_hops T middle s z) (sym r.2) (leads_route r.0 (e.only r.0 r.1));
    all = λ q h. let r = route_leads q h in subst (λ (v : List ℕ). v ∈ behind (s ∷ []) ws) (sym r.1) (behind_in (s ∷ []) r.0 ws (e.all r.0 r.2));
  }

  -- WHAT THE SEARCH ENDS WITH
  pub found : {t : Tally} {d d' : List ℕ} → Finds (Leads T z most_short_hops barred s) (s ∷ []) (record { count = 0; length = 0; more = false }) d t d' → Found T middle s z t d'
  found {t} {d} {d'} f = record {
    routes = take most_listed rs;
    listed = record { every = rs; exactly = exactly_routes f.exactly; first = refl; more_is = k.more_is };
    length_is = k.length_is;
    inside = omega (arith, f.adds.room.length_most, f.adds.room.count_most, f.adds.room.size);
    buffer = ap (take t.length) (k.buffer ∙ over_front d bytes) ∙ take_at bytes (drop (length bytes) d) t.length (sym k.length_is);
  }
    where
      rs : List (List ℕ)
      rs = behind (s ∷ []) f.walks

      bytes : List ℕ
      bytes = list_bytes (take most_listed rs)

      k : Kept d rs t d'
      k = f.adds.kept d [] (kept_none d)

-- THE ANSWER
module _ {T : Topology} {middle s z : ℕ} {t : Tally} {b : List ℕ} (f : Found T middle s z t b) where
  pub says_short : {out : List ℕ} → length out < t.length → ListSays T middle s z out (Err NoRoom) out
  says_short l = record {
    says = inl ((f.routes, t.more, f.listed, omega (arith, f.length_is)), refl);
    refused = λ g. (record { length_is = refl; buffer = refl }, refl);
    done = λ e. absurd (omega (arith, e));
  }

  pub says_list : {out out' : List ℕ} → t.length ≤ length out → out' ≡ over out 0 (take t.length b)
      → ListSays T middle s z out (Ok (record { length = t.length; more = t.more })) out'
  says_list {out} {out'} l e = record {
    says = inr (fits, refl);
    refused = λ g. absurd (g refl);
    done = λ q. (
      f.routes,
      f.listed,
      record { length_is = f.length_is; buffer = e ∙ ap (over out 0) f.buffer ∙ over_front out (list_bytes f.routes) },
    );
  }
    where
      fits : ListTooLong T middle s z (length out) → ⊥
      fits (routes, more, g, k) =
          let e = ap (λ (v : List (List ℕ)). length (list_bytes v)) (first_unique more t.more g f.listed).0 in
          omega (arith, e, f.length_is, k)
