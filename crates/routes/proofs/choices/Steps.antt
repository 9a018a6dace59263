-- The steps of the search: the walks on from a node are those over its neighbours in turn.
use mathlib.Core.Path.{◌≡◌, refl, sym, subst}
use mathlib.Core.Logic.{◌⊎◌, inl, inr, ⊎_elim}
use mathlib.Core.List.{List, [], ◌∷◌, ◌++◌}
use Prim.Native.Nat.{ℕ, zero, suc, ◌-◌, ◌^◌, ◌<◌, ◌≤◌}
use native.Mathlib.Omega.{arith}
use native.Mathlib.Nat.{lt_of_lt_of_le}
use native.Mathlib.Decide.{ℕ_discrete, dec_lt}
use lib.ListN.{length, get_or}
use lib.Bits.{bit_and, bit_or}
use lib.Count.{count_trailing_zeros}
use lib.Pow.{pow_mono}
use Rattle.rules.specs.Words.{Has, NoBitFrom, ◌∈◌, Pairwise, Earlier}
use Rattle.rules.specs.Topology.{Topology, nodes, Joined, Exactly}
use Rattle.rules.proofs.Lists.{at_in, in_append, in_left, in_right}
use Rattle.rules.proofs.Listing.{exactly_same}
use Rattle.bitset.specs.Sets.{SetOf, Lowest}
use Rattle.bitset.proofs.Bits.{within, zero_none, insert_law, difference_law, lowest_law, rest_law}
use Rattle.bitset.proofs.Members.{lowest_or_rest, rest_less}
use Rattle.routes.specs.choices.Search.{Walk, Avoids, Leads, Onward, behind, Ground}
use Rattle.routes.proofs.choices.Lists.{pairs_append, in_behind, behind_in, behind_rising}

module _ (T : Topology) (z : ℕ) where
  -- a walk is a link, and the walk on from there
  walk_on : {a m : ℕ} {p : List ℕ} → Walk T z a (m ∷ p) → Walk T z m p
  walk_on w = record { linked = w.linked.1; ends = w.ends }

  walk_from : {a m : ℕ} {p : List ℕ} → Joined T a m → Walk T z m p → Walk T z a (m ∷ p)
  walk_from l w = record { linked = (l, w.linked); ends = w.ends }

  ends_in : (a : ℕ) (p : List ℕ) → Walk T z a p → z ∈ (a ∷ p)
  ends_in a p w = subst (λ (v : ℕ). v ∈ (a ∷ p)) w.ends (at_in (a ∷ p) (length p) (omega arith))

  -- at the destination there is nothing more to go
  pub exactly_there : (n barred a : ℕ) → a ≡ z → Exactly (Leads T z n barred a) ([] ∷ [])
  exactly_there n barred a e = record { rising = (λ y h. absurd h, tt); only = only; all = all }
    where
      stay : Leads T z n barred a []
      stay = record { short = omega arith; walk = record { linked = tt; ends = e }; distinct = (λ y h. absurd h, tt); avoids = λ x h. absurd h }

      only : (p : List ℕ) → p ∈ ([] ∷ []) → Leads T z n barred a p
      only p (inl q) = subst (Leads T z n barred a) (sym q) stay
      only p (inr h) = absurd h

      all : (p : List ℕ) → Leads T z n barred a p → p ∈ ([] ∷ [])
      all [] l = inl refl
      all (m ∷ p) l = absurd (l.distinct.0 z (ends_in m p (walk_on l.walk)) e)

  -- with no hop left there is no way elsewhere
  pub exactly_spent : (n barred a : ℕ) → n ≡ 0 → (a ≡ z → ⊥) → Exactly (Leads T z n barred a) []
  exactly_spent n barred a q e = record { rising = tt; only = λ p h. absurd h; all = all }
    where
      all : (p : List ℕ) → Leads T z n barred a p → p ∈ []
      all [] l = e l.walk.ends
      all (m ∷ p) l = absurd (omega (arith, l.short))

  -- what is not barred yet, and what may be left out of it
  module _ (n k barred a next : ℕ) (hops : n ≡ suc k) (apart : a ≡ z → ⊥) (barred_a : Has barred a)
      (only : (m : ℕ) → Has next m → Joined T a m × (Has barred m → ⊥))
      (all : (m : ℕ) (p : List ℕ) → Joined T a m → length p ≤ k → Walk T z m p → Avoids barred (m ∷ p) → Has next m) where
    pub onward : (p : List ℕ) → Leads T z n barred a p → Onward T z k barred next p
    onward [] l = apart l.walk.ends
    onward (m ∷ p) l =
        let s : length p ≤ k = omega (arith, l.short) in (
          all m p l.walk.linked.0 s (walk_on l.walk) l.avoids,
          record { short = s; walk = walk_on l.walk; distinct = l.distinct.1; avoids = λ x h. l.avoids x (inr h) },
        )

    pub back : (p : List ℕ) → Onward T z k barred next p → Leads T z n barred a p
    back [] o = absurd o
    back (m ∷ p) o = record {
      short = omega (arith, o.1.short);
      walk = walk_from (only m o.0).0 o.1.walk;
      distinct = (λ y h e. avoids y h (subst (Has barred) e barred_a), o.1.distinct);
      avoids = avoids;
    }
      where
        avoids : Avoids barred (m ∷ p)
        avoids x (inl e) h = (only m o.0).1 (subst (Has barred) e h)
        avoids x (inr i) h = o.1.avoids x i h

    pub exactly_onward : {ws : List (List ℕ)} → Exactly (Onward T z k barred next) ws → Exactly (Leads T z n barred a) ws
    exactly_onward e = exactly_same back onward e

  -- a node that is barred from here on is none that follows
  pub exactly_barred : {n barred barred' b : ℕ} {ws : List (List ℕ)} → SetOf (λ (k : ℕ). Has barred k ⊎ (k ≡ b)) barred' → Exactly (Leads T z n barred' b) ws
      → Exactly (Leads T z n barred b) ws
  exactly_barred {n} {barred} {barred'} {b} s e = exactly_same to from e
    where
      to : (p : List ℕ) → Leads T z n barred' b p → Leads T z n barred b p
      to p l = record { short = l.short; walk = l.walk; distinct = l.distinct; avoids = λ x h i. l.avoids x h (s.all x (inl i)) }

      from : (p : List ℕ) → Leads T z n barred b p → Leads T z n barred' b p
      from p l = record {
        short = l.short;
        walk = l.walk;
        distinct = l.distinct;
        avoids = λ x h i. ⊎_elim (λ (j : Has barred x). l.avoids x h j) (λ (q : x ≡ b). l.distinct.0 x h (sym q)) (s.only x i);
      }

  pub exactly_none : (n barred : ℕ) → Exactly (Onward T z n barred 0) []
  exactly_none n barred = record { rising = tt; only = λ p h. absurd h; all = all }
    where
      all : (p : List ℕ) → Onward T z n barred 0 p → p ∈ []
      all [] o = o
      all (m ∷ p) o = zero_none m o.0

  -- over the lowest neighbour, and then over the others
  pub exactly_more : {n barred next others b : ℕ} {ws vs : List (List ℕ)} → Lowest next b → SetOf (λ (k : ℕ). Has next k × (Lowest next k → ⊥)) others
      → Exactly (Leads T z n barred b) ws → Exactly (Onward T z n barred others) vs → Exactly (Onward T z n barred next) (behind (b ∷ []) ws ++ vs)
  exactly_more {n} {barred} {next} {others} {b} {ws} {vs} low rest e f = record { rising = rising; only = only; all = all }
    where
      above : (m : ℕ) → Has others m → b < m
      above m h = go (dec_lt b m) (ℕ_discrete m b)
        where
          go : Dec (b < m) → Dec (m ≡ b) → b < m
          go (yes l) d = l
          go (no l) (yes q) = absurd ((rest.only m h).1 (subst (Lowest next) (sym q) low))
          go (no l) (no q) = absurd (low.least m (omega arith) (rest.only m h).0)

      later : (p y : List ℕ) → Onward T z n barred others y → Earlier (b ∷ p) y
      later p [] o = o
      later p (m ∷ y) o = inl (above m o.0)

      rising : Pairwise Earlier (behind (b ∷ []) ws ++ vs)
      rising =
          pairs_append Earlier (behind (b ∷ []) ws) vs (behind_rising b ws e.rising) f.rising
          (λ x y h k. let r = in_behind (b ∷ []) x ws h in subst (λ (v : List ℕ). Earlier v y) (sym r.2) (later r.0 y (f.only y k)))

      wider : (p : List ℕ) → Onward T z n barred others p → Onward T z n barred next p
      wider [] o = o
      wider (m ∷ p) o = ((rest.only m o.0).0, o.1)

      only : (p : List ℕ) → p ∈ (behind (b ∷ []) ws ++ vs) → Onward T z n barred next p
      only p h =
          ⊎_elim (λ k. let r = in_behind (b ∷ []) p ws k in subst (Onward T z n barred next) (sym r.2) (low.member, e.only r.0 r.1))
          (λ k. wider p (f.only p k)) (in_append p (behind (b ∷ []) ws) vs h)

      all : (p : List ℕ) → Onward T z n barred next p → p ∈ (behind (b ∷ []) ws ++ vs)
      all [] o = absurd o
      all (m ∷ p) o = go (lowest_or_rest m low rest o.0)
        where
          go : (m ≡ b) ⊎ Has others m → (m ∷ p) ∈ (behind (b ∷ []) ws ++ vs)
          go (inl q) =
              in_left (m ∷ p) (behind (b ∷ []) ws) vs
              (subst (λ (v : ℕ). (v ∷ p) ∈ behind (b ∷ []) ws) (sym q) (behind_in (b ∷ []) p ws (e.all p (subst (λ (v : ℕ). Leads T z n barred v p) q o.1))))
          go (inr h) = in_right (m ∷ p) (behind (b ∷ []) ws) vs (f.all (m ∷ p) (h, o.1))

  -- THE LIST IS THERE, whether or not the search goes on to its end
  module _ (ground : Ground T z) where
    abbrev Walks : ℕ → Type 0
    Walks n = (barred a : ℕ) → NoBitFrom 64 barred → a < nodes T → Has barred a → (ws : List (List ℕ)) × Exactly (Leads T z n barred a) ws

    over_walks : (n : ℕ) → Walks n → (barred : ℕ) → NoBitFrom 64 barred → (bound next : ℕ) → next ≤ bound → NoBitFrom 64 next → ((m : ℕ) → Has next m → m < nodes T)
        → (ws : List (List ℕ)) × Exactly (Onward T z n barred next) ws
    over_walks n down barred fits zero next l h f = let e : next ≡ 0 = omega arith in ([], subst (λ (v : ℕ). Exactly (Onward T z n barred v) []) (sym e) (exactly_none n barred))
    over_walks n down barred fits (suc bound) next l h f = go (ℕ_discrete next 0) (λ v k i g. over_walks n down barred fits bound v k i g)
      where
        go : Dec (next ≡ 0)
            → ((v : ℕ) → v ≤ bound → NoBitFrom 64 v → ((m : ℕ) → Has v m → m < nodes T) → (ws : List (List ℕ)) × Exactly (Onward T z n barred v) ws)
            → (ws : List (List ℕ)) × Exactly (Onward T z n barred next) ws
        go (yes e) again = ([], subst (λ (v : ℕ). Exactly (Onward T z n barred v) []) (sym e) (exactly_none n barred))
        go (no e) again =
            let b = count_trailing_zeros 64 next in
            let p : 0 < next = omega arith in
            let low = lowest_law next p h in
            let rest = rest_law next p h in
            let barred' = insert_law barred b fits low.small in
            let x = down (bit_or barred (2 ^ b)) b barred'.fits (f b low.member) (barred'.all b (inr refl)) in
            let y = again (bit_and next (next - 1)) (omega (arith, rest_less p h rest)) rest.fits (λ m i. f m (rest.only m i).0) in
            (behind (b ∷ []) x.0 ++ y.0, exactly_more low rest (exactly_barred barred' x.1) y.1)

    row_fits : (a : ℕ) → a < nodes T → NoBitFrom 64 (get_or T.rows a 0)
    row_fits a h = lt_of_lt_of_le (ground.sound.low a h) (pow_mono ground.range.1)

    down_walks : (n : ℕ) → Walks n
    down_walks zero barred a fits known h = go (ℕ_discrete a z)
      where
        go : Dec (a ≡ z) → (ws : List (List ℕ)) × Exactly (Leads T z 0 barred a) ws
        go (yes e) = ([] ∷ [], exactly_there 0 barred a e)
        go (no e) = ([], exactly_spent 0 barred a refl e)
    down_walks (suc k) barred a fits known h = go (ℕ_discrete a z) (over_walks k (down_walks k) barred fits)
      where
        row : ℕ
        row = get_or T.rows a 0

        next : ℕ
        next = bit_and row ((2 ^ 64 - 1) - barred)

        free : SetOf (λ (m : ℕ). Has row m × (Has barred m → ⊥)) next
        free = difference_law row barred (row_fits a known) fits

        under : (m : ℕ) → Has row m → m < nodes T
        under m i = within (nodes T) row m (ground.sound.low a known) i

        go : Dec (a ≡ z)
            → ((bound next : ℕ) → next ≤ bound → NoBitFrom 64 next → ((m : ℕ) → Has next m → m < nodes T) → (ws : List (List ℕ)) × Exactly (Onward T z k barred next) ws)
            → (ws : List (List ℕ)) × Exactly (Leads T z (suc k) barred a) ws
        go (yes e) over = ([] ∷ [], exactly_there (suc k) barred a e)
        go (no e) over =
            let r = over next next (omega arith) free.fits (λ m i. under m (free.only m i).0) in (
              r.0,
              exactly_onward (suc k) k barred a next refl e h free.only
                  (λ m p l s w f. free.all m (l, f m (inl refl)))
                  r.1,
            )

    pub walks_over : (n barred next : ℕ) → NoBitFrom 64 barred → NoBitFrom 64 next → ((m : ℕ) → Has next m → m < nodes T)
        → (ws : List (List ℕ)) × Exactly (Onward T z n barred next) ws
    walks_over n barred next h l f = over_walks n (down_walks n) barred h next next (omega arith) l f
