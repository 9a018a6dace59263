-- The second route that is searched for is the best beside the first, and there is none where none is found.
use mathlib.Core.Path.{◌≡◌, refl, sym, ap, ap₂, ◌∙◌, subst}
use mathlib.Core.Logic.{◌⊎◌, inl, inr, ⊎_elim}
use mathlib.Core.Bool.{Bool, true, false, cond}
use mathlib.Core.List.{List, [], ◌∷◌}
use mathlib.Core.Option.{Option, some, none}
use Prim.Native.Nat.{ℕ, zero, suc, ◌*◌, ◌/◌, ◌^◌, ◌<◌, ◌≤◌}
use native.Mathlib.Omega.{arith}
use native.Mathlib.Nat.{pow-suc, lt_of_not-le}
use native.Mathlib.Decide.{ℕ_discrete}
use lib.Dec.{leb}
use lib.ListN.{length, get_or, set, length-set}
use lib.Seq.{get_or-set_same, get_or-set_other}
use Rattle.rules.specs.Words.{bit, Has, ◌∈◌, Tests}
use Rattle.rules.specs.Topology.{Topology, nodes, SoundTopology, hop_count, middles, most_short_hops, Route, NoRoute, TooFar, SecondPath, SecondRoute}
use Rattle.rules.proofs.Tests.{never, tests_le}
use Rattle.rules.proofs.Sets.{bit_zero, bit_suc}
use Rattle.rules.proofs.Ways.{joined_known}
use Rattle.rules.proofs.Seconds.{WithoutLink, Without, second_found, second_far, second_too_far, second_none}
use Rattle.theorems.specs.model.Search.{and_then, route_of, without, without_all, without_link, second_of}
use Rattle.theorems.proofs.model.Searches.{Found}
use Rattle.theorems.proofs.model.Routes.{route_found}

-- A SET WITHOUT A NUMBER
taken_half : (n b : ℕ) → bit n (suc b) * 2 ^ suc b ≡ 2 * (bit (n / 2) b * 2 ^ b)
taken_half n b = ap₂ ◌*◌ (bit_suc n b) (pow-suc 2 b) ∙ omega arith

taken_most : (b n : ℕ) → bit n b * 2 ^ b ≤ n
taken_most zero n = omega (arith, bit_zero n)
taken_most (suc b) n = omega (arith, taken_half n b, taken_most b (n / 2))

without_half : (n b : ℕ) → without (suc b) n / 2 ≡ without b (n / 2)
without_half n b = omega (arith, taken_half n b, taken_most b (n / 2))

gone : (b n : ℕ) → bit (without b n) b ≡ 0
gone zero n = bit_zero (without 0 n) ∙ omega (arith, bit_zero n)
gone (suc b) n = bit_suc (without (suc b) n) b ∙ ap (λ (x : ℕ). bit x b) (without_half n b) ∙ gone b (n / 2)

kept : (b a n : ℕ) → (a ≡ b → ⊥) → bit (without b n) a ≡ bit n a
kept zero zero n f = absurd (f refl)
kept zero (suc a) n f =
    let e : without 0 n / 2 ≡ n / 2 = omega (arith, bit_zero n) in
    bit_suc (without 0 n) a ∙ ap (λ (x : ℕ). bit x a) e ∙ sym (bit_suc n a)
kept (suc b) zero n f = bit_zero (without (suc b) n) ∙ omega (arith, taken_half n b, taken_most b (n / 2), bit_zero n)
kept (suc b) (suc a) n f =
    bit_suc (without (suc b) n) a ∙ ap (λ (x : ℕ). bit x a) (without_half n b) ∙ kept b a (n / 2) (λ e. f (ap suc e)) ∙ sym (bit_suc n a)

without_all_lem : (b a n : ℕ) → Has n a → (a ≡ b → ⊥) → Has (without b n) a
without_all_lem b a n h f = kept b a n f ∙ h

without_only : (b a n : ℕ) → Has (without b n) a → Has n a × (a ≡ b → ⊥)
without_only b a n h = go (ℕ_discrete a b)
  where
    go : Dec (a ≡ b) → Has n a × (a ≡ b → ⊥)
    go (yes e) = absurd (omega (arith, h, gone b n, ap (λ (x : ℕ). bit (without b n) x) e))
    go (no f) = (sym (kept b a n f) ∙ h, f)

all_without : (bs : List ℕ) (n a : ℕ) → Has n a → (a ∈ bs → ⊥) → Has (without_all bs n) a
all_without [] n a h f = h
all_without (b ∷ bs) n a h f = without_all_lem b a (without_all bs n) (all_without bs n a h (λ m. f (inr m))) (λ e. f (inl e))

only_without : (bs : List ℕ) (n a : ℕ) → Has (without_all bs n) a → Has n a × (a ∈ bs → ⊥)
only_without [] n a h = (h, λ m. m)
only_without (b ∷ bs) n a h =
    let g = without_only b a (without_all bs n) h in
    let k = only_without bs n a g.0 in
    (k.0, λ m. ⊎_elim g.1 k.1 m)

pub middles_left : (middle : ℕ) (first : List ℕ) → Without middle first (without_all (middles first) middle)
middles_left middle first = record { only = only_without (middles first) middle; all = all_without (middles first) middle }

-- A TOPOLOGY WITHOUT A LINK
module _ (T : Topology) (a b : ℕ) where
  abbrev row : ℕ → ℕ
  row x = get_or T.rows x 0

  -- the number is the row of x without the link
  record CutRow (x n : ℕ) : Type 0 where
    less : n ≤ row x
    only : (y : ℕ) → Has n y → Has (row x) y × (x ≡ a → y ≡ b → ⊥) × (x ≡ b → y ≡ a → ⊥)
    all : (y : ℕ) → Has (row x) y → (x ≡ a → y ≡ b → ⊥) → (x ≡ b → y ≡ a → ⊥) → Has n y

  cut_row : (x : ℕ) → x < nodes T → CutRow x (get_or (without_link T a b).rows x 0)
  cut_row x l = go (ℕ_discrete x b) (ℕ_discrete x a)
    where
      one : List ℕ
      one = set T.rows a (without b (row a))

      other : (x ≡ b → ⊥) → get_or (without_link T a b).rows x 0 ≡ get_or one x 0
      other f = get_or-set_other one b x (without a (row b)) 0 f

      here : (l : List ℕ) (i n : ℕ) → x ≡ i → x < length l → get_or (set l i n) x 0 ≡ n
      here l i n e h = ap (λ (v : ℕ). get_or (set l i n) v 0) e ∙ get_or-set_same l i n 0 (subst (λ (v : ℕ). v < length l) e h)

      of_b : x ≡ b → CutRow x (without a (row x))
      of_b e = record {
        less = omega arith;
        only = λ y h. let g = without_only a y (row x) h in (g.0, λ i j. g.1 (j ∙ sym e ∙ i), λ i. g.1);
        all = λ y h f g. without_all_lem a y (row x) h (g e);
      }

      of_a : x ≡ a → (x ≡ b → ⊥) → CutRow x (without b (row x))
      of_a e n = record {
        less = omega arith;
        only = λ y h. let g = without_only b y (row x) h in (g.0, λ i. g.1, λ i. absurd (n i));
        all = λ y h f g. without_all_lem b y (row x) h (f e);
      }

      go : Dec (x ≡ b) → Dec (x ≡ a) → CutRow x (get_or (without_link T a b).rows x 0)
      go (yes e) d =
          let h : x < length one = omega (arith, length-set T.rows a (without b (row a))) in
          subst (CutRow x) (ap (λ (v : ℕ). without a (row v)) e ∙ sym (here one b (without a (row b)) e h)) (of_b e)
      go (no n) (yes e) = subst (CutRow x) (ap (λ (v : ℕ). without b (row v)) e ∙ sym (other n ∙ here T.rows a (without b (row a)) e l)) (of_a e n)
      go (no n) (no m) = subst (CutRow x) (sym (other n ∙ get_or-set_other T.rows a x (without b (row a)) 0 m))
          record { less = omega arith; only = λ y h. (h, λ i. absurd (m i), λ i. absurd (n i)); all = λ y h f g. h }

  pub link_gone : SoundTopology T → WithoutLink T a b (without_link T a b)
  link_gone s = record {
    even = even;
    low = λ x l. omega (arith, s.low x l, (cut_row x l).less);
    only = λ x y h. (cut_row x (subst (λ (n : ℕ). x < n) even (joined_known (without_link T a b) x y h))).only y h;
    all = λ x y h. (cut_row x (joined_known T x y h)).all y h;
  }
    where
      even : nodes (without_link T a b) ≡ nodes T
      even = length-set (set T.rows a (without b (row a))) b (without a (row b)) ∙ length-set T.rows a (without b (row a))

-- THE SECOND ROUTE
module _ (T : Topology) (middle a z : ℕ) (sound : SoundTopology T) (first : List ℕ) (r : Route T middle a z first) where
  -- there is none beside the first
  abbrev pub NoneBeside : Type 0
  NoneBeside = (p : List ℕ) → SecondPath T middle a z first p → ⊥

  cut : WithoutLink T a z (without_link T a z)
  cut = link_gone T a z sound

  rest : Without middle first (without_all (middles first) middle)
  rest = middles_left middle first

  pub beside_found : Found (SecondRoute T middle a z first) NoneBeside (second_of T middle a z first)
  beside_found = go (route_of (without_link T a z) (without_all (middles first) middle) a z) (route_found (without_link T a z) (without_all (middles first) middle) a z)
    where
      on : (p : List ℕ) → Route (without_link T a z) (without_all (middles first) middle) a z p → (t : Bool) → Tests t (hop_count p ≤ most_short_hops)
          → Found (SecondRoute T middle a z first) NoneBeside (cond t (some p) none)
      on p g true t = second_found r cut rest p g (t.yes refl)
      on p g false t = second_far r cut rest p g (lt_of_not-le (λ l. never (t.back l)))

      go : (o : Option (List ℕ))
          → Found (Route (without_link T a z) (without_all (middles first) middle) a z)
          (TooFar (without_link T a z) (without_all (middles first) middle) a z ⊎ NoRoute (without_link T a z) (without_all (middles first) middle) a z) o
          → Found (SecondRoute T middle a z first) NoneBeside (and_then o (λ (p : List ℕ). cond (leb (hop_count p) most_short_hops) (some p) none))
      go none (inl g) = second_too_far r cut rest g
      go none (inr g) = second_none r cut rest g
      go (some p) g = on p g (leb (hop_count p) most_short_hops) (tests_le (hop_count p) most_short_hops)
