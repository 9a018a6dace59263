-- Books that agree on what a request depends on answer it alike.
use mathlib.Core.Path.{refl}
use mathlib.Core.Logic.{inl, inr, ◌↔◌}
use mathlib.Core.List.{List, [], ◌∷◌}
use Prim.Native.Nat.{ℕ, suc}
use Rattle.rules.specs.Words.{◌∈◌}
use Rattle.rules.specs.Topology.{NoClash}
use Rattle.rules.specs.Book.{Site, Row, Book}
use Rattle.rules.specs.Placing.{Placing, Asked, Planned, NewRow, NewRows, NoPlacings}
use Rattle.rules.specs.Calls.{Request, OfRoutes}
use Rattle.rules.specs.Calls.Request.{Open, Close}
use Rattle.rules.proofs.Says.{same_says}
use Rattle.theorems.specs.order.Depends.{Agree}
use Rattle.theorems.proofs.order.Steps.{Rows, on, refusals, Answers, Adds}

iff : {A : Type 0} → A ↔ A
iff = (λ h. h, λ h. h)

pub agree_same : (mains : ℕ) (b : Book) (q : Request) → Agree mains b b q
agree_same mains b q = record { site = refl; known = iff; clashing = λ r k. iff; room = iff; pays = iff }

module _ (mains : ℕ) (site : Site) where
  pub agree_turned : (b c : Rows) (q : Request) → Agree mains (on site b) (on site c) q → Agree mains (on site c) (on site b) q
  agree_turned b c (Open q) a = record {
    site = refl;
    known = (a.known.1, a.known.0);
    clashing = λ r k. ((a.clashing r k).1, (a.clashing r k).0);
    room = (a.room.1, a.room.0);
    pays = (a.pays.1, a.pays.0);
  }
  agree_turned b c (Close id) a = record {
    site = refl;
    known = (a.known.1, a.known.0);
    clashing = λ r k. ((a.clashing r k).1, (a.clashing r k).0);
    room = (a.room.1, a.room.0);
    pays = (a.pays.1, a.pays.0);
  }

  -- PLACINGS: the rows c clash with the route only where the rows b do
  abbrev Covers : List ℕ → Rows → Rows → Type 0
  Covers p b c = (r : Row) → (NoClash site.hearing p r.route → ⊥) → r ∈ c → r ∈ b

  covers_more : (p : List ℕ) (r : Row) (b c : Rows) → Covers p b c → Covers p (r ∷ b) (r ∷ c)
  covers_more p r b c f x n (inl e) = inl e
  covers_more p r b c f x n (inr h) = inr (f x n h)

  placing : (K : ℕ) (p os : List ℕ) (b c : Rows) → Covers p b c → Placing (on site b) K p os → Placing (on site c) K p os
  placing K p os b c f g = record {
    offsets_hold = g.offsets_hold;
    free = λ i l. record {
      on_data = (g.free i l).on_data;
      never_meet = λ r m d. (g.free i l).never_meet r (f r (λ n. n i d.hop l d.there d.clash) m) d;
    };
  }

  module _ (q : Asked) where
    -- both ways, for each of the routes
    abbrev Alike : List (List ℕ) → Rows → Rows → Type 0
    Alike ps b c = (p : List ℕ) → p ∈ ps → Covers p b c × Covers p c b

    alike_more : (p : List ℕ) (ps : List (List ℕ)) (r : Row) (b c : Rows) → Alike (p ∷ ps) b c → Alike ps (r ∷ b) (r ∷ c)
    alike_more p ps r b c f x h = let t = f x (inr h) in (covers_more x r b c t.0, covers_more x r c b t.1)

    new_row : (way : ℕ) (p : List ℕ) (r : Row) (b c : Rows) → Covers p b c → Covers p c b → NewRow (on site b) q way p r → NewRow (on site c) q way p r
    new_row way p r b c f g n = record {
      named = n.named;
      nth = n.nth;
      every = n.every;
      on = n.on;
      placed = record {
        placing = placing q.period p r.offsets b c f n.placed.placing;
        first = λ os h. n.placed.first os (placing q.period p os c b g h);
      };
      paid_by = n.paid_by;
    }

    new_rows : (way : ℕ) (ps : List (List ℕ)) (rs b c : Rows) → Alike ps b c → NewRows (on site b) q way ps rs → NewRows (on site c) q way ps rs
    new_rows way [] [] b c f n = tt
    new_rows way [] (r ∷ rs) b c f n = n
    new_rows way (p ∷ ps) [] b c f n = n
    new_rows way (p ∷ ps) (r ∷ rs) b c f n = (
      new_row way p r b c (f p (inl refl)).0 (f p (inl refl)).1 n.0,
      new_rows (suc way) ps rs (r ∷ b) (r ∷ c) (alike_more p ps r b c f) n.1,
    )

    no_placings : (way : ℕ) (ps : List (List ℕ)) (b c : Rows) → Alike ps b c → NoPlacings (on site b) q way ps → NoPlacings (on site c) q way ps
    no_placings way [] b c f n = n
    no_placings way (p ∷ ps) b c f (inl n) = inl (λ os h. n os (placing q.period p os c b (f p (inl refl)).1 h))
    no_placings way (p ∷ ps) b c f (inr (r, n, m)) =
        inr (r, new_row way p r b c (f p (inl refl)).0 (f p (inl refl)).1 n, no_placings (suc way) ps (r ∷ b) (r ∷ c) (alike_more p ps r b c f) m)

    -- books that agree are alike for the routes of the open
    module _ (b c : Rows) (a : Agree mains (on site b) (on site c) (Open q)) where
      routes_alike : (ps : List (List ℕ)) → Planned site.links mains q ps → Alike ps b c
      routes_alike ps pl p h = (λ r n m. (a.clashing r (p, (ps, pl, h), n)).1 m, λ r n m. (a.clashing r (p, (ps, pl, h), n)).0 m)

      none_same : OfRoutes mains q (on site b) (NoPlacings (on site b) q 1)
          → OfRoutes mains q (on site c) (NoPlacings (on site c) q 1)
      none_same n = (n.0, n.1, no_placings 1 n.0 b c (routes_alike n.0 n.1) n.2)

      new_same : (new : Rows) → OfRoutes mains q (on site b) (λ (ps : List (List ℕ)). NewRows (on site b) q 1 ps new)
          → OfRoutes mains q (on site c) (λ (ps : List (List ℕ)). NewRows (on site c) q 1 ps new)
      new_same new n = (n.0, n.1, new_rows 1 n.0 new b c (routes_alike n.0 n.1) n.2)

  -- ANSWERS
  module _ (b c : Rows) where
    pub answers_same : (q : Request) → Agree mains (on site b) (on site c) q → (n : ℕ) → Answers mains site b q n → Answers mains site c q n
    answers_same (Open q) a n =
        same_says (refusals mains site b (Open q)) (refusals mains site c (Open q)) n (
          refl,
          iff,
          λ b1 c1. (
            refl,
            iff,
            λ b4 c4. (
              refl,
              iff,
              λ b5 c5. (
                refl,
                iff,
                λ b6 c6. (
                  refl,
                  iff,
                  λ b22 c22. (
                    refl,
                    a.known,
                    λ b2 c2. (
                      refl,
                      iff,
                      λ b7 c7. (
                        refl,
                        iff,
                        λ b17 c17. (
                          refl,
                          iff,
                          λ b18 c18. (
                            refl,
                            a.room,
                            λ b8 c8. (refl, (none_same q b c a, none_same q c b (agree_turned b c (Open q) a)), λ b9 c9. (refl, a.pays, λ b23 c23. tt)),
                          ),
                        ),
                      ),
                    ),
                  ),
                ),
              ),
            ),
          ),
        )
    answers_same (Close id) a n =
        same_says (refusals mains site b (Close id)) (refusals mains site c (Close id)) n (refl, iff, λ b1 c1. (refl, (λ f h. f (a.known.1 h), λ f h. f (a.known.0 h)), λ b3 c3. tt))

    pub adds_same : (q : Request) → Agree mains (on site b) (on site c) q → (x : Row) → Adds mains site b q x → Adds mains site c q x
    adds_same (Open q) a x (h, (new, n, m)) = (answers_same (Open q) a 0 h, (new, new_same q b c a new n, m))
    adds_same (Close id) a x h = h
