-- What is kept of the routes found so far.
use mathlib.Core.Path.{◌≡◌, refl, sym, ap, ◌∙◌, subst}
use mathlib.Core.Bool.{true, false}
use mathlib.Core.List.{List, [], ◌∷◌, ◌++◌, append_assoc, append-nil}
use Prim.Native.Nat.{ℕ, suc, ◌+◌, ◌-◌, ◌<◌, ◌≤◌}
use native.Mathlib.Omega.{arith}
use lib.ListN.{length, set, take, length-append}
use lib.Seq.{take_all, take-append-le, take-suc-set}
use Rattle.rules.specs.Topology.{hop_count, most_short_hops, most_listed, Exactly}
use Rattle.rules.specs.Calls.{list_bytes}
use Rattle.rules.proofs.Tests.{never}
use Rattle.writer.specs.Over.{over}
use Rattle.writer.proofs.Laws.{then, over_nil, length_over}
use Rattle.writer.proofs.Books.{in_turn_append}
use Rattle.routes.specs.declared.choices.Tally.{Tally}
use Rattle.routes.specs.choices.Search.{short_places, list_room, behind, Room, Kept, Adds, Finds}
use Rattle.routes.proofs.choices.Lists.{behind_append, behind_behind}

-- where nothing was found
pub kept_none : (b : List ℕ) → Kept b [] (record { count = 0; length = 0; more = false }) b
kept_none b = record { count_is = omega arith; more_is = record { yes = λ e. never e; back = λ h. absurd (omega arith) }; length_is = refl; buffer = over_nil b 0 }

-- with more than 32 no route found changes anything
pub kept_on : {d : List ℕ} {rs : List (List ℕ)} {t : Tally} {b : List ℕ} (new : List (List ℕ)) → most_listed < length rs → Kept d rs t b → Kept d (rs ++ new) t b
kept_on {d} {rs} {t} {b} new l k =
    let s : take most_listed (rs ++ new) ≡ take most_listed rs = take-append-le most_listed rs new (omega arith) in
    let n : length (rs ++ new) ≡ length rs + length new = length-append rs new in
    record {
      count_is = omega (arith, k.count_is);
      more_is = record { yes = λ e. omega arith; back = λ h. k.more_is.back l };
      length_is = k.length_is ∙ sym (ap (λ (x : List (List ℕ)). length (list_bytes x)) s);
      buffer = k.buffer ∙ sym (ap (λ (x : List (List ℕ)). over d 0 (list_bytes x)) s);
    }

pub adds_stopped : (new : List (List ℕ)) (t : Tally) (b : List ℕ) → Room t b → t.more ≡ true → Adds new t b t b
adds_stopped new t b r e = record { room = r; kept = λ d rs k. kept_on new (k.more_is.yes e) k }

pub adds_nothing : (t : Tally) (b : List ℕ) → Room t b → Adds [] t b t b
adds_nothing t b r = record { room = r; kept = λ d rs k. subst (λ (x : List (List ℕ)). Kept d x t b) (sym (append-nil rs)) k }

-- after the 32nd only the mark
pub adds_mark : (route : List ℕ) (t : Tally) (b : List ℕ) → Room t b → most_listed ≤ t.count
    → Adds (route ∷ []) t b (record { count = t.count; length = t.length; more = true }) b
adds_mark route t b r l = record {
  room = record { count_most = r.count_most; length_most = r.length_most; size = r.size };
  kept = λ d rs k.
      let s : take most_listed (rs ++ (route ∷ [])) ≡ take most_listed rs = take-append-le most_listed rs (route ∷ []) (omega (arith, k.count_is)) in
      let n : length (rs ++ (route ∷ [])) ≡ length rs + 1 = length-append rs (route ∷ []) in
      record {
        count_is = omega (arith, k.count_is, r.count_most);
        more_is = record { yes = λ e. omega (arith, k.count_is); back = λ h. refl };
        length_is = k.length_is ∙ sym (ap (λ (x : List (List ℕ)). length (list_bytes x)) s);
        buffer = k.buffer ∙ sym (ap (λ (x : List (List ℕ)). over d 0 (list_bytes x)) s);
      };
}

-- before that the route, behind those kept
pub adds_route : (route : List ℕ) (t : Tally) (b o₁ o₂ : List ℕ) → Room t b → 1 ≤ length route → length route ≤ short_places → t.count < most_listed
    → o₁ ≡ over b t.length ((length route - 1) ∷ []) → o₂ ≡ over o₁ (t.length + 1) route
    → Adds (route ∷ []) t b (record { count = t.count + 1; length = t.length + 1 + length route; more = false }) o₂
adds_route route t b o₁ o₂ r some most l p q = record {
  room = record { count_most = omega arith; length_most = omega (arith, r.length_most); size = size };
  kept = kept;
}
  where
    one : length o₁ ≡ length b
    one = ap length p ∙ length_over b t.length ((length route - 1) ∷ []) (omega (arith, r.length_most, r.size))

    size : length o₂ ≡ list_room
    size = ap length q ∙ length_over o₁ (t.length + 1) route (omega (arith, one, r.length_most, r.size)) ∙ one ∙ r.size

    kept : (d : List ℕ) (rs : List (List ℕ)) → Kept d rs t b
        → Kept d (rs ++ (route ∷ [])) (record { count = t.count + 1; length = t.length + 1 + length route; more = false }) o₂
    kept d rs k = record {
      count_is = omega (arith, n, few);
      more_is = record { yes = λ e. never e; back = λ h. absurd (omega (arith, n, few)) };
      length_is = long ∙ sym (ap (λ (x : List (List ℕ)). length (list_bytes x)) s');
      buffer = both ∙ sym (ap (λ (x : List (List ℕ)). over d 0 (list_bytes x)) s');
    }
      where
        few : length rs ≡ t.count
        few = omega (arith, k.count_is)

        n : length (rs ++ (route ∷ [])) ≡ length rs + 1
        n = length-append rs (route ∷ [])

        s : take most_listed rs ≡ rs
        s = take_all most_listed rs (omega (arith, few))

        s' : take most_listed (rs ++ (route ∷ [])) ≡ rs ++ (route ∷ [])
        s' = take_all most_listed (rs ++ (route ∷ [])) (omega (arith, n, few))

        whole : list_bytes (rs ++ (route ∷ [])) ≡ list_bytes rs ++ ((length route - 1) ∷ route)
        whole = in_turn_append (λ p. hop_count p ∷ p) rs (route ∷ []) ∙ ap (λ (x : List ℕ). list_bytes rs ++ x) (append-nil (hop_count route ∷ route))

        before : t.length ≡ length (list_bytes rs)
        before = k.length_is ∙ ap (λ (x : List (List ℕ)). length (list_bytes x)) s

        long : t.length + 1 + length route ≡ length (list_bytes (rs ++ (route ∷ [])))
        long = sym (ap length whole ∙ length-append (list_bytes rs) ((length route - 1) ∷ route) ∙ sum)
          where
            sum : length (list_bytes rs) + length ((length route - 1) ∷ route) ≡ t.length + 1 + length route
            sum = omega (arith, before)

        both : o₂ ≡ over d 0 (list_bytes (rs ++ (route ∷ [])))
        both =
            let b' : b ≡ over d 0 (list_bytes rs) = k.buffer ∙ ap (λ (x : List (List ℕ)). over d 0 (list_bytes x)) s in
            let e₁ : t.length ≡ 0 + length (list_bytes rs) = omega (arith, before) in
            let x₁ = list_bytes rs ++ ((length route - 1) ∷ []) in
            let c₁ : o₁ ≡ over d 0 x₁ = then d b o₁ (list_bytes rs) ((length route - 1) ∷ []) 0 t.length (omega arith) b' e₁ p in
            let e₂ : t.length + 1 ≡ 0 + length x₁ = omega (arith, before, length-append (list_bytes rs) ((length route - 1) ∷ [])) in
            then d o₁ o₂ x₁ route 0 (t.length + 1) (omega arith) c₁ e₂ q
            ∙ ap (λ (x : List ℕ). over d 0 x) (append_assoc (list_bytes rs) ((length route - 1) ∷ []) route ∙ sym whole)

-- WHAT A STEP FINDS
pub finds_nothing : {P : List ℕ → Type 0} (f : List ℕ) (t : Tally) (b : List ℕ) → Room t b → Exactly P [] → Finds P f t b t b
finds_nothing f t b r e = record { walks = []; exactly = e; adds = adds_nothing t b r }

pub finds_stopped : {P : List ℕ → Type 0} (f : List ℕ) (t : Tally) (b : List ℕ) → Room t b → t.more ≡ true → (w : (ws : List (List ℕ)) × Exactly P ws) → Finds P f t b t b
finds_stopped f t b r e w = record { walks = w.0; exactly = w.1; adds = adds_stopped (behind f w.0) t b r e }

pub finds_one : {P : List ℕ → Type 0} (f : List ℕ) {t t' : Tally} {b b' : List ℕ} → Exactly P ([] ∷ []) → Adds (f ∷ []) t b t' b' → Finds P f t b t' b'
finds_one f {t} {t'} {b} {b'} e a = record { walks = [] ∷ []; exactly = e; adds = subst (λ (x : List ℕ). Adds (x ∷ []) t b t' b') (sym (append-nil f)) a }

pub finds_same : {P Q : List ℕ → Type 0} {f : List ℕ} {t t' : Tally} {b b' : List ℕ} → ((ws : List (List ℕ)) → Exactly P ws → Exactly Q ws) → Finds P f t b t' b'
    → Finds Q f t b t' b'
finds_same g x = record { walks = x.walks; exactly = g x.walks x.exactly; adds = x.adds }

-- one node further, and then the others
pub finds_both : {P Q R : List ℕ → Type 0} (f g : List ℕ) (m : ℕ) {t t₁ t₂ : Tally} {b b₁ b₂ : List ℕ} → g ≡ f ++ (m ∷ [])
    → ((ws vs : List (List ℕ)) → Exactly P ws → Exactly Q vs → Exactly R (behind (m ∷ []) ws ++ vs))
    → Finds P g t b t₁ b₁ → Finds Q f t₁ b₁ t₂ b₂ → Finds R f t b t₂ b₂
finds_both f g m {t} {t₁} {t₂} {b} {b₁} {b₂} e join x y = record {
  walks = behind (m ∷ []) x.walks ++ y.walks;
  exactly = join x.walks y.walks x.exactly y.exactly;
  adds = record {
    room = y.adds.room;
    kept = λ d rs k. subst (λ (v : List (List ℕ)). Kept d v t₂ b₂) (line rs) (y.adds.kept d (rs ++ behind g x.walks) (x.adds.kept d rs k));
  };
}
  where
    line : (rs : List (List ℕ)) → (rs ++ behind g x.walks) ++ behind f y.walks ≡ rs ++ behind f (behind (m ∷ []) x.walks ++ y.walks)
    line rs =
        append_assoc rs (behind g x.walks) (behind f y.walks)
        ∙ ap (λ (v : List (List ℕ)). rs ++ v)
        (ap (λ (v : List (List ℕ)). v ++ behind f y.walks) (ap (λ (v : List ℕ). behind v x.walks) e ∙ behind_behind f m x.walks)
        ∙ sym (behind_append f (behind (m ∷ []) x.walks) y.walks))

-- the nodes so far, with one more
pub front_more : (path : List ℕ) (left b : ℕ) → length path ≡ short_places → 1 ≤ left → left ≤ most_short_hops
    → take (short_places - (left - 1)) (set path (short_places - left) b) ≡ take (short_places - left) path ++ (b ∷ [])
front_more path left b n l h =
    let e : short_places - (left - 1) ≡ suc (short_places - left) = omega arith in
    ap (λ (k : ℕ). take k (set path (short_places - left) b)) e ∙ take-suc-set path (short_places - left) b (omega (arith, n))
