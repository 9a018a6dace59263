-- The keys that entries show, found one after the other.
use mathlib.Core.Path.{◌≡◌, refl, sym, ap, ◌∙◌, subst, subst₂}
use mathlib.Core.Logic.{◌⊎◌, inl, inr, ⊎_elim}
use mathlib.Core.Bool.{Bool, true, false}
use mathlib.Core.List.{List, [], ◌∷◌, ◌++◌}
use Prim.Native.Nat.{ℕ, ◌+◌, ◌<◌, ◌≤◌}
use native.Mathlib.Decide.{dec_lt}
use native.Mathlib.Omega.{arith}
use lib.ListN.{length, get_or, set, take, length-append}
use lib.Seq.{length-take-le, take-suc-set, take-append_seam, get_or-take, get_or_at}
use native.Mathlib.Numerals.{add-one}
use Rattle.rules.specs.Words.{◌∈◌, Distinct, Tests}
use Rattle.rules.specs.Book.{key_of, most_streams}
use Rattle.rules.specs.Table.{on_way}
use Rattle.rules.specs.Tables.{operation_at, id_at, OfStream}
use Rattle.rules.proofs.Lists.{at_in, in_append, in_left, in_right}
use Rattle.rules.proofs.Meeting.{in_at}
use Rattle.rules.proofs.Tests.{fails, tests_eq, said_yes, said_no}
use Rattle.std.specs.List.{IsAnyAnswer}
use lib.Dec.{eqb}
use borrow.Author.Tests.{eqb-true}
use Rattle.entries.specs.Entries.{WayOf}
use Rattle.std.proofs.Common.{Some, None}
use Rattle.entries.specs.Keys.{ShowsKey, KeyAt, Noted, KeysOf, Over}
use Rattle.entries.specs.Keys.Noted.{there, full, put}
use Rattle.entries.proofs.Ways.{some_way}

-- AN ENTRY'S KEY
module _ {sent : Bool} {tables : List ℕ} {i operation : ℕ} (e : operation ≡ operation_at tables i) where
  pub key_none : ((way : ℕ) → OfStream operation way → ⊥) → KeyAt sent tables i 0
  key_none none = record { is = λ k s. absurd (none s.way (subst (λ (o : ℕ). OfStream o s.way) (sym e) s.of_stream)); shows = λ f. absurd (f refl) }

  module _ {way : ℕ} (w : WayOf operation way) where
    same_way : {k : ℕ} (s : ShowsKey sent tables i k) → way ≡ s.way
    same_way s = w.only s.way (subst (λ (o : ℕ). OfStream o s.way) (sym e) s.of_stream)

    pub key_not : {t : Bool} → Tests t (sent ≡ true → operation ≡ on_way way 1) → t ≡ false → KeyAt sent tables i 0
    key_not h n = record {
      is = λ k s. absurd (fails h n (λ y. e ∙ s.from_source y ∙ ap (λ (u : ℕ). on_way u 1) (sym (same_way s))));
      shows = λ f. absurd (f refl);
    }

    pub key_shown : {t : Bool} {id key : ℕ} → Tests t (sent ≡ true → operation ≡ on_way way 1) → t ≡ true → id ≡ id_at tables i → key ≡ key_of id way → (1 ≤ key) × KeyAt sent tables i key
    key_shown h y f g = (
      omega (arith, some_way w.of_stream, g),
      record {
        is = λ k s. g ∙ ap (λ (x : ℕ). key_of x way) f ∙ ap (key_of (id_at tables i)) (same_way s) ∙ sym s.pair;
        shows = λ n. record {
          way = way;
          of_stream = subst (λ (o : ℕ). OfStream o way) e w.of_stream;
          from_source = λ t. sym e ∙ h.yes y t;
          pair = g ∙ ap (λ (x : ℕ). key_of x way) f;
        };
      },
    )

-- whether a key is among others
pub among : (keys : List ℕ) (key : ℕ) {t : Bool} → IsAnyAnswer (λ k u. eqb k key ≡ u) keys t → Tests t (key ∈ keys)
among keys key {t = true} (i, l, h) = said_yes (subst (λ (k : ℕ). k ∈ keys) (eqb-true _ _ (h 0)) (at_in keys i l))
among keys key {t = false} h = said_no (λ m. let k = in_at key keys m in fails (tests_eq (get_or keys k.0 0) key) (h k.0 0 (omega arith) k.1) (sym k.2))

-- a key and its entry are put behind those that are there
pub noted_put : (keys entries : List ℕ) {found key : ℕ} (i : ℕ) → (key ∈ take found keys → ⊥) → found < most_streams → found < length keys → found < length entries
    → Noted keys entries found key i (Some (found + 1)) (set keys found key) (set entries found i)
noted_put keys entries {found} {key} i absent m a b = put absent m (ap (λ (n : ℕ). take n (set keys found key)) (add-one found) ∙ take-suc-set keys found key a)
    (ap (λ (n : ℕ). take n (set entries found i)) (add-one found) ∙ take-suc-set entries found i b)

pub noted_few : {keys entries keys' entries' : List ℕ} {found key i found' : ℕ} → found ≤ most_streams → Noted keys entries found key i (Some found') keys' entries' → found' ≤ most_streams
noted_few l (there m) = l
noted_few l (put n m e f) = omega arith

-- KEYS OF THE FIRST ENTRIES
pub shows_some : {sent : Bool} {tables : List ℕ} {i k : ℕ} → ShowsKey sent tables i k → 1 ≤ k
shows_some s = omega (arith, some_way s.of_stream, s.pair)

distinct_snoc : (xs : List ℕ) (x : ℕ) → Distinct xs → (x ∈ xs → ⊥) → Distinct (xs ++ (x ∷ []))
distinct_snoc [] x d n = (λ y m. absurd m, tt)
distinct_snoc (z ∷ xs) x d n = (
  λ y m. ⊎_elim (d.0 y) (λ (k : y ∈ (x ∷ [])). ⊎_elim (λ (e : y ≡ x). λ (f : z ≡ y). n (inl (sym (f ∙ e)))) (λ k. absurd k) k) (in_append y xs (x ∷ []) m),
  distinct_snoc xs x d.1 (λ m. n (inr m)),
)

front_at : (xs ys : List ℕ) (p : ℕ) → p < length xs → get_or (xs ++ ys) p 0 ≡ get_or xs p 0
front_at xs ys p l = sym (get_or-take (length xs) (xs ++ ys) p 0 l) ∙ ap (λ (zs : List ℕ). get_or zs p 0) (take-append_seam xs ys)

module _ {sent : Bool} {tables : List ℕ} where
  pub keys_none : KeysOf sent tables 0 [] []
  keys_none = record {
    even = refl;
    different = tt;
    all = λ i k l. absurd (omega arith);
    inside = λ p l. absurd (omega arith);
    shown = λ p l. absurd (omega arith);
    first = λ p i l. absurd (omega arith);
  }

  module _ {i key : ℕ} {xs ys : List ℕ} (at : KeyAt sent tables i key) (h : KeysOf sent tables i xs ys) where
    -- an entry more, where what it shows is among the keys
    all_more : (zs : List ℕ) → ((k : ℕ) → k ∈ xs → k ∈ zs) → (1 ≤ key → key ∈ zs) → (j k : ℕ) → j < i + 1 → ShowsKey sent tables j k → k ∈ zs
    all_more zs old new j k l s = go (dec_lt j i)
      where
        go : Dec (j < i) → k ∈ zs
        go (yes m) = old k (h.all j k m s)
        go (no m) =
            let e : j ≡ i = omega arith in
            let t : ShowsKey sent tables i k = subst (λ (x : ℕ). ShowsKey sent tables x k) e s in
            let f : key ≡ k = at.is k t in
            subst (λ (x : ℕ). x ∈ zs) f (new (omega (arith, shows_some t)))

    pub keys_kept : (1 ≤ key → key ∈ xs) → KeysOf sent tables (i + 1) xs ys
    keys_kept new = record {
      even = h.even;
      different = h.different;
      all = all_more xs (λ k m. m) new;
      inside = λ p l. omega (arith, h.inside p l);
      shown = h.shown;
      first = h.first;
    }

    pub keys_put : (key ≡ 0 → ⊥) → (key ∈ xs → ⊥) → KeysOf sent tables (i + 1) (xs ++ (key ∷ [])) (ys ++ (i ∷ []))
    keys_put nonzero absent = record {
      even = omega (arith, length-append xs (key ∷ []), length-append ys (i ∷ []), h.even);
      different = distinct_snoc xs key h.different absent;
      all = all_more (xs ++ (key ∷ [])) (λ k m. in_left k xs (key ∷ []) m) (λ l. in_right key xs (key ∷ []) (inl refl));
      inside = λ p l. at_place p (λ (x k : ℕ). x < i + 1) (omega (arith, l, length-append xs (key ∷ []))) (λ m. omega (arith, h.inside p m)) (omega arith);
      shown = λ p l. at_place p (λ (x k : ℕ). ShowsKey sent tables x k) (omega (arith, l, length-append xs (key ∷ []))) (h.shown p) (at.shows nonzero);
      first = λ p j l s. at_place p (λ (x k : ℕ). ShowsKey sent tables j k → x ≤ j) (omega (arith, l, length-append xs (key ∷ []))) (λ m t. h.first p j m t) (newest j) s;
    }
      where
        -- one of the old, or the new
        at_place : (p : ℕ) (P : ℕ → ℕ → Type 0) → p < length xs + 1 → (p < length xs → P (get_or ys p 0) (get_or xs p 0)) → P i key → P (get_or (ys ++ (i ∷ [])) p 0) (get_or (xs ++ (key ∷ [])) p 0)
        at_place p P l old new = go (dec_lt p (length xs))
          where
            go : Dec (p < length xs) → P (get_or (ys ++ (i ∷ [])) p 0) (get_or (xs ++ (key ∷ [])) p 0)
            go (yes m) = subst₂ P (sym (front_at ys (i ∷ []) p (omega (arith, h.even)))) (sym (front_at xs (key ∷ []) p m)) (old m)
            go (no m) = subst₂ P (sym (get_or_at ys i [] 0 p (omega (arith, h.even)))) (sym (get_or_at xs key [] 0 p (omega arith))) new

        -- none before shows it
        newest : (j : ℕ) → ShowsKey sent tables j key → i ≤ j
        newest j s = go (dec_lt j i)
          where
            go : Dec (j < i) → i ≤ j
            go (yes m) = absurd (absent (h.all j key m s))
            go (no m) = omega arith

  -- A TURN
  module _ {i key found : ℕ} (keys entries : List ℕ) (some : 1 ≤ key) (at : KeyAt sent tables i key) (few : found ≤ most_streams)
      (h : KeysOf sent tables i (take found keys) (take found entries)) where
    pub keys_more : {found' : ℕ} {keys' entries' : List ℕ} → Noted keys entries found key i (Some found') keys' entries'
        → KeysOf sent tables (i + 1) (take found' keys') (take found' entries')
    keys_more (there m) = keys_kept at h (λ k. m)
    keys_more (put n m e f) = subst₂ (KeysOf sent tables (i + 1)) (sym e) (sym f) (keys_put at h (λ z. omega arith) n)

    over_one : (count : ℕ) → i < count → found ≤ length keys → found ≡ most_streams → (key ∈ take found keys → ⊥) → Over sent tables count
    over_one count l m e n = record {
      keys = key ∷ take found keys;
      different = (λ y m f. n (subst (λ (x : ℕ). x ∈ take found keys) (sym f) m), h.different);
      shown = λ k m. ⊎_elim (λ (f : k ≡ key). (i, l, subst (ShowsKey sent tables i) (sym f) (at.shows (λ z. omega arith)))) (λ (m : k ∈ take found keys). old k (in_at k (take found keys) m)) m;
      over = omega (arith, length-take-le found keys m);
    }
      where
        old : (k : ℕ) → (p : ℕ) × (p < length (take found keys)) × (k ≡ get_or (take found keys) p 0) → (j : ℕ) × (j < count) × ShowsKey sent tables j k
        old k (p, m, f) = (get_or (take found entries) p 0, omega (arith, h.inside p m), subst (ShowsKey sent tables (get_or (take found entries) p 0)) (sym f) (h.shown p m))

    pub keys_over : {count : ℕ} {keys' entries' : List ℕ} → i < count → found ≤ length keys → Noted keys entries found key i None keys' entries' → Over sent tables count
    keys_over {count} l m (full n e) = over_one count l m e n
