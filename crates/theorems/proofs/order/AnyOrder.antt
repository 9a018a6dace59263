-- Demand 3: opens and closes of different ids, apart from each other, with room for all, in any order.
use mathlib.Core.Path.{◌≡◌, sym, ap, ◌∙◌, subst}
use mathlib.Core.Logic.{inl, inr, ⊎_elim, ◌↔◌}
use mathlib.Core.List.{List, [], ◌∷◌}
use Prim.Native.Nat.{ℕ, ◌≤◌}
use native.Mathlib.Omega.{arith}
use lib.ListN.{length}
use Rattle.rules.specs.Words.{NoBitFrom, ◌∈◌, Reordered, Pairwise}
use Rattle.rules.specs.Topology.{nodes}
use Rattle.rules.specs.Book.{Row, Book}
use Rattle.rules.specs.Image.{newest, encode, Stored}
use Rattle.rules.specs.Calls.{Request, most_requests}
use Rattle.rules.specs.Order.{id_of, IdInRange, DifferentIds, Apart, Room, Posting, SameStream, AsAlone, InAnyOrder, AnyOrder, Ample}
use Rattle.rules.proofs.Says.{says_unique}
use Rattle.rules.proofs.Lists.{rising_unique, reordered_in, reordered_back, reordered_length}
use Rattle.rules.proofs.Lawful.{in_order_site}
use Rattle.rules.proofs.Unique.{zero_in}
use Rattle.theorems.proofs.order.Lists.{each_map, each_in, each_out, pairwise_both, pair_of, pairs_reordered}
use Rattle.theorems.proofs.order.Lawful.{works_lawful}
use Rattle.theorems.proofs.order.Steps.{on, refusals, Answers, Adds, Drops, adds_own, drops_own, After, after}
use Rattle.theorems.proofs.order.Calls.{Ran, posting_ran, alone, some_posting}
use Rattle.theorems.proofs.order.Run.{room_reordered, Separate, separate_turned, begin, From, Ends, run}

module _ (image : List ℕ) (v : ℕ) (b : Book) (mains : ℕ) (qs : List Request) (held : Stored image v b) (low : NoBitFrom (nodes b.site.links) mains)
    (few : length qs ≤ most_requests) (small : (q : Request) → q ∈ qs → IdInRange q) (ids : Pairwise DifferentIds qs) (apart : Pairwise (Apart mains b) qs) (room : Room mains b qs) where
  separate : Pairwise (Separate mains b.site b.rows) qs
  separate = pairwise_both DifferentIds (Apart mains b) qs ids apart

  -- the rows of one id are those that the request of that id leaves alone
  own_rows : (q : Request) (x : Row) → q ∈ qs → x.id ≡ id_of q → From mains b.site b.rows b.rows qs x ↔ After mains b.site b.rows q x
  own_rows q x h e = (onto, back)
    where
      that : (v : Request) → v ∈ qs → x.id ≡ id_of v → v ≡ q
      that v k m = ⊎_elim (λ u. u) (λ u. absurd (u.0 (sym m ∙ e))) (pair_of (Separate mains b.site b.rows) (separate_turned mains b.site b.rows) qs v q separate k h)

      onto : From mains b.site b.rows b.rows qs x → After mains b.site b.rows q x
      onto (inl k) = inl (k.0, k.1 q h)
      onto (inr (v, k, m)) = inr (subst (λ (u : Request). Adds mains b.site b.rows u x) (that v k (adds_own mains b.site b.rows v x m).0) m)

      back : After mains b.site b.rows q x → From mains b.site b.rows b.rows qs x
      back (inl k) = inl (k.0, λ v m c. k.1 (subst (λ (u : Request). Drops mains b.site b.rows u x) (that v m (drops_own mains b.site b.rows v x c).0) c))
      back (inr k) = inr (q, h, k)

  module _ (ps : List Request) (perm : Reordered qs ps) where
    few_too : length ps ≤ most_requests
    few_too = omega (arith, reordered_length perm)

    small_too : (q : Request) → q ∈ ps → IdInRange q
    small_too q m = small q (reordered_in q perm m)

    any : (x : Row) → From mains b.site b.rows b.rows ps x ↔ From mains b.site b.rows b.rows qs x
    any x = (
      ⊎_elim (λ h. inl (h.0, λ q k. h.1 q (reordered_back q perm k))) (λ h. inr (h.0, reordered_in h.0 perm h.1, h.2)),
      ⊎_elim (λ h. inl (h.0, λ q k. h.1 q (reordered_in q perm k))) (λ h. inr (h.0, reordered_back h.0 perm h.1, h.2)),
    )

    module _ (answers last : List ℕ) (r : Ran image mains b ps answers last) where
      -- of the last rows it can be said without the order
      ended : Ends mains b.site b.rows b.rows ps answers r.book
      ended =
          let apart_too = pairs_reordered (Separate mains b.site b.rows) (separate_turned mains b.site b.rows) perm separate in
          run mains b.site b.rows b.rows ps answers r.book (begin mains b.site b.rows ps apart_too (room_reordered mains b qs ps perm room)) r.works

      from : (x : Row) → (x ∈ r.book.rows) ↔ From mains b.site b.rows b.rows qs x
      from x = (λ k. (any x).0 ((ended.from x).0 k), λ k. (ended.from x).1 ((any x).1 k))

      as_alone : (q : Request) → q ∈ ps → (n : ℕ) → Answers mains b.site b.rows q n → AsAlone Ample image mains last q n
      as_alone q m n a number answers' last' p =
          let d = alone held low q (small_too q m) number answers' last' p in (
            d.answers_are ∙ ap (λ (k : ℕ). k ∷ []) (says_unique (refusals mains b.site b.rows q) d.answer n d.step.says a),
            (
              r.version,
              d.version,
              r.book,
              on b.site d.rows,
              r.holds,
              d.holds,
              λ x e.
                  let u = own_rows q x (reordered_in q perm m) e in
                  let w = after mains b.site b.rows q d.answer d.rows d.step x in
                  (λ l. w.1 (u.0 ((from x).0 l)), λ l. (from x).1 (u.1 (w.0 l))),
            ),
          )

      others_stay : (id : ℕ) → ((q : Request) → q ∈ qs → id_of q ≡ id → ⊥) → SameStream id last image
      others_stay id f = (
        r.version,
        v,
        r.book,
        b,
        r.holds,
        held,
        λ x e. (
          λ k. ⊎_elim (λ h. h.0) (λ h. absurd (f h.0 h.1 (sym (adds_own mains b.site b.rows h.0 x h.2).0 ∙ e))) ((from x).0 k),
          λ k. (from x).1 (inl (k, λ q m h. f q m (sym (drops_own mains b.site b.rows q x h).0 ∙ e))),
        ),
      )

  -- two orders
  module _ (ps ps' : List Request) (m : Reordered qs ps) (m' : Reordered qs ps') (ns ns' last last' : List ℕ) (r : Ran image mains b ps ns last) (r' : Ran image mains b ps' ns' last') where
    -- where a request was done in the one it was in the other
    zero_too : 0 ∈ ns → 0 ∈ ns'
    zero_too z =
        let (q, i, a) = each_out (Answers mains b.site b.rows) ps ns 0 (ended ps m ns last r).each z in
        let (n, k, c) = each_in (Answers mains b.site b.rows) ps' ns' q (ended ps' m' ns' last' r').each (reordered_back q m' (reordered_in q m i)) in
        subst (λ (x : ℕ). x ∈ ns') (says_unique (refusals mains b.site b.rows q) n 0 c a) k

    same_book : r.book ≡ r'.book
    same_book =
        let l = works_lawful mains b ps ns r.book r.works held.lawful (small_too ps m) in
        let l' = works_lawful mains b ps' ns' r'.book r'.works held.lawful (small_too ps' m') in
        λ i. record {
          site = (in_order_site mains b ps ns r.book r.works ∙ sym (in_order_site mains b ps' ns' r'.book r'.works)) i;
          rows = rising_unique r.book.rows r'.book.rows l.rising l'.rising
              (λ x k. (from ps' m' ns' last' r' x).1 ((from ps m ns last r x).0 k)) (λ x k. (from ps m ns last r x).1 ((from ps' m' ns' last' r' x).0 k)) i;
        }

  same_last : (ps ps' : List Request) (ns ns' last last' : List ℕ) → Reordered qs ps → Reordered qs ps' → Ran image mains b ps ns last → Ran image mains b ps' ns' last' → last ≡ last'
  same_last ps ps' ns ns' last last' m m' r r' = go (zero_in ns)
    where
      go : Dec (0 ∈ ns) → last ≡ last'
      go (yes z) = r.some z ∙ ap (encode newest) (same_book ps ps' m m' ns ns' last last' r r') ∙ sym (r'.some (zero_too ps ps' m m' ns ns' last last' r r' z))
      go (no f) = r.none f ∙ sym (r'.none (λ z. f (zero_too ps' ps m' m ns' ns last' last r' r z)))

  ran_of : (ps : List Request) → Reordered qs ps → (n : ℕ) (answers last : List ℕ) → Posting Ample image mains ps n answers last → (n ≡ 0) × Ran image mains b ps answers last
  ran_of ps m = posting_ran held low ps (small_too ps m) (few_too ps m)

  in_any_order : InAnyOrder Ample image mains qs
  in_any_order = record {
    some = λ ps m. some_posting held low ps (few_too ps m);
    each = λ ps n answers last m h.
        let (z, r) = ran_of ps m n answers last h in
        (z, each_map (Answers mains b.site b.rows) (AsAlone Ample image mains last) ps answers (as_alone ps m answers last r) (ended ps m answers last r).each);
    others = λ ps n answers last m h. others_stay ps m answers last (ran_of ps m n answers last h).1;
    one = λ ps ps' n n' answers answers' last last' m m' h h'.
        same_last ps ps' answers answers' last last' m m' (ran_of ps m n answers last h).1 (ran_of ps' m' n' answers' last' h').1;
  }

-- demand 3
pub any_order : AnyOrder
any_order = in_any_order
