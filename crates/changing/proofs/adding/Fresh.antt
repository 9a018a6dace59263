-- The rows of a stream, written one behind the other.
use mathlib.Core.Path.{◌≡◌, refl, sym, ap, ◌∙◌, subst}
use mathlib.Core.Logic.{inl, inr}
use mathlib.Core.List.{List, [], ◌∷◌, ◌++◌, append-nil, append_assoc}
use Prim.Native.Nat.{ℕ, suc, ◌+◌, ◌*◌, ◌<◌, ◌≤◌}
use native.Mathlib.Omega.{arith}
use lib.ListN.{length, take, drop, length-append}
use lib.Seq.{take_at}
use Rattle.rules.specs.Words.{◌∈◌}
use Rattle.rules.specs.Topology.{most_route_hops}
use Rattle.rules.specs.Records.{the_route, the_offsets}
use Rattle.rules.specs.declared.Placed.{Placed}
use Rattle.rules.specs.Placing.{Asked}
use Rattle.rules.specs.Book as books
use Rattle.rules.specs.Book.{Row, hops_in_all, RisingByKey, key_of, key}
use Rattle.rules.specs.Image.{newest, row_length, in_turn, encode_row}
use Rattle.rules.proofs.Encoding.{Sized, AllSized, length_rows}
use Rattle.rules.proofs.Lists.{in_left, in_right, total_append}
use Rattle.writer.specs.Over.{over}
use Rattle.writer.proofs.Laws.{then, over_nil, over_front}
use Rattle.changing.specs.adding.Puts.{Fresh, row_on, rows_on, Held, RoutesPut}

turn_append : {A : Type 0} (f : A → List ℕ) (xs ys : List A) → in_turn f (xs ++ ys) ≡ in_turn f xs ++ in_turn f ys
turn_append f [] ys = refl
turn_append f (x ∷ xs) ys = ap (λ (l : List ℕ). f x ++ l) (turn_append f xs ys) ∙ sym (append_assoc (f x) (in_turn f xs) (in_turn f ys))

nothing : (ps : List Placed) → length ps ≡ 0 → ps ≡ []
nothing [] e = refl
nothing (p ∷ ps) e = absurd (omega arith)

module _ (q : Asked) where
  named : (way : ℕ) (ps : List Placed) (r : Row) → r ∈ rows_on q way ps → r.id ≡ q.id
  named way [] r m = absurd m
  named way (p ∷ ps) r (inl e) = ap (λ (x : Row). x.id) e
  named way (p ∷ ps) r (inr m) = named (suc way) ps r m

  ways : (way : ℕ) (ps : List Placed) (r : Row) → r ∈ rows_on q way ps → (way ≤ r.way) × (r.way < way + length ps)
  ways way [] r m = absurd m
  ways way (p ∷ ps) r (inl e) = let w : r.way ≡ way = ap (λ (x : Row). x.way) e in (omega arith, omega arith)
  ways way (p ∷ ps) r (inr m) = let w = ways (suc way) ps r m in (omega (arith, w.0), omega (arith, w.1))

  rising : (way : ℕ) (ps : List Placed) → RisingByKey (rows_on q way ps)
  rising way [] = tt
  rising way (p ∷ ps) = (λ y m. omega (arith, named (suc way) ps y m, (ways (suc way) ps y m).0), rising (suc way) ps)

  sized : (way : ℕ) (ps : List Placed) → ((p : Placed) → p ∈ ps → Held p) → AllSized newest (rows_on q way ps)
  sized way [] h r m = absurd m
  sized way (p ∷ ps) h r (inl e) =
      let w = (h p (inl refl)).parts in
      subst (Sized newest) (sym e) (record { nodes = omega (arith, w.count); offsets = omega (arith, w.count) })
  sized way (p ∷ ps) h r (inr m) = sized (suc way) ps (λ x k. h x (inr k)) r m

  counted : (way : ℕ) (ps : List Placed) → length (rows_on q way ps) ≡ length ps
  counted way [] = refl
  counted way (p ∷ ps) = omega (arith, counted (suc way) ps)

  pub rows_more : (way : ℕ) (ps : List Placed) (p : Placed)
      → rows_on q way (ps ++ (p ∷ [])) ≡ rows_on q way ps ++ (row_on q (way + length ps) (the_route p.route) (the_offsets p) ∷ [])
  rows_more way [] p = let e : way ≡ way + 0 = omega arith in ap (λ (n : ℕ). row_on q n (the_route p.route) (the_offsets p) ∷ []) e
  rows_more way (x ∷ ps) p =
      let e : suc way + length ps ≡ way + suc (length ps) = omega arith in
      ap (λ (l : List Row). row_on q way (the_route x.route) (the_offsets x) ∷ l)
      (rows_more (suc way) ps p ∙ ap (λ (n : ℕ). rows_on q (suc way) ps ++ (row_on q n (the_route p.route) (the_offsets p) ∷ [])) e)

  -- the rows of some of the routes are written, and the others are left
  pub record Written (all : List Placed) (d : List ℕ) (rest : List Placed) (way : ℕ) (new : List ℕ) (size hops : ℕ) : Type 0 where
    pub done : List Placed
    pub split : all ≡ done ++ rest
    pub way_is : way ≡ 1 + length done
    pub written : new ≡ over d 0 (in_turn (encode_row newest) (rows_on q 1 done))
    pub size_is : size ≡ row_length newest * length done + 3 * hops
    pub hops_are : hops ≡ hops_in_all (rows_on q 1 done)

  pub written_none : {all ps : List Placed} {way : ℕ} {d : List ℕ} → ps ≡ all → way ≡ 1 → Written all d ps way d 0 0
  written_none {d = d} e f = record { done = []; split = sym e; way_is = f; written = over_nil d 0; size_is = refl; hops_are = refl }

  hops_few : (way : ℕ) (ps : List Placed) → ((p : Placed) → p ∈ ps → Held p) → hops_in_all (rows_on q way ps) ≤ most_route_hops * length ps
  hops_few way [] h = omega arith
  hops_few way (p ∷ ps) h = let w = (h p (inl refl)).parts in omega (arith, w.count, w.few, hops_few (suc way) ps (λ x k. h x (inr k)))

  module _ {s : List ℕ} {at : ℕ} {all : List Placed} (w : RoutesPut s at q all) {d : List ℕ} {ps : List Placed} {way size hops : ℕ} {new : List ℕ}
      (b : Written all d ps way new size hops) where
    some : (p : Placed) → p ∈ b.done → Held p
    some p m = w.each p (subst (λ (l : List Placed). p ∈ l) (sym b.split) (in_left p b.done ps m))

    size_so_far : size ≡ length (in_turn (encode_row newest) (rows_on q 1 b.done))
    size_so_far = omega (arith, length_rows newest (rows_on q 1 b.done) (sized 1 b.done some), counted 1 b.done, b.size_is, b.hops_are)

    -- the next of the routes
    module _ {p : Placed} {left : List Placed} (e : ps ≡ p ∷ left) where
      next_held : Held p
      next_held = w.each p (subst (λ (l : List Placed). p ∈ l) (sym b.split) (in_right p b.done ps (subst (λ (l : List Placed). p ∈ l) (sym e) (inl refl))))

      pub next_few : p.route.hops ≤ most_route_hops
      next_few = next_held.few

      pub next_fits : size + (row_length newest + 3 * p.route.hops) ≤ 108
      next_fits =
          omega (arith, b.size_is, b.hops_are, hops_few 1 b.done some, next_few, w.few, ap length b.split, ap length e, length-append b.done ps)

      pub written_more : {way' size' hops' : ℕ} {new' : List ℕ} → length (the_offsets p) ≡ p.route.hops → way' ≡ way + 1
          → size' ≡ size + (row_length newest + 3 * p.route.hops) → hops' ≡ hops + p.route.hops
          → new' ≡ over new size (encode_row newest (row_on q way (the_route p.route) (the_offsets p))) → Written all d left way' new' size' hops'
      written_more {new' = new'} long f g h o =
          let row : Row = row_on q way (the_route p.route) (the_offsets p) in
          let rows : List Row = rows_on q 1 b.done in
          let more : rows_on q 1 (b.done ++ (p ∷ [])) ≡ rows ++ (row ∷ []) =
          rows_more 1 b.done p ∙ ap (λ (n : ℕ). rows ++ (row_on q n (the_route p.route) (the_offsets p) ∷ [])) (sym b.way_is) in
          let bytes : in_turn (encode_row newest) (rows_on q 1 (b.done ++ (p ∷ []))) ≡ in_turn (encode_row newest) rows ++ encode_row newest row =
          ap (in_turn (encode_row newest)) more ∙ turn_append (encode_row newest) rows (row ∷ [])
          ∙ ap (λ (l : List ℕ). in_turn (encode_row newest) rows ++ l) (append-nil (encode_row newest row)) in
          record {
            done = b.done ++ (p ∷ []);
            split = b.split ∙ ap (λ (l : List Placed). b.done ++ l) e ∙ sym (append_assoc b.done (p ∷ []) left);
            way_is = omega (arith, f, b.way_is, length-append b.done (p ∷ []));
            written = then d new new' (in_turn (encode_row newest) rows) (encode_row newest row) 0 size (omega arith) b.written (omega (arith, size_so_far)) o
                ∙ ap (over d 0) (sym bytes);
            size_is = omega (arith, g, h, b.size_is, length-append b.done (p ∷ []));
            hops_are = omega (arith, h, b.hops_are, ap hops_in_all more, total_append books.hops rows (row ∷ []), next_held.parts.count, long);
          }

    -- no route is left
    pub way_few : way ≤ 3
    way_few = omega (arith, b.way_is, w.few, ap length b.split, length-append b.done ps)

    module _ (e : length ps ≡ 0) where
      all_done : all ≡ b.done
      all_done = b.split ∙ ap (λ (l : List Placed). b.done ++ l) (nothing ps e) ∙ append-nil b.done

      pub all_hops : hops_in_all (rows_on q 1 all) ≡ hops
      all_hops = ap (λ (l : List Placed). hops_in_all (rows_on q 1 l)) all_done ∙ sym b.hops_are

      pub all_size : size ≡ row_length newest * length all + 3 * hops
      all_size = omega (arith, b.size_is, ap length all_done)

      pub all_count : length (rows_on q 1 all) ≡ length all
      all_count = counted 1 all

      pub all_fits : size ≤ 108
      all_fits = omega (arith, b.size_is, b.hops_are, hops_few 1 b.done some, w.few, ap length all_done)

      pub fresh : Fresh s q.id at (take size new) (rows_on q 1 all)
      fresh = record {
        vacant = w.room.vacant;
        named = named 1 all;
        ways = λ r m. omega (arith, (ways 1 all r m).1, w.few);
        rising = rising 1 all;
        sized = sized 1 all w.each;
        bytes_are =
            let bytes : List ℕ = in_turn (encode_row newest) (rows_on q 1 b.done) in
            ap (take size) (b.written ∙ over_front d bytes) ∙ take_at bytes (drop (length bytes) d) size (sym size_so_far)
            ∙ ap (λ (l : List Placed). in_turn (encode_row newest) (rows_on q 1 l)) (sym all_done);
      }
