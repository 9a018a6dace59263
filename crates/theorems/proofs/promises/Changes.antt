-- An open adds its stream, a close removes its stream, and nothing else moves; a close undoes an open.
use mathlib.Core.Path.{◌≡◌, refl, sym, ap, ◌∙◌, subst}
use mathlib.Core.Logic.{inl, inr, ⊎_elim, ◌↔◌}
use mathlib.Core.List.{List, [], ◌∷◌}
use Prim.Native.Nat.{ℕ}
use native.Mathlib.Decide.{ℕ_discrete}
use native.Mathlib.Omega.{arith}
use lib.ListN.{get_or, take}
use Rattle.rules.specs.Words.{TwoBytes, ◌∈◌}
use Rattle.rules.specs.Says.{Says}
use Rattle.rules.specs.Topology.{Topology, nodes, all_nodes}
use Rattle.rules.specs.Book.{Row, Book, Known}
use Rattle.rules.specs.Placing.{Asked, Planned, NewRows}
use Rattle.rules.specs.Placing.Planned.{one, two}
use Rattle.rules.specs.Image.{newest, encode, Stored}
use Rattle.rules.specs.Calls.{Request, Opened, Closed, Made, open_refusals, request_refusals, Work, Serve}
use Rattle.rules.specs.Calls.Request.{Open, Close}
use Rattle.rules.specs.Order.{id_of, IdInRange}
use Rattle.rules.proofs.Says.{None, says_none, says_unique}
use Rattle.rules.proofs.Lists.{reordered_in, reordered_back, in_append, in_left, in_right}
use Rattle.rules.proofs.Tests.{never}
use Rattle.rules.proofs.Choice.{closed_unique}
use Rattle.rules.proofs.Encoding.{stored_unique}
use Rattle.rules.proofs.Mains.{stored_nodes}
use Rattle.rules.proofs.Reading.{with_rows, lawful_stored, stored_newest}
use Rattle.rules.proofs.Added.{new_route}
use Rattle.theorems.proofs.model.Tests.{tests_known}
use Rattle.theorems.proofs.model.Reading.{stable}
use Rattle.theorems.proofs.order.Lawful.{work_lawful}
use Rattle.theorems.proofs.order.Calls.{taken, ran_one, served_ran}
use Rattle.theorems.specs.promises.Promises.{OnlyMoves, Moves, HasWay, HasStream, OpenAdds, CloseRemoves, CloseUndoesOpen}

-- ONLY ITS OWN STREAM moves where a request is done
pub made_only : (middle : ℕ) (b : Book) (q : Request) (c : Book) → Made middle b q c → OnlyMoves (id_of q) b c
made_only middle b (Open q) c g = record {
  site = g.plus.site;
  others = λ r f. (
    λ m. reordered_back r g.plus.rows (in_right r g.new b.rows m),
    λ m. ⊎_elim (λ (k : r ∈ g.new). absurd (f (new_route q b 1 g.routes g.new g.placed r k).new.named)) (λ (k : r ∈ b.rows). k)
        (in_append r g.new b.rows (reordered_in r g.plus.rows m)),
  );
}
made_only middle b (Close id) c g = record {
  site = sym g.plus.site;
  others = λ r f. (
    λ m. ⊎_elim (λ (k : r ∈ g.gone). absurd (f (g.of_id r k))) (λ (k : r ∈ c.rows). k) (in_append r g.gone c.rows (reordered_in r g.plus.rows m)),
    λ m. reordered_back r g.plus.rows (in_right r g.gone c.rows m),
  );
}

-- the set of all nodes of a book
abbrev all_of : Book → ℕ
all_of b = all_nodes (nodes b.site.links)

-- A DONE REQUEST: the book, what it made of it, and that this was written
pub record Done (image : List ℕ) (q : Request) (len : ℕ) (out' : List ℕ) : Type 0 where
  pub version : ℕ
  pub before : Book
  pub after : Book
  pub held : Stored image version before
  pub work : Work (all_of before) before q 0 after
  pub bytes : take len out' ≡ encode newest after

pub done : (image : List ℕ) (q : Request) (out : List ℕ) (len : ℕ) (out' : List ℕ) → Serve image q out 0 len out' → Done image q len out'
done image q out len out' h = go (ℕ_discrete h.whole 0)
  where
    go : Dec (h.whole ≡ 0) → Done image q len out'
    go (no f) = absurd (f (sym (h.refused f)))
    go (yes z) =
        let (v, b, held, (c, (d, u, e), p, i)) = h.posted.done z in
        let w = subst (λ (mains : ℕ). Work mains b q h.answer d) (ap all_nodes (stored_nodes held)) u in
        record {
          version = v;
          before = b;
          after = c;
          held = held;
          work = subst (Work (all_of b) b q 0) (sym e) (subst (λ (n : ℕ). Work (all_of b) b q n d) (sym (h.done z)) w);
          bytes = taken (p.some (inl (h.done z)));
        }

-- what is written is the image of a lawful book
done_stored : {image : List ℕ} {q : Request} {len : ℕ} {out' : List ℕ} (d : Done image q len out') → IdInRange q → Stored (take len out') newest d.after
done_stored {q = q} {len} {out'} d small =
    let l = work_lawful (all_of d.before) d.before q 0 d.after d.work d.held.lawful small in
    subst (λ (s : List ℕ). Stored s newest d.after) (sym d.bytes) (lawful_stored d.after l)

pub moves : {image : List ℕ} {q : Request} {len : ℕ} {out' : List ℕ} (d : Done image q len out') → IdInRange q → Moves image (id_of q) len out' d.before d.after
moves {q = q} d small = record {
  version = d.version;
  before = d.held;
  after = done_stored d small;
  only = made_only (all_of d.before) d.before q d.after (d.work.done refl);
}

-- where a close is done the id was there
pub closing_known : {image : List ℕ} {id len : ℕ} {out' : List ℕ} (d : Done image (Close id) len out') → Known d.before id
closing_known {id = id} d =
    stable (tests_known d.before id) (says_none (request_refusals (all_of d.before) d.before (Close id)) (omega arith) d.work.says).1.0

-- an open adds its first way, and its second exactly if that was asked for
new_ways : {T : Topology} {middle : ℕ} {q : Asked} {ps : List (List ℕ)} (b : Book) (rs : List Row) → Planned T middle q ps → NewRows b q 1 ps rs
    → HasStream q (with_rows b rs)
new_ways b [] (one s g) n = absurd n
new_ways {q = q} b (r ∷ []) (one s g) n = record {
  first = (r, inl refl, n.0.named, n.0.nth);
  second = (λ h. absurd (only h), λ t. never (sym s ∙ t));
}
  where
    only : HasWay (with_rows b (r ∷ [])) q.id 2 → ⊥
    only (x, inl e, i, w) = omega (arith, n.0.nth, ap (λ (v : Row). v.way) e)
    only (x, inr m, i, w) = m
new_ways b (r ∷ x ∷ rs) (one s g) n = absurd n.1
new_ways b [] (two s g k) n = absurd n
new_ways b (r ∷ []) (two s g k) n = absurd n.1
new_ways b (r ∷ x ∷ rs) (two s g k) n = record {
  first = (r, inl refl, n.0.named, n.0.nth);
  second = (λ h. s, λ t. (x, inr (inl refl), n.1.0.named, n.1.0.nth));
}

-- AN OPEN
module _ {image : List ℕ} {q : Asked} {len : ℕ} {out' : List ℕ} (d : Done image (Open q) len out') where
  made : Opened (all_of d.before) d.before q d.after
  made = d.work.done refl

  none_applies : None (open_refusals (all_of d.before) q d.before)
  none_applies = says_none (open_refusals (all_of d.before) q d.before) (omega arith) d.work.says

  pub fresh : (r : Row) → r ∈ d.before.rows → r.id ≡ q.id → ⊥
  fresh r m e = none_applies.1.1.1.1.1.0 record { row = r; there = m; named = e }

  -- the rows of the id are the new ones
  new_there : (way : ℕ) → HasWay d.after q.id way ↔ HasWay (with_rows d.before made.new) q.id way
  new_there way = (
    λ (r, m, i, w). (
      r,
      ⊎_elim (λ (k : r ∈ made.new). k) (λ (k : r ∈ d.before.rows). absurd (fresh r k i))
          (in_append r made.new d.before.rows (reordered_in r made.plus.rows m)),
      i,
      w,
    ),
    λ (r, m, i, w). (r, reordered_back r made.plus.rows (in_left r made.new d.before.rows m), i, w),
  )

  has_stream : HasStream q d.after
  has_stream =
      let t = new_ways d.before made.new made.planned made.placed in
      record { first = (new_there 1).1 t.first; second = (λ h. t.second.0 ((new_there 2).0 h), λ e. (new_there 2).1 (t.second.1 e)) }

  -- without the new rows it is the book before
  back : Closed d.after q.id d.before
  back = record {
    gone = made.new;
    of_id = λ r m. (new_route q d.before 1 made.routes made.new made.placed r m).new.named;
    none_left = fresh;
    rising = d.held.lawful.rising;
    plus = made.plus;
  }

pub open_adds : OpenAdds
open_adds image q out len out' small h = let d = done image (Open q) out len out' h in (d.before, d.after, moves d small, fresh d, has_stream d)

-- A CLOSE
pub close_removes : CloseRemoves
close_removes image id out len out' h = (d.before, d.after, moves d small, (k.row, k.there, k.named), (d.work.done refl).none_left)
  where
    d : Done image (Close id) len out'
    d = done image (Close id) out len out' h

    k : Known d.before id
    k = closing_known d

    small : TwoBytes id
    small = omega (arith, (d.held.lawful.rows k.row k.there).id_most, k.named)

pub close_undoes_open : CloseUndoesOpen
close_undoes_open image v b held q out len out' small h out₂ number len₂ out₂' full k =
    (zero_said, subst (λ (s : List ℕ). Stored s newest b) (sym bytes) (stored_newest held), λ e. bytes ∙ ap (λ (w : ℕ). encode w b) (sym e) ∙ sym held.bytes)
  where
    d : Done image (Open q) len out'
    d = done image (Open q) out len out' h

    opened : Stored (take len out') newest d.after
    opened = done_stored d small

    there : Closed d.after q.id b
    there = subst (Closed d.after q.id) (stored_unique image d.version v d.before b d.held held).1 (back d)

    says : Says (request_refusals (all_of d.after) d.after (Close q.id)) 0
    says = inr ((none_applies d).0, inr (λ f. let t = (has_stream d).first in f record { row = t.0; there = t.1; named = t.2 }, refl))

    zero_said : number ≡ 0
    zero_said =
        let (n, e, w) = ran_one (number ∷ []) (served_ran opened (Close q.id) small out₂ full number len₂ out₂' k) in
        ap (λ (ns : List ℕ). get_or ns 0 0) e ∙ says_unique (request_refusals (all_of d.after) d.after (Close q.id)) n 0 w.says says

    c : Done (take len out') (Close q.id) len₂ out₂'
    c = done (take len out') (Close q.id) out₂ len₂ out₂' (subst (λ (n : ℕ). Serve (take len out') (Close q.id) out₂ n len₂ out₂') zero_said k)

    closed : Closed d.after q.id c.after
    closed = subst (λ (x : Book). Closed x q.id c.after) (stored_unique (take len out') c.version newest c.before d.after c.held opened).1 (c.work.done refl)

    bytes : take len₂ out₂' ≡ encode newest b
    bytes = c.bytes ∙ ap (encode newest) (closed_unique d.after q.id c.after b closed there)
