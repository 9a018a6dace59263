-- The index decides nothing, is that of the last book, and loses to a close the bits of its stream alone.
use mathlib.Core.Path.{◌≡◌, refl, sym, ◌∙◌, subst}
use mathlib.Core.Logic.{inl, inr, ⊎_elim, ◌↔◌}
use Prim.Native.Nat.{ℕ, ◌<◌}
use native.Mathlib.Omega.{arith}
use lib.ListN.{length}
use Rattle.rules.specs.Words.{Has, SetOf, ◌∈◌}
use Rattle.rules.specs.Says.{Says}
use Rattle.rules.specs.Tiles.{slots_of, short_tiles, Takes}
use Rattle.rules.specs.Topology.{Hop, Touches}
use Rattle.rules.specs.Book.{Site, Row, Book, row_hop, row_offset, LawfulBook}
use Rattle.rules.specs.Image.{newest, longest_image}
use Rattle.rules.specs.Index.{Marks, index_length, Indexed}
use Rattle.rules.specs.Calls.{SaysOf, Work, Closed, post_refusals}
use Rattle.rules.specs.Order.{current}
use Rattle.rules.proofs.Lists.{reordered_in, reordered_back, in_append, in_right}
use Rattle.rules.proofs.Encoding.{stored_unique}
use Rattle.rules.proofs.Index.{stored_index}
use Rattle.rules.proofs.Choice.{work_unique, in_order_unique}
use Rattle.rules.proofs.Unique.{Answered, answered, one_answered}
use Rattle.theorems.proofs.order.Calls.{low_post, ran}
use Rattle.theorems.specs.promises.Index.{IndexDecidesNothing, IndexIsOfLastBook, Own, CloseTakesItsOwn}

-- an index that is short exactly if another is is refused alike
room_alike : (mains count room index other v : ℕ) (b : Book) (n : ℕ) → (index < index_length b.site.plan → other < index_length b.site.plan)
    → (other < index_length b.site.plan → index < index_length b.site.plan) → Says (post_refusals mains count room index v b) n → Says (post_refusals mains count room other v b) n
room_alike mains count room index other v b n f g (inl p) = inl p
room_alike mains count room index other v b n f g (inr (p, inl q)) = inr (p, inl q)
room_alike mains count room index other v b n f g (inr (p, inr (q, inl (inl r, e)))) = inr (p, inr (q, inl (inl r, e)))
room_alike mains count room index other v b n f g (inr (p, inr (q, inl (inr r, e)))) = inr (p, inr (q, inl (inr (f r), e)))
room_alike mains count room index other v b n f g (inr (p, inr (q, inr (r, e)))) =
    inr (p, inr (q, inr (λ k. r (⊎_elim (λ (l : room < longest_image newest). inl l) (λ (l : other < index_length b.site.plan). inr (g l)) k), e)))

pub index_decides_nothing : IndexDecidesNothing
index_decides_nothing image mains qs out before index other alike n len index' out' answers p m size other' out'' marks p' =
    let r = one_answered image mains qs out before (answered image mains qs out before p) same in
    (r.0.number, r.0.len, r.0.out, r.1)
  where
    given : Answered image mains qs out before (length other) m size out'' marks
    given = answered image mains qs out before p'

    same : Answered image mains qs out before (length index) m size out'' marks
    same = record { says = go given.says; refused = given.refused; done = given.done }
      where
        go : SaysOf image (post_refusals mains (length qs) (length out) (length other)) m → SaysOf image (post_refusals mains (length qs) (length out) (length index)) m
        go (inl s) = inl s
        go (inr (v, b, s, h)) =
            let e = stored_index s in
            inr (
              v,
              b,
              s,
              room_alike mains (length qs) (length out) (length other) (length index) v b m (λ l. subst (λ (k : ℕ). length index < k) e (alike.1 (subst (λ (k : ℕ). length other < k) (sym e) l)))
                  (λ l. subst (λ (k : ℕ). length other < k) e (alike.0 (subst (λ (k : ℕ). length index < k) (sym e) l))) h,
            )

pub index_is_of_last_book : IndexIsOfLastBook
index_is_of_last_book image mains qs index out before len index' out' answers small p v c held =
    let (w, b, s, (d, works, posted, indexed)) = p.done refl in
    let r = ran s (low_post qs s p) qs small index out before len index' out' answers p in
    let u = in_order_unique (Work mains) (work_unique mains) b qs answers answers d r.book works r.works in
    let e = stored_unique (current image len out') r.version v r.book c r.holds held in
    subst (λ (x : Book). Indexed x index index') (u.1 ∙ e.1) indexed

-- A CLOSE
module _ (b : Book) (id : ℕ) (c : Book) (l : LawfulBook b) (o : Closed b id c) where
  there : (r : Row) → r ∈ c.rows → r ∈ b.rows
  there r m = reordered_back r o.plus.rows (in_right r o.gone c.rows m)

  stays : (r : Row) → r ∈ b.rows → (r.id ≡ id → ⊥) → r ∈ c.rows
  stays r m f = ⊎_elim (λ (g : r ∈ o.gone). absurd (f (o.of_id r g))) (λ (k : r ∈ c.rows). k) (in_append r o.gone c.rows (reordered_in r o.plus.rows m))

  module _ (end : Hop → ℕ) (touch : (h : Hop) → Touches (end h) h) (slot node : ℕ) where
    at_slot : (m : Marks end c slot node) → Takes b.site.plan.slots m.row.period (row_offset m.row m.hop) slot
    at_slot m = subst (λ (site : Site). Takes site.plan.slots m.row.period (row_offset m.row m.hop) slot) (sym o.plus.site) m.active.takes

    before : Marks end c slot node → Marks end b slot node
    before m = record {
      row = m.row;
      hop = m.hop;
      active = record { row = there m.row m.active.row; hop = m.active.hop; takes = at_slot m };
      short = m.short;
      at = m.at;
    }

    -- two rows with the node at this end in the slot would clash and meet
    other : Marks end c slot node → Own end b id slot node → ⊥
    other m (x, e) = l.never_meet record {
      one = m.row;
      other = x.row;
      one_there = there m.row m.active.row;
      other_there = x.active.row;
      different = λ k. o.none_left m.row m.active.row
          (omega (arith, k, e, (l.rows m.row (there m.row m.active.row)).way_most, (l.rows x.row x.active.row).way_most));
      meets = record {
        hop = m.hop;
        there = m.active.hop;
        meets = record {
          hop = x.hop;
          there = x.active.hop;
          clash = inl (
            node,
            subst (λ (a : ℕ). Touches a (row_hop m.row m.hop)) (sym m.at) (touch (row_hop m.row m.hop)),
            subst (λ (a : ℕ). Touches a (row_hop x.row x.hop)) (sym x.at) (touch (row_hop x.row x.hop)),
          );
          meet = record { slot = slot; left = at_slot m; right = x.active.takes };
        };
      };
    }

    after : Marks end b slot node → (Own end b id slot node → ⊥) → Marks end c slot node
    after m f = record {
      row = m.row;
      hop = m.hop;
      active = record {
        row = stays m.row m.active.row (λ e. f (m, e));
        hop = m.active.hop;
        takes = subst (λ (site : Site). Takes site.plan.slots m.row.period (row_offset m.row m.hop) slot) o.plus.site m.active.takes;
      };
      short = m.short;
      at = m.at;
    }

    taken_out : {word word' : ℕ} → SetOf (Marks end b slot) word → SetOf (Marks end c slot) word' → Has word' node ↔ (Has word node × (Own end b id slot node → ⊥))
    taken_out s t = (
      λ h. let m = t.only node h in (s.all node (before m), other m),
      λ h. t.all node (after (s.only node h.0) h.1),
    )

pub close_takes_its_own : CloseTakesItsOwn
close_takes_its_own b id c l o words words' g h slot node k =
    let k' = subst (λ (site : Site). slot < slots_of site.plan short_tiles) o.plus.site k in (
      taken_out b id c l o (λ h. h.from) (λ h. inl refl) slot node (g.sending slot k) (h.sending slot k'),
      taken_out b id c l o (λ h. h.to) (λ h. inr refl) slot node (g.receiving slot k) (h.receiving slot k'),
    )
