-- What is lent of the words that are kept beside a book is its index.
use mathlib.Core.Path.{◌≡◌, sym, ◌∙◌, ap, subst}
use mathlib.Core.List.{List, ◌++◌}
use Prim.Native.Nat.{ℕ, ◌+◌, ◌*◌, ◌<◌, ◌≤◌}
use native.Mathlib.Omega.{arith}
use lib.ListN.{length, get_or, take, drop, take-append-drop}
use lib.Seq.{length-take-le, get_or-take}
use Rattle.rules.specs.Words.{SetOf}
use Rattle.rules.specs.Tiles.{short_tiles}
use Rattle.rules.specs.Book.{Book, LawfulBook}
use Rattle.rules.specs.Index.{Marks, index_length, IndexOf, Indexed}
use Rattle.image.proofs.Hops.{offset_within}
use Rattle.index.specs.Index as inner
use Rattle.index.specs.Index.{Ends}
use Rattle.index.specs.Areas.{word_at}
use Rattle.index.specs.Folding.{Lent}
use Rattle.index.proofs.Ends.{lent_ends}
use Rattle.bitset.specs.clash.Reach.{End, node_at}
use Rattle.bitset.specs.clash.Reach.End.{sender, receiver}

-- THE INDEX of a lawful book
module _ {b : Book} (l : LawfulBook b) where
  -- what has the node at an end in the slot
  alike : (end : End) (slot word : ℕ) → SetOf (Ends b.site.plan.slots b.rows end slot) word → SetOf (Marks (node_at end) b slot) word
  alike end slot word s = record {
    fits = s.fits;
    only = λ k h.
        let m = s.only k h in
        record {
          row = m.row;
          hop = m.hop;
          active = record { row = m.row_there; hop = m.hop_there; takes = m.takes };
          short = m.short;
          at = m.is_end;
        };
    all = λ k m. s.all k (record { row = m.row; row_there = m.active.row; short = m.short; hop = m.hop; hop_there = m.active.hop; takes = m.active.takes; is_end = m.at });
  }

  module _ {words before after : List ℕ} (w : inner.IndexOf b.site.plan.slots b.rows words) (lent : Lent b.site.plan.slots words before after)
      (wide : index_length b.site.plan ≤ length before) where
    long : index_length b.site.plan ≤ length after
    long = omega (arith, wide, lent.size)

    marks : (end : End) (slot : ℕ) → slot < short_tiles * b.site.plan.slots → SetOf (Marks (node_at end) b slot) (get_or after (word_at end slot) 0)
    marks end slot k =
        alike end slot _ (lent_ends l.site.plan.most w (λ x m. (l.rows x m).period) (λ x m. offset_within (l.rows x m)) lent end slot k)

    pub index_lent : IndexOf b (take (index_length b.site.plan) after)
    index_lent = record {
      size = length-take-le (index_length b.site.plan) after long;
      sending = λ slot k. subst (SetOf _) (sym (get_or-take (index_length b.site.plan) after (2 * slot) 0 (omega arith))) (marks sender slot k);
      receiving = λ slot k. subst (SetOf _) (sym (get_or-take (index_length b.site.plan) after (2 * slot + 1) 0 (omega arith))) (marks receiver slot k);
    }

    -- and behind it the buffer is as it was
    pub indexed : Indexed b before after
    indexed = record {
      words = take (index_length b.site.plan) after;
      index = index_lent;
      buffer = sym (take-append-drop (index_length b.site.plan) after) ∙ ap (λ (x : List ℕ). take (index_length b.site.plan) after ++ x) behind;
    }
      where
        behind : drop (index_length b.site.plan) after ≡ drop (length (take (index_length b.site.plan) after)) before
        behind = lent.behind ∙ ap (λ (k : ℕ). drop k before) (sym (length-take-le (index_length b.site.plan) after long))
