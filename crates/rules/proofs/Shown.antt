-- Tables show one book.
use mathlib.Core.Path.{◌≡◌, refl, sym, ap, ◌∙◌, subst}
use mathlib.Core.Logic.{⊎_elim}
use mathlib.Core.List.{List}
use Prim.Native.Nat.{ℕ, ◌<◌}
use native.Mathlib.Omega.{arith}
use lib.ListN.{length}
use Rattle.rules.specs.Words.{◌∈◌}
use Rattle.rules.specs.Tiles.{Plan, short_tiles}
use Rattle.rules.specs.Topology.{nodes}
use Rattle.rules.specs.Book.{Account, Site, Row, Book, KnownAccount}
use Rattle.rules.specs.Image.{newest, old_accounts, encode}
use Rattle.rules.specs.Calls.{site_given}
use Rattle.rules.specs.Tables.{table_at, ShownBy, tables_refusals, BookOf}
use Rattle.rules.proofs.Says.{says_unique}
use Rattle.rules.proofs.Unique.{Same, one_reply}
use Rattle.rules.proofs.Air.{fit_short}
use Rattle.rules.proofs.Alike.{alike_same}

-- the one account of older books is number 0
pub old_zero : (n : ℕ) → KnownAccount old_accounts n → n ≡ 0
old_zero n k =
    sym k.named ∙ ⊎_elim (λ (e : k.account ≡ record { number = 0; bought = 4294967295 }). ap (λ (a : Account). a.number) e) (λ (h : ⊥). absurd h) k.there

module _ (site : Site) (old : site.accounts ≡ old_accounts) (tables : List ℕ) where
  -- every row is of it
  pub account_zero : (b : Book) → ShownBy site tables b → (r : Row) → r ∈ b.rows → r.account ≡ 0
  account_zero b g r m =
      old_zero r.account (subst (λ (l : List Account). KnownAccount l r.account) (ap (λ (t : Site). t.accounts) g.on_site ∙ old) (g.lawful.rows r m).account)

  pub shown_unique : (b c : Book) → ShownBy site tables b → ShownBy site tables c → b ≡ c
  shown_unique b c g h =
      alike_same short_tiles (omega arith) b c g.lawful h.lawful (g.on_site ∙ sym h.on_site) (λ r m. fit_short r.period (g.short r m))
      (λ x m. fit_short x.period (h.short x m)) (λ r x m n e. account_zero b g r m ∙ sym (account_zero c h x n))
      (λ node l. let k = subst (λ (t : Site). node < nodes t.links) g.on_site l in (table_at site.plan tables node, g.expands node k, h.expands node k))

pub one_book_of : {n l n' l' : ℕ} {o o' : List ℕ} (plan : Plan) (N : ℕ) (links hearing tables out : List ℕ)
    → BookOf plan N links hearing tables out n l o → BookOf plan N links hearing tables out n' l' o' → Same n l o n' l' o'
one_book_of plan N links hearing tables out g h =
    one_reply (says_unique (tables_refusals plan N links hearing tables (length out)))
    (λ s t p q. p.2 ∙ ap (encode newest) (shown_unique (site_given plan N links hearing old_accounts) refl tables p.0 q.0 p.1 q.1) ∙ sym q.2) g h
