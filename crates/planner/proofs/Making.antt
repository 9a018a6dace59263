-- A new book: refused by its own number, or the image of the book without streams.
use mathlib.Core.Path.{◌≡◌, refl, sym, ap, ap₂, ◌∙◌}
use mathlib.Core.List.{List, [], ◌∷◌, ◌++◌, append-nil}
use Prim.Native.Nat.{ℕ, ◌+◌, ◌*◌, ◌/◌, ◌<◌, ◌≤◌}
use native.Mathlib.Omega.{arith}
use lib.ListN.{length, drop, length-append}
use Rattle.rules.specs.Tiles.{Plan, PlanInRange}
use Rattle.rules.specs.Topology.{NodesInRange}
use Rattle.rules.specs.Book.{Book, most_accounts}
use Rattle.rules.specs.Image.{newest, header_length, word64, in_turn, encode_account, encode_accounts, encode_header, encode, sets_at}
use Rattle.rules.specs.Calls.{given_accounts, AccountsGiven, TopologiesGiven, New, new_book, new_refusals}
use Rattle.rules.proofs.Written.{Bytes, drop_all, given_back, accounts_written, length_sets_at, length_accounts_at}
use Rattle.writer.specs.Over.{over}
use Rattle.writer.proofs.Laws.{over_front}
use Rattle.rules.specs.answers.Reply.{Reply}
use Rattle.rules.proofs.answers.Replies.{reply_refused, reply_next, reply_done}

-- the accounts that are given are written as they are given, behind their count
accounts_back : (accounts : List ℕ) → AccountsGiven accounts → Bytes accounts → encode_accounts (given_accounts accounts) ≡ length accounts / 6 ∷ accounts
accounts_back accounts given bytes =
    let n : ℕ = length accounts / 6 in
    let list : List ℕ = in_turn encode_account (given_accounts accounts) in
    let e : 0 + 6 * n ≡ length accounts = omega (arith, given.whole) in
    ap₂ ◌∷◌ (length_accounts_at accounts 0 n)
    (sym (accounts_written accounts bytes n 0 (omega (arith, e)) ∙ ap (λ (k : ℕ). list ++ drop k accounts) e ∙ ap (λ (l : List ℕ). list ++ l) (drop_all accounts) ∙ append-nil list))

pub accounts_few : (accounts : List ℕ) → AccountsGiven accounts → length accounts ≤ 6 * most_accounts
accounts_few accounts given = omega (arith, given.whole, given.range.most, length_accounts_at accounts 0 (length accounts / 6))

-- what is given of a new book
pub record Given : Type 0 where
  pub plan : Plan
  pub nodes : ℕ
  pub links : List ℕ
  pub hearing : List ℕ
  pub accounts : List ℕ

module _ (g : Given) where
  book : Book
  book = new_book g.plan g.nodes g.links g.hearing g.accounts

  abbrev Made : List ℕ → ℕ → ℕ → List ℕ → Type 0
  Made = New g.plan g.nodes g.links g.hearing g.accounts

  new_of : (out : List ℕ) {number len : ℕ} {out' : List ℕ}
      → Reply (new_refusals g.plan g.nodes g.links g.hearing g.accounts (length out)) (λ (bytes : List ℕ). bytes ≡ encode newest book) out number len out' → Made out number len out'
  unfolding book
  new_of out w = record { says = w.says; refused = w.refused; done = w.done }

  -- each is in its range
  abbrev pub InRange : Type 0
  InRange = PlanInRange g.plan × NodesInRange g.nodes × AccountsGiven g.accounts

  pub new_range : (out : List ℕ) → (InRange → ⊥) → Made out 10 0 out
  new_range out f = new_of out (reply_refused f (λ z. omega arith) refl refl)

  module _ (fits : InRange) where
    pub new_topology : (out : List ℕ) → (TopologiesGiven g.nodes g.links g.hearing → ⊥) → Made out 11 0 out
    new_topology out f = new_of out (reply_next (λ k. k fits) (reply_refused f (λ z. omega arith) refl refl))

    module _ (given : TopologiesGiven g.nodes g.links g.hearing) (bytes : Bytes g.links) (heard : Bytes g.hearing) (listed : Bytes g.accounts) where
      -- what follows the header
      abbrev rest : List ℕ
      rest = (length g.accounts / 6 ∷ g.accounts) ++ (g.links ++ g.hearing)

      image : encode newest book ≡ encode_header newest g.plan g.nodes 0 0 ++ rest
      unfolding book
      image =
          let N : ℕ = g.nodes in
          let list : List ℕ = encode_accounts (given_accounts g.accounts) in
          let both : List ℕ = in_turn word64 (sets_at g.links 0 N) ++ in_turn word64 (sets_at g.hearing 0 N) in
          ap (λ (n : ℕ). encode_header newest g.plan n 0 0 ++ ((list ++ both) ++ [])) (length_sets_at g.links 0 N)
          ∙ ap (λ (l : List ℕ). encode_header newest g.plan N 0 0 ++ l) (append-nil (list ++ both)
          ∙ ap₂ ◌++◌ (accounts_back g.accounts fits.2 listed) (ap₂ ◌++◌ (given_back N g.links given.links_whole bytes) (given_back N g.hearing given.hearing_whole heard)))

      -- its length
      abbrev pub made : ℕ
      made = header_length + 1 + length g.accounts + length g.links + length g.hearing

      size : length (encode newest book) ≡ made
      size =
          let e = length-append (length g.accounts / 6 ∷ g.accounts) (g.links ++ g.hearing) in
          ap length image ∙ omega (arith, e, length-append g.links g.hearing)

      pub new_short : (out : List ℕ) → length out < made → Made out 12 0 out
      unfolding book
      new_short out l = new_of out (reply_next (λ k. k fits) (reply_next (λ k. k given) (reply_refused (omega (arith, size)) (λ z. omega arith) refl refl)))

      pub new_done : (out : List ℕ) {out' : List ℕ} → made ≤ length out → out' ≡ over out 0 (encode_header newest g.plan g.nodes 0 0 ++ rest) → Made out 0 made out'
      unfolding book
      new_done out l w =
          new_of out
          (reply_next (λ k. k fits) (reply_next (λ k. k given) (reply_next (λ k. omega (arith, k, size))
          (reply_done (encode newest book) refl refl (sym size) (w ∙ ap (over out 0) (sym image) ∙ over_front out (encode newest book))))))
