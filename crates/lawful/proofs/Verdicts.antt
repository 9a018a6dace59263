-- The number that an image says, by the tests that it passed.
use mathlib.Core.Path.{◌≡◌, refl, sym, ◌∙◌, subst}
use mathlib.Core.Logic.{inl, inr}
use mathlib.Core.List.{List, [], ◌∷◌}
use Prim.Native.Nat.{ℕ, ◌<◌, ◌≤◌}
use native.Mathlib.Omega.{arith}
use lib.ListN.{length}
use Rattle.rules.specs.Says.{Refusal, ◌when◌, Says}
use Rattle.rules.specs.Topology.{SoundTopologies}
use Rattle.rules.specs.Book.{Row, AccountsInRange, ClashingHopsMeet}
use Rattle.rules.specs.Image.{header_length, image_length, stated_length, FieldsInRange, accounts_of, links_place, links_of, hearing_of, site_of, book_of, RowsOf, image_refusals}
use Rattle.rules.proofs.Written.{Bytes, stored}
use Rattle.rules.proofs.Reading.{rows_in, book_in, rows_are}
use Rattle.image.specs.Header.{HeaderOf}
use Rattle.image.specs.declared.Book.{Book}
use Rattle.image.proofs.Marks.{Marked}
use Rattle.rows.specs.Frame.{Framed}
use Rattle.index.specs.Index.{Beside}
use Rattle.lawful.specs.Verdict.{Verdict}

-- the refusals that are left where the header, the account list and the length are in order
abbrev rest_refusals : List ℕ → List Refusal
rest_refusals s =
    (11 when (SoundTopologies (links_of s) (hearing_of s) → ⊥))
    ∷ (15 when ((rows : List Row) → RowsOf s rows → ⊥))
    ∷ (16 when ((rows : List Row) × RowsOf s rows × ClashingHopsMeet (book_of s rows)))
    ∷ []

-- the length by the header that was read is the one that the image states
pub stated : {s : List ℕ} {b : Book} {len : ℕ} → HeaderOf s b → len ≡ image_length b.version b.accounts b.nodes b.streams b.hops → len ≡ stated_length s
stated h e = e ∙ λ i. image_length (h.version i) (h.accounts i) (h.nodes i) (h.streams i) (h.hops i)

-- a refusal gives no book
refusal : {s words : List ℕ} {n : ℕ} → Says (image_refusals s) n → (n ≡ 0 → ⊥) → Verdict s n words
refusal h f = record { number_is = record { says = h; stored = λ e. absurd (f e) }; indexed = λ e. absurd (f e) }

module _ (s : List ℕ) where
  pub short : {words : List ℕ} → length s < header_length → Verdict s 14 words
  short l = refusal (inl (l, refl)) (λ e. omega arith)

  module _ (long : header_length ≤ length s) where
    not_short : length s < header_length → ⊥
    not_short l = omega arith

    pub unmarked : {words : List ℕ} → (Marked s → ⊥) → Verdict s 13 words
    unmarked n = refusal (inr (not_short, inl (n, refl))) (λ e. omega arith)

    module _ (marked : Marked s) where
      pub out_of_range : {words : List ℕ} → (FieldsInRange s → ⊥) → Verdict s 10 words
      out_of_range n = refusal (inr (not_short, inr (λ f. f marked, inl (n, refl)))) (λ e. omega arith)

      module _ (w : FieldsInRange s) where
        module _ (inside : links_place s ≤ length s) where
          not_cut : length s < links_place s → ⊥
          not_cut l = omega (arith, l, inside)

          pub list_out : {words : List ℕ} → (AccountsInRange (accounts_of s) → ⊥) → Verdict s 10 words
          list_out n = refusal (inr (not_short, inr (λ f. f marked, inr (λ f. f w, inr (not_cut, inl (n, refl)))))) (λ e. omega arith)

module _ (s : List ℕ) (marked : Marked s) (w : Framed s) (list : AccountsInRange (accounts_of s)) where
  long : header_length ≤ length s
  long = omega (arith, w.size)

  -- the header, the account list and the length are in order: what is said of the rest is said
  rest_says : {n : ℕ} → Says (rest_refusals s) n → Says (image_refusals s) n
  rest_says h =
      inr (not_short s long, inr (λ f. f marked, inr (λ f. f w.fields, inr (λ (l : length s < links_place s). omega (arith, l, w.size), inr (λ f. f list, inr (λ f. f w.size, h))))))

  pub unsound : {words : List ℕ} → (SoundTopologies (links_of s) (hearing_of s) → ⊥) → Verdict s 11 words
  unsound n = refusal (rest_says (inl (n, refl))) (λ e. omega arith)

  module _ (sound : SoundTopologies (links_of s) (hearing_of s)) where
    pub no_rows : {words : List ℕ} → (RowsOf s (rows_in s) → ⊥) → Verdict s 15 words
    no_rows n =
        let none : (rows : List Row) → RowsOf s rows → ⊥ = λ rows h. n (subst (RowsOf s) (sym (rows_are s rows h)) h) in
        refusal (rest_says (inr (λ f. f sound, inl (none, refl)))) (λ e. omega arith)

    module _ (rows : RowsOf s (rows_in s)) where
      pub meeting_hops : {words : List ℕ} → ClashingHopsMeet (book_in s) → Verdict s 16 words
      meeting_hops m =
          let met : (rows : List Row) × RowsOf s rows × ClashingHopsMeet (book_of s rows) = (rows_in s, rows, m) in
          refusal (rest_says (inr (λ f. f sound, inr (λ f. f _ rows, inl (met, refl))))) (λ e. omega arith)

      pub lawful_book : {words : List ℕ} → Bytes s → (ClashingHopsMeet (book_in s) → ⊥) → Beside (site_of s) (rows_in s) words → Verdict s 0 words
      lawful_book b n index = record {
        number_is = record {
          says = rest_says (inr (λ f. f sound, inr (λ f. f (rows_in s) rows, inr (met, refl))));
          stored = λ e. stored s b (rows_in s) long marked.0 marked.1 w.fields list w.size sound rows n;
        };
        indexed = λ e. index;
      }
        where
          met : (rows : List Row) × RowsOf s rows × ClashingHopsMeet (book_of s rows) → ⊥
          met p = n (subst (λ (rows : List Row). ClashingHopsMeet (book_of s rows)) (sym (rows_are s p.0 p.1)) p.2)
