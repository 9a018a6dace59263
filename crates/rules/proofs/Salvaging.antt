-- There is one salvage of an image: one list of rows is cut out, one book is kept, and two results that the contract allows are equal.
use mathlib.Core.Path.{◌≡◌, refl, sym, ap, ap₂, ◌∙◌, subst}
use mathlib.Core.Logic.{◌⊎◌, ⊎_elim}
use mathlib.Core.List.{List, [], ◌∷◌, ◌++◌}
use Prim.Native.Nat.{ℕ, ◌+◌, ◌*◌}
use native.Mathlib.Omega.{arith}
use lib.ListN.{length, drop}
use Rattle.rules.specs.Book.{Row, Book, hops}
use Rattle.rules.specs.Image.{row_length, word, encode, version_of, book_of, rows_place}
use Rattle.rules.specs.Calls.{InOrder, Unchanged}
use Rattle.rules.specs.Salvage.{Cut, CutAll, drop_reasons, kept, Keep, Salvaged, report_bytes, salvage_refusals, SalvageWritten, Salvage}
use Rattle.rules.proofs.Says.{says_unique}
use Rattle.rules.proofs.Encoding.{Sized, front_row, cut_back, left_over}
use Rattle.rules.proofs.Choice.{both, in_order_unique}
use Rattle.rules.proofs.Unique.{Same, same_kept, same_written}

pub cut_sized : {v : ℕ} {s others : List ℕ} {r : Row} → Cut v s r others → Sized v r
cut_sized g = record { nodes = g.nodes; offsets = g.offsets }

-- ROWS
module _ (v : ℕ) (s : List ℕ) where
  -- the row that is cut out is the one that is read, and the others stand behind it
  pub cut_read : (r : Row) (others : List ℕ) → Cut v s r others → front_row v s ≡ r
  cut_read r others g = ap (front_row v) g.bytes ∙ cut_back v r others (cut_sized g) g.one_way g.old_account

  pub cut_behind : (r : Row) (others : List ℕ) → Cut v s r others → drop (row_length v + 3 * hops r) s ≡ others
  cut_behind r others g = ap (drop (row_length v + 3 * hops r)) g.bytes ∙ left_over v r others (cut_sized g)

  pub cut_unique : (r x : Row) (rest others : List ℕ) → Cut v s r rest → Cut v s x others → (r ≡ x) × (rest ≡ others)
  cut_unique r x rest others g h =
      let same : r ≡ x = sym (cut_read r rest g) ∙ cut_read x others h in
      (same, sym (cut_behind r rest g) ∙ ap (λ (y : Row). drop (row_length v + 3 * hops y) s) same ∙ cut_behind x others h)

pub cut_all_unique : (v : ℕ) (s : List ℕ) (rs xs : List Row) (lost gone : List ℕ) → CutAll v s rs lost → CutAll v s xs gone → (rs ≡ xs) × (lost ≡ gone)
cut_all_unique v s [] [] lost gone g h = (refl, g.1 ∙ sym h.1)
cut_all_unique v s [] (x ∷ xs) lost gone g h = absurd (g.0 h.1.cuttable)
cut_all_unique v s (r ∷ rs) [] lost gone g h = absurd (h.0 g.1.cuttable)
cut_all_unique v s (r ∷ rs) (x ∷ xs) lost gone g h =
    let c = cut_unique v s r x g.0 h.0 g.1 h.1 in
    let t = cut_all_unique v g.0 rs xs lost gone g.2 (subst (λ (o : List ℕ). CutAll v o xs gone) (sym c.1) h.2) in
    (ap₂ ◌∷◌ c.0 t.0, t.1)

-- REASONS
keep_unique : (v : ℕ) (b : Book) (r : Row) (n m : ℕ) (c d : Book) → Keep v b r n c → Keep v b r m d → (n ≡ m) × (c ≡ d)
keep_unique v b r n m c d g h =
    let t = both (says_unique (drop_reasons v b r)) g h in
    (t.0, ⊎_elim (λ (p : (c ≡ b) × (d ≡ b)). p.0 ∙ sym p.1) (λ (p : (c ≡ kept b r) × (d ≡ kept b r)). p.0 ∙ sym p.1) t.1)

-- WHAT IS SALVAGED
pub salvaged_unique : (s : List ℕ) (rs xs : List Row) (ns ms lost gone : List ℕ) (c d : Book) → Salvaged s rs ns lost c → Salvaged s xs ms gone d
    → (rs ≡ xs) × (ns ≡ ms) × (lost ≡ gone) × (c ≡ d)
salvaged_unique s rs xs ns ms lost gone c d g h =
    let t = cut_all_unique (version_of s) (drop (rows_place s) s) rs xs lost gone g.cut h.cut in
    let u = in_order_unique (Keep (version_of s)) (keep_unique (version_of s)) (book_of s []) rs ns ms c d g.keep
    (subst (λ (ys : List Row). InOrder (Keep (version_of s)) (book_of s []) ys ms d) (sym t.0) h.keep) in
    (t.0, u.0, t.1, u.1)

-- THE REPORT
pub length_report : (rows : List Row) (ns : List ℕ) → length ns ≡ length rows → length (report_bytes rows ns) ≡ 3 * length rows
length_report [] ns e = omega arith
length_report (r ∷ rows) [] e = absurd (omega arith)
length_report (r ∷ rows) (n ∷ ns) e = omega (arith, length_report rows ns (omega arith))

-- one row more
pub report_more : (rows : List Row) (ns : List ℕ) (r : Row) (n : ℕ) → length ns ≡ length rows
    → report_bytes (rows ++ (r ∷ [])) (ns ++ (n ∷ [])) ≡ report_bytes rows ns ++ (n ∷ word r.id)
report_more [] [] r n e = refl
report_more [] (m ∷ ns) r n e = absurd (omega arith)
report_more (x ∷ rows) [] r n e = absurd (omega arith)
report_more (x ∷ rows) (m ∷ ns) r n e = ap (λ (t : List ℕ). (m ∷ word x.id) ++ t) (report_more rows ns r n (omega arith))

-- THE CALL: the number, both lengths, every byte of both buffers, and the bytes lost
pub one_salvage : (s out report : List ℕ) {n l k j n' l' k' j' : ℕ} {o p o' p' : List ℕ} → Salvage s out report n l o k j p → Salvage s out report n' l' o' k' j' p'
    → Same n l o n' l' o' × Same n k p n' k' p' × (j ≡ j')
one_salvage s out report {n} {l} {k} {j} {n'} {l'} {k'} {j'} {o} {p} {o'} {p'} g h = ⊎_elim unchanged written t.1
  where
    Refused : ℕ → List ℕ → ℕ → List ℕ → ℕ → Type 0
    Refused l o k p j = Unchanged out l o × Unchanged report k p × (j ≡ 0)

    t : (n ≡ n') × ((Refused l o k p j × Refused l' o' k' p' j') ⊎ (SalvageWritten s out report l o k j p × SalvageWritten s out report l' o' k' j' p'))
    t = both (says_unique (salvage_refusals s (length out) (length report))) g h

    unchanged : Refused l o k p j × Refused l' o' k' p' j' → Same n l o n' l' o' × Same n k p n' k' p' × (j ≡ j')
    unchanged q = (same_kept t.0 q.0.0 q.1.0, same_kept t.0 q.0.1 q.1.1, q.0.2 ∙ sym q.1.2)

    written : SalvageWritten s out report l o k j p × SalvageWritten s out report l' o' k' j' p' → Same n l o n' l' o' × Same n k p n' k' p' × (j ≡ j')
    written q =
        let x = q.0 in
        let y = q.1 in
        let u = salvaged_unique s x.0 y.0 x.1 y.1 x.2 y.2 x.3 y.3 x.4 y.4 in
        let w = same_written t.0 (ap₂ report_bytes u.0 u.1) x.5.1 y.5.1 in (
          same_written t.0 (ap (encode (version_of s)) u.3) x.5.0 y.5.0,
          record { number = t.0; len = x.5.2 ∙ ap length u.0 ∙ sym y.5.2; out = w.out },
          x.5.3 ∙ ap length u.2 ∙ sym y.5.3,
        )
