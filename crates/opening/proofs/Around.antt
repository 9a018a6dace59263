-- The rows of an image, each at its place, and their index.
use mathlib.Core.Path.{◌≡◌, sym, subst, subst₂}
use mathlib.Core.List.{List}
use Prim.Native.Nat.{ℕ, zero, suc, ◌-◌, ◌<◌, ◌≤◌}
use native.Mathlib.Omega.{arith}
use Rattle.rules.specs.Words.{◌∈◌}
use Rattle.rules.specs.Book.{Row}
use Rattle.rules.specs.Image.{streams_of, rows_place}
use Rattle.rules.proofs.Reading.{rows_in, LawfulImage}
use Rattle.image.specs.Places.{Stands}
use Rattle.image.proofs.Places.{rows_in_lem}
use Rattle.image.proofs.Hops.{node_known}
use Rattle.image.proofs.Stands.{stored_rows, stands_start, stands_row, stands_next}
use Rattle.index.specs.Beside.{ImageBeside}
use Rattle.placing.specs.plain.Plain.{place_of, nth_row, RowThere}
use Rattle.placing.proofs.plain.Places.{place_first, place_next, nth_from, from_nth}
use Rattle.placing.proofs.plain.Beside.{IndexBeside}

module _ {s : List ℕ} (w : LawfulImage s) where
  -- from each place on stand the rows that are left
  stands_at : (i : ℕ) → i ≤ streams_of s → Stands s (place_of s (rows_place s) i) (streams_of s - i)
  stands_at zero l =
      let e : streams_of s ≡ streams_of s - 0 = omega arith in
      subst₂ (Stands s) (sym (place_first s (rows_place s))) e (stands_start w)
  stands_at (suc i) l =
      let e : streams_of s - i - 1 ≡ streams_of s - suc i = omega arith in
      subst₂ (Stands s) (place_next s (rows_place s) i) e (stands_next (omega arith) (stands_at i (omega arith)))

  row_there : (i : ℕ) → i < streams_of s → RowThere s (place_of s (rows_place s) i)
  row_there i l =
      let r = stands_row (omega arith) (stands_at i (omega arith)) in
      record { whole = r.whole; lawful = r.lawful; small = λ j h. omega (arith, node_known r.lawful j h, w.lawful.site.nodes.1) }

pub image_beside : {s words : List ℕ} → ImageBeside s words → IndexBeside s (rows_place s) (streams_of s) (rows_in s) words
image_beside {s} i =
    let w = i.newest.lawful in
    record {
      in_range = w.lawful.site.plan;
      there = record { each = row_there w; few = omega (arith, (stored_rows w).count, w.lawful.streams) };
      known = λ k l. subst (λ (rows : List Row). nth_row s (rows_place s) k ∈ rows) (sym (rows_in_lem s)) (nth_from s (streams_of s) (rows_place s) k l);
      nth = λ x m. from_nth s (streams_of s) (rows_place s) x (subst (λ (rows : List Row). x ∈ rows) (rows_in_lem s) m);
      index = i.index.slots;
    }
