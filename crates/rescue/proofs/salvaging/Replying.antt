-- What was walked through and written is what the contract says, and so are the refusals.
use mathlib.Core.Path.{◌≡◌, refl, sym, ap, ◌∙◌, subst}
use mathlib.Core.Logic.{inl, inr}
use mathlib.Core.List.{List, [], ◌++◌}
use Rattle.std.specs.Prelude.{Result, Ok}
use Prim.Native.Nat.{ℕ, ◌+◌, ◌*◌, ◌-◌, ◌<◌, ◌≤◌}
use native.Mathlib.Nat.{mul-le-mul_left}
use native.Mathlib.Omega.{arith}
use lib.ListN.{length, drop, length-drop}
use Rattle.rules.specs.Says.{Refusal}
use Rattle.rules.specs.declared.refusals.Refusal as why
use Rattle.rules.specs.Topology.{nodes, SoundTopologies}
use Rattle.rules.specs.Book.{Book, hops_in_all, AccountsInRange}
use Rattle.rules.specs.Image.{header_length, image_length, row_length, in_turn, encode_row, encode, version_of}
use Rattle.rules.specs.Image.{nodes_of, FieldsInRange, accounts_of, links_place, links_of, hearing_of, book_of, rows_place}
use Rattle.rules.specs.Calls.{Wrote}
use Rattle.rules.specs.Salvage.{CutAll, report_bytes, NoRoom, salvage_refusals}
use Rattle.rules.proofs.Choice.{in_order_even}
use Rattle.rules.proofs.Encoding.{length_encode}
use Rattle.rules.proofs.Written.{Bytes, length_sets_at, encode_rows}
use Rattle.rules.proofs.Salvaging.{cut_all_unique, salvaged_unique, length_report}
use Rattle.writer.specs.Over.{over, headed}
use Rattle.writer.proofs.Laws.{over_front, length_headed}
use Rattle.image.proofs.Places.{links_counted}
use Rattle.image.proofs.Marks.{Marked}
use Rattle.damaged.specs.declared.cutting.Cutting.{Cutting}
use Rattle.damaged.specs.cutting.Cutting.{CutsTo}
use Rattle.rescue.specs.declared.salvaging.Salvaged as declared
use Rattle.rescue.specs.declared.salvaging.Walk.{Walk}
use Rattle.rescue.specs.salvaging.Walk.{Walked, Measured, BookFits}
use Rattle.rescue.specs.salvaging.Replies.{Headed, HasRoom, rows_refusals, site_refusals, Replied}
use Rattle.rescue.proofs.salvaging.Puts.{over_before}
use Rattle.rescue.proofs.salvaging.Walks.{length_of, rows_length}

-- LENGTHS
module _ {s out report : List ℕ} {walk : Walk} {out' report' : List ℕ} (w : Walked s out report walk out' report') where
  -- the book of those kept
  abbrev c : Book
  c = book_of s w.stay

  count : nodes (links_of s) ≡ nodes_of s
  count = length_sets_at s (links_place s) (nodes_of s)

  long : length (encode (version_of s) c) ≡ length_of s (length w.stay) (hops_in_all w.stay)
  long =
      length_encode (version_of s) c w.held.0 ∙ ap (λ (N : ℕ). image_length (version_of s) (length (accounts_of s)) N (length w.stay) (hops_in_all w.stay)) count
      ∙ omega (arith, links_counted s)

  pub walked_length : {len : ℕ} → len ≡ length_of s walk.kept.rows walk.kept.hops → len ≡ length (encode (version_of s) c)
  walked_length e = e ∙ (λ i. length_of s (w.count i) (w.hops i)) ∙ sym long

  pub walked_measured : {len : ℕ} → len ≡ length_of s walk.kept.rows walk.kept.hops → Measured s len
  walked_measured e = (w.rows, w.reasons, drop walk.end s, c, w.salvaged, walked_length e)

  pub walked_small : (walk.kept.rows ≤ 64) × (walk.kept.hops ≤ 512)
  walked_small = (omega (arith, w.count, w.held.0.streams), omega (arith, w.hops, w.held.0.hops))

  -- WHERE THERE IS ROOM
  fits : {room : ℕ} → BookFits s room → length (encode (version_of s) c) ≤ room
  fits (inl l) = omega (arith, long, mul-le-mul_left (row_length (version_of s)) w.held.0.streams, w.held.0.hops)
  fits {room} (inr (rows, reasons, lost, d, g, l)) =
      let u = salvaged_unique s w.rows rows w.reasons reasons (drop walk.end s) lost c d w.salvaged g in
      subst (λ (b : Book). length (encode (version_of s) b) ≤ room) (sym u.3) l

  module _ {room report_room : ℕ} (has : HasRoom s room report_room) where
    told_fits : 3 * length w.rows ≤ report_room
    told_fits =
        let u = cut_all_unique (version_of s) (drop (rows_place s) s) w.rows has.rows (drop walk.end s) has.lost w.salvaged.cut has.cut in
        omega (arith, has.told, ap length u.0)

    pub room_behind : rows_place s + length (in_turn (encode_row (version_of s)) w.stay) ≤ room
    room_behind = omega (arith, rows_length s w.stay w.held, long, fits has.book)

    nothing_short : NoRoom s room report_room → ⊥
    nothing_short (inl (rows, reasons, lost, d, g, l)) =
        let u = salvaged_unique s w.rows rows w.reasons reasons (drop walk.end s) lost c d w.salvaged g in
        omega (arith, fits has.book, l, ap (λ (b : Book). length (encode (version_of s) b)) u.3)
    nothing_short (inr (rows, lost, g, l)) =
        let u = cut_all_unique (version_of s) (drop (rows_place s) s) w.rows rows (drop walk.end s) lost w.salvaged.cut g in
        omega (arith, told_fits, l, ap length u.0)

  -- the book, once its front is written before its rows
  module _ (b : Bytes s) (h : Headed s) (even : nodes (hearing_of s) ≡ nodes (links_of s)) where
    front : headed s (rows_place s) walk.kept.rows walk.kept.hops ++ in_turn (encode_row (version_of s)) w.stay ≡ encode (version_of s) c
    unfolding headed
    front =
        (λ i. headed s (rows_place s) (w.count i) (w.hops i) ++ in_turn (encode_row (version_of s)) w.stay)
        ∙ sym (encode_rows s b (omega (arith, h.enough)) h.marked.0 h.last h.enough even w.stay)

    book_written : {len : ℕ} {o : List ℕ} → rows_place s + length (in_turn (encode_row (version_of s)) w.stay) ≤ length out
        → len ≡ length_of s walk.kept.rows walk.kept.hops
        → o ≡ over out' 0 (headed s (rows_place s) walk.kept.rows walk.kept.hops) → Wrote (encode (version_of s) c) out len o
    book_written {o = o} l e f = record { length_is = walked_length e; buffer = whole }
      where
        head : List ℕ
        head = headed s (rows_place s) walk.kept.rows walk.kept.hops

        rows : List ℕ
        rows = in_turn (encode_row (version_of s)) w.stay

        whole : o ≡ encode (version_of s) c ++ drop (length (encode (version_of s) c)) out
        whole =
            f ∙ ap (λ (z : List ℕ). over z 0 head) (w.book.put l)
            ∙ over_before out head rows (rows_place s) (sym (length_headed s (rows_place s) walk.kept.rows walk.kept.hops (omega arith) h.enough)) l
            ∙ ap (λ (z : List ℕ). z ++ drop (length z) out) front

    pub written : {len lost start : ℕ} {o : List ℕ} → HasRoom s (length out) (length report) → len ≡ length_of s walk.kept.rows walk.kept.hops
        → start ≡ rows_place s → o ≡ over out' 0 (headed s start walk.kept.rows walk.kept.hops) → lost ≡ length s - walk.end
        → Replied (rows_refusals s (length out) (length report)) s out report (Ok (record { length = len; rows = walk.rows; lost = lost })) o report'
    written has e q f g = record {
      says = inr (nothing_short has, refl);
      refused = λ n. absurd (n refl);
      done = λ z. (
        w.rows,
        w.reasons,
        drop walk.end s,
        c,
        w.salvaged,
        (
          book_written (room_behind has) e (f ∙ ap (λ (k : ℕ). over out' 0 (headed s k walk.kept.rows walk.kept.hops)) q),
          record {
            length_is = ap (λ (n : ℕ). 3 * n) w.cut ∙ sym told;
            buffer = w.told.put (omega (arith, told, told_fits has)) ∙ over_front report (report_bytes w.rows w.reasons);
          },
          w.cut,
          g ∙ sym (length-drop walk.end s),
        ),
      );
    }
      where
        told : length (report_bytes w.rows w.reasons) ≡ 3 * length w.rows
        told = length_report w.rows w.reasons (in_order_even _ (book_of s []) w.rows w.reasons c w.salvaged.keep)

-- WHETHER THE REPORT IS LONG ENOUGH
module _ {s : List ℕ} {start : ℕ} {cut : Cutting} (w : CutsTo s start cut) (e : start ≡ rows_place s) where
  here : CutAll (version_of s) (drop (rows_place s) s) w.rows (drop cut.end s)
  here = subst (λ (k : ℕ). CutAll (version_of s) (drop k s) w.rows (drop cut.end s)) e w.all

  pub has_room : {room report_room : ℕ} → 3 * cut.rows ≤ report_room → BookFits s room → HasRoom s room report_room
  has_room l f = record { rows = w.rows; lost = drop cut.end s; cut = here; told = omega (arith, w.count); book = f }

-- WHETHER THE BOOK IS TOO LONG
-- THE REFUSALS that do not apply
module _ (s out report : List ℕ) where
  abbrev rows : List Refusal
  rows = rows_refusals s (length out) (length report)

  abbrev site : List Refusal
  site = site_refusals s (length out) (length report)

  abbrev every : List Refusal
  every = salvage_refusals s (length out) (length report)

  pub sound_then : (r : Result declared.Salvaged why.Refusal) {out' report' : List ℕ} → SoundTopologies (links_of s) (hearing_of s)
      → Replied rows s out report r out' report' → Replied site s out report r out' report'
  sound_then r t h = record { says = inr (λ n. n t, h.says); refused = h.refused; done = h.done }

  pub header_then : (r : Result declared.Salvaged why.Refusal) {out' report' : List ℕ}
      → (length s < header_length → ⊥) → Marked s → FieldsInRange s → (length s < links_place s → ⊥) → AccountsInRange (accounts_of s) → (length s < rows_place s → ⊥)
      → Replied site s out report r out' report' → Replied every s out report r out' report'
  header_then r l m f k a e h = record {
    says = inr (l, inr (λ n. n m, inr (λ n. n f, inr (k, inr (λ n. n a, inr (e, h.says))))));
    refused = h.refused;
    done = h.done;
  }
