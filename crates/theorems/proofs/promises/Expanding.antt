-- Joined parts are the whole table, and images never look alike on the air, by the contracts of check and expand.
use mathlib.Core.Path.{◌≡◌, refl, sym, ap, ap₂, ◌∙◌, subst}
use mathlib.Core.Logic.{inr}
use mathlib.Core.List.{List, [], ◌++◌}
use Prim.Native.Nat.{ℕ, zero, suc, ◌+◌, ◌<◌}
use native.Mathlib.Omega.{arith}
use lib.ListN.{length, drop}
use lib.Seq.{take_at}
use Rattle.rules.specs.Tiles.{cycle_tiles}
use Rattle.rules.specs.Topology.{nodes}
use Rattle.rules.specs.Book.{Book}
use Rattle.rules.specs.Image.{encode, version_of, nodes_of, site_of, Stored}
use Rattle.rules.specs.Table.{TablePart}
use Rattle.rules.specs.Calls.{PartInRange, Check}
use Rattle.rules.proofs.Encoding.{version_back, site_back}
use Rattle.rules.proofs.Entries.{table_unique, parts_join}
use Rattle.theorems.specs.model.Table.{part_of}
use Rattle.theorems.proofs.model.Tables.{part_computed}
use Rattle.theorems.proofs.model.Calls.{reply}
use Rattle.theorems.proofs.order.Calls.{of_stored, taken}
use Rattle.theorems.specs.promises.OnAir.{TableOf, LookAlike, Expands, Joined, JoinedIsWhole, ExpandAlike, ImagesNeverAlike}
use Rattle.theorems.specs.promises.OnAir.Joined.{end, part}
use Rattle.theorems.proofs.promises.Reading.{reads_exactly}
use Rattle.theorems.proofs.promises.OnAir.{never_alike}

-- WHAT AN IMAGE SAYS OF ITS BOOK
module _ {s : List ℕ} {v : ℕ} {b : Book} (h : Stored s v b) where
  version_of_lem : version_of s ≡ v
  version_of_lem = ap version_of h.bytes ∙ version_back v b

  site_of_lem : site_of s ≡ b.site
  site_of_lem = ap site_of h.bytes ∙ site_back v b h.lawful.site.topologies.even h.fits

  nodes_of_lem : nodes_of s ≡ nodes b.site.links
  nodes_of_lem = ap nodes_of h.bytes

  -- expand gives a part of a node's table, in range
  part_of_lem : {node first tiles : ℕ} {bytes : List ℕ} → Expands s node first tiles bytes → TablePart b node first tiles bytes
  part_of_lem {node} {first} {tiles} e =
      let (bytes, o, w) = e.call.done refl in
      subst (TablePart b node first tiles) (sym (taken w) ∙ e.given) (of_stored {P = λ v b. TablePart b node first tiles bytes} h o)

  -- and a part in range is given by expand
  expands : {node first tiles : ℕ} {bytes : List ℕ} → node < nodes b.site.links → PartInRange first tiles → TablePart b node first tiles bytes → Expands s node first tiles bytes
  expands {node} {first} {tiles} {bytes} l p t = record {
    out = bytes;
    len = _;
    out' = _;
    call = reply 0 bytes bytes (inr (v, b, h, inr (λ k. omega arith, inr (λ f. f p, inr (λ k. omega (arith, t.size), refl))))) (λ e. (v, b, h, t));
    given = take_at bytes (drop (length bytes) bytes) (length bytes) refl;
  }

  -- from a tile on, so many tiles before the end of the cycle
  whole_of : {node first : ℕ} {bytes : List ℕ} → Joined s node first bytes → (left : ℕ) × (first + left ≡ cycle_tiles) × TablePart b node first left bytes
  whole_of end = (0, refl, record { size = omega arith; entries = λ slot l. absurd (omega (arith, l)) })
  whole_of {node} (part {first} {tiles} {bytes} {rest} e j) =
      let (left, k, t) = whole_of j in
      (tiles + left, omega arith, parts_join b node first tiles left bytes rest (part_of_lem e) t)

  -- tile by tile they are to be had
  by_tiles : {node : ℕ} → node < nodes b.site.links → (left first : ℕ) → first + left ≡ cycle_tiles → (bytes : List ℕ) × Joined s node first bytes
  by_tiles {node} l zero first e = let at_end : cycle_tiles ≡ first = omega arith in ([], subst (λ (tile : ℕ). Joined s node tile []) at_end end)
  by_tiles {node} l (suc left) first e =
      let (rest, j) = by_tiles l left (first + 1) (omega arith) in
      let p : PartInRange first 1 = record { some = omega arith; most = omega arith; inside = omega arith } in
      (part_of b node first 1 ++ rest, part (expands l p (part_computed b node first 1)) j)

  table_of : {node : ℕ} {table : List ℕ} → Joined s node 0 table → TableOf b node table
  table_of {node} {table} j =
      let (left, k, t) = whole_of j in
      let all : left ≡ cycle_tiles = omega arith in
      subst (λ (tiles : ℕ). TablePart b node 0 tiles table) all t

  joined_of : {node : ℕ} {table : List ℕ} → node < nodes b.site.links → TableOf b node table → Joined s node 0 table
  joined_of {node} {table} l t =
      let (bytes, j) = by_tiles l cycle_tiles 0 refl in
      subst (Joined s node 0) (table_unique b h.lawful node 0 cycle_tiles bytes table (table_of j) t) j

  accepts : Check s 0 0
  accepts = record { says = inr (v, b, h, refl); refused = λ f. refl; done = λ e. (v, b, h, refl) }

pub expand_alike : {s t : List ℕ} {v w : ℕ} {b c : Book} → Stored s v b → Stored t w c → nodes c.site.links ≡ nodes b.site.links → LookAlike b c → ExpandAlike s t
expand_alike g h n look = record {
  one = accepts g;
  other = accepts h;
  same = λ node l.
      let k = nodes_of_lem g in
      let (table, t, u) = look node (omega arith) in
      (table, joined_of g (omega arith) t, joined_of h (omega arith) u);
}

pub joined_is_whole : JoinedIsWhole
joined_is_whole image v b node table h l = (λ j. table_of h j, λ t. joined_of h l t)

pub images_never_alike : ImagesNeverAlike
images_never_alike s t version plan links hearing accounts numbers alike =
    let (v, b, g) = (reads_exactly.0 s 0 0 alike.one).0 refl in
    let (w, c, h) = (reads_exactly.0 t 0 0 alike.other).0 refl in
    let site : site_of s ≡ site_of t = λ i. record { plan = plan i; links = links i; hearing = hearing i; accounts = accounts i } in
    let look : LookAlike b c = λ node l. let (bytes, p, q) = alike.same node (omega (arith, nodes_of_lem g)) in (bytes, table_of g p, table_of h q) in
    g.bytes ∙ ap₂ encode (sym (version_of_lem g) ∙ version ∙ version_of_lem h) (never_alike b c g.lawful h.lawful (sym (site_of_lem g) ∙ site ∙ site_of_lem h) (numbers v w b c g h) look)
    ∙ sym h.bytes
