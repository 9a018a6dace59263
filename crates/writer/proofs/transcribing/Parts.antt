-- The parts of an image in the newest version: its front, and a row.
use mathlib.Core.Path.{◌≡◌, refl, sym, ap, ap₂, ◌∙◌}
use mathlib.Core.Bool.{Bool, true, false, cond}
use mathlib.Core.List.{List, [], ◌∷◌, ◌++◌, append_assoc}
use Prim.Native.Nat.{ℕ, ◌+◌, ◌*◌, ◌-◌, ◌<◌, ◌≤◌}
use native.Mathlib.Omega.{arith}
use lib.ListN.{length, take, drop, length-append}
use lib.Seq.{take_at}
use Rattle.rules.specs.Topology.{nodes}
use Rattle.rules.specs.Book.{Account, Row, Book, hops, hops_in_all, most_accounts}
use Rattle.rules.specs.Image.{newest, has_accounts, old_accounts, header_length, links_start, mark, word, word64, in_turn, held, encode_header}
use Rattle.rules.specs.Image.{encode_accounts, encode_topology, encode_topologies, encode_row, encode, sets_at, topology_at, version_of, nodes_of, account_count_of, accounts_of}
use Rattle.rules.specs.Image.{links_place, links_of, hearing_of, site_of, accounts_at}
use Rattle.rules.proofs.Bytes.{stored_bytes}
use Rattle.rules.proofs.Encoding.{length_words, length_sets, length_accounts, length_row}
use Rattle.rules.proofs.Reading.{rows_in, book_in, LawfulImage}
use Rattle.rules.proofs.Written.{length_sets_at, sets_written}
use Rattle.image.specs.Header.{HeaderOf}
use Rattle.image.specs.declared.Book as head
use Rattle.image.specs.Places.{hearing_place, hop_bytes}
use Rattle.image.proofs.Places.{links_most, links_counted, hearing_there}
use Rattle.image.proofs.Stands.{stored_length}
use Rattle.image.proofs.Topologies.{hearing_inside, hearing_nodes}
use Rattle.writer.specs.Over.{over}
use Rattle.writer.proofs.Laws.{then}
use Rattle.writer.specs.transcribing.Again.{renewed, front, Put}

-- THE FRONT

-- the header in the newest version
abbrev header : Book → List ℕ
header b = encode_header newest b.site.plan (nodes b.site.links) (length b.rows) (hops_in_all b.rows)

-- part by part
pub front_put : (d o₁ o₂ o₃ s : List ℕ) → o₁ ≡ over d 0 mark → o₂ ≡ over o₁ 3 (word newest) → o₃ ≡ over o₂ 5 (take 11 (drop 5 s)) → o₃ ≡ over d 0 (renewed s)
unfolding renewed
front_put d o₁ o₂ o₃ s p₁ p₂ p₃ =
    then d o₂ o₃ (mark ++ word newest) (take 11 (drop 5 s)) 0 5 (omega arith) (then d o₁ o₂ mark (word newest) 0 3 (omega arith) p₁ refl p₂) refl p₃

-- that of an image in any version
renewed_encode : (v : ℕ) (b : Book) → renewed (encode v b) ≡ header b
unfolding renewed
renewed_encode v b = refl

-- links that stand behind a list, or right behind the header
behind : (t : Bool) (n : ℕ) → header_length < header_length + cond t n 0 → t ≡ true
behind true n l = refl
behind false n l = absurd (omega arith)

right_behind : (t : Bool) (n : ℕ) → header_length + cond t (1 + n) 0 ≤ header_length → t ≡ false
right_behind true n l = absurd (omega arith)
right_behind false n l = refl

-- at most 64 nodes and 32 accounts, links and hearing inside the image
pub record SiteFits (s : List ℕ) (book : head.Book) : Type 0 where
  pub few : book.nodes ≤ 64
  pub listed : length (encode_accounts (accounts_of s)) ≤ 1 + 6 * most_accounts
  pub list_most : links_start book.version book.accounts ≤ header_length + 1 + 6 * most_accounts
  pub links_inside : links_start book.version book.accounts + 8 * book.nodes ≤ length s
  pub heard_inside : hearing_place book.version book.accounts book.nodes + 8 * book.nodes ≤ length s

module _ {s : List ℕ} {book : head.Book} (h : LawfulImage s) (hd : HeaderOf s book) where
  abbrev N : ℕ
  N = nodes_of s

  abbrev list : List ℕ
  list = encode_accounts (accounts_of s)

  links_are : links_start book.version book.accounts ≡ links_place s
  links_are = λ i. links_start (hd.version i) (hd.accounts i)

  pub site_fit : SiteFits s book
  site_fit = record {
    few = omega (arith, hd.nodes, length_sets_at s (links_place s) N, h.lawful.site.nodes.1);
    listed = omega (arith, length_accounts (accounts_of s), h.lawful.site.accounts.most);
    list_most = omega (arith, links_are, links_counted s, links_most (version_of s) (length (accounts_of s)), h.lawful.site.accounts.most);
    links_inside = omega (arith, links_are, hd.nodes, stored_length h);
    heard_inside = hearing_inside (omega (arith, stored_length h)) hd refl;
  }

  -- the account list of an image that holds one
  module _ {links : ℕ} (e : links ≡ links_start book.version book.accounts) where
    list_bytes : header_length < links → (take (links - header_length) (drop header_length s) ≡ list) × (links ≡ header_length + length list)
    list_bytes l =
        let v : ℕ = version_of s in
        let tops : List ℕ = encode_topologies v (site_of s) in
        let rows : List ℕ = in_turn (encode_row v) (rows_in s) in
        let t : has_accounts v ≡ true = behind (has_accounts v) (1 + 6 * account_count_of s) (omega (arith, e, links_are, l)) in
        let c = ap (λ (u : Bool). header_length + cond u (1 + 6 * length (accounts_of s)) 0) t in
        let n : links ≡ header_length + length list = omega (arith, e, links_are, links_counted s, c, length_accounts (accounts_of s)) in
        let m : length list ≡ links - header_length = omega (arith, n) in (
          ap (λ (x : List ℕ). take (links - header_length) (drop header_length x)) h.bytes
              ∙ ap (take (links - header_length)) (append_assoc (held (has_accounts v) list) tops rows ∙ ap (λ (u : Bool). held u list ++ (tops ++ rows)) t)
              ∙ take_at list (tops ++ rows) (links - header_length) m,
          n,
        )

    pub list_put : (d o part : List ℕ) → header_length < links → part ≡ take (links - header_length) (drop header_length s) → o ≡ over d header_length part → Put list d header_length links o
    list_put d o part l p q = let b = list_bytes l in record { bytes = q ∙ ap (over d header_length) (p ∙ b.0); on = b.1 }

    -- and that of older books
    pub list_old : (d o : List ℕ) → links ≤ header_length → o ≡ over d header_length (encode_accounts old_accounts) → Put list d header_length (header_length + 7) o
    list_old d o l q =
        let t : has_accounts (version_of s) ≡ false = right_behind (has_accounts (version_of s)) (6 * account_count_of s) (omega (arith, e, links_are, l)) in
        let a : accounts_of s ≡ old_accounts = ap (λ (u : Bool). cond u (accounts_at s (header_length + 1) (account_count_of s)) old_accounts) t in
        let b : old_accounts ≡ accounts_of s = sym a in
        record { bytes = q ∙ ap (λ (x : List Account). over d header_length (encode_accounts x)) b; on = ap (λ (x : List Account). header_length + length (encode_accounts x)) b }

  -- the bytes of a topology from a place on
  topology_bytes : (from size : ℕ) → size ≡ 8 * N → from + size ≤ length s → take (from + size - from) (drop from s) ≡ encode_topology (topology_at s from N)
  topology_bytes from size e l =
      let sets : List ℕ = sets_at s from N in
      let n : length (in_turn word64 sets) ≡ from + size - from = omega (arith, e, length_sets sets, length_sets_at s from N) in
      ap (take (from + size - from)) (sets_written s (stored_bytes s (version_of s) (book_in s) h) N from (omega (arith, e, l)))
      ∙ take_at (in_turn word64 sets) (drop (from + 8 * N) s) (from + size - from) n

  -- header, accounts, links and hearing, part by part
  pub site_put : (d o₁ o₂ o₃ o₄ p₁ p₂ : List ℕ) (to links heard : ℕ) → links ≡ links_start book.version book.accounts
      → heard ≡ hearing_place book.version book.accounts book.nodes → o₁ ≡ over d 0 (renewed s) → Put list o₁ header_length to o₂
      → p₁ ≡ take (links + 8 * book.nodes - links) (drop links s) → o₃ ≡ over o₂ to p₁
      → p₂ ≡ take (heard + 8 * book.nodes - heard) (drop heard s) → o₄ ≡ over o₃ (to + 8 * book.nodes) p₂
      → Put (front (book_in s)) d 0 (to + 8 * book.nodes + 8 * book.nodes) o₄
  site_put d o₁ o₂ o₃ o₄ p₁ p₂ to links heard e f q₁ q₂ w₁ q₃ w₂ q₄ =
      let size : ℕ = 8 * book.nodes in
      let top : List ℕ = header (book_in s) in
      let linked : List ℕ = encode_topology (links_of s) in
      let hears : List ℕ = encode_topology (hearing_of s) in
      let many : size ≡ 8 * N = ap (λ (n : ℕ). 8 * n) hd.nodes in
      let inside = site_fit in
      let k₁ : p₁ ≡ linked = w₁ ∙ topology_bytes links size many (omega (arith, e, inside.links_inside)) ∙ ap (λ (at : ℕ). encode_topology (topology_at s at N)) (e ∙ links_are) in
      let k₂ : p₂ ≡ hears =
      w₂ ∙ topology_bytes heard size many (omega (arith, f, inside.heard_inside))
      ∙ ap (λ (at : ℕ). encode_topology (topology_at s at N)) (f ∙ λ i. hearing_place (hd.version i) (hd.accounts i) (hd.nodes i)) ∙ ap encode_topology (hearing_there s) in
      let n₁ : length linked ≡ size = length_sets (links_of s).rows ∙ ap (λ (n : ℕ). 8 * n) (length_sets_at s (links_place s) N) ∙ sym many in
      let n₂ : length hears ≡ size = length_sets (hearing_of s).rows ∙ ap (λ (n : ℕ). 8 * n) (hearing_nodes s) ∙ sym many in
      let r₁ : o₁ ≡ over d 0 top = q₁ ∙ ap (λ (x : List ℕ). over d 0 (renewed x)) h.bytes ∙ ap (over d 0) (renewed_encode (version_of s) (book_in s)) in
      let r₂ = then d o₁ o₂ top list 0 header_length (omega arith) r₁ refl q₂.bytes in
      let r₃ = then d o₂ o₃ (top ++ list) linked 0 to (omega arith) r₂ (omega (arith, q₂.on)) (q₃ ∙ ap (over o₂ to) k₁) in
      let m₁ = length-append list linked in
      let r₄ = then d o₃ o₄ (top ++ list ++ linked) hears 0 (to + size) (omega arith) r₃ (omega (arith, q₂.on, n₁, m₁)) (q₄ ∙ ap (over o₃ (to + size)) k₂) in
      let m₂ = length-append list (linked ++ hears) in
      let m₃ = length-append linked hears in
      record {
        bytes = r₄ ∙ ap (over d 0) (append_assoc (top ++ list) linked hears);
        on = omega (arith, q₂.on, n₁, n₂, m₂, m₃);
      }

-- A ROW
pub length_hops : (r : Row) → length r.route ≡ hops r + 1 → length r.offsets ≡ hops r → length (hop_bytes r) ≡ 2 + 3 * hops r
length_hops r nodes offsets = omega (arith, length-append r.route (in_turn word r.offsets), length_words r.offsets, nodes, offsets)

-- part by part, its hops as they stand
pub row_put : (r : Row) (d o₁ o₂ o₃ o₄ o₅ part : List ℕ) (to id way k n account : ℕ) → length r.route ≡ hops r + 1 → length r.offsets ≡ hops r
    → to ≤ length d → id ≡ r.id → way ≡ r.way → k ≡ r.period → account ≡ r.account
    → o₁ ≡ over d to (word id) → o₂ ≡ over o₁ (to + 2) (way ∷ []) → o₃ ≡ over o₂ (to + 2 + 1) (word k)
    → part ≡ hop_bytes r → n ≡ length part → o₄ ≡ over o₃ (to + 2 + 1 + 2) part → o₅ ≡ over o₄ (to + 2 + 1 + 2 + n) (word account)
    → Put (encode_row newest r) d to (to + 2 + 1 + 2 + n + 2) o₅
row_put r d o₁ o₂ o₃ o₄ o₅ part to id way k n account nodes offsets l e f m a p₁ p₂ p₃ is long p₄ p₅ =
    let head : List ℕ = word id ++ (way ∷ []) ++ word k in
    let r₂ = then d o₁ o₂ (word id) (way ∷ []) to (to + 2) l p₁ refl p₂ in
    let r₃ = then d o₂ o₃ (word id ++ (way ∷ [])) (word k) to (to + 2 + 1) l r₂ (omega arith) p₃ in
    let r₄ = then d o₃ o₄ head part to (to + 2 + 1 + 2) l r₃ (omega arith) p₄ in
    let r₅ = then d o₄ o₅ (head ++ part) (word account) to (to + 2 + 1 + 2 + n) l r₄ (omega (arith, long)) p₅ in
    record {
      bytes = r₅ ∙ ap₂ (λ (i y : ℕ). over d to (word i ++ (y ∷ []) ++ word k ++ part ++ word account)) e f
          ∙ ap₂ (λ (n : ℕ) (x : List ℕ). over d to (word r.id ++ (r.way ∷ []) ++ word n ++ x ++ word account)) m is
          ∙ ap (λ (n : ℕ). over d to (word r.id ++ (r.way ∷ []) ++ word r.period ++ hop_bytes r ++ word n)) a;
      on = omega (arith, long, ap length is, length_hops r nodes offsets, length_row newest r [] record { nodes = nodes; offsets = offsets });
    }
