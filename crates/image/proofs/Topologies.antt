-- Where the links and the hearing stand.
use mathlib.Core.Path.{◌≡◌, refl, sym, ap, ap₂, ◌∙◌, subst}
use mathlib.Core.List.{List}
use Prim.Native.Nat.{ℕ, ◌+◌, ◌*◌, ◌≤◌}
use native.Mathlib.Omega.{arith}
use lib.ListN.{length, take}
use Rattle.rules.specs.Topology.{Topology, nodes}
use Rattle.rules.specs.Image.{links_start, rows_start, sets_at, version_of, nodes_of, account_count_of, links_place, hearing_of, rows_place}
use Rattle.rules.proofs.Written.{length_sets_at}
use Rattle.image.specs.declared.Book.{Book}
use Rattle.image.specs.Header.{HeaderOf}
use Rattle.image.specs.Places.{hearing_place, Sets}
use Rattle.image.proofs.Places.{rows_behind, hearing_there}
use Rattle.image.proofs.Walks.{rows_start_lem}

-- where the header that was read says that the links stand, they stand
pub links_there : {s : List ℕ} {b : Book} {at : ℕ} → HeaderOf s b → at ≡ links_start b.version b.accounts → at ≡ links_place s
links_there h e = e ∙ ap₂ links_start h.version h.accounts

-- and are decoded
pub links_sets : {s : List ℕ} {b : Book} {at : ℕ} {rows : List ℕ} → HeaderOf s b → at ≡ links_start b.version b.accounts → Sets s at b.nodes rows → Sets s (links_place s) b.nodes rows
links_sets {s} {b} {rows = rows} h e = subst (λ (k : ℕ). Sets s k b.nodes rows) (links_there h e)

-- the hearing stands inside the image
pub hearing_inside : {s : List ℕ} {b : Book} {at : ℕ} → rows_place s ≤ length s → HeaderOf s b → at ≡ hearing_place b.version b.accounts b.nodes → at + 8 * b.nodes ≤ length s
hearing_inside {s} {b} l h e =
    let k : rows_start b.version b.accounts b.nodes ≡ rows_place s = rows_start_lem h refl in
    omega (arith, e, rows_behind b.version b.accounts b.nodes, k, l)

-- and has a row for each node
pub hearing_nodes : (s : List ℕ) → nodes (hearing_of s) ≡ nodes_of s
hearing_nodes s = sym (ap nodes (hearing_there s)) ∙ length_sets_at s (hearing_place (version_of s) (account_count_of s) (nodes_of s)) (nodes_of s)

-- once it is decoded
pub hearing_rows : {s : List ℕ} {b : Book} {all : List ℕ} {at : ℕ} → HeaderOf s b → at ≡ hearing_place b.version b.accounts b.nodes → Sets s at b.nodes all
    → take b.nodes all ≡ (hearing_of s).rows
hearing_rows {s} h e w =
    w.rows ∙ ap₂ (sets_at s) (e ∙ λ i. hearing_place (h.version i) (h.accounts i) (h.nodes i)) h.nodes ∙ ap (λ (T : Topology). T.rows) (hearing_there s)
