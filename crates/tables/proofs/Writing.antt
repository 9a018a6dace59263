-- What one write after the other leaves in a table.
use mathlib.Core.Path.{◌≡◌, refl, sym, ap, ◌∙◌, subst}
use mathlib.Core.Logic.{◌⊎◌, inl, inr, ⊎_elim}
use mathlib.Core.List.{List, ◌∷◌}
use Prim.Native.Nat.{ℕ, ◌+◌, ◌*◌, ◌-◌, ◌<◌, ◌≤◌}
use native.Mathlib.Decide.{dec_lt, ℕ_discrete}
use native.Mathlib.Omega.{arith}
use native.Mathlib.Nat.{mul-le-mul_right, le_antisymm}
use lib.ListN.{length, take, drop}
use borrow.Rule.Slice.PartMut.{put_mid}
use Rattle.std.proofs.lemmas.Slice.{between-put_mid, take-put_mid_below, drop-put_mid}
use Rattle.std.proofs.lemmas.List.{drop-take}
use Rattle.rules.specs.Image.{word}
use Rattle.operations.specs.Operations.{where_working}
use Rattle.tables.specs.Entries.{Entries, entry_at, Now, Over, Only, Put, InTurn, Repeated}
use Rattle.tables.specs.Entries.Now.{given, kept}

-- what E has for a slot, F has too
abbrev pub Within : Entries → Entries → Type 0
Within E F = (slot operation id : ℕ) → E slot operation id → F slot operation id

-- it has an entry for the slot
abbrev pub Gives : Entries → ℕ → Type 0
Gives E slot = (operation id : ℕ) × E slot operation id

pub over_none : {n : ℕ} {E : Entries} {out : List ℕ} → ((slot operation id : ℕ) → E slot operation id → ⊥) → Over n E out out
over_none f = record { entries = λ slot l. kept (f slot) refl; beyond = refl }

-- first the entries of E, then those of F
module _ {n : ℕ} {E F G : Entries} {old mid new : List ℕ} where
  pub over_then : Over n E old mid → Over n F mid new → Within E G → Within F G
      → ((slot operation id : ℕ) → G slot operation id → Gives E slot ⊎ Gives F slot) → Over n G old new
  over_then a b e f g = record { entries = λ slot l. both slot (a.entries slot l) (b.entries slot l); beyond = b.beyond ∙ a.beyond }
    where
      both : (slot : ℕ) → Now E old mid slot → Now F mid new slot → Now G old new slot
      both slot x (given y q) = given (f slot _ _ y) q
      both slot (given x p) (kept y q) = given (e slot _ _ x) (q ∙ p)
      both slot (kept x p) (kept y q) = kept (λ operation id h. ⊎_elim (λ v. x v.0 v.1 v.2) (λ v. y v.0 v.1 v.2) (g slot operation id h)) (q ∙ p)

-- the entries of E below n are those of F below m
pub over_same : {n m : ℕ} {E F : Entries} {old new : List ℕ} → n ≡ m → ((slot operation id : ℕ) → slot < m → E slot operation id → F slot operation id)
    → ((slot operation id : ℕ) → slot < m → F slot operation id → Gives E slot) → Over n E old new → Over m F old new
over_same {n} {m} {E} {F} {old} {new} q f g a = record {
  entries = λ slot l. one slot l (a.entries slot (omega arith));
  beyond = subst (λ (k : ℕ). drop (3 * k) new ≡ drop (3 * k) old) q a.beyond;
}
  where
    one : (slot : ℕ) → slot < m → Now E old new slot → Now F old new slot
    one slot l (given x p) = given (f slot _ _ l x) p
    one slot l (kept x p) = kept (λ operation id h. let v = g slot operation id l h in x v.0 v.1 v.2) p

-- ONE ENTRY
-- three bytes are written over those of a slot
module _ (out bytes : List ℕ) (slot k : ℕ) (fits : 3 * slot + 3 ≤ length out) (all : k ≡ 3) (three : length bytes ≡ 3) where
  abbrev written : List ℕ
  written = put_mid (3 * slot) k out bytes

  here : entry_at written slot ≡ bytes
  here =
      let e : 3 ≡ 3 * slot + 3 - 3 * slot = omega arith in
      ap (λ (n : ℕ). take n (drop (3 * slot) written)) e ∙ between-put_mid (3 * slot) k out bytes (3 * slot + 3) (omega arith) (omega arith)

  other : (x : ℕ) → (x ≡ slot → ⊥) → Dec (x < slot) → entry_at written x ≡ entry_at out x
  other x f (yes l) =
      sym (drop-take (3 * x) 3 written) ∙ ap (drop (3 * x)) (take-put_mid_below (3 * slot) k out bytes (3 * x + 3) (omega arith) (omega arith)) ∙ drop-take (3 * x) 3 out
  other x f (no l) = ap (take 3) (drop-put_mid (3 * slot) k out bytes (3 * x) (omega arith) (omega arith) (omega arith))

  pub put_law : (operation id : ℕ) → bytes ≡ operation ∷ word (where_working operation id) → Put slot operation id out written
  put_law operation id e = record {
    over = λ n l. record {
      entries = λ x k. at x (ℕ_discrete x slot);
      beyond = drop-put_mid (3 * slot) k out bytes (3 * n) (omega arith) (omega arith) (omega arith);
    };
  }
    where
      at : (x : ℕ) → Dec (x ≡ slot) → Now (Only slot operation (where_working operation id)) out written x
      at x (yes q) = given record { slot_is = q; operation_is = refl; id_is = refl } (ap (entry_at written) q ∙ here ∙ e)
      at x (no f) = kept (λ o i h. f h.slot_is) (other x f (dec_lt x slot))

-- a turn more
module _ {at does name : ℕ → ℕ} {n turns slot operation id : ℕ} {old mid new : List ℕ} where
  pub turn_more : Over n (InTurn at does name turns) old mid → Put slot operation id mid new → slot < n
      → slot ≡ at turns → operation ≡ does turns → where_working operation id ≡ name turns → Over n (InTurn at does name (turns + 1)) old new
  turn_more a p l e f g =
      over_then a (p.over n l)
      (λ s o i h. record { turn = h.turn; within = omega (arith, h.within); slot_is = h.slot_is; operation_is = h.operation_is; id_is = h.id_is })
      (λ s o i h. record { turn = turns; within = omega arith; slot_is = h.slot_is ∙ e; operation_is = h.operation_is ∙ f; id_is = h.id_is ∙ g })
      (λ s o i h. last s o i h (ℕ_discrete h.turn turns))
    where
      last : (s o i : ℕ) (h : InTurn at does name (turns + 1) s o i)
          → Dec (h.turn ≡ turns) → Gives (InTurn at does name turns) s ⊎ Gives (Only slot operation (where_working operation id)) s
      last s o i h (yes q) = inr (operation, where_working operation id, record { slot_is = h.slot_is ∙ ap at q ∙ sym e; operation_is = refl; id_is = refl })
      last s o i h (no q) =
          inl (o, i, record { turn = h.turn; within = omega (arith, h.within); slot_is = h.slot_is; operation_is = h.operation_is; id_is = h.id_is })

pub turn_all : {at does name : ℕ → ℕ} {n turn turns : ℕ} {old new : List ℕ} → turn ≤ turns → turns ≤ turn
    → Over n (InTurn at does name turn) old new → Over n (InTurn at does name turns) old new
turn_all {at} {does} {name} {n} {turn} {turns} {old} {new} l k a = subst (λ (x : ℕ). Over n (InTurn at does name x) old new) (le_antisymm l k) a

-- a turn more has room in all turns
pub turn_room : {turn turns : ℕ} (step : ℕ) → turn < turns → turn * step + step ≤ turns * step
turn_room step l = omega (arith, mul-le-mul_right step l)

-- AT EVERY STEP
-- the entries of some turns are written, and the slot is the next one's
pub record Stepping (end place step does name : ℕ) (old : List ℕ) (slot : ℕ) (out : List ℕ) : Type 0 where
  pub turn : ℕ
  pub slot_is : slot ≡ place + turn * step
  pub over : Over end (InTurn (λ (turn : ℕ). place + turn * step) (λ (turn : ℕ). does) (λ (turn : ℕ). name) turn) old out

module _ {end place step does name : ℕ} where
  -- all turns below the end are those before one that is not below it
  pub step_all : {slot : ℕ} {old out : List ℕ} → end ≤ slot → Stepping end place step does name old slot out → Over end (Repeated place step does name) old out
  step_all l h =
      over_same refl (λ s o i k x. record { turn = x.turn; slot_is = x.slot_is; operation_is = x.operation_is; id_is = x.id_is })
      (λ s o i k x. (does, name, record { turn = x.turn; within = before x.turn h.turn (omega (arith, h.slot_is, x.slot_is)); slot_is = x.slot_is; operation_is = refl; id_is = refl }))
      h.over
    where
      before : (a b : ℕ) → place + a * step < place + b * step → a < b
      before a b k = go (dec_lt a b)
        where
          go : Dec (a < b) → a < b
          go (yes m) = m
          go (no m) = let n : b ≤ a = omega arith in absurd (omega (arith, mul-le-mul_right step n))

pub step_more : {end place step operation id slot : ℕ} {old mid new : List ℕ} → Stepping end place step operation (where_working operation id) old slot mid
    → Put slot operation id mid new → slot < end → Stepping end place step operation (where_working operation id) old (slot + step) new
step_more h p l = record { turn = h.turn + 1; slot_is = omega (arith, h.slot_is); over = turn_more h.over p l h.slot_is refl refl }
