-- Over 64 different pairs are shown exactly if over 64 different keys were found.
use mathlib.Core.Path.{◌≡◌, refl, sym, subst}
use mathlib.Core.Logic.{inl, inr}
use mathlib.Core.Bool.{Bool, true, false, not}
use mathlib.Core.List.{List, [], ◌∷◌}
use Prim.Native.Nat.{ℕ, suc, ◌*◌, ◌≤◌}
use native.Mathlib.Omega.{arith}
use Rattle.std.proofs.Common.{Option, Some, None}
use Rattle.std.specs.Option.{is_some}
use lib.ListN.{length, take, length-take}
use Rattle.rules.specs.Words.{◌∈◌, Distinct, Tests, With}
use Rattle.rules.specs.Words.With.{here, there}
use Rattle.rules.specs.Tiles.{Plan, short_tiles}
use Rattle.rules.specs.Tables.{TooMany}
use Rattle.rules.proofs.Tests.{never, said_yes, said_no}
use Rattle.entries.specs.Keys.{Collected}
use Rattle.adopting.proofs.drafting.Image.{over_many}

take_out : (x : ℕ) (xs : List ℕ) → x ∈ xs → (ys : List ℕ) × With x ys xs
take_out x [] h = absurd h
take_out x (y ∷ xs) (inl e) = (xs, subst (λ (v : ℕ). With v xs (y ∷ xs)) (sym e) here)
take_out x (y ∷ xs) (inr h) = let t = take_out x xs h in (y ∷ t.0, there t.1)

still : {x : ℕ} {ys zs : List ℕ} → With x ys zs → (z : ℕ) → z ∈ zs → (x ≡ z → ⊥) → z ∈ ys
still here z (inl e) f = absurd (f (sym e))
still here z (inr h) f = h
still (there w) z (inl e) f = inl e
still (there w) z (inr h) f = inr (still w z h f)

one_longer : {x : ℕ} {ys zs : List ℕ} → With x ys zs → length zs ≡ suc (length ys)
one_longer here = refl
one_longer (there w) = let e = one_longer w in omega arith

-- different numbers that are all in a list are no more than it has
fewer : (xs ys : List ℕ) → Distinct xs → ((x : ℕ) → x ∈ xs → x ∈ ys) → length xs ≤ length ys
fewer [] ys d f = omega arith
fewer (x ∷ xs) ys d f =
    let t = take_out x ys (f x (inl refl)) in
    let l = fewer xs t.0 d.1 (λ z m. still t.1 z (f z (inr m)) (d.0 z m)) in
    omega (arith, one_longer t.1)

pub tests_many : (plan : Plan) (N : ℕ) {tables : List ℕ} {count : ℕ} (keys entries : List ℕ) (r : Option ℕ) (t : Bool) → is_some r ≡ not t → count ≡ N * (short_tiles * plan.slots)
    → Collected false tables count r keys entries → Tests t (TooMany plan N tables)
tests_many plan N keys entries None true n e c = said_yes (over_many plan N e c)
tests_many plan N keys entries None false n e c = never n
tests_many plan N keys entries (Some r) true n e c = never (sym n)
tests_many plan N keys entries (Some r) false n e c =
    said_no (λ m. let few = fewer m.keys (take r keys) m.different (λ x h. let s = m.shown x h in
    c.1.all s.place x (omega (arith, s.there)) record { way = s.way; of_stream = s.of_stream; from_source = λ z. never z; pair = s.pair }) in
    omega (arith, few, m.over, length-take r keys, c.0))
