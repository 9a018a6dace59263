-- The mark and the version at the front of an image.
use mathlib.Core.Path.{◌≡◌, sym, ap, ◌∙◌, subst}
use mathlib.Core.Bool.{Bool}
use mathlib.Core.List.{List}
use Prim.Native.Nat.{ℕ, zero, suc, ◌<◌, ◌≤◌}
use native.Mathlib.Omega.{arith}
use lib.ListN.{length, get_or, take}
use lib.Seq.{get_or-take, length-take-le, ext_get_or}
use Rattle.rules.specs.Words.{Tests}
use Rattle.rules.specs.Image.{header_length, mark, Version, version_of}
use Rattle.rules.proofs.Tests.{alike}

-- the mark, and a version that there is
abbrev pub Marked : List ℕ → Type 0
Marked s = (take 3 s ≡ mark) × Version (version_of s)

module _ (s : List ℕ) (long : header_length ≤ length s) where
  at_front : take 3 s ≡ mark → (i : ℕ) → i < 3 → get_or s i 0 ≡ get_or mark i 0
  at_front e i l = sym (get_or-take 3 s i 0 l) ∙ ap (λ (l : List ℕ). get_or l i 0) e

  module _ (a : get_or s 0 0 ≡ get_or mark 0 0) (b : get_or s 1 0 ≡ get_or mark 1 0) (c : get_or s 2 0 ≡ get_or mark 2 0) where
    all_front : take 3 s ≡ mark
    all_front = ext_get_or 0 (take 3 s) mark (length-take-le 3 s (omega arith)) (λ i l. each i (omega (arith, length-take-le 3 s (omega arith))))
      where
        byte : (i : ℕ) → i < 3 → get_or s i 0 ≡ get_or mark i 0
        byte zero l = a
        byte (suc zero) l = b
        byte (suc (suc zero)) l = c
        byte (suc (suc (suc i))) l = absurd (omega arith)

        each : (i : ℕ) → i < 3 → get_or (take 3 s) i 0 ≡ get_or mark i 0
        each i l = get_or-take 3 s i 0 l ∙ byte i l

    pub marked : {t : Bool} (v : ℕ) → v ≡ version_of s → Tests t (Version v) → Tests t (Marked s)
    marked v e h = alike h (λ f. (all_front, subst Version e f)) (λ f. subst Version (sym e) f.1)
