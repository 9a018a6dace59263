-- A list written over another.
use Rattle.std.specs.Prelude.{List, ◌∷◌, ◌++◌, ℕ, ◌+◌, ◌-◌, length, take, drop}
use Rattle.rules.specs.Image.{word}

-- d, with s in the place of what stands from a place on
unfoldable pub over : List ℕ → ℕ → List ℕ → List ℕ
over d at s = take at d ++ s ++ drop (at + length s) d

-- the front of an image up to a place, with these counts of streams and hops
unfoldable pub headed : List ℕ → ℕ → ℕ → ℕ → List ℕ
headed s to streams hops = take 12 s ++ (streams ∷ word hops) ++ take (to - 15) (drop 15 s)
