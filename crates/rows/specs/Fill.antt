-- Rows that fill an image, each behind the one before.
use Rattle.std.specs.Prelude.{◌≡◌, Option, None, Some, List, ℕ, zero, suc, length}
use Rattle.rules.specs.Book.{Row}
use Rattle.rules.specs.Image.{streams_of, rows_place}
use Rattle.image.specs.Places.{row_at, next_at}
use Rattle.rows.specs.Walk.{RowStands}
use Rattle.rows.specs.Pairs.{ComesBehind}

-- n lawful rows stand from the place on, each behind the one before, and fill the image
unfoldable pub RowsFill : List ℕ → ℕ → Option Row → ℕ → Type 0
RowsFill s zero before at = at ≡ length s
RowsFill s (suc n) before at = RowStands s at × ComesBehind before (row_at s at) × RowsFill s n (Some (row_at s at)) (next_at s at)

-- all rows fill the image
abbrev pub AllFill : List ℕ → Type 0
AllFill s = RowsFill s (streams_of s) None (rows_place s)
