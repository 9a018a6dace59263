-- An image written again in the newest version.
use Rattle.std.specs.Prelude.{◌≡◌, List, ◌++◌, ℕ, ◌+◌, ◌≤◌, length, take, drop}
use Rattle.rules.specs.Topology.{nodes}
use Rattle.rules.specs.Book.{Book, hops_in_all}
use Rattle.rules.specs.Image.{newest, longest_image, mark, word, encode_header, encode_site, encode}
use Rattle.rules.proofs.Reading.{book_in}
use Rattle.writer.specs.Over.{over}

-- the header of an image, with the newest version
unfoldable pub renewed : List ℕ → List ℕ
renewed s = mark ++ word newest ++ take 11 (drop 5 s)

-- what stands before the rows of the newest image
abbrev pub front : Book → List ℕ
front b = encode_header newest b.site.plan (nodes b.site.links) (length b.rows) (hops_in_all b.rows) ++ encode_site newest b.site

-- the part was written from the place on, up to the next
pub record Put (part out : List ℕ) (at next : ℕ) (out' : List ℕ) : Type 0 where
  pub bytes : out' ≡ over out at part
  pub on : next ≡ at + length part

-- the first n bytes are the image of the same book in the newest version, and the buffer has room for the longest
pub record Transcribed (s : List ℕ) (n : ℕ) (out : List ℕ) : Type 0 where
  pub room : length out ≡ longest_image newest
  pub fits : n ≤ length out
  pub bytes : take n out ≡ encode newest (book_in s)
