-- Room for the parts of a line.
use Rattle.std.specs.Prelude.{ℕ}

-- for a number of 64 bits
abbrev pub number_room : ℕ
number_room = 20

-- for a line of three
abbrev pub line_room : ℕ
line_room = 64

-- for a line with a movement of each node
abbrev pub nodes_room : ℕ
nodes_room = 1408
