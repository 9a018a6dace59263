-- Sets in a row as a topology.
use Rattle.std.specs.Prelude.{List, ℕ}
use Rattle.rules.specs.Topology.{Topology}

-- the topology of these rows
abbrev pub topology : List ℕ → Topology
topology rows = record { rows = rows }
