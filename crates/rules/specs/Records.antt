-- How the code's records are read.
use Rattle.std.specs.Prelude.{List, map, ℕ, ◌+◌, take}
use Rattle.rules.specs.Tiles as tiles
use Rattle.rules.specs.Placing as placing
use Rattle.rules.specs.declared.{Node.Node, Slot.Slot, Plan.Plan, Asked.Asked, Route.Route, Placed.Placed}

-- the tile plan that the code's record holds
abbrev pub the_plan : Plan → tiles.Plan
the_plan p = record { slots = p.slots.0; tiles = p.tiles.0; kinds = p.kinds; down = p.down.0; up = p.up.0 }

-- what an open asks for, as the code's record holds it
abbrev pub the_asked : Asked → placing.Asked
the_asked q = record { id = q.id; source = q.source.0; destination = q.destination.0; period = q.period.0; second = q.second; account = q.account }

-- the numbers of nodes, and of slots
abbrev pub node_numbers : List Node → List ℕ
node_numbers = map (λ (n : Node). n.0)

abbrev pub slot_numbers : List Slot → List ℕ
slot_numbers = map (λ (s : Slot). s.0)

-- the nodes of the route that the code's record holds
unfoldable pub the_route : Route → List ℕ
the_route r = take (r.hops + 1) (node_numbers r.nodes)

-- the offset of each of its hops
unfoldable pub the_offsets : Placed → List ℕ
the_offsets p = take p.route.hops (slot_numbers p.offsets)
