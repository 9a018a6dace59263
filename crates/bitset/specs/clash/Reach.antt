-- The reach of a hop: the nodes that clash with it as senders, and those that do as receivers.
use Rattle.std.specs.Prelude.{◌⊎◌, ℕ, ◌<◌, ◌≤◌}
use Rattle.rules.specs.Topology.{Topology, nodes, SoundTopology, Joined, Hop, Touches}
use Rattle.rules.specs.declared.Node.{Node}
use Rattle.bitset.specs.Sets.{SetOf}
use Rattle.bitset.specs.declared.clash.Reach.{Reach}

-- the hop from a node to another
abbrev pub hop : Node → Node → Hop
hop a b = record { from = a.0; to = b.0 }

-- the hop is one between nodes of a sound topology
pub record Between (hearing : Topology) (h : Hop) : Type 0 where
  pub sound : SoundTopology hearing
  pub most : nodes hearing ≤ 64
  pub from : h.from < nodes hearing
  pub to : h.to < nodes hearing

-- the two ends of a hop
pub data End : Type 0 where
  sender : End
  receiver : End

-- the node at an end
abbrev pub node_at : End → Hop → ℕ
node_at sender h = h.from
node_at receiver h = h.to

-- the set of a reach for an end
abbrev pub set_at : End → Reach → ℕ
set_at sender r = r.senders
set_at receiver r = r.receivers

-- every hop that has the node at this end clashes with h: the node is an end of h, or the one that receives hears the one that sends
abbrev pub Clashes : Topology → Hop → End → ℕ → Type 0
Clashes hearing h sender a = Touches a h ⊎ Joined hearing a h.to
Clashes hearing h receiver a = Touches a h ⊎ Joined hearing h.from a

-- the two sets have exactly those nodes
abbrev pub ReachOf : Topology → Hop → Reach → Type 0
ReachOf hearing h r = (end : End) → SetOf (Clashes hearing h end) (set_at end r)
