-- What a search for an offset and for a placing answers, by the words of an index and by the plain test.
use Rattle.std.specs.Prelude.{◌≡◌, List, ℕ, ◌*◌, ◌-◌, ◌<◌, ◌≤◌, Option, Some, None, length, take, drop, replicate}
use Rattle.rules.specs.Words.{◌∈◌}
use Rattle.rules.specs.Tiles.{Plan, PlanInRange, Period}
use Rattle.rules.specs.Topology.{Topology, nodes, SoundTopology, hop_at, hop_count, most_route_hops}
use Rattle.rules.specs.Book.{OnData}
use Rattle.rules.specs.Records.{slot_numbers, the_route, the_offsets}
use Rattle.rules.specs.declared.Slot.{Slot}
use Rattle.placing.specs.declared.Around.{Around as Lent}
use Rattle.rules.proofs.Greedy.{Least, FirstPlaces, NoPlaces}
use Rattle.bitset.specs.clash.Reach.{End, Clashes}
use Rattle.index.specs.Marks.{MeetsIn}
use Rattle.placing.specs.plain.Plain.{RowsThere, Agrees, MeetsRoute}

-- what hops are placed beside: the words of an index, rows of an image that have moduli, and a route of the same period with its offsets
pub record Around : Type 0 where
  pub words : List ℕ
  pub image : List ℕ
  pub start : ℕ
  pub rows : ℕ
  pub moduli : List ℕ
  pub first : List ℕ
  pub offsets : List ℕ

abbrev pub around : List ℕ → List ℕ → ℕ → ℕ → List ℕ → List ℕ → List ℕ → Around
around words image start rows moduli first offsets =
    record { words = words; image = image; start = start; rows = rows; moduli = moduli; first = first; offsets = offsets }

-- those that the code has
abbrev pub the_around : Lent → Around
the_around a = around a.index.now a.image.now a.start a.rows a.moduli.now (the_route a.beside.route) (the_offsets a.beside)

-- the rows stand, and the route has a hop for each offset
pub record Standing (a : Around) : Type 0 where
  pub there : RowsThere a.image a.start a.rows
  pub fits : length a.offsets ≤ length a.first - 1
  pub small : (x : ℕ) → x ∈ a.first → x < 64

-- a hop of period K may have the offset: only data slots, and in none of them a node with C is at work
pub record FreeBy (C : End → ℕ → Type 0) (plan : Plan) (a : Around) (K o : ℕ) : Type 0 where
  pub on_data : OnData plan K o
  pub quiet : MeetsIn C plan.slots a.words K o → ⊥
  pub apart : Agrees C a.image a.start a.rows a.moduli o → ⊥
  pub alone : MeetsRoute C a.first a.offsets o → ⊥

-- the least number from lo on, below the end, with F, or that there is none
abbrev pub Searched : (ℕ → Type 0) → ℕ → ℕ → Option Slot → Type 0
Searched F lo end (Some o) = Least F lo end o.0
Searched F lo end None = (k : ℕ) → lo ≤ k → k < end → F k → ⊥

-- what a placing is asked for: a plan, a topology, a route over its nodes, a period
pub record Asked (plan : Plan) (hearing : Topology) (route : List ℕ) (K : ℕ) : Type 0 where
  pub in_range : PlanInRange plan
  pub sound : SoundTopology hearing
  pub most : nodes hearing ≤ 64
  pub some : 1 ≤ length route
  pub few : hop_count route ≤ most_route_hops
  pub known : (a : ℕ) → a ∈ route → a < nodes hearing
  pub period : Period K

-- hop i of the route may have the offset: it meets no hop that clashes with it
abbrev pub FreeAt : Plan → Topology → Around → ℕ → List ℕ → ℕ → ℕ → Type 0
FreeAt plan hearing a K route i o = FreeBy (Clashes hearing (hop_at route i)) plan a K o

-- the first offsets with F for n hops, below B, and zeros after them; or that there are none
abbrev pub Answers : (ℕ → ℕ → Type 0) → ℕ → ℕ → Option (List Slot) → Type 0
Answers F B n (Some offsets) = FirstPlaces F B n 0 0 (take n (slot_numbers offsets)) × (drop n (slot_numbers offsets) ≡ replicate (most_route_hops - n) 0)
Answers F B n None = NoPlaces F B n 0 0

-- those of the route's hops, beside what is around
abbrev pub AnswersBy : Plan → Topology → Around → ℕ → List ℕ → Option (List Slot) → Type 0
AnswersBy plan hearing a K route = Answers (FreeAt plan hearing a K route) (K * plan.slots) (hop_count route)
