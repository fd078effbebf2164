-- In which loop each node of a graph is, as a list by index.
use Rattle.std.specs.Prelude.{◌≡◌, ℕ, List, [], ◌∷◌, ◌++◌, map, Bool, true, false, nat_eq, Option, Some, length, slice_get, slice_set}
use Rattle.components.specs.Name.{Name}
use Rattle.circuits.specs.Replacing.{In}
use Rattle.loop_laws.specs.Polarity.{exit_out}
use Rattle.loop_laws.specs.Loop as laws
use Rattle.graph_core.specs.declared.place.NodeId.{NodeId}
use Rattle.graph_core.specs.Place.{index_of}
use Rattle.graph_core.specs.GraphValue.{GraphValue, Denotes, name_by}
use Rattle.loop_find.specs.declared.shape.Lane.{Lane}
use Rattle.loop_find.specs.declared.shape.LoopShape.{LoopShape}
use Rattle.loop_find.specs.declared.spots.Spot.{Spot}
use Rattle.loop_find.specs.declared.spots.Spot.TheVariants.{Alone, Inside, Branch}
use Rattle.loop_find.specs.Shapes.{loop_by}

-- Writing, spot after spot.

pub record Write : Type 0 where
  pub id : NodeId
  pub spot : Spot

abbrev pub written : List Write → List Spot → List Spot
written [] spots = spots
written (w ∷ ws) spots = written ws (slice_set spots (index_of w.id) w.spot)

abbrev pub writes_to : Spot → List NodeId → List Write
writes_to spot ids = map (λ id. record { id = id; spot = spot }) ids

-- the output of a Branch that leads out of a loop
abbrev pub exit_port : ℕ → ℕ
exit_port back_bit = exit_out (nat_eq back_bit 1)

abbrev pub lane_writes : ℕ → ℕ → Lane → List Write
lane_writes at exit x = writes_to (Inside at) x.back ++ record { id = x.mux; spot = Inside at } ∷ record { id = x.branch; spot = Branch at exit } ∷ []

abbrev pub all_lane_writes : ℕ → ℕ → List Lane → List Write
all_lane_writes at exit [] = []
all_lane_writes at exit (x ∷ xs) = lane_writes at exit x ++ all_lane_writes at exit xs

abbrev pub loop_writes : LoopShape → List Write
loop_writes s =
    writes_to (Inside (index_of s.mark)) s.tree ++
    (writes_to (Inside (index_of s.mark)) s.body ++ (all_lane_writes (index_of s.mark) (exit_port s.back_bit) s.lanes ++ record { id = s.mark; spot = Inside (index_of s.mark) } ∷ []))

abbrev pub all_writes : List LoopShape → List Write
all_writes [] = []
all_writes (s ∷ ss) = loop_writes s ++ all_writes ss

-- Reading.

-- the number at which the node of an index stands, by what is written there
abbrev pub vertex_by : Option Spot → ℕ → ℕ
vertex_by (Some (Inside at)) index = at
vertex_by (Some (Branch at exit)) index = at
vertex_by _ index = index

abbrev pub vertex_at : List Spot → NodeId → ℕ
vertex_at spots id = vertex_by (slice_get spots (index_of id)) (index_of id)

-- whether a walk may go by a wire from an output
abbrev pub leaves_by : Option Spot → ℕ → Bool
leaves_by (Some Alone) port = true
leaves_by (Some (Branch at exit)) port = nat_eq port exit
leaves_by _ port = false

abbrev pub leaves_at : List Spot → NodeId → ℕ → Bool
leaves_at spots id port = leaves_by (slice_get spots (index_of id)) port

-- a loop, by ids, that has this node
pub record Holds (g : GraphValue) (shapes : List LoopShape) (n : Name) : Type 0 where
  pub shape : LoopShape
  pub listed : In shape shapes
  pub has : laws.NodeOf (name_by g.ids shape.mark) (loop_by g shape) n

-- the spot of a node of this name
pub data IsSpot (g : GraphValue) (shapes : List LoopShape) (n : Name) : Spot → Type 0 where
  alone : ¬ (Holds g shapes n) → IsSpot g shapes n Alone
  inside : (h : Holds g shapes n) → ¬ (laws.HasBranch (loop_by g h.shape) n) → IsSpot g shapes n (Inside (index_of h.shape.mark))
  is_branch : (h : Holds g shapes n) → laws.HasBranch (loop_by g h.shape) n → IsSpot g shapes n (Branch (index_of h.shape.mark) (exit_port h.shape.back_bit))

-- the spots of all nodes
pub record AreSpots (g : GraphValue) (shapes : List LoopShape) (spots : List Spot) : Type 0 where
  pub size : length spots ≡ g.slots
  pub spot : (id : NodeId) (n : Name) → Denotes g id n → (s : Spot) × (slice_get spots (index_of id) ≡ Some s) × IsSpot g shapes n s
