-- The nodes of a loop by lanes, and what feeds the inputs of a lane.
use Rattle.std.specs.Prelude.{ℕ, suc, if◌then◌else◌, List, [], ◌∷◌, ◌++◌, map, Option, Some, None, bytes_eq}
use Rattle.std.specs.List.{concat}
use Rattle.components.specs.Name.{Name, Port}
use Rattle.components.specs.Kind.{Shape}
use Rattle.circuits.specs.Circuit.{Circuit}
use Rattle.loop_laws.specs.Polarity.{fresh_in}
use Rattle.loop_laws.specs.Reached.{port_at}
use Rattle.loop_laws.specs.Loop.{Lane, Loop, shapes_of}
use Rattle.loop_turns.specs.Rebuilt.{moved}

-- one further on
abbrev pub next_place : Option ℕ → Option ℕ
next_place None = None
next_place (Some j) = Some (suc j)

-- the number of the lane whose Mux, or Branch, has this name; lanes are counted from 1
abbrev pub lane_place : (Lane → Name) → List Lane → Name → Option ℕ
lane_place f [] n = None
lane_place f (x ∷ xs) n = if bytes_eq (f x) n then Some 1 else next_place (lane_place f xs n)

-- the port of that number of node n, or else q
abbrev pub port_or : Option ℕ → Name → Port → Port
port_or None n q = q
port_or (Some j) n q = port_at n j

-- what fed this input of a lane, or another source where there is no such lane
abbrev pub fed_lane : Circuit → (Port → Port) → Option Lane → (Lane → Port) → Option Port → Option Port
fed_lane g out None input other = other
fed_lane g out (Some x) input other = moved out (g.feeder (input x))

-- a lane's input for new tokens; of its Branch the data input, and the condition
abbrev pub fresh_of : Loop → Lane → Port
fresh_of l x = port_at x.mux (fresh_in l.goes_back)

abbrev pub data_of : Lane → Port
data_of x = port_at x.branch 1

abbrev pub condition_of : Lane → Port
condition_of x = port_at x.branch 2

-- the Buffers on the back paths
abbrev pub backs_of : List Lane → List Name
backs_of [] = []
backs_of (x ∷ xs) = x.back ++ backs_of xs

-- the tree, the Muxes, the Branches and the Buffers on the back paths
abbrev pub frame_of : Loop → List Name
frame_of l = l.tree ++ (map (λ (x : Lane). x.mux) l.lanes ++ (map (λ (x : Lane). x.branch) l.lanes ++ backs_of l.lanes))

-- the fields of all lanes, one lane after another
abbrev pub tuple_shape : Loop → Shape
tuple_shape l = concat (shapes_of l)

-- the loop with these lanes
abbrev pub with_lanes : Loop → List Lane → Loop
with_lanes l xs = record { tags = l.tags; goes_back = l.goes_back; tree = l.tree; lanes = xs; body = l.body }

-- the loops, with another at m
abbrev pub with_loop : (Name → Loop) → Name → Loop → Name → Loop
with_loop loops m l n = if bytes_eq n m then l else loops n

-- the loop without the Buffers on its back paths
abbrev pub without_back : Lane → Lane
without_back x = record { mux = x.mux; branch = x.branch; back = []; shape = x.shape }

abbrev pub without_backs : Loop → Loop
without_backs l = with_lanes l (map without_back l.lanes)
