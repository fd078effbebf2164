-- Muxes that a tree of Forks and Buffers leads one select to, one for each lane, and the one Mux that comes in their place. A lane is given by its shape.
use Rattle.std.specs.Prelude.{◌≡◌, ℕ, List, ◌∷◌, ◌++◌, Option, Some, None, map}
use Rattle.std.specs.List.{concat}
use Rattle.components.specs.declared.kind.Kind.{Kind}
use Rattle.components.specs.declared.kind.Kind.TheVariants.{Entry, Exit, Join, Split, Mux}
use Rattle.components.specs.Name.{Name, port_get}
use Rattle.components.specs.Kind.{Shape, KindOk, AreParts, field, ins, outs}
use Rattle.components.specs.NamedGraph.{NamedGraph}
use Rattle.circuits.specs.Root.{PassesThrough}
use Rattle.circuits.specs.Replacing.{NoneTwice}
use Rattle.circuit_plans.specs.Plans.{Out}
use Rattle.circuit_plans.specs.Drawing.{DrawnWire, Drawing, wire, drawn}
use Rattle.circuit_plans.specs.Places.{Place, item, number, each_of}

-- an input that the tree leads the select to: a node's of the tree, or a Mux's
pub data Stop (kinds : List Kind) (lanes : List Shape) : Type 0 where
  into : Place kinds → Stop kinds lanes
  select : Place lanes → Stop kinds lanes

-- the shape of such an input
abbrev pub stop_shape : (kinds : List Kind) (lanes : List Shape) → Stop kinds lanes → Option Shape
stop_shape kinds lanes (into n) = port_get (ins (item kinds n)) 1
stop_shape kinds lanes (select l) = Some (field 1)

-- node n of the tree leads to node m, by one wire or more
pub data LeadsTo {kinds : List Kind} {lanes : List Shape} (source : Stop kinds lanes → Option (Out (Place kinds))) (n : Place kinds) : Place kinds → Type 0 where
  by_wire : {m : Place kinds} (q : Out (Place kinds)) → source (into m) ≡ Some q → q.at ≡ n → LeadsTo source n m
  by_wires : {m : Place kinds} (q : Out (Place kinds)) → source (into m) ≡ Some q → LeadsTo source n q.at → LeadsTo source n m

-- Forks and Buffers between one wire from outside and the selects of at least one Mux: what feeds each input, or nothing where it is fed from outside.
-- No two inputs have one source, so one alone is fed from outside
pub record Tree (kinds : List Kind) (lanes : List Shape) : Type 0 where
  pub source : Stop kinds lanes → Option (Out (Place kinds))
  pub passes : (n : Place kinds) → PassesThrough (item kinds n)
  pub wires : (x : Stop kinds lanes) (q : Out (Place kinds)) → source x ≡ Some q → (a : Shape) × (stop_shape kinds lanes x ≡ Some a) × (port_get (outs (item kinds q.at)) q.port ≡ Some a)
  pub outputs : (n : Place kinds) (i : ℕ) (a : Shape) → port_get (outs (item kinds n)) i ≡ Some a → (x : Stop kinds lanes) × (source x ≡ Some (record { at = n; port = i }))
  pub once : (x y : Stop kinds lanes) → source x ≡ source y → x ≡ y
  pub outside : (x : Stop kinds lanes) × (source x ≡ None)
  pub no_cycle : (n : Place kinds) → LeadsTo source n n → ⊥
  pub some_mux : Place lanes

-- the Muxes of the lanes and the tree, with an Entry or an Exit for each wire that leads in or out
pub data Muxes (kinds : List Kind) (lanes : List Shape) : Type 0 where
  choice : Muxes kinds lanes
  node : Place kinds → Muxes kinds lanes
  value2 value3 mux out : Place lanes → Muxes kinds lanes

-- the lanes' values for each input of a Mux joined, one Mux, and a Split behind it; with the same ends
pub data OneMux (lanes : List Shape) : Type 0 where
  new_choice new_join2 new_join3 new_mux new_split : OneMux lanes
  new_value2 new_value3 new_out : Place lanes → OneMux lanes

abbrev pub muxes_kind : (kinds : List Kind) (lanes : List Shape) → Muxes kinds lanes → Kind
muxes_kind kinds lanes choice = Entry (field 1)
muxes_kind kinds lanes (node n) = item kinds n
muxes_kind kinds lanes (value2 l) = Entry (item lanes l)
muxes_kind kinds lanes (value3 l) = Entry (item lanes l)
muxes_kind kinds lanes (mux l) = Mux (item lanes l)
muxes_kind kinds lanes (out l) = Exit (item lanes l)

abbrev pub one_mux_kind : (lanes : List Shape) → OneMux lanes → Kind
one_mux_kind lanes new_choice = Entry (field 1)
one_mux_kind lanes new_join2 = Join lanes
one_mux_kind lanes new_join3 = Join lanes
one_mux_kind lanes new_mux = Mux (concat lanes)
one_mux_kind lanes new_split = Split lanes
one_mux_kind lanes (new_value2 l) = Entry (item lanes l)
one_mux_kind lanes (new_value3 l) = Entry (item lanes l)
one_mux_kind lanes (new_out l) = Exit (item lanes l)

-- the nodes, in an order
abbrev pub muxes_nodes : (kinds : List Kind) (lanes : List Shape) → List (Muxes kinds lanes)
muxes_nodes kinds lanes = choice ∷ (each_of kinds node ++ (each_of lanes value2 ++ (each_of lanes value3 ++ (each_of lanes mux ++ each_of lanes out))))

abbrev pub one_mux_nodes : (lanes : List Shape) → List (OneMux lanes)
one_mux_nodes lanes = new_choice ∷ new_join2 ∷ new_join3 ∷ new_mux ∷ new_split ∷ (each_of lanes new_value2 ++ (each_of lanes new_value3 ++ each_of lanes new_out))

-- the output that leads to an input, where the tree feeds it from this one, or from outside, which is from the Entry
abbrev pub leader : {kinds : List Kind} {lanes : List Shape} → Option (Out (Place kinds)) → Out (Muxes kinds lanes)
leader None = record { at = choice; port = 1 }
leader (Some q) = record { at = node q.at; port = q.port }

abbrev pub muxes_wires : (kinds : List Kind) (lanes : List Shape) → Tree kinds lanes → List (DrawnWire (Muxes kinds lanes))
muxes_wires kinds lanes tree =
    each_of kinds (λ n. record { source = leader (tree.source (into n)); target = record { at = node n; port = 1 } }) ++
    (each_of lanes (λ l. record { source = leader (tree.source (select l)); target = record { at = mux l; port = 1 } }) ++
    (each_of lanes (λ l. wire (value2 l) 1 (mux l) 2) ++
    (each_of lanes (λ l. wire (value3 l) 1 (mux l) 3) ++
    each_of lanes (λ l. wire (mux l) 1 (out l) 1))))

abbrev pub muxes : (kinds : List Kind) (lanes : List Shape) → Tree kinds lanes → Drawing (Muxes kinds lanes)
muxes kinds lanes tree = record { kind = muxes_kind kinds lanes; nodes = muxes_nodes kinds lanes; wires = muxes_wires kinds lanes tree }

abbrev pub one_mux_wires : (lanes : List Shape) → List (DrawnWire (OneMux lanes))
one_mux_wires lanes =
    wire new_choice 1 new_mux 1 ∷ wire new_join2 1 new_mux 2 ∷ wire new_join3 1 new_mux 3 ∷ wire new_mux 1 new_split 1 ∷
    (each_of lanes (λ l. wire (new_value2 l) 1 new_join2 (number lanes l)) ++
    (each_of lanes (λ l. wire (new_value3 l) 1 new_join3 (number lanes l)) ++
    each_of lanes (λ l. wire new_split (number lanes l) (new_out l) 1)))

abbrev pub one_mux : (lanes : List Shape) → Drawing (OneMux lanes)
one_mux lanes = record { kind = one_mux_kind lanes; nodes = one_mux_nodes lanes; wires = one_mux_wires lanes }

-- the two graphs, where the nodes have these names
abbrev pub muxes_graph : (kinds : List Kind) (lanes : List Shape) → Tree kinds lanes → (Muxes kinds lanes → Name) → NamedGraph
muxes_graph kinds lanes tree name = drawn (muxes kinds lanes tree) name

abbrev pub one_mux_graph : (lanes : List Shape) → (OneMux lanes → Name) → NamedGraph
one_mux_graph lanes name = drawn (one_mux lanes) name

-- the names of the nodes of each of the two differ, but for the ends, which have one name in both
pub record MuxNames (kinds : List Kind) (lanes : List Shape) (old : Muxes kinds lanes → Name) (new : OneMux lanes → Name) : Type 0 where
  pub old_names : NoneTwice (map old (muxes_nodes kinds lanes))
  pub new_names : NoneTwice (map new (one_mux_nodes lanes))
  pub same_choice : new new_choice ≡ old choice
  pub same_values2 : (l : Place lanes) → new (new_value2 l) ≡ old (value2 l)
  pub same_values3 : (l : Place lanes) → new (new_value3 l) ≡ old (value3 l)
  pub same_outs : (l : Place lanes) → new (new_out l) ≡ old (out l)

-- lanes whose values can be joined, and a tree of nodes that may stand in a graph
pub record CanCombineMuxes (kinds : List Kind) (lanes : List Shape) : Type 0 where
  pub parts : AreParts lanes
  pub nodes : (n : Place kinds) → KindOk (item kinds n)
