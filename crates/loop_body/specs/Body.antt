-- Bodies: a Split of the lanes, nodes that take from it and from earlier nodes, data wires and condition wires.
use Rattle.std.specs.Prelude.{◌≡◌, ◌≢◌, ℕ, zero, suc, ◌+◌, ◌≤◌, List, [], ◌∷◌, ◌++◌, map, length, Option, Some, None, slice_get, Contains, IsPermutation, All, AllPairs}
use Rattle.components.specs.declared.kind.Kind.{Kind}
use Rattle.components.specs.declared.node.Node.{Node}
use Rattle.components.specs.Kind.{Shape, AreParts, ins, outs}
use Rattle.components.specs.Name.{port_get, IsName}
use Rattle.components.specs.Node.{KeptOk}
use Rattle.circuits.specs.Root.{PassesThrough}
use Rattle.fun_expr.specs.Each.{Each, total}
use Rattle.loop_body.specs.declared.body_port.BodyPort.{BodyPort}
use Rattle.loop_body.specs.BodyKind.{MayStand, weight}

-- the shapes of the Split's outputs, the nodes in order, the producers of each node's inputs, of the data wires and of the condition wires
pub record Body : Type 0 where
  pub vars : List Shape
  pub nodes : List Node
  pub inputs : List (List BodyPort)
  pub next : List BodyPort
  pub conditions : List BodyPort

-- what the nodes are; their names and kept attributes change nothing of what a body computes
abbrev pub kinds : Body → List Kind
kinds b = map (λ node. node.kind) b.nodes

-- A table has a row for the Split and one for each node, with an entry for each output.
-- the row of a node, and the entry of an output
abbrev pub in_row : {A : Type 0} → ℕ → Option (List A) → Option A
in_row port None = None
in_row port (Some row) = port_get row port

abbrev pub entry : {A : Type 0} → List (List A) → BodyPort → Option A
entry table p = in_row p.port (slice_get table p.node)

-- the shapes of all outputs
abbrev pub shapes : Body → List (List Shape)
shapes b = b.vars ∷ map outs (kinds b)

-- each node may stand in a body, and takes tokens of the shapes of its inputs from the rows before it
abbrev pub NodesFit : List (List Shape) → List Kind → List (List BodyPort) → Type 0
NodesFit before [] [] = Unit {0}
NodesFit before [] (ports ∷ inputs) = ⊥
NodesFit before (node ∷ nodes) [] = ⊥
NodesFit before (node ∷ nodes) (ports ∷ inputs) =
    MayStand node × (map (entry before) ports ≡ map Some (ins node)) × NodesFit (before ++ outs node ∷ []) nodes inputs

-- the outputs of a row from this port on, and of a table from this node on
abbrev pub row_ports : ℕ → ℕ → List Shape → List BodyPort
row_ports node port [] = []
row_ports node port (shape ∷ row) = record { node = node; port = port } ∷ row_ports node (port + 1) row

abbrev pub table_ports : ℕ → List (List Shape) → List BodyPort
table_ports node [] = []
table_ports node (row ∷ rows) = row_ports node 1 row ++ table_ports (node + 1) rows

-- all the items in one list
abbrev pub flat : {A : Type 0} → List (List A) → List A
flat [] = []
flat (xs ∷ rest) = xs ++ flat rest

-- all places that name an output
abbrev pub uses : Body → List BodyPort
uses b = flat b.inputs ++ b.next ++ b.conditions

-- a node that a walk backwards goes through: a Fork or a Buffer
abbrev pub PassesOn : Option Kind → Type 0
PassesOn None = ⊥
PassesOn (Some kind) = PassesThrough kind

-- the node that an output belongs to; none for the Split
abbrev pub node_at : Body → ℕ → Option Kind
node_at b zero = None
node_at b (suc i) = slice_get (kinds b) i

-- where an output's tokens come from, back through Forks and Buffers
pub data BodyRoot (b : Body) : BodyPort → BodyPort → Type 0 where
  here : (p : BodyPort) → (PassesOn (node_at b p.node) → ⊥) → BodyRoot b p p
  through : (p q root : BodyPort) (i : ℕ) → p.node ≡ suc i → PassesOn (slice_get (kinds b) i) → slice_get b.inputs i ≡ Some (q ∷ []) → BodyRoot b q root → BodyRoot b p root

-- what comes from the lanes
pub data FromLanes (b : Body) : ℕ → Type 0 where
  lanes : FromLanes b 0
  after : (p : BodyPort) (i : ℕ) (ports : List BodyPort) → slice_get b.inputs i ≡ Some ports → Contains ports p → FromLanes b p.node → FromLanes b (suc i)

-- the condition of the loop: one root, which depends on the lanes
pub record OneCondition (b : Body) : Type 0 where
  pub root : BodyPort
  pub roots : Each (λ p. BodyRoot b p root) b.conditions
  pub depends : FromLanes b root.node

-- A body of a loop: the lanes are the outputs of a Split; the nodes fit together, and their names and kept attributes are right; each output is named once;
-- there is a condition wire of one bit for each data wire and one more, all with one root; some data wire comes from the lanes; and the body is within the limits.
pub record IsBody (b : Body) : Type 0 where
  pub vars : AreParts b.vars
  pub nodes : NodesFit (b.vars ∷ []) (kinds b) b.inputs
  pub names : All (λ node. IsName node.name × KeptOk node.kind node.kept) b.nodes
  pub differ : AllPairs (λ a c. a.name ≢ c.name) b.nodes
  pub once : IsPermutation (uses b) (table_ports 0 (shapes b))
  pub count : length b.conditions ≡ length b.next + 1
  pub bits : Each (λ p. entry (shapes b) p ≡ Some (1 ∷ [])) b.conditions
  pub condition : OneCondition b
  pub data_depends : (p : BodyPort) × Contains b.next p × FromLanes b p.node
  pub few : length (kinds b) ≤ 4096
  pub light : total weight (kinds b) ≤ 16384
