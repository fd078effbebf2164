-- Where the rule gather is an instance: the body that is read of a graph.
use Rattle.std.specs.Prelude.{◌≡◌, ℕ, zero, suc, List, [], ◌∷◌, ◌++◌, map, length, position, bytes_eq, Option, Some, None}
use Rattle.std.specs.FinMap as finite
use Rattle.std.specs.List.{AllByRecursion}
use Rattle.components.specs.declared.kind.Kind.{Kind}
use Rattle.components.specs.declared.kind.Kind.TheVariants.{Split, Branch, Init}
use Rattle.components.specs.declared.node.Node.{Node}
use Rattle.components.specs.Name.{Name, Port}
use Rattle.components.specs.Kind.{ins}
use Rattle.components.specs.Node.{body_of}
use Rattle.components.specs.NamedGraph.{NamedGraph}
use Rattle.circuits.specs.Circuit.{circuit_of}
use Rattle.circuits.specs.Replacing.{NoneTwice}
use Rattle.circuits.specs.ReplacedGraph.{Matches}
use Rattle.subst_engine.specs.Prefix.{IsFreshPrefix}
use Rattle.drawn_rules.specs.Labels.{AreFree}
use Rattle.drawn_rules.specs.Placed.{IsPlaced}
use Rattle.loop_body.specs.declared.body_port.BodyPort.{BodyPort}
use Rattle.loop_body.specs.Body.{Body, IsBody}
use Rattle.loop_body.specs.BodyFunction.{body_function}
use Rattle.gather_rule.specs.BodyRule.{BodyRule}
use Rattle.gather_rule.specs.NumberedBody.{numbered}
use Rattle.gather_rule.specs.GatherGraphs.{body_drawing, gathered_drawing}
use Rattle.gather_rule.specs.Gather.{listed_names, old_name, new_name, gather, CanGather}

-- all of them, where none is missing
abbrev pub before_some : {A : Type 0} → A → Option (List A) → Option (List A)
before_some x None = None
before_some x (Some xs) = Some (x ∷ xs)

abbrev pub with_some : {A : Type 0} → Option A → Option (List A) → Option (List A)
with_some None o = None
with_some (Some x) o = before_some x o

abbrev pub all_some : {A : Type 0} → List (Option A) → Option (List A)
all_some [] = Some []
all_some (o ∷ os) = with_some o (all_some os)

-- an output of a listed node, by its place in the list: the Split is listed first
abbrev pub body_port : Option ℕ → ℕ → Option BodyPort
body_port None port = None
body_port (Some place) port = Some (record { node = place; port = port })

abbrev pub listed_port : List Name → Option Port → Option BodyPort
listed_port names None = None
listed_port names (Some q) = body_port (position (λ m. bytes_eq m q.node) names) q.port

-- the output of a listed node that feeds an input of this number of the node of a name; none where another node feeds it
abbrev pub fed_by : NamedGraph → List Name → ℕ → Name → Option BodyPort
fed_by g names port n = listed_port names (finite.get g.feeders (record { node = n; port = port }))

-- what feeds so many inputs of a node, from one on
abbrev pub inputs_fed : NamedGraph → List Name → Name → ℕ → ℕ → List (Option BodyPort)
inputs_fed g names n port zero = []
inputs_fed g names n port (suc count) = fed_by g names port n ∷ inputs_fed g names n (suc port) count

abbrev pub node_inputs : NamedGraph → List Name → Node → Option (List BodyPort)
node_inputs g names node = all_some (inputs_fed g names node.name 1 (length (ins node.kind)))

-- what feeds the inputs of these nodes; and the inputs of one number of the nodes of these names
abbrev pub nodes_inputs : NamedGraph → List Name → List Node → Option (List (List BodyPort))
nodes_inputs g names nodes = all_some (map (node_inputs g names) nodes)

abbrev pub each_fed : NamedGraph → List Name → ℕ → List Name → Option (List BodyPort)
each_fed g names port ns = all_some (map (fed_by g names port) ns)

-- the second inputs of the Branches, and the input of the mark
abbrev pub conditions_fed : NamedGraph → List Name → List Name → Name → Option (List BodyPort)
conditions_fed g names branches mark = all_some (map (fed_by g names 2) branches ++ fed_by g names 1 mark ∷ [])

abbrev pub IsBranch : Option Kind → Type 0
IsBranch (Some (Branch shape)) = Unit {0}
IsBranch _ = ⊥

abbrev pub IsMark : Option Kind → Type 0
IsMark (Some (Init value mark)) = Unit {0}
IsMark _ = ⊥

-- the body is that of a Split and nodes of these names: its nodes are those of g, each input comes from the Split or one of them, and the wires that leave lead to
-- the first inputs of the Branches, which are the data wires, and to their second inputs and the mark
pub record IsBodyAt (g : NamedGraph) (split : Name) (names branches : List Name) (mark : Name) (b : Body) : Type 0 where
  pub is_split : (circuit_of g).kind_at split ≡ Some (Split b.vars)
  pub is_names : map (λ node. node.name) b.nodes ≡ names
  pub nodes : AllByRecursion (λ node. finite.get g.nodes node.name ≡ Some (body_of node)) b.nodes
  pub inputs : nodes_inputs g (split ∷ names) b.nodes ≡ Some b.inputs
  pub are_branches : AllByRecursion (λ n. IsBranch ((circuit_of g).kind_at n)) branches
  pub is_mark : IsMark ((circuit_of g).kind_at mark)
  pub next : each_fed g (split ∷ names) 1 branches ≡ Some b.next
  pub conditions : conditions_fed g (split ∷ names) branches mark ≡ Some b.conditions

-- an instance: different names of a Split, of the nodes of a body behind it, of Branches and of an Init; the lists that are read of them are a body, whose Pure is within the limits;
-- there are no other wires between the Split and the nodes, and no new node has the name of a node that stays
pub record IsGatherInstance (g : NamedGraph) (prefix ends : ℕ) (split : Name) (names branches : List Name) (mark : Name) (b : Body) : Type 0 where
  pub differ : NoneTwice (split ∷ (names ++ (branches ++ mark ∷ [])))
  pub at : IsBodyAt g split names branches mark b
  pub body : IsBody b
  pub can : CanGather b
  pub placed : IsPlaced g (body_drawing (numbered b)) (old_name prefix ends (listed_names split b) (numbered b)) (gathered_drawing (numbered b) (body_function b)) (new_name prefix ends (listed_names split b) (numbered b))

-- the rule at an instance; its Entries and Exits have a prefix that no node of g has, so their names are none of the listed ones
pub record IsGather (g : NamedGraph) (prefix : ℕ) (split : Name) (names branches : List Name) (mark : Name) (made : BodyRule) : Type 0 where
  pub ends : ℕ
  pub fresh : IsFreshPrefix g ends
  pub free : AreFree prefix ends (listed_names split made.body)
  pub at : IsGatherInstance g prefix ends split names branches mark made.body
  pub is : made.rule ≡ gather prefix ends split made.body

-- there is an instance; the names of the Entries and the Exits are nothing to it
abbrev pub HasGatherInstance : NamedGraph → ℕ → Name → List Name → List Name → Name → Type 0
HasGatherInstance g prefix split names branches mark = (ends : ℕ) × (b : Body) × IsGatherInstance g prefix ends split names branches mark b

-- the rule matches where it was made
abbrev pub GatherMatches : Type 0
GatherMatches = (g : NamedGraph) (prefix : ℕ) (split : Name) (names branches : List Name) (mark : Name) (made : BodyRule) → IsGather g prefix split names branches mark made → Matches g made.rule.left made.rule.right
