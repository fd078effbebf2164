-- The nodes and the wires of the two graphs of the rule gather, as lists. These serve contracts of private functions.
use Rattle.std.specs.Prelude.{◌≡◌, ℕ, suc, ◌+◌, ◌≤◌, List, [], ◌∷◌, ◌++◌, codes, length, map, replicate, slice_get, unwrap_or, Option, Some, None}
use Rattle.std.specs.List.{AllByRecursion, concat}
use Rattle.components.specs.declared.kind.Kind.{Kind}
use Rattle.components.specs.declared.kind.Kind.TheVariants as kind
use Rattle.components.specs.declared.node.Node.{Node}
use Rattle.components.specs.Name.{Name}
use Rattle.components.specs.Kind.{Shape, AreParts, field, outs}
use Rattle.fun_expr.specs.Function.{Function}
use Rattle.graph_core.specs.declared.exchange.End.{End}
use Rattle.graph_core.specs.declared.exchange.End.TheVariants.{Fresh}
use Rattle.circuit_plans.specs.Plans.{Out}
use Rattle.body_laws.specs.Bodies.{BodyNode}
use Rattle.body_laws.specs.Bodies as numbers
use Rattle.subst_engine.specs.Making.{bare_node}
use Rattle.subst_engine.specs.Prefix.{prefix_text}
use Rattle.drawn_rules.specs.declared.rows.Row.TheVariants.{Nodes, Ports}
use Rattle.drawn_rules.specs.declared.row_ends.EndKind.TheVariants.{Entry, Exit}
use Rattle.drawn_rules.specs.Labels.{AreFree}
use Rattle.drawn_rules.specs.RowEnds.{end_node, end_nodes}
use Rattle.drawn_rules.specs.Rows.{row_wires}
use Rattle.loop_body.specs.declared.body_port.BodyPort.{BodyPort}
use Rattle.loop_body.specs.Body.{Body, entry, IsBody}
use Rattle.loop_body.specs.Laws.{next_shapes}
use Rattle.gather_rule.specs.NumberedBody.{numbered_port}
use Rattle.gather_rule.specs.Gather.{listed_names, CanGather}

-- what each item of a list gives, where the items are counted from a number on
abbrev pub rows_from : {A B : Type 0} → (ℕ → A → List B) → ℕ → List A → List B
rows_from row place [] = []
rows_from row place (x ∷ xs) = row place x ++ rows_from row (suc place) xs

-- an output of a body, whose Split stands at place 1
abbrev pub out_end : Out ℕ → End
out_end q = Fresh (suc q.at) q.port

-- the wires into the inputs of a node at a place, from a port on
abbrev pub input_ends : ℕ → ℕ → List (Out ℕ) → List (End × End)
input_ends place port [] = []
input_ends place port (q ∷ qs) = (out_end q, Fresh place port) ∷ input_ends place (suc port) qs

-- those into nodes, and those into Exits, from a place on
abbrev pub nodes_ends : ℕ → List BodyNode → List (End × End)
nodes_ends place ns = rows_from (λ p n. input_ends p 1 n.inputs) place ns

abbrev pub exit_ends : ℕ → List (Out ℕ) → List (End × End)
exit_ends place qs = rows_from (λ p q. (out_end q, Fresh p 1) ∷ []) place qs

abbrev pub left_ends : numbers.Body → List (End × End)
left_ends b = (Fresh 0 1, Fresh 1 1) ∷ (nodes_ends 2 b.nodes ++ exit_ends (2 + length b.nodes) (b.next ++ b.condition ∷ b.others))

-- for so many data wires
abbrev pub right_ends : ℕ → List (End × End)
right_ends lanes =
    (Fresh 0 1, Fresh 1 1) ∷ (Fresh 1 1, Fresh 2 1) ∷ (Fresh 2 1, Fresh 3 1) ∷ (Fresh 2 2, Fresh 4 1) ∷
    (row_wires (Ports 3) (Nodes 5 1) 0 lanes ++ row_wires (Ports 4) (Nodes (5 + lanes) 1) 0 (suc lanes))

-- the Exits of the data wires and of the condition wires
abbrev pub way_nodes : ℕ → List Shape → List Node
way_nodes ends lanes = end_nodes Exit ends (codes "x") 1 lanes ++ end_nodes Exit ends (codes "y") 1 (replicate (suc (length lanes)) (field 1))

abbrev pub left_list : ℕ → Name → List Shape → List Node → List Shape → List Node
left_list ends split vars nodes lanes =
    end_node Entry ends (codes "e") 0 (concat vars) ∷ bare_node split (kind.Split vars) ∷ (map (λ node. bare_node node.name node.kind) nodes ++ way_nodes ends lanes)

abbrev pub right_list : ℕ → ℕ → List Shape → Function → List Shape → List Node
right_list prefix ends vars f lanes =
    end_node Entry ends (codes "e") 0 (concat vars) ∷
    bare_node (prefix_text prefix ++ codes "pure") (kind.Pure f (concat lanes ++ 1 ∷ [])) ∷
    bare_node (prefix_text prefix ++ codes "pair") (kind.Split (concat lanes ∷ (1 ∷ []) ∷ [])) ∷
    bare_node (prefix_text prefix ++ codes "vals") (kind.Split lanes) ∷
    bare_node (prefix_text prefix ++ codes "fork") (kind.Fork (1 ∷ []) (suc (length lanes))) ∷
    way_nodes ends lanes

-- the places of the nodes of outputs are small enough to count on
abbrev pub AreNear : List BodyPort → Type 0
AreNear ports = AllByRecursion (λ p. p.node ≤ 4096) ports

-- the wires of a body of named nodes, by what feeds its inputs, and where they leave
abbrev pub ports_ends : ℕ → List BodyPort → List (End × End)
ports_ends place ports = rows_from (λ i p. (out_end (numbered_port p), Fresh place i) ∷ []) 1 ports

abbrev pub inputs_ends : ℕ → List (List BodyPort) → List (End × End)
inputs_ends place inputs = rows_from ports_ends place inputs

abbrev pub ways_ends : ℕ → List BodyPort → List (End × End)
ways_ends place ports = rows_from (λ i p. (out_end (numbered_port p), Fresh i 1) ∷ []) place ports

abbrev pub body_ends : List (List BodyPort) → List BodyPort → List BodyPort → List (End × End)
body_ends inputs next conditions =
    ((((Fresh 0 1, Fresh 1 1) ∷ []) ++ inputs_ends 2 inputs) ++ ways_ends (2 + length inputs) next) ++ ways_ends ((2 + length inputs) + length next) conditions

-- lanes by which the Pure of a body is within the limits
pub record CanGatherLanes (lanes : List Shape) : Type 0 where
  pub parts : AreParts lanes
  pub few : length lanes ≤ 63
  pub fields : length (concat lanes) ≤ 127

-- the two graphs can be made
pub record CanMakeSides (prefix ends : ℕ) (split : Name) (b : Body) (lanes : List Shape) : Type 0 where
  pub body : IsBody b
  pub free : AreFree prefix ends (listed_names split b)
  pub lanes_are : lanes ≡ next_shapes b
  pub can : CanGather b

-- the shapes of outputs of these kinds, or none where there is no such output
abbrev pub AreShapesAt : List Kind → List BodyPort → Option (List Shape) → Type 0
AreShapesAt ks ports None = (place : ℕ) × (p : BodyPort) × (slice_get ports place ≡ Some p) × (entry (map outs ks) p ≡ None)
AreShapesAt ks ports (Some found) = found ≡ map (λ p. unwrap_or (entry (map outs ks) p) []) ports
