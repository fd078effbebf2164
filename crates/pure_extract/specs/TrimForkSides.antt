-- What is read of the listed nodes of trim_fork, and when its graphs can be made. These serve contracts of private functions.
use Rattle.std.specs.Prelude.{◌≡◌, ℕ, suc, ◌≤◌, List, ◌∷◌, ◌++◌, Some, codes, replicate}
use Rattle.std.specs.FinMap as finite
use Rattle.components.specs.declared.kind.Kind.TheVariants.{Fork, Sink0}
use Rattle.components.specs.declared.node.Node.{Node}
use Rattle.components.specs.Name.{Name}
use Rattle.components.specs.Kind.{Shape}
use Rattle.components.specs.NamedGraph.{NamedGraph}
use Rattle.circuits.specs.Circuit.{circuit_of}
use Rattle.circuits.specs.Buffers.{first_port}
use Rattle.circuit_plans.specs.Places.{number}
use Rattle.lane_laws.specs.TrimFork.{Output, CanTrim}
use Rattle.graph_core.specs.declared.exchange.End.{End}
use Rattle.graph_core.specs.declared.exchange.End.TheVariants.{Fresh}
use Rattle.subst_engine.specs.Making.{bare_node}
use Rattle.subst_engine.specs.Prefix.{prefix_text}
use Rattle.drawn_rules.specs.declared.rows.Row.TheVariants.{Nodes, Ports, PortsBut}
use Rattle.drawn_rules.specs.declared.row_ends.EndKind.TheVariants.{Entry, Exit}
use Rattle.drawn_rules.specs.Labels.{AreFree}
use Rattle.drawn_rules.specs.RowEnds.{end_node, end_nodes}
use Rattle.drawn_rules.specs.Rows.{row_wires}
use Rattle.pure_extract.specs.TrimFork.{trim_names}

-- f is a Fork of one output and others, and feeds a Sink s by the output of this number
pub record ReadsTrim (g : NamedGraph) (f s : Name) (a : Shape) (others port : ℕ) : Type 0 where
  pub some : 1 ≤ others
  pub sunk : Shape
  pub is_fork : (circuit_of g).kind_at f ≡ Some (Fork a (suc others))
  pub is_sink : (circuit_of g).kind_at s ≡ Some (Sink0 sunk)
  pub fed : finite.get g.feeders (first_port s) ≡ Some (record { node = f; port = port })

-- the two graphs can be made, where this is the number of the output
pub record CanTrimSides (prefix ends : ℕ) (f s : Name) (a : Shape) (others port : ℕ) : Type 0 where
  pub free : AreFree prefix ends (trim_names f s)
  pub can : CanTrim a others
  pub output : Output a (suc others)
  pub is_output : number (replicate (suc others) a) output ≡ port

-- The nodes and wires of the two graphs, as lists

-- the Entry, the Fork, the Sink and the Exits
abbrev pub old_list : ℕ → Name → Name → Shape → ℕ → List Node
old_list ends f s a others =
    end_node Entry ends (codes "e") 0 a ∷ bare_node f (Fork a (suc others)) ∷ bare_node s (Sink0 a) ∷ end_nodes Exit ends (codes "x") 1 (replicate others a)

-- the Entry, the new Fork and the Exits
abbrev pub new_list : ℕ → ℕ → Shape → ℕ → List Node
new_list prefix ends a others =
    end_node Entry ends (codes "e") 0 a ∷ bare_node (prefix_text prefix ++ codes "trim") (Fork a others) ∷ end_nodes Exit ends (codes "x") 1 (replicate others a)

-- the Entry feeds the Fork, which feeds the Sink by the output of this number, and the Exits by the others
abbrev pub old_ends : ℕ → ℕ → List (End × End)
old_ends others port = (Fresh 0 1, Fresh 1 1) ∷ (Fresh 1 port, Fresh 2 1) ∷ row_wires (PortsBut 1 port) (Nodes 3 1) 0 others

abbrev pub new_ends : ℕ → List (End × End)
new_ends others = (Fresh 0 1, Fresh 1 1) ∷ row_wires (Ports 1) (Nodes 2 1) 0 others
