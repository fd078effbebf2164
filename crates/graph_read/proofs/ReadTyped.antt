-- A graph that is read is typed and within the limit.
use Rattle.std.proofs.Common.{◌≡◌, ◌≤◌, Some, sym, ap, subst, ◌∙◌}
use Rattle.std.specs.FinMap as map
use Rattle.port_types.specs.PortLaws.{ReadsPorts}
use Rattle.dot_text.specs.declared.doc.Doc.{Doc}
use Rattle.components.specs.Name.{Name, name_cmp}
use Rattle.components.specs.Node.{Body}
use Rattle.components.specs.NamedGraph.{NamedGraph, IsTyped}
use Rattle.graph_read.specs.GraphReading.{graph_of_nodes}
use Rattle.graph_read.specs.GraphLaws.{ReadIsTyped}
use Rattle.graph_read.specs.Laws.{RowsAreMet}
use Rattle.graph_read.proofs.ReadNodes.{nodes_kinds, nodes_entries, nodes_few}
use Rattle.graph_read.proofs.ReadWires.{HasWires, nodes_wires, edges_wires}
use Rattle.graph_read.proofs.PortsClosed.{inputs_fed, outputs_feed}
use Rattle.graph_read.proofs.GraphRead.{IsGraphRead, graph_is_read, has_nodes}

module _ (doc : Doc) (g : NamedGraph) (is : IsGraphRead doc g) where
  node_read : (name : Name) (body : Body) → map.get g.nodes name ≡ Some body → map.get (map.from_entries {R = name_cmp} is.nodes) name ≡ Some body
  node_read name body found = ap (λ (m : map.FinMap name_cmp Body). map.get m name) (sym (has_nodes doc g is)) ∙ found

  has_wires : HasWires g
  has_wires = edges_wires (graph_of_nodes is.nodes) 1 doc.edges g is.is_wired (nodes_wires is.nodes)

  is_typed : ReadsPorts → RowsAreMet → IsTyped g
  is_typed says_ports rows =
      record {
        kinds = λ name body found. nodes_kinds doc.nodes is.nodes is.are_read says_ports rows name body (node_read name body found);
        wires = has_wires.wires;
        inputs = λ p body shape found there. inputs_fed g is.nodes is.is_closed p.node body (nodes_entries is.nodes p.node body (node_read p.node body found)) p.port shape there;
        outputs = λ p body shape found there. outputs_feed g is.nodes is.is_closed p.node body (nodes_entries is.nodes p.node body (node_read p.node body found)) p.port shape there;
        once = has_wires.once;
      }

  is_few : map.len g.nodes ≤ 65536
  is_few = subst (λ (m : map.FinMap name_cmp Body). map.len m ≤ 65536) (sym (has_nodes doc g is)) (nodes_few doc.nodes is.nodes is.are_read)

pub read_is_typed : ReadsPorts → RowsAreMet → ReadIsTyped
read_is_typed says_ports rows doc g read = let is = graph_is_read doc g read in (is_typed doc g is says_ports rows, is_few doc g is)
