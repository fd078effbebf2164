-- What a graph that is read comes from.
use Rattle.std.proofs.Common.{◌≡◌, List, [], Option, Some, None, Ok, Err, refl, sym, ap, ◌∙◌}
use Rattle.std.specs.FinMap as map
use Rattle.dot_text.specs.declared.doc.Doc.{Doc}
use Rattle.components.specs.Name.{Name, name_cmp}
use Rattle.components.specs.Node.{Body}
use Rattle.components.specs.NamedGraph.{NamedGraph}
use Rattle.graph_read.specs.declared.fault.GraphRefusal.{GraphRefusal}
use Rattle.graph_read.specs.GraphReading.{GraphReading, NodesReading, nodes_reading, edges_reading, first_open, graph_of_nodes, unless, closed, wired, graph_reading}
use Rattle.graph_read.specs.GraphLaws.{ReadHasAllowedNames}
use Rattle.graph_read.proofs.Answers.{same_answer, refused}
use Rattle.graph_read.proofs.ReadNodes.{nodes_named}
use Rattle.graph_read.proofs.ReadWires.{edges_keep_nodes}

-- its nodes and its wires are read, and no port is open
pub record IsGraphRead (doc : Doc) (g : NamedGraph) : Type 0 where
  pub nodes : List (Name × Body)
  pub are_read : nodes_reading [] 1 doc.nodes ≡ Ok nodes
  pub is_wired : edges_reading (graph_of_nodes nodes) 1 doc.edges ≡ Ok g
  pub is_closed : first_open g 1 nodes ≡ None

none_open : (h g : NamedGraph) (fault : Option GraphRefusal) → unless h fault ≡ Ok g → (h ≡ g) × (fault ≡ None)
none_open h g None e = (same_answer h g e, refl)
none_open h g (Some fault) e = refused fault g e

module _ (doc : Doc) (g : NamedGraph) where
  closed_read : (nodes : List (Name × Body)) → nodes_reading [] 1 doc.nodes ≡ Ok nodes → (read : GraphReading) → edges_reading (graph_of_nodes nodes) 1 doc.edges ≡ read →
      closed nodes read ≡ Ok g → IsGraphRead doc g
  closed_read nodes are (Err fault) is e = refused fault g e
  closed_read nodes are (Ok h) is e =
      let found = none_open h g (first_open h 1 nodes) e in
      record {
        nodes = nodes;
        are_read = are;
        is_wired = is ∙ ap (λ (k : NamedGraph). Ok k) found.0;
        is_closed = ap (λ (k : NamedGraph). first_open k 1 nodes) (sym found.0) ∙ found.1;
      }

  wired_read : (read : NodesReading) → nodes_reading [] 1 doc.nodes ≡ read → wired doc.edges read ≡ Ok g → IsGraphRead doc g
  wired_read (Err fault) is e = refused fault g e
  wired_read (Ok nodes) is e = closed_read nodes is (edges_reading (graph_of_nodes nodes) 1 doc.edges) refl e

  pub graph_is_read : graph_reading doc ≡ Ok g → IsGraphRead doc g
  graph_is_read e = wired_read (nodes_reading [] 1 doc.nodes) refl e

-- the nodes of the graph are those that are read
pub has_nodes : (doc : Doc) (g : NamedGraph) (is : IsGraphRead doc g) → g.nodes ≡ map.from_entries {R = name_cmp} is.nodes
has_nodes doc g is = edges_keep_nodes (graph_of_nodes is.nodes) 1 doc.edges g is.is_wired

-- names that are read are allowed where the document's texts are UTF-8
pub read_is_named : ReadHasAllowedNames
read_is_named doc g texts read name body found =
    let is = graph_is_read doc g read in
    nodes_named doc.nodes is.nodes is.are_read texts.0 name body (ap (λ (m : map.FinMap name_cmp Body). map.get m name) (sym (has_nodes doc g is)) ∙ found)
