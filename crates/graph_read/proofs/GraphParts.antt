-- The graph of a document from its parts: the nodes, the wires, and no open port.
use Rattle.std.proofs.Common.{◌≡◌, List, [], None, Ok, sym, ap, ◌∙◌}
use Rattle.std.specs.FinMap as finite
use Rattle.dot_text.specs.declared.doc.Doc.{Doc}
use Rattle.components.specs.Name.{Name, name_cmp}
use Rattle.components.specs.Node.{Body}
use Rattle.components.specs.NamedGraph.{NamedGraph}
use Rattle.graph_core.specs.Place.{id_of}
use Rattle.graph_core.specs.GraphValue.{GraphValue, Ids}
use Rattle.graph_read.specs.declared.fault.GraphFault.{GraphFault}
use Rattle.graph_read.specs.declared.fault.GraphFault.TheVariants.{Refused, NoMemory}
use Rattle.graph_read.specs.GraphReading.{nodes_reading, edges_reading, first_open, graph_of_nodes, unless, closed, wired, graph_reading}
use Rattle.graph_read.specs.GraphSteps.{AreNodesOf, IsReadTo}
use Rattle.graph_read.specs.Refusals.{IsRefusal, IsFoundRefusal}
use Rattle.graph_read.proofs.ReadWires.{edges_keep_nodes}

module _ (doc : Doc) where
  -- what the nodes refuse
  pub nodes_refused : (fault : GraphFault) → IsRefusal (nodes_reading [] 1 doc.nodes) fault → IsRefusal (graph_reading doc) fault
  nodes_refused (Refused refusal) is = ap (wired doc.edges) is
  nodes_refused NoMemory is = tt

  module _ (nodes : List (Name × Body)) (are_read : nodes_reading [] 1 doc.nodes ≡ Ok nodes) (g : GraphValue) (is : IsReadTo doc.nodes nodes g) where
    graph_is : g.graph ≡ graph_of_nodes nodes
    graph_is = λ i. record { nodes = is.are.map i; feeders = is.feeders i }

    reading_is : graph_reading doc ≡ closed nodes (edges_reading g.graph 1 doc.edges)
    reading_is = ap (wired doc.edges) are_read ∙ ap (λ (h : NamedGraph). closed nodes (edges_reading h 1 doc.edges)) (sym graph_is)

    -- what the wires refuse
    pub edges_refused : (fault : GraphFault) → IsRefusal (edges_reading g.graph 1 doc.edges) fault → IsRefusal (graph_reading doc) fault
    edges_refused (Refused refusal) refused = reading_is ∙ ap (closed nodes) refused
    edges_refused NoMemory refused = tt

    module _ (h : GraphValue) (is_wired : edges_reading g.graph 1 doc.edges ≡ Ok h.graph) (ids : h.ids ≡ g.ids) where
      nodes_stay : h.graph.nodes ≡ g.graph.nodes
      nodes_stay = edges_keep_nodes g.graph 1 doc.edges h.graph is_wired

      pub are_nodes : AreNodesOf nodes h
      are_nodes =
          record {
            map = nodes_stay ∙ is.are.map;
            each = λ i node at. ap (λ (m : finite.FinMap name_cmp Body). finite.get m node.0) nodes_stay ∙ is.are.each i node at;
            ids = λ i. ap (λ (m : Ids). finite.get m (id_of i)) ids ∙ is.are.ids i;
          }

      reading_wired : graph_reading doc ≡ unless h.graph (first_open h.graph 1 nodes)
      reading_wired = reading_is ∙ ap (closed nodes) is_wired

      -- the first port on no wire is refused
      pub open_refused : (fault : GraphFault) → IsFoundRefusal (first_open h.graph 1 nodes) fault → IsRefusal (graph_reading doc) fault
      open_refused (Refused refusal) found = reading_wired ∙ ap (unless h.graph) found
      open_refused NoMemory found = tt

      pub graph_closed : first_open h.graph 1 nodes ≡ None → graph_reading doc ≡ Ok h.graph
      graph_closed none = reading_wired ∙ ap (unless h.graph) none
