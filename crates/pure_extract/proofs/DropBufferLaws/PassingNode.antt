-- A node that passes tokens on, by its id.
use Rattle.std.proofs.Common.{◌≡◌, ◌≢◌, Some, refl, sym, ap, ◌∙◌}
use Rattle.std.specs.FinMap as map
use Rattle.port_types.specs.declared.side.Side.TheVariants.{Ins}
use Rattle.components.specs.declared.node.Node.{Node}
use Rattle.components.specs.Name.{Name, Port, port_get}
use Rattle.components.specs.Kind.{Shape}
use Rattle.components.specs.Node.{body_of}
use Rattle.graph_core.specs.declared.place.NodeId.{NodeId}
use Rattle.graph_core.specs.declared.place.PortAt.{PortAt}
use Rattle.graph_core.specs.GraphValue.{GraphValue, IsGraph, IsNodeAt, port_of}
use Rattle.graph_core.specs.Denoting.{port_denoted, denoted_by}
use Rattle.graph_core.specs.Wiring.{HasPort}
use Rattle.circuits.specs.Circuit.{circuit_of, kind_of_body}
use Rattle.circuits.specs.Buffers.{first_port, IsBufferLike}
use Rattle.pure_extract.specs.DropBuffer.{passed_shape, IsPassing}
use Rattle.pure_extract.proofs.DropBufferLaws.Sound.{one_port}

module _ (g : GraphValue) (id : NodeId) (node : Node) (at : IsNodeAt g id node) (like : IsBufferLike node.kind) where
  abbrev input : PortAt
  input = record { node = id; port = 1 }

  pub has_input : HasPort g.graph Ins (port_of g input)
  has_input =
      (passed_shape node.kind, (body_of node, ap (λ (p : Port). map.get g.graph.nodes p.node) (port_denoted g input node.name at.denotes) ∙ at.body, ap (λ x. port_get x 1) (one_port node.kind like at.ok.kind).input))

  pub passing : IsGraph g → (b : Name) → node.name ≡ b → (shape : Shape) → shape ≡ passed_shape node.kind →
      (source : PortAt) → map.get g.graph.feeders (port_of g input) ≡ Some (port_of g source) → source.node ≢ id → IsPassing g.graph b node shape
  passing is b e shape is_shape source fed apart =
      record {
        passes = record { ok = at.ok; like = like; is_shape = is_shape };
        can = record {
          kind = node.kind;
          is_kind = ap (circuit_of g.graph).kind_at (sym e) ∙ ap kind_of_body at.body;
          passes = like;
          before = port_of g source;
          is_before = ap (λ n. map.get g.graph.feeders (first_port n)) (sym e) ∙ ap (map.get g.graph.feeders) (sym (port_denoted g input node.name at.denotes)) ∙ fed;
          other = λ same. apart (is.alone source.node id node.name (denoted_by g is source node.name (body_of node) at.body (same ∙ sym e)) at.denotes);
        };
        is_name = e;
        is_kind = refl;
      }
