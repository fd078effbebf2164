-- A graph by names: a set of nodes and a set of wires.
use Rattle.std.specs.Prelude.{◌≡◌, ◌≢◌, Bool, false, not, ◌&&◌, ◌||◌, ◌==◌, Option, Some, None, is_some, bytes_eq}
use Rattle.std.specs.List.{list_any}
use Rattle.std.specs.FinMap as map
use Rattle.port_types.specs.declared.side.Side.{Side}
use Rattle.port_types.specs.declared.side.Side.TheVariants.{Ins, Outs}
use Rattle.components.specs.Name.{Name, Port, name_cmp, port_cmp, port_get, IsName}
use Rattle.components.specs.Kind.{Shape, ins, outs, KindOk}
use Rattle.components.specs.Node.{Body}
use Rattle.components.specs.Wire.{IsWireOf}

-- each node by its name, and for each input that is on a wire the output that feeds it
pub record NamedGraph : Type 0 where
  pub nodes : map.FinMap name_cmp Body
  pub feeders : map.FinMap port_cmp Port

abbrev pub no_graph : NamedGraph
no_graph = record { nodes = map.empty; feeders = map.empty }

abbrev pub with_node : NamedGraph → Name → Body → NamedGraph
with_node g name body = record g { nodes = map.insert g.nodes name body }

-- with a wire from the output source to the input target
abbrev pub with_wire : NamedGraph → Port → Port → NamedGraph
with_wire g source target = record g { feeders = map.insert g.feeders target source }

-- the port of this side stands on a wire
abbrev pub is_wired : NamedGraph → Side → Port → Bool
is_wired g Ins port = is_some (map.get g.feeders port)
is_wired g Outs port = list_any (λ wire. bytes_eq wire.1.node port.node && (wire.1.port == port.port)) (map.entries g.feeders)

-- the port is one of the node of this name
abbrev pub is_of : Name → Option Port → Bool
is_of name None = false
is_of name (Some p) = bytes_eq p.node name

-- without a node and the wires at its ports
abbrev pub without_node : NamedGraph → Name → NamedGraph
without_node g name =
    record {
      nodes = map.remove g.nodes name;
      feeders = map.retain_keys g.feeders (λ target. not (is_of name (Some target) || is_of name (map.get g.feeders target)));
    }

-- a wire of the graph, with one shape at both its ends
abbrev pub IsWire : NamedGraph → Port → Port → Type 0
IsWire g source target = IsWireOf (map.get g.nodes) (λ (body : Body). body.kind) source target

-- both ports are there, with one shape, and stand on no wire
pub record CanWire (g : NamedGraph) (source target : Port) : Type 0 where
  pub wire : IsWire g source target
  pub target_free : map.get g.feeders target ≡ None
  pub source_free : (p : Port) → map.get g.feeders p ≢ Some source

-- each kind meets its row, each port stands on exactly one wire, and each wire has one shape
pub record IsTyped (g : NamedGraph) : Type 0 where
  pub kinds : (name : Name) (body : Body) → map.get g.nodes name ≡ Some body → KindOk body.kind
  pub wires : (target source : Port) → map.get g.feeders target ≡ Some source → IsWire g source target
  pub inputs : (p : Port) (body : Body) (shape : Shape) → map.get g.nodes p.node ≡ Some body →
      port_get (ins body.kind) p.port ≡ Some shape → (source : Port) × (map.get g.feeders p ≡ Some source)
  pub outputs : (p : Port) (body : Body) (shape : Shape) → map.get g.nodes p.node ≡ Some body →
      port_get (outs body.kind) p.port ≡ Some shape → (target : Port) × (map.get g.feeders target ≡ Some p)
  pub once : (p q source : Port) → map.get g.feeders p ≡ Some source → map.get g.feeders q ≡ Some source → p ≡ q

-- each node has a name that is allowed
abbrev pub HasAllowedNames : NamedGraph → Type 0
HasAllowedNames g = (name : Name) (body : Body) → map.get g.nodes name ≡ Some body → IsName name
