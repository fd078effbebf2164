-- The circuit of a plugged graph is the plugged circuit; so a plugged graph is typed.
use Rattle.std.proofs.Common.{◌≡◌, Bool, true, false, List, [], ◌∷◌, Option, Some, None, refl, sym, ap, subst, ◌∙◌}
use Rattle.std.specs.Prelude.{if◌then◌else◌, bytes_eq}
use Rattle.std.specs.Option.{option_map, option_or}
use Rattle.std.specs.FinMap as finite
use Rattle.components.specs.declared.kind.Kind.{Kind}
use Rattle.components.specs.declared.kind.Kind.TheVariants.{Exit}
use Rattle.components.specs.Name.{Name, Port}
use Rattle.components.specs.Node.{Body}
use Rattle.components.specs.NamedGraph.{NamedGraph, IsTyped}
use Rattle.circuits.specs.Circuit.{Typed, circuit_of, kind_of_body}
use Rattle.circuits.specs.Plug.{PlugLink, CanPlug, as_buffer, beside, link, link_all, or_else, plug, redirect}
use Rattle.circuits.specs.PluggedGraph.{beside_graph, buffer_body, buffer_kind, link_graph, link_graphs, linked_source, plugged_graph}
use Rattle.circuits.specs.GraphLookups.{get_beside_node, get_beside_feeder, get_linked_node, get_linked_feeder}
use Rattle.circuits.proofs.GraphCircuits.{circuit_typed, graph_typed}
use Rattle.circuits.proofs.Plugging.Links.{plug_typed}

kind_of_first : (a b : Option Body) → kind_of_body (option_or a b) ≡ or_else (kind_of_body a) (kind_of_body b)
kind_of_first None b = refl
kind_of_first (Some body) b = refl

first_of_two : {A : Type 0} (a b : Option A) → option_or a b ≡ or_else a b
first_of_two None b = refl
first_of_two (Some x) b = refl

beside_circuit : (c g : NamedGraph) → circuit_of (beside_graph c g) ≡ beside (circuit_of c) (circuit_of g)
beside_circuit c g =
    λ i. record {
      kind_at = λ n. (ap kind_of_body (get_beside_node c g n) ∙ kind_of_first (finite.get c.nodes n) (finite.get g.nodes n)) i;
      feeder = λ p. (get_beside_feeder c g p ∙ first_of_two (finite.get c.feeders p) (finite.get g.feeders p)) i;
    }

as_buffer_kind : (kind : Kind) → Some (buffer_kind kind) ≡ as_buffer (Some kind)
as_buffer_kind (Exit shape) = refl
as_buffer_kind _ = refl

linked_kind : (l : PlugLink) (n : Name) (gone here : Bool) (o : Option Body) → kind_of_body (if gone then None else option_map (λ body. if here then buffer_body body else body) o)
    ≡ (if gone then None else (if here then as_buffer (kind_of_body o) else kind_of_body o))
linked_kind l n true here o = refl
linked_kind l n false true None = refl
linked_kind l n false true (Some body) = as_buffer_kind body.kind
linked_kind l n false false None = refl
linked_kind l n false false (Some body) = refl

linked_feeder : (l : PlugLink) (o : Option Port) → option_map (linked_source l) o ≡ redirect l o
linked_feeder l None = refl
linked_feeder l (Some p) = refl

link_circuit : (l : PlugLink) (g : NamedGraph) → circuit_of (link_graph l g) ≡ link l (circuit_of g)
link_circuit l g =
    λ i. record {
      kind_at = λ n. (ap kind_of_body (get_linked_node l g n) ∙ linked_kind l n (bytes_eq n l.entry) (bytes_eq n l.exit) (finite.get g.nodes n)) i;
      feeder = λ p. (get_linked_feeder l g p ∙ linked_feeder l (finite.get g.feeders p)) i;
    }

links_circuit : (ls : List PlugLink) (g : NamedGraph) → circuit_of (link_graphs ls g) ≡ link_all ls (circuit_of g)
links_circuit [] g = refl
links_circuit (l ∷ ls) g = links_circuit ls (link_graph l g) ∙ ap (link_all ls) (link_circuit l g)

pub plugged_circuit : (c : NamedGraph) (ls : List PlugLink) (g : NamedGraph) → circuit_of (plugged_graph c ls g) ≡ plug (circuit_of c) ls (circuit_of g)
plugged_circuit c ls g = links_circuit ls (beside_graph c g) ∙ ap (link_all ls) (beside_circuit c g)

pub plugged_typed : (c : NamedGraph) (ls : List PlugLink) (g : NamedGraph) → IsTyped c → IsTyped g → CanPlug (circuit_of c) ls (circuit_of g) → IsTyped (plugged_graph c ls g)
plugged_typed c ls g outer inner can =
    graph_typed (plugged_graph c ls g) (subst Typed (sym (plugged_circuit c ls g)) (plug_typed (circuit_of c) (circuit_of g) ls (circuit_typed c outer) (circuit_typed g inner) can))
