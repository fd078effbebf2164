-- What callers need of ids and wires.
use Rattle.std.proofs.Common.{◌≡◌, ◌≢◌, inl, inr, ◌≤◌, [], length, Option, Some, None, refl, sym, ap, subst, ◌∙◌}
use Rattle.std.proofs.Math.Bridge.{no_suc-le-zero}
use Rattle.std.specs.Prelude.{unwrap_or}
use Rattle.std.specs.FinMap as finite
use Rattle.graph_core.specs.declared.graph.AddWire.{AddWire}
use Rattle.graph_core.specs.declared.graph.AddWire.TheVariants.{UnknownPort, PortTaken, ShapeDiffers, NoMemory}
use Rattle.components.specs.Name.{Name, Port, port_get}
use Rattle.components.specs.Kind.{ins, outs}
use Rattle.components.specs.Node.{Body}
use Rattle.components.specs.NamedGraph.{NamedGraph, CanWire}
use Rattle.std.proofs.lemmas.Option.{same_Some, none-some}
use Rattle.graph_core.specs.declared.place.NodeId.{NodeId}
use Rattle.graph_core.specs.declared.place.PortAt.{PortAt}
use Rattle.graph_core.specs.GraphValue.{GraphValue, Denotes, IsGraph, port_of, without_id}
use Rattle.graph_core.specs.Wiring.{Refuses}
use Rattle.components.specs.Lookups.{get_not_removed}
use Rattle.graph_core.specs.Ids.{id_total, id_same}

-- a port of a node that an id denotes
pub port_denoted : (g : GraphValue) (p : PortAt) (name : Name) → Denotes g p.node name → port_of g p ≡ record { node = name; port = p.port }
port_denoted g p name denotes = ap (λ o. record { node = unwrap_or o []; port = p.port }) denotes

-- the id of a port that has a node's name denotes this node
pub denoted_by : (g : GraphValue) → IsGraph g → (p : PortAt) (name : Name) (body : Body) → finite.get g.graph.nodes name ≡ Some body → (port_of g p).node ≡ name → Denotes g p.node name
denoted_by g is p name body found same = at (finite.get g.ids p.node) refl
  where
    at : (o : Option Name) → finite.get g.ids p.node ≡ o → Denotes g p.node name
    at (Some other) e = e ∙ ap Some (ap (λ o. unwrap_or o []) (sym e) ∙ same)
    at None e =
        let empty : [] ≡ name = ap (λ o. unwrap_or o []) (sym e) ∙ same in
        absurd (no_suc-le-zero (subst (λ n. 1 ≤ length n) (sym empty) (is.graph.names name body found).some))

-- ports of other nodes keep their names where a node is taken out
pub port_left : (g : GraphValue) (id : NodeId) (name : Name) (p : PortAt) → p.node ≢ id → port_of (without_id g id name) p ≡ port_of g p
port_left g id name p apart = ap (λ o. record { node = unwrap_or o []; port = p.port }) (get_not_removed id_total id_same g.ids id p.node apart)

-- a wire that can be added is refused for want of memory alone
pub refused_by_memory : (g : NamedGraph) (source target : Port) → CanWire g source target → (fault : AddWire) → Refuses g source target fault → fault ≡ NoMemory
refused_by_memory g source target can UnknownPort why =
    absurd (why (record { leaving = can.wire.shape; entering = can.wire.shape; output = (can.wire.from, can.wire.is_from, can.wire.leaves); input = (can.wire.to, can.wire.is_to, can.wire.enters) }))
refused_by_memory g source target can PortTaken (there, taken) = elim taken [
  | inl into ↦ absurd (none-some _ (sym (sym into.1 ∙ can.target_free)))
  | inr from ↦ absurd (can.source_free from.0 from.1)
]
refused_by_memory g source target can ShapeDiffers (there, differ, into, from) =
    let (body, is_from, leaves) = there.output in
    let (other, is_to, enters) = there.input in
    let out : body ≡ can.wire.from = same_Some _ _ (sym is_from ∙ can.wire.is_from) in
    let in_to : other ≡ can.wire.to = same_Some _ _ (sym is_to ∙ can.wire.is_to) in
    let leaving : there.leaving ≡ can.wire.shape = same_Some _ _ (sym leaves ∙ ap (λ (b : Body). port_get (outs b.kind) source.port) out ∙ can.wire.leaves) in
    let entering : there.entering ≡ can.wire.shape = same_Some _ _ (sym enters ∙ ap (λ (b : Body). port_get (ins b.kind) target.port) in_to ∙ can.wire.enters) in
    absurd (differ (leaving ∙ sym entering))
refused_by_memory g source target can NoMemory why = refl
