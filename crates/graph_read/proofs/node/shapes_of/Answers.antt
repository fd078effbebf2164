use Rattle.std.proofs.Common.{◌≡◌, List, [], ◌∷◌, map, refl, sym, ap, ◌∙◌}
use Rattle.std.proofs.lemmas.Iterator.Adapters.{YieldsList-from_vec}
use Rattle.std.proofs.lemmas.Iterator.Consumers.{YieldsList-end}
use Rattle.port_types.specs.declared.port.Port.{Port}
use Rattle.graph_read.proofs.node.shapes_of.Goals as goal

map-same : (ports : List Port) → map (λ port. port) ports ≡ ports
map-same [] = refl
map-same (port ∷ ports) = ap (λ rest. port ∷ rest) (map-same ports)

pub returns : goal.returns
returns c =
    let given = c.into_iter-port-iterator.ensures.into_iter_gives in
    let all =
    (YieldsList-end (YieldsList-from_vec {s = c.into_iter-port-iterator.result} c.into_vec-port-items.result.items given.0 (given.1 ∙ c.into_vec-port-items.result.ok.0))
    c.loop-port.yielded c.loop-port.port-iterator c.loop-port.yielded_by c.next.result c.next.new.self c.in-None.is c.next.ensures.steps).0
    in
    c.new.ensures ∙ c.loop-port.invariant ∙ ap (λ (ports : List Port). map (λ port. port.shape) ports) (sym (map-same c.loop-port.yielded) ∙ all ∙ c.into_vec-port-items.ensures)
