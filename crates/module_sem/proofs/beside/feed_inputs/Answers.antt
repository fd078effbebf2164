use Rattle.std.proofs.Common.{◌∙◌, ◌+◌, refl, ap, arith}
use Rattle.std.specs.FinMap as finite
use Rattle.graph_core.specs.GraphValue.{GraphValue, name_by, port_of}
use Rattle.module_sem.specs.Beside.{HasNodesOf}
use Rattle.module_sem.proofs.Feeding.{FedTo, can_be_fed, can_by_ids, can_join, fed_by_id, fed_more, fed_none, has_input, source_found, wired_by_ids}
use Rattle.module_sem.proofs.beside.feed_inputs.Goals as goal
use Rattle.module_sem.proofs.beside.feed_inputs.Goals.{After-join}

pub loop-port-init : goal.loop-port-init
loop-port-init c =
    let h = c.args.h.now.graph in
    let g = c.args.g.now in
    record { fed = fed_none h g.graph (name_by g.ids c.args.id) c.requires.typed (can_be_fed h g c.args.id c.args.count c.requires.can); ids = refl }

pub source_of-source-requires-clause-there : goal.source_of-source-requires-clause-there
source_of-source-requires-clause-there c = has_input c.args.h.now.graph c.args.g.now c.args.id c.args.count c.requires.can c.loop-port.port (omega arith) (omega arith)

pub twin-from-requires : goal.twin-from-requires
twin-from-requires c =
    let g = c.args.g.now in
    let has : HasNodesOf c.loop-port.h.graph g.graph = λ name body found. ap (λ m. finite.get m name) c.loop-port.invariant.fed.nodes ∙ c.requires.nodes name body found in
    source_found c.loop-port.h.graph g.graph c.requires.typed has _ (port_of g c.source_of-source.result) c.source_of-source.ensures

pub join-requires : goal.join-requires
join-requires c =
    let h = c.args.h.now.graph in
    let g = c.args.g.now in
    let name = name_by g.ids c.args.id in
    can_by_ids c.args.h.now c.loop-port.h g name c.loop-port.port c.twin-target.result c.twin-from.result c.source_of-source.result c.twin-target.ensures c.loop-port.invariant.ids c.twin-from.ensures
    (can_join h g.graph name c.requires.typed c.loop-port.port c.loop-port.h.graph c.loop-port.invariant.fed (port_of g c.source_of-source.result) c.source_of-source.ensures c.requires.nodes (can_be_fed h g c.args.id c.args.count c.requires.can))

-- once the wire is there
fed : (c : After-join) → FedTo c.args.h.now.graph c.args.g.now.graph (name_by c.args.g.now.ids c.args.id) (c.loop-port.port + 1) c.join.new.self.graph
fed c =
    let h = c.args.h.now.graph in
    let g = c.args.g.now in
    let name = name_by g.ids c.args.id in
    fed_more h g.graph name c.requires.typed c.loop-port.port c.loop-port.h.graph c.loop-port.invariant.fed (port_of g c.source_of-source.result) c.source_of-source.ensures c.join.new.self.graph
    (wired_by_ids c.args.h.now c.loop-port.h g name c.loop-port.port c.twin-target.result c.twin-from.result c.source_of-source.result c.twin-target.ensures c.loop-port.invariant.ids c.twin-from.ensures c.join.new.self c.join.ensures)

pub loop-port-preserved : goal.loop-port-preserved
loop-port-preserved c =
    record { fed = fed (goal.at.loop-port-preserved c).After-join; ids = ap (λ (v : GraphValue). v.ids) c.join.ensures ∙ c.loop-port.invariant.ids }

pub returns : goal.returns
returns c = fed_by_id c.args.h.now.graph c.args.g.now c.args.id c.args.count c.requires.can c.requires.typed c.loop-port.port c.loop-port.h.graph c.loop-port-test.false c.loop-port.invariant.fed

pub returns-2 : goal.returns-2
returns-2 c =
    fed_by_id c.args.h.now.graph c.args.g.now c.args.id c.args.count c.requires.can c.requires.typed (c.loop-port.port + 1) c.join.new.self.graph (omega arith) (fed (goal.at.returns-2 c).After-join)
