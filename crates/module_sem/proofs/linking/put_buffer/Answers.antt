use Rattle.std.proofs.Common.{◌≡◌, ◌∙◌, Some, sym, ap, subst}
use Rattle.std.proofs.lemmas.Option.{none-some}
use Rattle.std.specs.FinMap as finite
use Rattle.port_types.specs.declared.side.Side.TheVariants.{Ins}
use Rattle.components.specs.declared.node.Node.{Node}
use Rattle.components.specs.NamedGraph.{CanWire}
use Rattle.circuits.specs.Buffers.{first_port}
use Rattle.graph_core.specs.GraphValue.{name_by, port_of, with_id, with_link, without_id}
use Rattle.graph_core.specs.Wiring.{HasPort}
use Rattle.module_sem.specs.Linking.{buffer_node}
use Rattle.module_sem.proofs.BufferIds.{can_join, exit_denotes, exit_port, is_buffered, name_free}
use Rattle.module_sem.proofs.linking.put_buffer.Goals as goal
use Rattle.module_sem.proofs.linking.put_buffer.Goals.{After-as_buffer, After-first_port-2}

pub source_of-source-requires-clause-there : goal.source_of-source-requires-clause-there
source_of-source-requires-clause-there c =
    let h = c.args.h.now in
    subst (λ p. HasPort h.graph Ins (port_of h p)) (sym c.first_port.ensures) (exit_port h c.is_graph.ensures c.requires.typed c.args.exit c.requires.exit)

pub unreachable-requires : goal.unreachable-requires
unreachable-requires c =
    let h = c.args.h.now in
    none-some _ (sym c.in_default.ensures.node ∙ exit_denotes h c.is_graph.ensures c.requires.typed c.args.exit c.requires.exit)

-- without the Exit
out : (c : After-as_buffer) → c.remove_node.new.self ≡ without_id c.args.h.now c.args.exit (name_by c.args.h.now.ids c.args.exit)
out c = c.in-Some.ensures.gone _ (exit_denotes c.args.h.now c.is_graph.ensures c.requires.typed c.args.exit c.requires.exit)

pub add-requires-clause-free : goal.add-requires-clause-free
add-requires-clause-free c =
    let h = c.args.h.now in
    let m = (goal.at.add-requires-clause-free c).After-as_buffer in
    let h' = c.remove_node.new.self in
    ap (λ (n : Node). finite.get h'.graph.nodes n.name) c.as_buffer.ensures
    ∙ name_free h c.is_graph.ensures c.requires.typed c.args.exit c.requires.exit c.in-Some.node c.in-Some.ensures.node h' (out m)

-- with the Buffer
put : (c : After-first_port-2) → c.add.new.h ≡ with_id c.remove_node.new.self c.in_ok-buffer.buffer (buffer_node c.in-Some.node)
put c = c.in_ok-buffer.ensures.ok ∙ ap (with_id c.remove_node.new.self c.in_ok-buffer.buffer) c.as_buffer.ensures

fed : (c : After-first_port-2) → finite.get c.args.h.now.graph.feeders (first_port (name_by c.args.h.now.ids c.args.exit)) ≡ Some (port_of c.args.h.now c.source_of-source.result)
fed c = ap (λ p. finite.get c.args.h.now.graph.feeders (port_of c.args.h.now p)) (sym c.first_port.ensures) ∙ c.source_of-source.ensures

pub join-requires : goal.join-requires
join-requires c =
    let h = c.args.h.now in
    let m = (goal.at.join-requires c).After-as_buffer in
    let a = (goal.at.join-requires c).After-first_port-2 in
    subst (λ p. CanWire c.add.new.h.graph (port_of c.add.new.h c.source_of-source.result) (port_of c.add.new.h p)) (sym c.first_port-2.ensures)
    (can_join h c.is_graph.ensures c.requires.typed c.args.exit c.requires.exit c.in-Some.node c.in-Some.ensures.node c.source_of-source.result (fed a) c.remove_node.new.self (out m) c.in_ok-buffer.buffer c.in_ok-buffer.ensures.fresh c.add.new.h (put a))

pub returns : goal.returns
returns c =
    let h = c.args.h.now in
    let m = (goal.at.returns c).After-as_buffer in
    let a = (goal.at.returns c).After-first_port-2 in
    is_buffered h c.is_graph.ensures c.requires.typed c.args.exit c.requires.exit c.in-Some.node c.in-Some.ensures.node c.source_of-source.result (fed a) c.remove_node.new.self (out m) c.in_ok-buffer.buffer c.in_ok-buffer.ensures.fresh c.add.new.h (put a)
    c.join.new.self (c.join.ensures ∙ ap (with_link c.add.new.h c.source_of-source.result) c.first_port-2.ensures)
