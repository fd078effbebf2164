use Rattle.std.proofs.Common.{◌≡◌, ◌∙◌, Some, sym, ap, subst}
use Rattle.std.specs.FinMap as finite
use Rattle.components.specs.NamedGraph.{CanWire}
use Rattle.circuits.specs.Buffers.{first_port}
use Rattle.graph_core.specs.GraphValue.{name_by, port_of, with_link, without_id}
use Rattle.module_sem.proofs.HandingOn.{can_hand, entry_denotes, handed}
use Rattle.module_sem.proofs.linking.feed_from.Goals as goal
use Rattle.module_sem.proofs.linking.feed_from.Goals.{After-remove_node}

pub unreachable-requires : goal.unreachable-requires
unreachable-requires c = c.in_default.ensures c.requires.target (c.requires.feeds ∙ ap (λ p. Some (port_of c.args.h.now p)) (sym c.first_port.ensures))

out : (c : After-remove_node) → c.remove_node.new.self ≡ without_id c.args.h.now c.args.entry (name_by c.args.h.now.ids c.args.entry)
out c = c.remove_node.ensures.gone _ (entry_denotes c.args.h.now c.is_graph.ensures c.args.entry c.args.buffer c.requires)

fed : (c : After-remove_node) → finite.get c.args.h.now.graph.feeders (port_of c.args.h.now c.in-Some.target) ≡ Some (first_port (name_by c.args.h.now.ids c.args.entry))
fed c = c.in-Some.ensures ∙ ap (λ p. Some (port_of c.args.h.now p)) c.first_port.ensures

pub join-requires : goal.join-requires
join-requires c =
    let m = (goal.at.join-requires c).After-remove_node in
    let h = c.remove_node.new.self in
    subst (λ p. CanWire h.graph (port_of h p) (port_of h c.in-Some.target)) (sym c.first_port-2.ensures)
    (can_hand c.args.h.now c.is_graph.ensures c.args.entry c.args.buffer c.requires c.in-Some.target (fed m) h (out m))

pub returns : goal.returns
returns c =
    let m = (goal.at.returns c).After-remove_node in
    let h = c.remove_node.new.self in
    handed c.args.h.now c.is_graph.ensures c.args.entry c.args.buffer c.requires c.in-Some.target (fed m) h (out m) c.join.new.self (c.join.ensures ∙ ap (λ p. with_link h p c.in-Some.target) c.first_port-2.ensures)
