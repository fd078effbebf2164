use Rattle.std.proofs.Common.{◌∙◌, ap, subst, arith}
use Rattle.std.specs.FinMap as finite
use Rattle.module_sem.proofs.Besides.{HasWires, can_feed, wires_all, wires_more, wires_none}
use Rattle.module_sem.proofs.beside.add_wires.Goals as goal

pub loop-index-init : goal.loop-index-init
loop-index-init c = wires_none c.args.h.now.graph c.args.g.now

pub feed_twin-requires-clause-nodes : goal.feed_twin-requires-clause-nodes
feed_twin-requires-clause-nodes c = λ name body found. ap (λ m. finite.get m name) c.loop-index.invariant.nodes ∙ c.requires.nodes name body found

pub feed_twin-requires-clause-can : goal.feed_twin-requires-clause-can
feed_twin-requires-clause-can c = can_feed c.args.h.now.graph c.args.g.now c.is_graph.ensures c.requires.wires c.loop-index.index c.loop-index.h.graph c.loop-index.invariant

pub loop-index-preserved : goal.loop-index-preserved
loop-index-preserved c =
    let fed = c.feed_twin.ensures in
    wires_more c.args.h.now.graph c.args.g.now c.is_graph.ensures c.requires.wires c.loop-index.index c.loop-index.h.graph c.feed_twin.new.h.graph c.loop-index.invariant fed.live fed.dead

pub returns : goal.returns
returns c =
    let g = c.args.g.now in
    wires_all c.args.h.now.graph g c.is_graph.ensures c.requires.wires c.loop-index.h.graph (subst (λ n. HasWires c.args.h.now.graph g n c.loop-index.h.graph) (omega arith) c.loop-index.invariant)
