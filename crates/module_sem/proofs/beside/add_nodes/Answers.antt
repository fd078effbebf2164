use Rattle.std.proofs.Common.{subst, arith}
use Rattle.module_sem.proofs.Besides.{HasNodes, has_all, has_more, has_none, is_free}
use Rattle.module_sem.proofs.beside.add_nodes.Goals as goal

pub loop-index-init : goal.loop-index-init
loop-index-init c = has_none c.args.h.now.graph c.args.g.now

pub add_twin-requires : goal.add_twin-requires
add_twin-requires c = is_free c.args.h.now.graph c.args.g.now c.is_graph.ensures c.requires c.loop-index.index c.loop-index.h.graph c.loop-index.invariant

pub loop-index-preserved : goal.loop-index-preserved
loop-index-preserved c =
    let added = c.in_ok-add_twin.ensures in
    has_more c.args.h.now.graph c.args.g.now c.is_graph.ensures c.loop-index.index c.loop-index.h.graph c.add_twin.new.h.graph c.loop-index.invariant added.live added.dead

pub returns : goal.returns
returns c =
    let g = c.args.g.now in
    has_all c.args.h.now.graph g c.is_graph.ensures c.requires c.loop-index.h.graph (subst (λ n. HasNodes c.args.h.now.graph g n c.loop-index.h.graph) (omega arith) c.loop-index.invariant)
