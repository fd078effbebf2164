use Rattle.std.proofs.Common.{sym, subst}
use Rattle.graph_core.specs.Exchange.{CanExchange}
use Rattle.graph_core.specs.GraphValue.{no_nodes}
use Rattle.subst_engine.proofs.MadeGraphs.{can_exchange}
use Rattle.subst_engine.proofs.making.rule_graph.Goals as goal

pub exchange-requires : goal.exchange-requires
exchange-requires c =
    subst (λ g. CanExchange g c.as_slice.result.now c.args.nodes.items c.args.wires.now) (sym c.new-made.ensures)
    (subst (λ gone. CanExchange no_nodes gone c.args.nodes.items c.args.wires.now) (sym c.as_slice.ensures) (can_exchange c.args.nodes.items c.args.wires.now c.requires))
