use Rattle.subst_engine.specs.PartLists.{WiresTo}
use Rattle.subst_engine.proofs.wires.add_wires.Given as goal

abbrev pub invariant-loop-port : goal.invariant-loop-port
invariant-loop-port l = WiresTo l.g l.left.graph l.right l.fresh.nodes.items l.index l.port l.wires.items
