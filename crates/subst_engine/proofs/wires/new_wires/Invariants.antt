use Rattle.subst_engine.specs.PartLists.{WiresBelow}
use Rattle.subst_engine.proofs.wires.new_wires.Given as goal

abbrev pub invariant-loop-index : goal.invariant-loop-index
invariant-loop-index l = WiresBelow l.g l.left.graph l.right l.fresh.nodes.items l.index l.wires.items
