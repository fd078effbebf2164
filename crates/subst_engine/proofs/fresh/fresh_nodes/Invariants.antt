use Rattle.subst_engine.specs.PartLists.{ArePlaced, FreshBelow}
use Rattle.subst_engine.proofs.fresh.fresh_nodes.Given as goal

abbrev pub invariant-loop-index : goal.invariant-loop-index
invariant-loop-index l = record {
  gathered : FreshBelow l.right l.index l.nodes.items;
  placed : ArePlaced l.right l.index l.nodes.items l.places.items;
}
