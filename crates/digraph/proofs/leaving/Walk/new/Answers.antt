use Rattle.std.proofs.Common.{◌+◌, sym, subst}
use Rattle.digraph.specs.Leaving.{IsToEnter}
use Rattle.digraph.proofs.DepthWalk.{one_to_enter}
use Rattle.digraph.proofs.leaving.Walk.new.Goals as goal

pub loop-vertex-preserved : goal.loop-vertex-preserved
loop-vertex-preserved c =
    subst (IsToEnter (c.loop-vertex.vertex + 1)) (sym c.in_ok-push.ensures.items) (one_to_enter c.loop-vertex.vertex c.loop-vertex.tasks.items c.loop-vertex.invariant)
