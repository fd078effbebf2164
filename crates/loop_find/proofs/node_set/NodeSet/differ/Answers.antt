use Rattle.std.proofs.Common.{◌≡◌, ap, subst}
use Rattle.loop_find.specs.NodeSets.{AreDifferent}
use Rattle.loop_find.proofs.NodeCounts.{are_different}
use Rattle.loop_find.proofs.node_set.NodeSet.differ.Goals as goal

pub returns : goal.returns
returns c =
    let same : c.self.inside.ids.items ≡ c.args.self.now.ids = ap (λ v. v.ids) c.self.view_is in
    subst AreDifferent same (are_different c.self.inside.ids.items c.self.inside.places.items c.self.invariant)
