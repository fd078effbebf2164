use Rattle.std.proofs.Common.{◌∙◌, sym, ap, [], ◌∷◌, ◌++◌, take, append_assoc, rules}
use Rattle.components.specs.declared.kind.Kind.TheVariants.{Branch}
use Rattle.subst_engine.specs.Making.{bare_node}
use Rattle.mux_branch_rules.specs.BranchSides.{branch_nodes}
use Rattle.mux_branch_rules.proofs.LaneLists.{branch_more}
use Rattle.mux_branch_rules.proofs.branch_lists.push_branches.Goals as goal

pub loop-index-preserved : goal.loop-index-preserved
loop-index-preserved c =
    let index = c.loop-index.index in
    let name = c.index-branches-index.result in
    let lane = c.index-lanes-index.result in
    let start = c.args.nodes.now.items in
    let done = branch_nodes (take index c.args.branches.now) (take index c.args.lanes.now) in
    c.in_ok-push_listed.ensures ∙ ap (λ z. z ++ bare_node name c.in_ok-lane_branch.field-0 ∷ []) c.loop-index.invariant
    ∙ ap (λ k. (start ++ done) ++ bare_node name k ∷ []) c.in_ok-lane_branch.ensures
    ∙ append_assoc start done (bare_node name (Branch lane) ∷ [])
    ∙ ap (λ z. start ++ z) (sym (branch_more c.args.branches.now c.args.lanes.now index name lane c.requires (search (rules, c.index-branches-index.is)) (search (rules, c.index-lanes-index.is)) c.loop-index-test.true))
