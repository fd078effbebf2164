use Rattle.std.proofs.Common.{◌∙◌, sym, ap, [], ◌∷◌, ◌++◌, take, append_assoc, rules}
use Rattle.components.specs.declared.kind.Kind.TheVariants.{Mux}
use Rattle.subst_engine.specs.Making.{bare_node}
use Rattle.mux_branch_rules.specs.MuxSides.{mux_nodes}
use Rattle.mux_branch_rules.proofs.MuxRows.{mux_more}
use Rattle.mux_branch_rules.proofs.mux_lists.push_muxes.Goals as goal

pub loop-index-preserved : goal.loop-index-preserved
loop-index-preserved c =
    let index = c.loop-index.index in
    let name = c.index-muxes-index.result in
    let lane = c.index-lanes-index.result in
    let start = c.args.nodes.now.items in
    let done = mux_nodes (take index c.args.muxes.now) (take index c.args.lanes.now) in
    c.in_ok-push_listed.ensures ∙ ap (λ z. z ++ bare_node name c.in_ok-lane_mux.field-0 ∷ []) c.loop-index.invariant
    ∙ ap (λ k. (start ++ done) ++ bare_node name k ∷ []) c.in_ok-lane_mux.ensures
    ∙ append_assoc start done (bare_node name (Mux lane) ∷ [])
    ∙ ap (λ z. start ++ z) (sym (mux_more c.args.muxes.now c.args.lanes.now index name lane c.requires (search (rules, c.index-muxes-index.is)) (search (rules, c.index-lanes-index.is)) c.loop-index-test.true))
