use Rattle.std.proofs.Common.{◌≡◌, ◌∙◌, sym, ap, arith, length, [], ◌∷◌, ◌++◌, take, append_assoc, rules}
use Rattle.std.proofs.Math.Seq.{take-length}
use Rattle.subst_engine.specs.Making.{bare_node}
use Rattle.mux_branch_rules.specs.MuxSides.{tree_nodes}
use Rattle.mux_branch_rules.proofs.MuxRows.{tree_more, tree_whole}
use Rattle.mux_branch_rules.proofs.mux_lists.push_tree.Goals as goal

pub loop-index-preserved : goal.loop-index-preserved
loop-index-preserved c =
    let index = c.loop-index.index in
    let name = c.index-names-index.result in
    let kind = c.index-kinds-index.result in
    let start = c.args.nodes.now.items in
    let done = tree_nodes (take index c.args.names.now) (take index c.args.kinds.now) in
    c.in_ok-push_listed.ensures ∙ ap (λ z. z ++ bare_node name c.in_ok-copy_kind.field-0 ∷ []) c.loop-index.invariant
    ∙ ap (λ k. (start ++ done) ++ bare_node name k ∷ []) c.in_ok-copy_kind.ensures
    ∙ append_assoc start done (bare_node name kind ∷ [])
    ∙ ap (λ z. start ++ z) (sym (tree_more c.args.names.now c.args.kinds.now index name kind c.requires (search (rules, c.index-names-index.is)) (search (rules, c.index-kinds-index.is)) c.loop-index-test.true))

pub returns : goal.returns
returns c =
    let all : c.loop-index.index ≡ length c.args.kinds.now = let t = c.loop-index-test.false in let b = c.loop-index.auto.index-end in omega (arith, t, b) in
    c.loop-index.invariant ∙ ap (λ z. c.args.nodes.now.items ++ tree_nodes (take z c.args.names.now) (take z c.args.kinds.now)) all
    ∙ ap (λ z. c.args.nodes.now.items ++ tree_nodes (take (length c.args.kinds.now) c.args.names.now) z) (take-length c.args.kinds.now) ∙ ap (λ z. c.args.nodes.now.items ++ z) (tree_whole c.args.names.now c.args.kinds.now)
