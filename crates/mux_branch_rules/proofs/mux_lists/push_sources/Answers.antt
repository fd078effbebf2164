use Rattle.std.proofs.Common.{◌∙◌, sym, ap, ◌+◌, [], ◌∷◌, ◌++◌, take, append_assoc, get_or, rules}
use Rattle.graph_core.specs.declared.exchange.End.TheVariants.{Fresh}
use Rattle.mux_branch_rules.specs.declared.mux_tree.Source.{Source}
use Rattle.mux_branch_rules.specs.declared.mux_tree.Source.TheVariants.{Outside}
use Rattle.mux_branch_rules.specs.MuxSides.{source_end, source_wires}
use Rattle.mux_branch_rules.proofs.MuxRows.{source_more}
use Rattle.mux_branch_rules.proofs.mux_lists.push_sources.Goals as goal

pub loop-index-preserved : goal.loop-index-preserved
loop-index-preserved c =
    let index = c.loop-index.index in
    let source : Source = get_or c.args.sources.now index Outside in
    let start = c.args.wires.now.items in
    let done = source_wires c.args.place (take index c.args.sources.now) in
    c.in_ok-push.ensures.items ∙ ap (λ z. z ++ (c.source_end.result, Fresh (c.args.place + index) 1) ∷ []) c.loop-index.invariant
    ∙ ap (λ e. (start ++ done) ++ (e, Fresh (c.args.place + index) 1) ∷ []) c.source_end.ensures
    ∙ append_assoc start done ((source_end source, Fresh (c.args.place + index) 1) ∷ [])
    ∙ ap (λ z. start ++ z) (sym (source_more c.args.place c.args.sources.now index c.loop-index-test.true))
