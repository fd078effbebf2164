use Rattle.std.proofs.Common.{◌∙◌, ◌+◌, ℕ, List, sym, subst, [], ◌∷◌, ◌++◌, take, length, ap, rules}
use Rattle.components.specs.Name.{Name}
use Rattle.components.specs.NamedGraph.{NamedGraph}
use Rattle.mux_branch_rules.specs.declared.mux_tree.Source.{Source}
use Rattle.mux_branch_rules.specs.MuxTree.{IsSource, AreSources}
use Rattle.mux_branch_rules.proofs.LaneLists.{take_more}
use Rattle.mux_branch_rules.proofs.mux_tree.sources_at.Goals as goal

sources_last : (g : NamedGraph) (names : List Name) (tree : ℕ) (rest : List Name) (sources : List Source) (n : Name) (s : Source) → AreSources g names tree rest sources → IsSource g names tree n s → AreSources g names tree (rest ++ n ∷ []) (sources ++ s ∷ [])
sources_last g names tree [] [] n s h is = (is, tt)
sources_last g names tree [] (t ∷ sources) n s h is = absurd h
sources_last g names tree (m ∷ rest) [] n s h is = absurd h
sources_last g names tree (m ∷ rest) (t ∷ sources) n s h is = (h.0, sources_last g names tree rest sources n s h.1 is)

pub loop-index-preserved : goal.loop-index-preserved
loop-index-preserved c =
    let g = c.args.g.now.graph in
    let names = c.args.names.now in
    let name = c.index-names-index.result in
    let more = take_more names c.loop-index.index name (search (rules, c.index-names-index.is)) c.loop-index-test.true in
    subst (AreSources g names c.args.tree (take (c.loop-index.index + 1) names)) (sym c.in_ok-push.ensures.items)
    (subst (λ z. AreSources g names c.args.tree z (c.loop-index.sources.items ++ c.source_at.result ∷ [])) (sym more)
    (sources_last g names c.args.tree (take c.loop-index.index names) c.loop-index.sources.items name c.source_at.result c.loop-index.invariant c.source_at.ensures))
