use Rattle.std.proofs.Common.{◌≡◌, ◌∷◌, sym, ap, subst, ◌∙◌, true≢false}
use Rattle.drawn_rules.specs.Listed.{AreNodes}
use Rattle.lane_laws.specs.CombineBranches.{CanCombine}
use Rattle.mux_branch_rules.specs.BranchCombine.{lanes_of, branch_combine}
use Rattle.mux_branch_rules.proofs.BranchLaws.BranchInstances.{fork_is_there, instance_nodes, instance_branches, can_sides, named_sides, rule_at, no_rule}
use Rattle.mux_branch_rules.proofs.branch_combine.combined_at.Goals as goal

pub returns-in_default-clause-refused : goal.returns-in_default-clause-refused
returns-in_default-clause-refused c = λ _ (ends, h). fork_is_there c.args.g.now.graph c.args.prefix ends c.args.goes_back c.args.fork.now c.args.branches.now h c.in_default.ensures

pub returns-then-not-are_nodes-clause-refused : goal.returns-then-not-are_nodes-clause-refused
returns-then-not-are_nodes-clause-refused c = λ _ (ends, h).
    let g = c.args.g.now.graph in
    let named : c.as_slice.result.now ≡ c.args.fork.now ∷ c.args.branches.now = c.as_slice.ensures.value ∙ c.in_ok-names.ensures ∙ ap (λ z. z ∷ c.args.branches.now) c.in-Some.ensures.is_name in
    let nodes = subst (AreNodes g) (sym named) (instance_nodes g c.args.prefix ends c.args.goes_back c.args.fork.now c.args.branches.now h) in
    true≢false (sym (c.are_nodes.ensures.1 nodes) ∙ c.if-not-are_nodes.true)

pub returns-in_default-2-clause-refused : goal.returns-in_default-2-clause-refused
returns-in_default-2-clause-refused c = λ _ (ends, h).
    let none = rw c.in_default-2.is at c.in_ok-lanes.ensures in
    none (instance_branches c.args.g.now.graph c.args.prefix ends c.args.goes_back c.args.fork.now c.args.branches.now h)

pub combined-requires : goal.combined-requires
combined-requires c =
    let g = c.args.g.now.graph in
    let names = c.args.branches.now in
    let named : c.as_slice.result.now ≡ c.args.fork.now ∷ names = c.as_slice.ensures.value ∙ c.in_ok-names.ensures ∙ ap (λ z. z ∷ names) c.in-Some.ensures.is_name in
    let nodes = subst (AreNodes g) named (c.are_nodes.ensures.0 c.if-not-are_nodes.false) in
    let lanes = rw c.in-Some-2.is at c.in_ok-lanes.ensures in
    let can = subst CanCombine lanes (c.in_ok-can_combine.ensures.0 c.if-not-branch.false) in
    named_sides c.args.prefix c.fresh_prefix.result c.args.fork.now c.in-Some.fork.now.name names (lanes_of g names) c.in-Some-2.lanes c.in-Some.ensures.is_name lanes
    (can_sides g c.is_graph.ensures.graph.names c.args.prefix c.fresh_prefix.result c.ranges.prefix.fits c.fresh_prefix.type_inv c.fresh_prefix.ensures.fresh c.args.fork.now names nodes can)

pub returns-then-matches-clause-ok : goal.returns-then-matches-clause-ok
returns-then-matches-clause-ok c =
    let g = c.args.g.now.graph in
    let names = c.args.branches.now in
    let is_name = c.in-Some.ensures.is_name in
    let named : c.as_slice.result.now ≡ c.args.fork.now ∷ names = c.as_slice.ensures.value ∙ c.in_ok-names.ensures ∙ ap (λ z. z ∷ names) is_name in
    let nodes = subst (AreNodes g) named (c.are_nodes.ensures.0 c.if-not-are_nodes.false) in
    let lanes = rw c.in-Some-2.is at c.in_ok-lanes.ensures in
    let can = subst CanCombine lanes (c.in_ok-can_combine.ensures.0 c.if-not-branch.false) in
    let sides = can_sides g c.is_graph.ensures.graph.names c.args.prefix c.fresh_prefix.result c.ranges.prefix.fits c.fresh_prefix.type_inv c.fresh_prefix.ensures.fresh c.args.fork.now names nodes can in
    rule_at g c.args.prefix c.fresh_prefix.result c.args.goes_back c.args.fork.now names c.fresh_prefix.ensures nodes sides c.in_ok-rule.rule
    (c.in_ok-rule.ensures ∙ (λ i. branch_combine c.args.prefix c.fresh_prefix.result (is_name i ∷ names) c.args.goes_back (lanes i))) (c.matches.ensures.0 c.if-matches.true)

pub returns-clause-refused : goal.returns-clause-refused
returns-clause-refused c = λ _.
    let g = c.args.g.now.graph in
    let names = c.args.branches.now in
    let is_name = c.in-Some.ensures.is_name in
    let named : c.as_slice.result.now ≡ c.args.fork.now ∷ names = c.as_slice.ensures.value ∙ c.in_ok-names.ensures ∙ ap (λ z. z ∷ names) is_name in
    let nodes = subst (AreNodes g) named (c.are_nodes.ensures.0 c.if-not-are_nodes.false) in
    let lanes = rw c.in-Some-2.is at c.in_ok-lanes.ensures in
    let can = subst CanCombine lanes (c.in_ok-can_combine.ensures.0 c.if-not-branch.false) in
    let sides = can_sides g c.is_graph.ensures.graph.names c.args.prefix c.fresh_prefix.result c.ranges.prefix.fits c.fresh_prefix.type_inv c.fresh_prefix.ensures.fresh c.args.fork.now names nodes can in
    no_rule g c.args.prefix c.fresh_prefix.result c.args.goes_back c.args.fork.now names c.fresh_prefix.ensures nodes sides c.in_ok-rule.rule
    (c.in_ok-rule.ensures ∙ (λ i. branch_combine c.args.prefix c.fresh_prefix.result (is_name i ∷ names) c.args.goes_back (lanes i))) (λ m. true≢false (sym (c.matches.ensures.1 m) ∙ c.if-matches.false))
