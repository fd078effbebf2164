use Rattle.std.proofs.Common.{◌≡◌, None, refl, rules, sym, ◌∙◌}
use Rattle.std.proofs.lemmas.Option.{none-some}
use Rattle.std.specs.FinMap as finite
use Rattle.graph_core.specs.GraphValue.{IsNodeAt}
use Rattle.graph_core.proofs.SameGraphs.{stands_where_fed}
use Rattle.graph_core.proofs.same.stands_in.Goals as goal

pub returns-in_default : goal.returns-in_default
returns-in_default c =
    let dead : finite.get c.args.a.now.ids c.args.id ≡ None = search rules in
    (λ _ name body denotes. absurd (none-some name (sym dead ∙ denotes)), λ _. refl)

pub returns-in-Some-find_node : goal.returns-in-Some-find_node
returns-in-Some-find_node c =
    let at : IsNodeAt c.args.a.now c.args.id c.in-Some.node.now = search rules in
    let fed = stands_where_fed c.args.a.now c.args.b.now c.args.id c.in-Some-find_node.twin c.in-Some.node.now c.inputs.result at c.in-Some-find_node.ensures.0 c.inputs.ensures c.in-Some-find_node.ensures.1 in
    (λ yes. fed.0 (c.are_fed_in.ensures.0 yes), λ each. c.are_fed_in.ensures.1 (fed.1 each))
