use Rattle.std.proofs.Common.{refl, sym, subst, true≢false, ◌∙◌}
use Rattle.std.proofs.lemmas.List.Elements.{All-from_recursion, recursion_from_All}
use Rattle.fun_expr.specs.Each.{Each}
use Rattle.loop_body.proofs.Judged.{item_first}
use Rattle.loop_body.proofs.Naming.{Named, each_past}
use Rattle.loop_body.proofs.named.are_named.Goals as goal

pub loop-node-init : goal.loop-node-init
loop-node-init c = (λ all. recursion_from_All Named c.args.nodes.now all, λ each. All-from_recursion Named c.args.nodes.now each)

pub returns-then-not-branch : goal.returns-then-not-branch
returns-then-not-branch c =
    let at = item_first c.args.nodes.now c.loop-node.node-index c.node-item.result c.loop-node-test.true c.node-item.is in (
      λ e. absurd (true≢false (sym e)),
      λ all. absurd (true≢false (sym (c.in_ok-is_named.ensures.1 (subst (Each Named) at (c.loop-node.invariant.0 all)).0) ∙ c.if-not-branch.true)),
    )

pub loop-node-preserved : goal.loop-node-preserved
loop-node-preserved c =
    let at = item_first c.args.nodes.now c.loop-node.node-index c.node-item.result c.loop-node-test.true c.node-item.is in
    let here = c.in_ok-is_named.ensures.0 c.if-not-branch.false in (
      λ all. (subst (Each Named) at (c.loop-node.invariant.0 all)).1,
      λ rest. c.loop-node.invariant.1 (subst (Each Named) (sym at) (here, rest)),
    )

pub returns : goal.returns
returns c = (λ _. c.loop-node.invariant.1 (each_past Named c.args.nodes.now c.loop-node.node-index c.loop-node-test.false), λ _. refl)
