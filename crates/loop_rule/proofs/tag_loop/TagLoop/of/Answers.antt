use Rattle.std.proofs.Common.{sym, subst}
use Rattle.tagged_loop.specs.InOrderLoop.{LoopParts, in_order_loop}
use Rattle.subst_engine.specs.declared.word.RuleWord.TheVariants.{TagLoop}
use Rattle.subst_engine.specs.Rule.{IsSoundRule}
use Rattle.loop_rule.specs.TagLoop.{old_name}
use Rattle.loop_rule.proofs.Instances.{sound}
use Rattle.loop_rule.proofs.tag_loop.TagLoop.of.Goals as goal

pub invariant_of-result : goal.invariant_of-result
invariant_of-result c =
    let names = c.args.names.now in
    let loop : LoopParts = record { shape = c.args.parts.shape.now; fun = c.args.parts.fun.now; goes_back = c.args.parts.goes_back; mark = c.args.parts.mark } in
    subst (λ l. IsSoundRule (record { word = TagLoop; left = l; right = c.in_ok-right.right.graph })) (sym c.in_ok-left.ensures)
    (subst (λ r. IsSoundRule (record { word = TagLoop; left = in_order_loop loop (old_name names); right = r })) (sym c.in_ok-right.ensures)
    (sound c.tagged_loop_refines.ensures.rule c.tagged_loop_refines.ensures.refines c.args.prefix c.args.tags names loop c.requires.can))
