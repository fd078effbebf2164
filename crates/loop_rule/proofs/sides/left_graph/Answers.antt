use Rattle.std.proofs.Common.{sym, subst, ◌∙◌}
use Rattle.subst_engine.specs.Making.{CanMake}
use Rattle.tagged_loop.specs.InOrderLoop.{LoopParts, in_order}
use Rattle.drawn_rules.specs.Sides.{nodes_of}
use Rattle.loop_rule.specs.TagLoop.{old_name}
use Rattle.loop_rule.proofs.SidesMade.{left_made}
use Rattle.loop_rule.proofs.sides.left_graph.Goals as goal

pub rule_graph-requires : goal.rule_graph-requires
rule_graph-requires c =
    let (prefix, tags, h) = c.requires.can in
    let names = c.args.names.now in
    let loop : LoopParts = record { shape = c.args.parts.shape.now; fun = c.args.parts.fun.now; goes_back = c.args.parts.goes_back; mark = c.args.parts.mark } in
    let all = nodes_of (in_order loop) (old_name names) in
    subst (λ some. CanMake some c.as_slice.result.now) (sym c.in_ok-nodes.ensures)
    (subst (CanMake all) (sym (c.as_slice.ensures ∙ c.left_wires.ensures)) (left_made c.tagged_loop_refines.ensures.rule prefix tags names loop h))
