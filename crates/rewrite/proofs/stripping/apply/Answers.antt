-- A rule matches where it was made.
use Rattle.std.proofs.Common.{IfErr, Err, ap, subst, ◌∙◌}
use Rattle.subst_engine.specs.Replaced.{Refuses}
use Rattle.rewrite.proofs.stripping.apply.Goals as goal

pub unreachable-requires : goal.unreachable-requires
unreachable-requires c =
    let (name, made) = c.requires.made in
    let refuses = subst (λ r. IfErr r (Refuses c.args.g.now.graph c.args.rule.now.left c.args.rule.now.right)) (c.in-Err-NoMatch.is ∙ ap Err c.in-Err-NoMatch.field-0-is) c.replace.ensures.refused in
    refuses (c.drop_buffer_leaves_out.ensures.matches c.args.g.now.graph name c.args.rule.now c.requires.typed made)
