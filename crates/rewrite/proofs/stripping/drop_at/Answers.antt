-- A Buffer at which the rule has no instance is wired to itself.
use Rattle.std.proofs.Common.{Err, sym, ap, subst, ◌∙◌}
use Rattle.circuits.specs.Circuit.{circuit_of}
use Rattle.circuits.specs.Buffers.{CanDropBuffer}
use Rattle.rewrite.proofs.TurnsById.{stays_itself, drop_at}
use Rattle.rewrite.proofs.stripping.drop_at.Goals as goal

pub returns-in-Err-NoInstance : goal.returns-in-Err-NoInstance
returns-in-Err-NoInstance c =
    let refused = c.at.ensures.refused.0 (c.in-Err-NoInstance.is ∙ ap Err c.in-Err-NoInstance.field-0-is) in
    stays_itself c.args.g.now c.requires c.args.id c.in-Some.node.now c.in-Some.ensures c.in-Buffer.field-0 c.in-Buffer.is
    (subst (λ name. ¬ (CanDropBuffer (circuit_of c.args.g.now.graph) name)) c.bytes.ensures.same refused)
