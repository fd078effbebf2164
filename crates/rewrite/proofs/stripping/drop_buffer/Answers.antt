-- The node whose rule was applied had its turn.
use Rattle.std.proofs.Common.{MatchOption, subst}
use Rattle.rewrite.specs.TurnById.{IsDropAt, StaysById}
use Rattle.rewrite.proofs.TurnsById.{where_ok, had_turn_dropped}
use Rattle.rewrite.proofs.stripping.drop_buffer.Goals as goal

pub returns-in-Some : goal.returns-in-Some
returns-in-Some c =
    let drop = subst (λ found. MatchOption found (StaysById c.args.g.now c.args.id) (IsDropAt c.args.g.now c.args.id)) c.in-Some.is c.in_ok-rule.ensures in
    where_ok c.apply.result
    (had_turn_dropped c.args.g.now c.apply.new.g c.args.id c.in-Some.rule c.requires c.is_graph.ensures c.drop_buffer_leaves_out.ensures.gives c.drop_buffer_leaves_out.ensures.one drop) c.apply.ensures
