use Rattle.std.proofs.Common.{sym, subst}
use Rattle.lane_laws.specs.TrimFork.{untrimmed_graph}
use Rattle.subst_engine.specs.declared.word.RuleWord.TheVariants.{TrimFork}
use Rattle.subst_engine.specs.Rule.{IsSoundRule}
use Rattle.pure_extract.specs.TrimFork.{old_name}
use Rattle.pure_extract.proofs.TrimForkLaws.TrimSides.{sound}
use Rattle.pure_extract.proofs.trim_fork.TrimFork.of.Goals as goal

pub invariant_of-result : goal.invariant_of-result
invariant_of-result c =
    let sunk = c.args.sunk in
    let h = c.requires in
    subst (λ l. IsSoundRule (record { word = TrimFork; left = l; right = c.in_ok-right.right.graph })) (sym (c.in_ok-left.ensures h.output h.is_output))
    (subst (λ r. IsSoundRule (record { word = TrimFork; left = untrimmed_graph sunk.shape.now sunk.others h.output (old_name c.args.prefix c.args.ends sunk.fork.now sunk.sink.now sunk.shape.now sunk.others); right = r })) (sym c.in_ok-right.ensures)
    (sound c.trim_fork_refines.ensures.rule c.trim_fork_refines.ensures.refines c.args.prefix c.args.ends sunk.fork.now sunk.sink.now sunk.shape.now sunk.others h.output h.free h.can))
