use Rattle.std.proofs.Common.{sym, subst}
use Rattle.lane_laws.specs.SplitJoin.{split_joined_graph}
use Rattle.subst_engine.specs.declared.word.RuleWord.TheVariants.{SplitJoin}
use Rattle.subst_engine.specs.Rule.{IsSoundRule}
use Rattle.pure_extract.specs.SplitJoin.{side_name}
use Rattle.pure_extract.proofs.SplitJoinLaws.SplitJoinSound.{sound}
use Rattle.pure_extract.proofs.split_join.SplitJoin.of.Goals as goal

pub invariant_of-result : goal.invariant_of-result
invariant_of-result c =
    let found = c.args.found in
    let h = c.requires in
    subst (λ l. IsSoundRule (record { word = SplitJoin; left = l; right = c.in_ok-right.right.graph })) (sym c.in_ok-left.ensures)
    (subst (λ r. IsSoundRule (record { word = SplitJoin; left = split_joined_graph found.parts.now (side_name found.split.now found.join.now); right = r })) (sym c.in_ok-right.ensures)
    (sound c.split_join_refines.ensures.rule c.split_join_refines.ensures.refines found.split.now found.join.now found.parts.now h.apart h.are))
