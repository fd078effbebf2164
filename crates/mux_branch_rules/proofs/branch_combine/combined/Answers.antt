use Rattle.std.proofs.Common.{suc, ◌∷◌, sym, ap, subst}
use Rattle.lane_laws.specs.CombineBranches.{branches_graph}
use Rattle.subst_engine.specs.Rule.{IsSoundRule}
use Rattle.mux_branch_rules.specs.BranchCombine.{old_name}
use Rattle.mux_branch_rules.proofs.BranchLaws.BranchMade.{sound}
use Rattle.mux_branch_rules.proofs.branch_combine.combined.Goals as goal

pub invariant_of-result : goal.invariant_of-result
invariant_of-result c =
    let h = c.requires in
    let names = c.args.fork.now ∷ c.args.branches.now in
    let lanes = c.args.lanes.now in
    let whole = sound c.branch_combine_refines.ensures.rule c.branch_combine_refines.ensures.refines c.args.prefix c.args.ends names c.args.goes_back lanes h.free (ap suc h.long) h.can in
    subst (λ l. IsSoundRule (record { word = c.branch_word-word.result; left = l; right = c.in_ok-right.right.graph })) (sym c.in_ok-left.ensures)
    (subst (λ r. IsSoundRule (record { word = c.branch_word-word.result; left = branches_graph lanes (old_name c.args.prefix c.args.ends names lanes); right = r })) (sym c.in_ok-right.ensures)
    (record { is_rule = whole.is_rule; refines = whole.refines }))
