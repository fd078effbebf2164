use Rattle.std.proofs.Common.{◌∙◌, sym, ap, [], ◌∷◌, ◌++◌, take, rules}
use Rattle.mux_branch_rules.proofs.LaneLists.{take_more}
use Rattle.mux_branch_rules.proofs.lanes.listed_names.Goals as goal

pub loop-index-preserved : goal.loop-index-preserved
loop-index-preserved c =
    c.in_ok-push.ensures.items ∙ ap (λ z. z ++ c.in_ok-copy_name-2.field-0 ∷ []) c.loop-index.invariant
    ∙ ap (λ z. c.args.fork.now ∷ (take c.loop-index.index c.args.branches.now ++ z ∷ [])) c.in_ok-copy_name-2.ensures
    ∙ ap (λ z. c.args.fork.now ∷ z) (sym (take_more c.args.branches.now c.loop-index.index c.index-branches-index.result (search (rules, c.index-branches-index.is)) c.loop-index-test.true))
