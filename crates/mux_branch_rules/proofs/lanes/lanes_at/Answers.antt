use Rattle.std.proofs.Common.{◌≡◌, Some, ◌∙◌, sym, ap, [], ◌∷◌, ◌++◌, take, rules}
use Rattle.components.specs.declared.kind.Kind.TheVariants.{Branch}
use Rattle.components.specs.Name.{Name}
use Rattle.components.specs.Kind.{Shape}
use Rattle.circuits.specs.Circuit.{circuit_of}
use Rattle.drawn_rules.proofs.Labelled.{map_both}
use Rattle.mux_branch_rules.specs.BranchCombine.{lanes_of, branch_shape}
use Rattle.mux_branch_rules.proofs.LaneLists.{take_more, all_at}
use Rattle.mux_branch_rules.proofs.lanes.lanes_at.Goals as goal

pub loop-index-preserved : goal.loop-index-preserved
loop-index-preserved c =
    let g = c.args.g.now.graph in
    let name = c.index-branches-index.result in
    let done = take c.loop-index.index c.args.branches.now in
    c.in_ok-push.ensures.items ∙ ap (λ z. z ++ c.in_ok-copy_shape.field-0 ∷ []) c.loop-index.invariant
    ∙ ap (λ z. lanes_of g done ++ z ∷ []) (c.in_ok-copy_shape.ensures ∙ sym (ap branch_shape c.in-Some.ensures))
    ∙ sym (map_both (λ n. branch_shape ((circuit_of g).kind_at n)) done (name ∷ []))
    ∙ ap (lanes_of g) (sym (take_more c.args.branches.now c.loop-index.index name (search (rules, c.index-branches-index.is)) c.loop-index-test.true))

pub returns-in_default : goal.returns-in_default
returns-in_default c = λ all.
    let one = all_at (λ (n : Name). (a : Shape) × ((circuit_of c.args.g.now.graph).kind_at n ≡ Some (Branch a))) c.args.branches.now c.loop-index.index c.index-branches-index.result (search (rules, c.index-branches-index.is)) c.loop-index-test.true all in
    c.in_default.ensures one.0 one.1
