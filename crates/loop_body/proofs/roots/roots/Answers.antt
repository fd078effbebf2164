use Rattle.std.proofs.Common.{◌+◌, None, [], ◌∷◌, drop, ap, sym, ◌∙◌, arith}
use Rattle.loop_body.specs.Judging.{kinds_of, passed_root, roots_from}
use Rattle.loop_body.proofs.Judged.{item_first, kind_first}
use Rattle.loop_body.proofs.Rooting.{roots_step}
use Rattle.loop_body.proofs.roots.roots.Goals as goal

pub loop-i-preserved : goal.loop-i-preserved
loop-i-preserved c =
    let nodes = c.args.nodes.now in
    let inputs = c.args.inputs.now in
    let i = c.loop-i.i in
    let kind = kind_first nodes i c.index-nodes-i.result c.loop-i-test.true c.index-nodes-i.is in
    let ports = item_first inputs i c.index-inputs-i.result (omega (arith, c.loop-i-test.true, c.requires)) c.index-inputs-i.is ∙ ap (λ x. x ∷ drop (i + 1) inputs) (sym c.as_slice.ensures) in
    let root = c.passed_root-root.ensures ∙ ap (λ rs. passed_root rs c.index-nodes-i.result.kind c.as_slice.result.now) c.deref.ensures.value in
    roots_step c.loop-i.roots.items c.push-in-loop-i.new.self.items c.passed_root-root.result (drop i (kinds_of nodes)) (drop (i + 1) (kinds_of nodes)) (drop i inputs) (drop (i + 1) inputs)
    c.index-nodes-i.result.kind c.as_slice.result.now (roots_from (None ∷ []) (kinds_of nodes) inputs) kind ports c.in_ok-push-2.ensures.items root c.loop-i.invariant
