use Rattle.std.proofs.Common.{◌≡◌, ◌+◌, ◌∷◌, map, drop, ap, sym, ◌∙◌, subst, arith}
use Rattle.std.proofs.lemmas.List.{drop_more}
use Rattle.components.specs.declared.node.Node.{Node}
use Rattle.loop_body.specs.Tables.{Differ}
use Rattle.loop_body.proofs.Steps.{kind_first, length-kinds, one_more, whole_built, differ_next}
use Rattle.loop_body.proofs.function.put_nodes.Goals as goal

pub put_node-requires-clause-differ : goal.put_node-requires-clause-differ
put_node-requires-clause-differ c =
    let inputs = c.args.inputs.now in
    let ports = c.index-inputs-i.result in
    let first : drop c.loop-i.i inputs ≡ ports ∷ drop (c.loop-i.i + 1) inputs =
    drop_more inputs c.loop-i.i ports (omega (arith, c.loop-i-test.true, c.requires.count)) ∙ ap (λ x. x ∷ drop (c.loop-i.i + 1) inputs) (sym c.index-inputs-i.is) in
    subst Differ (sym c.as_slice.ensures) (differ_next inputs c.loop-i.i ports first c.loop-i.invariant.1).0

pub loop-i-preserved : goal.loop-i-preserved
loop-i-preserved c =
    let inputs = c.args.inputs.now in
    let ports = c.index-inputs-i.result in
    let first : drop c.loop-i.i inputs ≡ ports ∷ drop (c.loop-i.i + 1) inputs =
    drop_more inputs c.loop-i.i ports (omega (arith, c.loop-i-test.true, c.requires.count)) ∙ ap (λ x. x ∷ drop (c.loop-i.i + 1) inputs) (sym c.index-inputs-i.is) in
    let first' : drop c.loop-i.i inputs ≡ c.as_slice.result.now ∷ drop (c.loop-i.i + 1) inputs = first ∙ ap (λ x. x ∷ drop (c.loop-i.i + 1) inputs) (sym c.as_slice.ensures) in
    let kinds = map (λ (node : Node). node.kind) c.args.nodes.now in
    let kind = kind_first (λ (node : Node). node.kind) c.args.nodes.now c.loop-i.i c.index-nodes-i.result c.loop-i-test.true c.index-nodes-i.is in (
      one_more c.args.fields kinds inputs c.args.table.now c.args.binds.now.items c.loop-i.i c.loop-i.table c.put_node.new.table c.loop-i.binds.items c.put_node.new.binds.items
          c.index-nodes-i.result.kind c.as_slice.result.now kind first' c.in_ok-put_node.ensures c.loop-i.invariant.0,
      (differ_next inputs c.loop-i.i ports first c.loop-i.invariant.1).1,
    )

pub returns : goal.returns
returns c =
    let kinds = map (λ (node : Node). node.kind) c.args.nodes.now in
    whole_built c.args.fields kinds c.args.inputs.now c.args.table.now c.args.binds.now.items c.loop-i.i c.loop-i.table c.loop-i.binds.items
    (omega (arith, c.loop-i-test.false, length-kinds (λ (node : Node). node.kind) c.args.nodes.now)) (omega (arith, c.loop-i-test.false, c.requires.count)) c.loop-i.invariant.0
