use Rattle.std.proofs.Common.{◌+◌, ◌≡◌, ◌∷◌, [], drop, true≢false, ap, sym, subst, ◌∙◌, arith}
use Rattle.components.specs.declared.node.Node.{Node}
use Rattle.components.specs.Kind.{KindOk, outs}
use Rattle.fun_expr.specs.Each.{Each}
use Rattle.loop_body.specs.Judging.{kinds_of, rows_of}
use Rattle.loop_body.proofs.Steps.{length-kinds}
use Rattle.loop_body.proofs.Judged.{item_first, kind_first, map-take}
use Rattle.loop_body.proofs.NodesFitting.{NodeFits, fit_step, fit_not, fit_lengths}
use Rattle.loop_body.proofs.fitting.nodes_fit.Goals as goal

pub returns-then-nodes-inputs : goal.returns-then-nodes-inputs
returns-then-nodes-inputs c = (
  λ e. absurd (true≢false (sym e)),
  λ all. absurd (c.if-nodes-inputs.true (sym (length-kinds (λ (node : Node). node.kind) c.args.nodes.now) ∙ fit_lengths (outs c.args.split.now ∷ []) (kinds_of c.args.nodes.now) c.args.inputs.now all)),
)

pub node_fits-requires-clause-nodes_ok : goal.node_fits-requires-clause-nodes_ok
node_fits-requires-clause-nodes_ok c = subst (Each KindOk) (sym (map-take (λ (node : Node). node.kind) c.loop-i.i c.args.nodes.now)) c.loop-i.invariant.1

pub returns-then-not-node_fits : goal.returns-then-not-node_fits
returns-then-not-node_fits c =
    let nodes = c.args.nodes.now in
    let inputs = c.args.inputs.now in
    let i = c.loop-i.i in
    let ports : drop i inputs ≡ c.as_slice-ports.result.now ∷ drop (i + 1) inputs =
    item_first inputs i c.index-inputs-i.result (omega (arith, c.loop-i-test.true, c.if-nodes-inputs.false)) c.index-inputs-i.is ∙ ap (λ x. x ∷ drop (i + 1) inputs) (sym c.as_slice-ports.ensures) in (
      λ e. absurd (true≢false (sym e)),
      λ all. absurd (fit_not c.args.split.now (kinds_of nodes) inputs i c.index-nodes-i.result.kind c.as_slice-ports.result.now (kind_first nodes i c.index-nodes-i.result c.loop-i-test.true c.index-nodes-i.is) ports
          (λ fits.
          let before = subst (λ ks. NodeFits (rows_of (c.args.split.now ∷ ks)) c.index-nodes-i.result.kind c.as_slice-ports.result.now) (sym (map-take (λ (node : Node). node.kind) i nodes)) fits in
          true≢false (sym (c.node_fits.ensures.1 before) ∙ c.if-not-node_fits.true)) c.loop-i.invariant all),
    )

pub loop-i-preserved : goal.loop-i-preserved
loop-i-preserved c =
    let nodes = c.args.nodes.now in
    let inputs = c.args.inputs.now in
    let i = c.loop-i.i in
    let ports : drop i inputs ≡ c.as_slice-ports.result.now ∷ drop (i + 1) inputs =
    item_first inputs i c.index-inputs-i.result (omega (arith, c.loop-i-test.true, c.if-nodes-inputs.false)) c.index-inputs-i.is ∙ ap (λ x. x ∷ drop (i + 1) inputs) (sym c.as_slice-ports.ensures) in
    let fits = subst (λ ks. NodeFits (rows_of (c.args.split.now ∷ ks)) c.index-nodes-i.result.kind c.as_slice-ports.result.now) (map-take (λ (node : Node). node.kind) i nodes) (c.node_fits.ensures.0 c.if-not-node_fits.false) in
    fit_step c.args.split.now (kinds_of nodes) inputs i c.index-nodes-i.result.kind c.as_slice-ports.result.now (kind_first nodes i c.index-nodes-i.result c.loop-i-test.true c.index-nodes-i.is) ports fits c.loop-i.invariant
