use Rattle.std.proofs.Common.{◌≡◌, ◌∷◌, [], length, refl, sym, ◌∙◌, true≢false, arith}
use Rattle.components.specs.declared.node.Node.{Node}
use Rattle.components.specs.Kind.{outs}
use Rattle.loop_body.specs.Body.{Body}
use Rattle.loop_body.specs.Judging.{kinds_of}
use Rattle.loop_body.proofs.Steps.{length-kinds}
use Rattle.loop_body.proofs.NodesFitting.{fit_lengths, kinds_ok}
use Rattle.loop_body.proofs.Naming.{tell}
use Rattle.loop_body.proofs.Origins.{earlier, one_condition, have_one_root, some_data, data_reached}
use Rattle.loop_body.proofs.judging.are_body.Goals as goal

pub are_bits-requires-clause-nodes_ok : goal.are_bits-requires-clause-nodes_ok
are_bits-requires-clause-nodes_ok c = kinds_ok (outs c.args.split.now ∷ []) (kinds_of c.args.nodes.now) c.args.inputs.now (c.fit_together.ensures.0 c.if-not-fit_together.false).nodes

pub are_used_once-requires-clause-nodes_ok : goal.are_used_once-requires-clause-nodes_ok
are_used_once-requires-clause-nodes_ok c = kinds_ok (outs c.args.split.now ∷ []) (kinds_of c.args.nodes.now) c.args.inputs.now (c.fit_together.ensures.0 c.if-not-fit_together.false).nodes

pub come_from_lanes-requires : goal.come_from_lanes-requires
come_from_lanes-requires c =
    sym (length-kinds (λ (node : Node). node.kind) c.args.nodes.now) ∙ fit_lengths (outs c.args.split.now ∷ []) (kinds_of c.args.nodes.now) c.args.inputs.now (c.fit_together.ensures.0 c.if-not-fit_together.false).nodes

pub returns-then-not-branch-3 : goal.returns-then-not-branch-3
returns-then-not-branch-3 c =
    let b : Body = record { vars = outs c.args.split.now; nodes = c.args.nodes.now; inputs = c.args.inputs.now; next = c.args.next.now; conditions = c.args.conditions.now } in
    let fit = c.fit_together.ensures.0 c.if-not-fit_together.false in
    let e = earlier b fit.nodes in
    let some : length c.args.conditions.now ≡ 0 → ⊥ = λ none. omega (arith, none, fit.count) in (
      λ no. absurd (true≢false (sym no)),
      λ is. absurd (true≢false (sym (c.in_ok-come_from_lanes.ensures.1 (have_one_root b e b.conditions refl some is.condition, data_reached b e is.data_depends)) ∙ c.if-not-branch-3.true)),
    )

pub returns : goal.returns
returns c =
    let b : Body = record { vars = outs c.args.split.now; nodes = c.args.nodes.now; inputs = c.args.inputs.now; next = c.args.next.now; conditions = c.args.conditions.now } in
    let fit = c.fit_together.ensures.0 c.if-not-fit_together.false in
    let e = earlier b fit.nodes in
    let from = c.in_ok-come_from_lanes.ensures.0 c.if-not-branch-3.false in
    tell c.have_different_names.result (
      λ differ. record {
        vars = fit.vars;
        nodes = fit.nodes;
        names = c.in_ok-are_named.ensures.0 c.if-not-branch-4.false;
        differ = differ;
        once = c.in_ok-are_used_once.ensures.0 c.if-not-branch-2.false;
        count = fit.count;
        bits = c.in_ok-are_bits.ensures.0 c.if-not-branch.false;
        condition = one_condition b e b.conditions refl from.0;
        data_depends = some_data b e from.1;
        few = fit.few;
        light = fit.light;
      },
      λ is. is.differ,
    )
    c.have_different_names.ensures
