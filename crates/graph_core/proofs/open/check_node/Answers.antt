use Rattle.std.proofs.Common.{◌≡◌, None, length, rules, subst}
use Rattle.std.specs.FinMap as finite
use Rattle.port_types.specs.declared.side.Side.TheVariants.{Ins, Outs}
use Rattle.components.specs.Kind.{ins}
use Rattle.graph_core.specs.GraphValue.{IsNodeAt}
use Rattle.graph_core.specs.Open.{AreWired, IsFirstFree}
use Rattle.graph_core.proofs.OpenPorts.{dead_closed, is_closed, is_first_in, is_first_out}
use Rattle.graph_core.proofs.open.check_node.Goals as goal

pub returns-in_default : goal.returns-in_default
returns-in_default c =
    let dead : finite.get c.args.g.now.ids c.args.id ≡ None = search rules in
    dead_closed c.args.g.now c.is_graph.ensures c.args.id dead

pub returns-in-Some-open_port : goal.returns-in-Some-open_port
returns-in-Some-open_port c =
    let at : IsNodeAt c.args.g.now c.args.id c.in-Some.node.now = search rules in
    let found = subst (λ count. IsFirstFree c.args.g.now Ins c.args.id count c.in-Some-open_port.port) c.inputs.ensures c.in-Some-open_port.ensures in
    is_first_in c.args.g.now c.args.id c.in-Some.node.now at c.in-Some-open_port.port found

pub returns-in-Some-open_port-2 : goal.returns-in-Some-open_port-2
returns-in-Some-open_port-2 c =
    let at : IsNodeAt c.args.g.now c.args.id c.in-Some.node.now = search rules in
    let wired : AreWired c.args.g.now Ins c.args.id (length (ins c.in-Some.node.now.kind)) = subst (AreWired c.args.g.now Ins c.args.id) c.inputs.ensures c.in_default-open_port.ensures in
    let found = subst (λ count. IsFirstFree c.args.g.now Outs c.args.id count c.in-Some-open_port-2.port) c.outputs.ensures c.in-Some-open_port-2.ensures in
    is_first_out c.args.g.now c.args.id c.in-Some.node.now at c.in-Some-open_port-2.port wired found

pub returns : goal.returns
returns c =
    let at : IsNodeAt c.args.g.now c.args.id c.in-Some.node.now = search rules in
    let wired_ins = subst (AreWired c.args.g.now Ins c.args.id) c.inputs.ensures c.in_default-open_port.ensures in
    let wired_outs = subst (AreWired c.args.g.now Outs c.args.id) c.outputs.ensures c.in_default-open_port-2.ensures in
    is_closed c.args.g.now c.args.id c.in-Some.node.now at wired_ins wired_outs
