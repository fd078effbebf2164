use Rattle.std.proofs.Common.{◌≡◌, Some, sym, subst}
use Rattle.std.specs.FinMap as finite
use Rattle.components.specs.Kind.{KindOk}
use Rattle.circuits.specs.Circuit.{circuit_of}
use Rattle.graph_core.specs.GraphValue.{name_by}
use Rattle.subst_engine.proofs.Ends.{found_body}
use Rattle.subst_engine.proofs.wires.input_count.Goals as goal

pub inputs-requires : goal.inputs-requires
inputs-requires c =
    let name = name_by c.args.g.now.ids c.args.id in
    let found : (circuit_of c.args.g.now.graph).kind_at name ≡ Some c.in-Some.kind.now = sym c.in-Some.ensures in
    let (body, is, same) = found_body (finite.get c.args.g.now.graph.nodes name) c.in-Some.kind.now found in
    subst KindOk same (c.is_graph.ensures.graph.kinds name body is)
