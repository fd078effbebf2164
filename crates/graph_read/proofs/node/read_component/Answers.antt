use Rattle.std.proofs.Common.{◌≡◌, ◌≤◌, List, length, sym, subst}
use Rattle.std.specs.Prelude.{All}
use Rattle.port_types.specs.Shape.{IsShape}
use Rattle.components.specs.Kind.{Shape}
use Rattle.graph_read.specs.Laws.{AreRead}
use Rattle.graph_read.proofs.node.read_component.Goals as goal

as_read : (shapes given : List Shape) → given ≡ shapes → length shapes ≤ 64 → All IsShape shapes → AreRead given
as_read shapes given same few each = subst AreRead (sym same) (record { few = few; each = each })

pub returns-clause-ok : goal.returns-clause-ok
returns-clause-ok c =
    let ins = as_read c.in_ok-ins.ins c.as_slice.result.now c.as_slice.ensures c.in_ok-ins.ensures.few c.in_ok-ins.ensures.shapes in
    let outs = as_read c.in_ok-outs.outs c.as_slice-2.result.now c.as_slice-2.ensures c.in_ok-outs.ensures.few c.in_ok-outs.ensures.shapes in
    ((c.rows_are_met.ensures c.args.component c.as_slice.result.now c.as_slice-2.result.now c.args.pairs.now c.in_ok-kind.kind ins outs).0 c.in_ok-kind.ensures).ok
