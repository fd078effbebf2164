use Rattle.std.proofs.Common.{ap, arith}
use Rattle.std.proofs.lemmas.Bool.{false≢true}
use Rattle.circuits.specs.Circuit.{circuit_of}
use Rattle.graph_core.specs.declared.place.NodeId.{NodeId}
use Rattle.loop_laws.specs.Weight.{fields_of}
use Rattle.loop_find.specs.Marks.{names_by}
use Rattle.loop_find.proofs.LaneFields.{fields_step}
use Rattle.loop_find.proofs.fields.are_narrow.Goals as goal

pub returns-in-None : goal.returns-in-None
returns-in-None c =
    let zero : NodeId = record { index = 0 } in
    let step = fields_step c.args.g.now c.as_slice-id-items.result.now c.loop-id.id-index zero c.loop-id-test.true in
    let same = ap (λ xs. fields_of (circuit_of c.args.g.now.graph) (names_by c.args.g.now xs)) c.as_slice-id-items.ensures in
    (λ e. absurd (false≢true e), λ le. absurd (omega (arith, step, same, le, c.in-None.ensures, c.loop-id.invariant)))

pub loop-id-preserved : goal.loop-id-preserved
loop-id-preserved c =
    let zero : NodeId = record { index = 0 } in
    let step = fields_step c.args.g.now c.as_slice-id-items.result.now c.loop-id.id-index zero c.loop-id-test.true in
    omega (arith, step, c.in-Some.ensures, c.loop-id.invariant)
