use Rattle.loop_body.proofs.Steps.{fields_next}
use Rattle.loop_body.proofs.function.input_fields.Goals as goal

pub loop-place-preserved : goal.loop-place-preserved
loop-place-preserved c =
    fields_next c.args.widths.now c.loop-place.place c.loop-place.wire.items c.push.new.self.items c.field.result _ c.loop-place-test.true c.in_ok-push.ensures.items c.field.ensures c.loop-place.invariant
