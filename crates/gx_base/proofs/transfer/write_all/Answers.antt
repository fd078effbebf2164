use Rattle.std.proofs.Common.{take, ap, ◌∙◌, arith}
use Rattle.std.proofs.lemmas.List.{take_rest}
use Rattle.gx_base.specs.Stream.{after}
use Rattle.gx_base.proofs.Streams.{taken_front}
use Rattle.gx_base.proofs.transfer.write_all.Goals as goal

-- What the sink had taken, and the front of the rest.
pub loop-done-preserved : goal.loop-done-preserved
loop-done-preserved g c = record {
  within = omega (arith, c.in-Ok.ensures.within);
  counted = omega (arith, c.in-Ok.ensures.never_falls);
  front =
      c.in-Ok.ensures.given
      ∙ ap (λ rest. after (g.O.Sink.told c.loop-done.out).bytes (take c.in-Ok.count rest)) (take_rest c.args.bytes.now c.loop-done.done)
      ∙ taken_front _ _ c.loop-done.done c.in-Ok.count c.args.bytes.now c.loop-done.invariant.front;
  untouched = λ none. absurd (omega (arith, c.in-Ok.ensures.some));
}
