use Rattle.std.proofs.Common.{◌<◌, length, true≢false, sym, ◌∙◌, arith}
use Rattle.components.specs.Kind.{ins}
use Rattle.loop_body.specs.Judging.{kinds_of, rows_of}
use Rattle.std.proofs.Common.{◌∷◌}
use Rattle.loop_body.proofs.NodesFitting.{input_there, feed_step, feed_not}
use Rattle.loop_body.proofs.fitting.feed.Goals as goal

pub has_shape_of-requires-clause-there : goal.has_shape_of-requires-clause-there
has_shape_of-requires-clause-there c = input_there (ins c.args.target.now) c.loop-i.i (omega (arith, c.loop-i-test.true, c.inputs-count.ensures))

pub returns-then-not-has_shape_of : goal.returns-then-not-has_shape_of
returns-then-not-has_shape_of c =
    let lt : c.loop-i.i < length (ins c.args.target.now) = omega (arith, c.loop-i-test.true, c.inputs-count.ensures) in (
      λ e. absurd (true≢false (sym e)),
      λ all. absurd (feed_not (rows_of (c.args.split.now ∷ kinds_of c.args.nodes.now)) c.args.ports.now (ins c.args.target.now) c.loop-i.i c.port_at-port.result lt c.port_at-port.ensures
          (λ fed. true≢false (sym (c.has_shape_of.ensures.1 fed) ∙ c.if-not-has_shape_of.true)) c.loop-i.invariant all),
    )

pub loop-i-preserved : goal.loop-i-preserved
loop-i-preserved c =
    let lt : c.loop-i.i < length (ins c.args.target.now) = omega (arith, c.loop-i-test.true, c.inputs-count.ensures) in
    feed_step (rows_of (c.args.split.now ∷ kinds_of c.args.nodes.now)) c.args.ports.now (ins c.args.target.now) c.loop-i.i c.port_at-port.result lt c.port_at-port.ensures
    (c.has_shape_of.ensures.0 c.if-not-has_shape_of.false) c.loop-i.invariant
