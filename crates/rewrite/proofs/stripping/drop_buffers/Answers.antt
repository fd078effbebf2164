use Rattle.std.proofs.Common.{drop}
use Rattle.std.proofs.lemmas.List.{drop_all}
use Rattle.graph_core.specs.Place.{id_of}
use Rattle.rewrite.proofs.TurnsById.{underway_first, underway_more, underway_last}
use Rattle.rewrite.proofs.stripping.drop_buffers.Goals as goal

pub loop-id-init : goal.loop-id-init
loop-id-init c = underway_first c.args.g.now c.args.ids.now c.requires.typed c.requires.order

pub loop-id-preserved : goal.loop-id-preserved
loop-id-preserved c =
    underway_more c.args.g.now.graph c.loop-id.g c.drop_buffer.new.g c.args.ids.now c.loop-id.id-index (id_of 0) c.loop-id-test.true c.loop-id.invariant c.in_ok-drop_buffer.ensures

pub returns : goal.returns
returns c = underway_last c.args.g.now.graph c.loop-id.g (drop c.loop-id.id-index c.args.ids.now) (drop_all c.loop-id.id-index c.args.ids.now c.loop-id-test.false) c.loop-id.invariant
