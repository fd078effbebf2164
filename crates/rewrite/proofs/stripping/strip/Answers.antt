-- The turns of all nodes in order strip the graph, and by the laws of stripped graphs the stripped graph refines it and keeps its drains.
use Rattle.rewrite.proofs.StrippedByTurns.{turns_strip}
use Rattle.rewrite.proofs.stripping.strip.Goals as goal

pub returns-clause-stripped : goal.returns-clause-stripped
returns-clause-stripped c = (turns_strip c.args.g.graph c.drop_buffers.new.g.graph c.requires c.in_ok-drop_buffers.ensures).0

pub returns-clause-rings : goal.returns-clause-rings
returns-clause-rings c =
    c.only_rings_are_left.ensures c.args.g.graph c.drop_buffers.new.g.graph (turns_strip c.args.g.graph c.drop_buffers.new.g.graph c.requires c.in_ok-drop_buffers.ensures).0

pub returns-clause-typed : goal.returns-clause-typed
returns-clause-typed c = (turns_strip c.args.g.graph c.drop_buffers.new.g.graph c.requires c.in_ok-drop_buffers.ensures).1

pub returns-clause-refines : goal.returns-clause-refines
returns-clause-refines c =
    c.stripped_refines.ensures.refines c.args.g.graph c.drop_buffers.new.g.graph c.requires (turns_strip c.args.g.graph c.drop_buffers.new.g.graph c.requires c.in_ok-drop_buffers.ensures).0

pub returns-clause-drains : goal.returns-clause-drains
returns-clause-drains c =
    c.stripped_drains.ensures c.args.g.graph c.drop_buffers.new.g.graph c.requires (turns_strip c.args.g.graph c.drop_buffers.new.g.graph c.requires c.in_ok-drop_buffers.ensures).0
