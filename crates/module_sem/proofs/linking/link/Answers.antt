use Rattle.module_sem.proofs.LinkIds.{can_hand_by_ids, linked_by_ids}
use Rattle.module_sem.proofs.linking.link.Goals as goal

pub put_buffer-requires-clause-exit : goal.put_buffer-requires-clause-exit
put_buffer-requires-clause-exit c = (c.requires.can.shape, c.requires.can.exit)

pub feed_from-requires : goal.feed_from-requires
feed_from-requires c = can_hand_by_ids c.args.h.now c.is_graph.ensures c.requires.typed c.args.exit c.args.entry c.requires.can c.in_ok-buffer.buffer c.put_buffer.new.h c.in_ok-buffer.ensures

pub returns : goal.returns
returns c = linked_by_ids c.args.h.now c.is_graph.ensures c.requires.typed c.args.exit c.args.entry c.requires.can c.in_ok-buffer.buffer c.put_buffer.new.h c.in_ok-buffer.ensures c.feed_from.new.h c.feed_from.ensures
