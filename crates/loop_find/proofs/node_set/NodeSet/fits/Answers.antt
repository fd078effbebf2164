use Rattle.std.proofs.Common.{rules}
use Rattle.loop_find.proofs.Places.{no_more}
use Rattle.loop_find.proofs.node_set.NodeSet.fits.Goals as goal

pub returns : goal.returns
returns c = search (rules, no_more c.self.inside.ids.items c.self.inside.places.items c.self.invariant)
