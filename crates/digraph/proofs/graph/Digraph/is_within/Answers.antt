use Rattle.std.proofs.Common.{subst}
use Rattle.digraph.specs.Edges.{IsWithin}
use Rattle.digraph.proofs.graph.Digraph.is_within.Goals as goal

pub returns : goal.returns
returns c = subst IsWithin c.self.view_is c.self.invariant
