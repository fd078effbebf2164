use Rattle.circuits.proofs.ReplacedGraph.BufferRule.{dropped_is_replaced, rule_matches}
use Rattle.circuits.proofs.dropped_is_replaced.Goals as goal

pub returns-clause-matches : goal.returns-clause-matches
returns-clause-matches c = λ g entry b exit shape before after ty can. rule_matches entry b exit can.kind shape can.passes before after g ty can.is_kind can

pub returns-clause-graph : goal.returns-clause-graph
returns-clause-graph c = λ h g entry b exit shape before after ty w. dropped_is_replaced entry b exit w.can.kind shape w.can.passes before after h g ty w
