use Rattle.rule_uses.proofs.TagLoopTies.{tag_loop_makes}
use Rattle.rule_uses.proofs.tag_loop_makes.Goals as goal

-- src/lib.rt:10:1
pub returns : goal.returns
returns c =
    tag_loop_makes c.graph_typed_as_circuit.ensures.circuit c.replaced_graph_as_circuit.ensures.consumer c.replaced_graph_as_circuit.ensures.circuit c.tagged_loop_refines.ensures.rule
