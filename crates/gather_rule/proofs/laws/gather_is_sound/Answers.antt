use Rattle.gather_rule.proofs.GatherSound.{sound}
use Rattle.gather_rule.proofs.laws.gather_is_sound.Goals as goal

pub returns : goal.returns
returns c =
    sound (record {
      values = c.one_turn.ensures.value;
      one_turn = c.one_turn.ensures.turn;
      turns = c.function_computes_turn.ensures.turns;
      typed = c.function_computes_turn.ensures.typed;
      refines = c.gather_refines.ensures;
      graph = c.graph_typed_as_circuit.ensures.graph;
    })
