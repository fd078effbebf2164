use Rattle.std.proofs.Common.{refl}
use Rattle.circuits.specs.Circuit.{circuit_of}
use Rattle.commands.specs.Judged.{HasForm}
use Rattle.commands.specs.Ruling.{PrintRefines, PrintDrains}
use Rattle.commands.proofs.Prints.{answers_have}
use Rattle.commands.proofs.laws.answers_keep_behaviour.Goals as goal

pub returns-clause-refines : goal.returns-clause-refines
returns-clause-refines c =
    answers_have c.print_of_print.ensures.tells c.read_texts_can_be_quoted.ensures c.stripped_can_be_read.ensures (λ command. PrintRefines)
    (λ input g one. c.refines_itself.ensures (circuit_of g) (c.graph_typed_as_circuit.ensures.circuit g (c.graphs_are_typed.ensures input g one)))
    (λ input g h one stripped. c.stripped_refines.ensures.refines g h (c.graphs_are_typed.ensures input g one) stripped)

pub returns-clause-drains : goal.returns-clause-drains
returns-clause-drains c =
    answers_have c.print_of_print.ensures.tells c.read_texts_can_be_quoted.ensures c.stripped_can_be_read.ensures (λ command. PrintDrains)
    (λ input g one ins outs drains. drains) (λ input g h one stripped. c.stripped_drains.ensures g h (c.graphs_are_typed.ensures input g one) stripped)

pub returns-clause-form : goal.returns-clause-form
returns-clause-form c =
    answers_have c.print_of_print.ensures.tells c.read_texts_can_be_quoted.ensures c.stripped_can_be_read.ensures HasForm
    (λ input g one. refl) (λ input g h one stripped. c.only_rings_are_left.ensures g h stripped)
