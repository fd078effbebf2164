use Rattle.commands.proofs.Prints.{graphs_are_typed}
use Rattle.commands.proofs.Verdicts.{has_verdict, one_verdict}
use Rattle.commands.proofs.laws.one_verdict.Goals as goal

pub returns-clause-some : goal.returns-clause-some
returns-clause-some c = λ command input.
    has_verdict c.reading_decides.ensures c.document_looks_no_further.ensures.within c.skipping_decides.ensures.found input c.one_stripped_graph.ensures.some
    (graphs_are_typed c.read_graphs_are_typed.ensures.typed input) command

pub returns-clause-one : goal.returns-clause-one
returns-clause-one c = λ command input.
    one_verdict c.one_document.ensures c.one_place.ensures.one c.one_place.ensures.none c.skipping_decides.ensures.one c.skipping_decides.ensures.one_fault c.skipping_decides.ensures.not_both input
    c.one_stripped_graph.ensures.one command
