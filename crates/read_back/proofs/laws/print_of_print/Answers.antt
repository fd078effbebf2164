use Rattle.read_back.proofs.ReadAgain.{print_reads_back, input_is_one_graph, print_of_print, text_tells_graph}
use Rattle.read_back.proofs.laws.print_of_print.Goals as goal

pub returns-clause-back : goal.returns-clause-back
returns-clause-back c = print_reads_back c.text_reads_back.ensures c.read_texts_can_be_quoted.ensures

pub returns-clause-one : goal.returns-clause-one
returns-clause-one c = input_is_one_graph c.one_document.ensures

pub returns-clause-same : goal.returns-clause-same
returns-clause-same c =
    print_of_print (print_reads_back c.text_reads_back.ensures c.read_texts_can_be_quoted.ensures) (input_is_one_graph c.one_document.ensures)

pub returns-clause-tells : goal.returns-clause-tells
returns-clause-tells c = text_tells_graph c.text_reads_back.ensures (input_is_one_graph c.one_document.ensures)
