use Rattle.read_back.proofs.ReadAgain.{read_can_be_read}
use Rattle.read_back.proofs.laws.read_texts_can_be_quoted.Goals as goal

pub returns : goal.returns
returns c =
    read_can_be_read c.standing_document_prints.ensures.prints c.standing_document_prints.ensures.utf8 c.read_graphs_are_typed.ensures.typed c.read_graphs_are_typed.ensures.named c.read_graph_fits.ensures.fits c.read_graph_fits.ensures.texts
