use Rattle.commands.specs.Ruling.{PrintCanBeRead}
use Rattle.commands.proofs.Prints.{answers_have, read_can, strip_can}
use Rattle.commands.proofs.laws.answers_read_back.Goals as goal

pub returns : goal.returns
returns c =
    let tells = c.print_of_print.ensures.tells in
    let can = c.read_texts_can_be_quoted.ensures in
    let stripped_can = c.stripped_can_be_read.ensures in
    answers_have tells can stripped_can (λ command. PrintCanBeRead) (read_can tells can stripped_can) (strip_can tells can stripped_can)
