use Rattle.commands.proofs.LinePieces.{whole_taken}
use Rattle.commands.proofs.line.write_text.Goals as goal

pub returns-in-Ok-clause-front : goal.returns-in-Ok-clause-front
returns-in-Ok-clause-front g c = whole_taken c.args.text.now _ _ c.in-Ok.ensures.all_taken
