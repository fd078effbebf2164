use Rattle.std.proofs.Common.{ap, ◌∙◌, arith}
use Rattle.port_types.specs.PortGrammar.{text_behind}
use Rattle.port_types.proofs.Fronts.{decimal_one, decimal_two}
use Rattle.port_types.proofs.port_reading.behind_number.Goals as goal

pub returns-then-number-lt10 : goal.returns-then-number-lt10
returns-then-number-lt10 c = c.text_behind.ensures ∙ ap (λ front. text_behind front c.args.text.now) (decimal_one c.args.number (omega arith))

pub returns-else-number-lt10 : goal.returns-else-number-lt10
returns-else-number-lt10 c = c.text_behind-else-number-lt10.ensures ∙ ap (λ front. text_behind front c.args.text.now) (decimal_two c.args.number (omega arith) (omega arith))
