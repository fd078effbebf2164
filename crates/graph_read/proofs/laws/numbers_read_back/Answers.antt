use Rattle.graph_read.proofs.NumberTexts.{decimal_values, hexadecimal_values, decimal_tags}
use Rattle.graph_read.proofs.laws.numbers_read_back.Goals as goal

pub returns-clause-decimal : goal.returns-clause-decimal
returns-clause-decimal c = decimal_values

pub returns-clause-hexadecimal : goal.returns-clause-hexadecimal
returns-clause-hexadecimal c = hexadecimal_values

pub returns-clause-tags : goal.returns-clause-tags
returns-clause-tags c = decimal_tags c.numerals_tell_numbers.ensures
