use Rattle.port_types.proofs.Numerals.{numerals_tell_numbers}
use Rattle.port_types.proofs.laws.numerals_tell_numbers.Goals as goal

pub returns : goal.returns
returns c = numerals_tell_numbers
