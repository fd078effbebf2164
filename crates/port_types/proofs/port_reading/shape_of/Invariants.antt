use Rattle.std.proofs.Common.{◌≡◌, length, map, take}
use Rattle.std.specs.Str.Parse.{digits_value}
use Rattle.port_types.specs.PortGrammar.{fields_of}
use Rattle.port_types.proofs.port_reading.shape_of.Given as goal

abbrev pub invariant-loop-field : goal.invariant-loop-field
invariant-loop-field l = l.widths.items ≡ map (digits_value 10) (take (length l.yielded) (fields_of l.text))
