use Rattle.std.proofs.Common.{◌≡◌, Ok, length, take}
use Rattle.std.specs.List.{filter, slice_split}
use Rattle.port_types.specs.PortGrammar.{is_blank, is_word, words_reading}
use Rattle.port_types.proofs.port_reading.read_ports.Given as goal

abbrev pub invariant-loop-part : goal.invariant-loop-part
invariant-loop-part l = words_reading l.side 1 (filter is_word (take (length l.yielded) (slice_split is_blank l.text))) ≡ Ok l.ports.items
