use Rattle.std.proofs.Common.{◌≡◌, ◌++◌, take, string_bytes}
use Rattle.port_types.specs.PortText.{shape_text}
use Rattle.port_types.proofs.port_text.push_shape.Given as goal

abbrev pub invariant-loop-index : goal.invariant-loop-index
invariant-loop-index l = string_bytes l.text ≡ string_bytes l.fn.text ++ shape_text (take l.index l.widths)
