use Rattle.std.proofs.Common.{◌≡◌, take, string_bytes}
use Rattle.std.specs.List.{All}
use Rattle.port_types.specs.Shape.{IsShape}
use Rattle.port_types.specs.PortText.{marked_ports_text}
use Rattle.port_types.proofs.port_text.print_ports.Given as goal

abbrev pub invariant-loop-index : goal.invariant-loop-index
invariant-loop-index l = record {
  text : string_bytes l.text ≡ marked_ports_text l.side (take l.index l.ports);
  shapes : All (λ port. IsShape port.shape) (take l.index l.ports);
}
