use Rattle.circuit_examples.proofs.WireDrains.{wire_drains, wire_drains_only}
use Rattle.circuit_examples.proofs.wire_drains_tokens.Goals as goal

pub returns : goal.returns
returns c = λ shape ins outs. (wire_drains_only shape ins outs, λ h. wire_drains c.one_rest.ensures.without_init shape ins outs h.0 h.1)
