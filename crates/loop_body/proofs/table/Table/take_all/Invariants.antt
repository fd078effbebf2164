use Rattle.std.proofs.Common.{◌≡◌, ◌≢◌, ◌++◌, map, length, drop}
use Rattle.fun_expr.specs.Each.{Each}
use Rattle.loop_body.specs.declared.body_port.BodyPort.{BodyPort}
use Rattle.loop_body.specs.Body.{entry, flat}
use Rattle.loop_body.specs.BodyFunction.{wire_at}
use Rattle.loop_body.specs.Tables.{Differ}
use Rattle.loop_body.proofs.table.Table.take_all.Given as goal

-- what was taken so far, and what the rest of the ports stand for; the others stand for what they stood for
abbrev pub invariant-loop-port : goal.invariant-loop-port
invariant-loop-port l =
    (l.wires.items ++ flat (map (wire_at l.self) (drop l.port-index l.ports)) ≡ flat (map (wire_at l.initial.self) l.ports)) ×
    Differ (drop l.port-index l.ports) ×
    ((other : BodyPort) → Each (λ port. other ≢ port) l.ports → entry l.self other ≡ entry l.initial.self other) ×
    (length l.self ≡ length l.initial.self)
