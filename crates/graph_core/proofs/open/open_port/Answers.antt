use Rattle.std.proofs.Common.{inl, inr, rules, arith, sym, subst}
use Rattle.std.proofs.lemmas.Bool.{cases_eq}
use Rattle.graph_core.specs.GraphValue.{port_of}
use Rattle.graph_core.specs.Open.{port_at}
use Rattle.graph_core.specs.Wiring.{IsWired}
use Rattle.graph_core.proofs.open.open_port.Goals as goal

pub loop-port-preserved : goal.loop-port-preserved
loop-port-preserved c =
    let here : IsWired c.args.g.now.graph c.args.side (port_of c.args.g.now (port_at c.args.node c.loop-port.port)) = search rules in
    λ k some below. elim (cases_eq k c.loop-port.port) [
      | inl one ↦ subst (λ i. IsWired c.args.g.now.graph c.args.side (port_of c.args.g.now (port_at c.args.node i))) (sym one) here
      | inr two ↦ c.loop-port.invariant k some (omega arith)
    ]

pub returns-else-not-is_wired : goal.returns-else-not-is_wired
returns-else-not-is_wired c =
    let here : IsWired c.args.g.now.graph c.args.side (port_of c.args.g.now (port_at c.args.node c.loop-port.port)) = search rules in
    λ k some few. elim (cases_eq k c.loop-port.port) [
      | inl one ↦ subst (λ i. IsWired c.args.g.now.graph c.args.side (port_of c.args.g.now (port_at c.args.node i))) (sym one) here
      | inr two ↦ c.loop-port.invariant k some (omega arith)
    ]
