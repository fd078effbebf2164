use Rattle.std.proofs.Common.{◌≡◌, [], rules, sym, subst}
use Rattle.graph_core.specs.Exchange.{CanExchange}
use Rattle.graph_core_tests.proofs.Looped.{can_nothing}
use Rattle.graph_core_tests.proofs.tests.exchange_nothing.Goals as goal

pub exchange-requires : goal.exchange-requires
exchange-requires c =
    let gone : c.as_slice.result.now ≡ [] = search rules in
    let fresh : c.new.result.items ≡ [] = search rules in
    let wires : c.as_slice-2.result.now ≡ [] = search rules in
    subst (λ gone. CanExchange c.args.g.now gone c.new.result.items c.as_slice-2.result.now) (sym gone)
    (subst (λ fresh. CanExchange c.args.g.now [] fresh c.as_slice-2.result.now) (sym fresh) (subst (CanExchange c.args.g.now [] []) (sym wires) (can_nothing c.args.g.now)))
