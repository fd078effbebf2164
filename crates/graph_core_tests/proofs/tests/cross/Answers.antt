use Rattle.std.proofs.Common.{◌≡◌, ◌≢◌, [], ◌∷◌, rules, sym, subst}
use Rattle.graph_core.specs.declared.exchange.End.TheVariants.{Fresh}
use Rattle.graph_core.specs.GraphValue.{Denotes}
use Rattle.graph_core.specs.Exchange.{CanExchange}
use Rattle.graph_core_tests.proofs.Crossed.{can_cross}
use Rattle.graph_core_tests.proofs.tests.cross.Goals as goal

pub exchange-requires : goal.exchange-requires
exchange-requires c =
    let g = c.args.g.now in
    let one = c.args.one in
    let other = c.args.other in
    let apart : c.in_ok-a.a ≢ c.in_ok-b.b = search rules in
    let first : Denotes g c.in_ok-a.a one.name = search rules in
    let second : Denotes g c.in_ok-b.b other.name = search rules in
    let gone : c.as_slice.result.now ≡ c.in_ok-a.a ∷ c.in_ok-b.b ∷ [] = search rules in
    let wires : c.as_slice-2.result.now ≡ (Fresh 0 1, Fresh 1 1) ∷ (Fresh 1 1, Fresh 0 1) ∷ [] = search rules in
    let can = can_cross g c.is_graph.ensures c.in_ok-a.a c.in_ok-b.b apart one other (8 ∷ []) first second c.requires.one.0 c.requires.other.0 c.requires.one.1 c.requires.other.1 in
    subst (λ gone. CanExchange g gone c.in_ok-fresh.fresh.items c.as_slice-2.result.now) (sym gone)
    (subst (λ fresh. CanExchange g (c.in_ok-a.a ∷ c.in_ok-b.b ∷ []) fresh c.as_slice-2.result.now) (sym c.in_ok-fresh.ensures) (subst (CanExchange g (c.in_ok-a.a ∷ c.in_ok-b.b ∷ []) (one ∷ other ∷ [])) (sym wires) can))
