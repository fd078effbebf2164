use Rattle.std.proofs.Common.{◌≡◌, ◌≢◌, [], ◌∷◌, ◌∙◌, Option, Some, None, Bor, MatchOption, is_none, false, true≢false, rules, sym, ap, subst}
use Rattle.std.specs.FinMap as finite
use Rattle.std.specs.Option.{option_copied}
use Rattle.components.specs.declared.node.Node.{Node}
use Rattle.components.specs.Name.{Name}
use Rattle.graph_core.specs.declared.exchange.End.TheVariants.{Fresh}
use Rattle.graph_core.specs.declared.place.NodeId.{NodeId}
use Rattle.graph_core.specs.GraphValue.{GraphValue, Denotes, IsNodeAt}
use Rattle.graph_core.specs.Exchange.{CanExchange}
use Rattle.graph_core_tests.proofs.Looped.{can_loop}
use Rattle.graph_core_tests.proofs.tests.loop_for.Goals as goal

live : (g : GraphValue) (id : NodeId) (o : Option (Bor Node)) → MatchOption (option_copied o) (finite.get g.ids id ≡ None) (IsNodeAt g id) → is_none o ≡ false → (name : Name) × Denotes g id name
live g id None known some = absurd (true≢false some)
live g id (Some node) known some = (node.now.name, known.denotes)

pub exchange-requires : goal.exchange-requires
exchange-requires c =
    let g = c.args.g.now in
    let apart : c.args.a ≢ c.args.b = search rules in
    let first = live g c.args.a c.node-else-eq.result c.node-else-eq.ensures (search rules) in
    let second = live g c.args.b c.node-else-is_none.result c.node-else-is_none.ensures (search rules) in
    let name : c.bytes.result.now ≡ c.in_ok-buffer.buffer.name = search rules in
    let free : finite.get g.graph.nodes c.bytes.result.now ≡ None = search rules in
    let gone : c.as_slice.result.now ≡ c.args.a ∷ c.args.b ∷ [] = search rules in
    let fresh : c.push.new.self.items ≡ c.in_ok-buffer.buffer ∷ [] = search rules in
    let wires : c.as_slice-2.result.now ≡ (Fresh 0 1, Fresh 0 1) ∷ [] = search rules in
    let can = can_loop g c.is_graph.ensures c.args.a c.args.b apart first second c.in_ok-buffer.buffer c.in_ok-byte.field-0 c.in_ok-buffer.ensures.ok c.in_ok-buffer.ensures.is (ap (finite.get g.graph.nodes) (sym name) ∙ free) in
    subst (λ gone. CanExchange g gone c.push.new.self.items c.as_slice-2.result.now) (sym gone)
    (subst (λ fresh. CanExchange g (c.args.a ∷ c.args.b ∷ []) fresh c.as_slice-2.result.now) (sym fresh) (subst (CanExchange g (c.args.a ∷ c.args.b ∷ []) (c.in_ok-buffer.buffer ∷ [])) (sym wires) can))
