use Rattle.std.proofs.Common.{◌≡◌, ◌≢◌, ◌∙◌, ℕ, Some, None, [], unwrap_or, sym, ap, subst, refl, Option, rules}
use Rattle.std.specs.Option.{option_map}
use Rattle.std.specs.FinMap as finite
use Rattle.std.proofs.lemmas.Option.{none-some}
use Rattle.components.specs.Name.{Name, Port, IsName}
use Rattle.graph_core.specs.GraphValue.{GraphValue, IsGraph, port_of}
use Rattle.graph_core.specs.declared.place.PortAt.{PortAt}
use Rattle.circuits.specs.Buffers.{first_port}
use Rattle.mux_branch_rules.proofs.mux_tree.feeder.Goals as goal

no_wire : (g : GraphValue) → IsGraph g → (name : Name) → finite.get g.graph.nodes name ≡ None → (o : Option Port) → finite.get g.graph.feeders (first_port name) ≡ o → o ≡ None
no_wire g is name none None e = refl
no_wire g is name none (Some q) e = let w = is.graph.wires (first_port name) q e in absurd (none-some w.to (sym none ∙ w.is_to))

nowhere : (g : GraphValue) → IsGraph g → (source : PortAt) → finite.get g.ids source.node ≡ None → (p : Port) → finite.get g.graph.feeders p ≡ Some (port_of g source) → ⊥
nowhere g is source none p e =
    let w = is.graph.wires p (port_of g source) e in
    let named = subst IsName (ap (λ (o : Option Name). unwrap_or o []) none) (is.graph.names (port_of g source).node w.from w.is_from) in search (rules, named)

pub returns-in_default : goal.returns-in_default
returns-in_default c =
    let none : finite.get c.args.g.now.graph.nodes c.args.name.now ≡ None = ap (finite.get c.args.g.now.graph.nodes) (sym (search (rules, c.bytes.ensures))) ∙ c.in_default.ensures in
    no_wire c.args.g.now c.is_graph.ensures c.args.name.now none (finite.get c.args.g.now.graph.feeders (first_port c.args.name.now)) refl

pub returns-in_default-node : goal.returns-in_default-node
returns-in_default-node c =
    let target : PortAt = record { node = c.in-Some.node; port = 1 } in
    absurd (nowhere c.args.g.now c.is_graph.ensures c.in-Some-wire_into.source c.in_default-node.ensures (port_of c.args.g.now target)
    (sym c.wire_into.ensures ∙ ap (option_map (port_of c.args.g.now)) c.in-Some-wire_into.is))
