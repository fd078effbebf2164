use Rattle.std.proofs.Common.{◌≡◌, ◌∙◌, None, is_some, rules, sym, ap}
use Rattle.std.specs.FinMap as finite
use Rattle.graph_core.specs.GraphValue.{IsNodeAt}
use Rattle.graph_core.specs.Place.{id_of}
use Rattle.module_sem.proofs.Ends.{name_at, nothing_dead, some_found}
use Rattle.module_sem.proofs.conditions.has_name_at.Goals as goal

pub returns-in-Some : goal.returns-in-Some
returns-in-Some c =
    let g = c.args.g.now in
    let at : IsNodeAt c.args.c.now (id_of c.args.index) c.in-Some.node.now = search rules in
    c.is_some.ensures ∙ some_found g c.is_graph.ensures c.bytes.result.now c.find.result c.find.ensures
    ∙ ap (λ n. is_some (finite.get g.graph.nodes n)) (c.bytes.ensures.same ∙ sym (name_at c.args.c.now (id_of c.args.index) c.in-Some.node.now at))

pub returns-in-None : goal.returns-in-None
returns-in-None c =
    let dead : finite.get c.args.c.now.ids (id_of c.args.index) ≡ None = search rules in
    sym (ap is_some (nothing_dead c.args.c.now c.args.g.now c.is_graph.ensures (id_of c.args.index) dead))
