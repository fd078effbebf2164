use Rattle.std.proofs.Common.{◌<◌, Some, OnOk, length, ap, sym, subst, ◌∙◌}
use Rattle.std.specs.Prelude.{slice_set}
use Rattle.digraph.specs.Edges.{IsWithEdge}
use Rattle.digraph.proofs.Places.{got_or}
use Rattle.digraph.proofs.EdgeLists.{with_edge_if, within_after}
use Rattle.digraph.proofs.graph.Digraph.add_edge.Goals as goal

pub invariant_of-self : goal.invariant_of-self
invariant_of-self c =
    let rows = c.self.inside.rows.items in
    let row = c.index_mut.result.now in
    let from : c.args.from < length rows = subst (λ xs. c.args.from < length xs) (sym c.self.view_is) c.requires.from in
    let to : c.args.to < length rows = subst (λ xs. c.args.to < length xs) (sym c.self.view_is) c.requires.to in
    let at = got_or rows c.args.from row from ∙ ap Some (sym c.index_mut.ensures.value) in
    within_after rows c.args.from c.args.to row c.push.new.self at from c.push.result c.push.ensures.ok c.push.ensures.err c.self.invariant to

pub returns-clause-ok : goal.returns-clause-ok
returns-clause-ok c =
    let rows = c.self.inside.rows.items in
    let row = c.index_mut.result.now in
    let from : c.args.from < length rows = subst (λ xs. c.args.from < length xs) (sym c.self.view_is) c.requires.from in
    let at = got_or rows c.args.from row from ∙ ap Some (sym c.index_mut.ensures.value) in
    let after = with_edge_if rows c.args.from c.args.to row c.push.new.self at from c.push.result c.push.ensures.ok in
    subst (λ xs. OnOk c.push.result (IsWithEdge xs c.args.from c.args.to (slice_set rows c.args.from c.push.new.self))) c.self.view_is after
