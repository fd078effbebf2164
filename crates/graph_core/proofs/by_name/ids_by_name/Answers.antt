use Rattle.std.proofs.Common.{◌≡◌, ◌∙◌, ◌+◌, [], map, None, rules, sym, ap, subst, arith}
use Rattle.std.specs.BTreeMap.{insert_entry}
use Rattle.std.specs.FinMap as finite
use Rattle.graph_core.specs.GraphValue.{AreInOrder, IsNodeAt}
use Rattle.components.specs.ByKey.{ref_cmp}
use Rattle.graph_core.proofs.InOrder.{SoFar, so_far-nothing, so_far-none, so_far-node, all_in_order}
use Rattle.graph_core.proofs.by_name.ids_by_name.Goals as goal
use Rattle.graph_core.proofs.by_name.ids_by_name.Goals.{in-Some+in_ok-insert, in_default}

pub loop-index-init : goal.loop-index-init
loop-index-init c =
    let none : c.new-ids.result.entries ≡ [] = search rules in
    subst (λ tree. SoFar c.args.g.now tree 0) (sym none) (so_far-nothing c.args.g.now)

pub loop-index-preserved : goal.loop-index-preserved
loop-index-preserved c =
    let g = c.args.g.now in
    let i = c.loop-index.index in
    elim c.match-node.branch [
      | in-Some+in_ok-insert w ↦
          let put : c.match-node.ids.entries ≡ insert_entry ref_cmp c.loop-index.ids.entries w.bytes.result c.new-id.result = search rules in
          let at : IsNodeAt g c.new-id.result w.in-Some.node.now = search rules in
          subst (λ tree. SoFar g tree (i + 1)) (sym (put ∙ ap (insert_entry ref_cmp c.loop-index.ids.entries w.bytes.result) c.new-id.ensures))
          (so_far-node g c.loop-index.ids.entries i c.loop-index.invariant w.in-Some.node.now (subst (λ id. IsNodeAt g id w.in-Some.node.now) c.new-id.ensures at) w.bytes.result w.bytes.ensures.same)
      | in_default w ↦
          let dead : finite.get g.ids c.new-id.result ≡ None = search rules in
          let same : c.match-node.ids.entries ≡ c.loop-index.ids.entries = search rules in
          subst (λ tree. SoFar g tree (i + 1)) (sym same) (so_far-none g c.loop-index.ids.entries i c.loop-index.invariant (ap (finite.get g.ids) (sym c.new-id.ensures) ∙ dead))
    ]

pub returns : goal.returns
returns c =
    let values : c.in_ok-collect.field-0.items ≡ map (λ x. x.1) c.loop-index.ids.entries = search rules in
    subst (AreInOrder c.args.g.now) (sym values)
    (all_in_order c.args.g.now c.is_graph.ensures c.loop-index.ids.entries (subst (SoFar c.args.g.now c.loop-index.ids.entries) (omega arith) c.loop-index.invariant))
