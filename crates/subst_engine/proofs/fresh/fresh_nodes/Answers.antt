use Rattle.std.proofs.Common.{ℕ, ◌≡◌, ◌+◌, List, ◌++◌, ◌∷◌, [], length, refl, subst, sym, rules}
use Rattle.components.specs.declared.node.Node.{Node}
use Rattle.subst_engine.specs.PartLists.{FreshBelow, ArePlaced, IsInnerAt}
use Rattle.subst_engine.proofs.FreshLists.{no_fresh, no_places, no_more_fresh, one_more_fresh, no_more_placed, one_more_placed}
use Rattle.subst_engine.proofs.fresh.fresh_nodes.Goals as goal
use Rattle.subst_engine.proofs.fresh.fresh_nodes.Goals.{in-Some+in_ok-copy_node+in_ok-push-2, in_default}

pub loop-index-init : goal.loop-index-init
loop-index-init c = record {
  gathered = subst (FreshBelow c.args.right.now 0) (sym c.new-nodes.ensures.items) (no_fresh c.args.right.now c.is_graph.ensures);
  placed =
      subst (λ (nodes : List Node). ArePlaced c.args.right.now 0 nodes c.new-places.result.items) (sym c.new-nodes.ensures.items)
      (subst (ArePlaced c.args.right.now 0 []) (sym c.new-places.ensures.items) (no_places c.args.right.now c.is_graph.ensures));
}

pub loop-index-preserved : goal.loop-index-preserved
loop-index-preserved c =
    let right = c.args.right.now in
    let index = c.loop-index.index in
    let nodes = c.loop-index.nodes.items in
    let places = c.loop-index.places.items in
    let before = c.loop-index.invariant in
    let count : c.len.result ≡ length nodes = search rules in
    let longer : c.push.new.self.items ≡ places ++ length nodes ∷ [] = rw (← count) c.in_ok-push.ensures.items in
    elim c.match-inner_node.branch [
      | in-Some+in_ok-copy_node+in_ok-push-2 w ↦
          let node = w.in-Some.node.now in
          let more : c.match-inner_node.nodes.items ≡ nodes ++ node ∷ [] = rw (w.nodes-is, ← w.in_ok-copy_node.ensures) w.in_ok-push-2.ensures.items in
          let (at, here) = w.in-Some.ensures in
          record {
            gathered = subst (FreshBelow right (index + 1)) (sym more) (one_more_fresh right c.is_graph.ensures index nodes before.gathered node at here);
            placed =
                subst (λ (xs : List Node). ArePlaced right (index + 1) xs c.push.new.self.items) (sym more)
                (subst (ArePlaced right (index + 1) (nodes ++ node ∷ [])) (sym longer) (one_more_placed right c.is_graph.ensures index nodes places before.placed node here));
          }
      | in_default w ↦
          let same : c.match-inner_node.nodes.items ≡ nodes = rw w.nodes-is refl in
          let none : (name : List ℕ) → ¬ (IsInnerAt right index name) = w.in_default.ensures in
          record {
            gathered = subst (FreshBelow right (index + 1)) (sym same) (no_more_fresh right c.is_graph.ensures index nodes before.gathered none);
            placed =
                subst (λ (xs : List Node). ArePlaced right (index + 1) xs c.push.new.self.items) (sym same)
                (subst (ArePlaced right (index + 1) nodes) (sym longer) (no_more_placed right c.is_graph.ensures index nodes places before.placed none));
          }
    ]
