use Rattle.std.proofs.Common.{◌≡◌, rules, sym, ap, ◌∙◌}
use Rattle.std.specs.FinMap as finite
use Rattle.components.specs.Node.{body_of}
use Rattle.graph_core.specs.GraphValue.{IsNodeAt}
use Rattle.graph_core.specs.Place.{id_of}
use Rattle.module_sem.proofs.beside.feed_twin.Goals as goal

pub feed_inputs-requires-clause-can : goal.feed_inputs-requires-clause-can
feed_inputs-requires-clause-can c =
    let node = c.in-Some-node.node.now in
    let at : IsNodeAt c.args.g.now c.in-Some.id node = search rules in
    let same : c.in-Some.id ≡ id_of c.args.index = c.in-Some.ensures.0 in
    record {
      name = node.name;
      body = body_of node;
      denotes = at.denotes;
      node = at.body;
      inputs = c.inputs.ensures;
      can = c.requires.can node.name (ap (finite.get c.args.g.now.ids) (sym same) ∙ at.denotes);
    }
