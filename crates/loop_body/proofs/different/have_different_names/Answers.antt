use Rattle.std.proofs.Common.{List, ℕ, map, Bor, ap, ◌∙◌}
use Rattle.components.specs.declared.node.Node.{Node}
use Rattle.loop_body.proofs.Naming.{tell_pairs}
use Rattle.loop_body.proofs.different.have_different_names.Goals as goal

pub returns : goal.returns
returns c =
    tell_pairs (λ (node : Node). node.name) c.args.nodes.now c.all_differ.result (map (λ (name : Bor (List ℕ)). name.now) c.deref.result.now)
    (ap (map (λ (name : Bor (List ℕ)). name.now)) c.deref.ensures.value ∙ c.in_ok-names.ensures) c.all_differ.ensures
