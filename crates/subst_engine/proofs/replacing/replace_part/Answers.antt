use Rattle.subst_engine.specs.NewWires.{CanReplace}
use Rattle.subst_engine.proofs.PartMade.{replaced_from}
use Rattle.subst_engine.proofs.replacing.replace_part.Goals as goal

pub exchange_part-requires : goal.exchange_part-requires
exchange_part-requires c = record { typed = c.requires.typed; is_rule = c.requires.rule; matches = c.graphs_match.ensures.0 c.if-not-graphs_match.false }

pub returns-in-Ok-clause-ok : goal.returns-in-Ok-clause-ok
returns-in-Ok-clause-ok c =
    let can : CanReplace c.args.g.now.graph c.args.left.now.graph c.args.right.now.graph = record { typed = c.requires.typed; is_rule = c.requires.rule; matches = c.graphs_match.ensures.0 c.if-not-graphs_match.false } in
    replaced_from c.args.g.now c.args.left.now.graph c.args.right.now.graph c.exchange_part.new.g c.graph_replacement_refines.ensures.typed c.graph_replacement_refines.ensures.refines can c.requires.refines c.in-Ok.ensures.ok
