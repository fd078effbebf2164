use Rattle.std.proofs.Common.{◌<◌, arith, refl, sym, ◌∙◌}
use Rattle.std.proofs.lemmas.Bool.{false≢true}
use Rattle.graph_core.specs.GraphValue.{name_by, port_of}
use Rattle.graph_core.specs.Place.{index_of}
use Rattle.loop_find.specs.Spreading.{TargetOf}
use Rattle.loop_find.proofs.Oks.{on_ok}
use Rattle.loop_find.proofs.Spreading.{brings_none, target_left, target_put}
use Rattle.loop_find.proofs.Walking.{target_live}
use Rattle.loop_find.proofs.spread.enter_target.Goals as goal

pub returns-in_default-clause-brings : goal.returns-in_default-clause-brings
returns-in_default-clause-brings c =
    brings_none c.args.g.now (TargetOf c.args.g.now c.args.within.now.ids (port_of c.args.g.now c.args.source)) c.args.seen.now.ids c.args.seen.now.ids refl (λ n so. c.in_default.ensures so.1 so.2)

pub returns-then-not-contains-clause-brings : goal.returns-then-not-contains-clause-brings
returns-then-not-contains-clause-brings c =
    target_left c.args.g.now c.is_graph.ensures c.args.within.now.ids c.in-Some.target c.args.source c.in-Some.ensures c.args.seen.now.ids c.args.seen.now.ids
    (λ i. false≢true (sym c.if-not-contains.true ∙ c.contains.ensures.1 i)) refl

pub insert-requires : goal.insert-requires
insert-requires c =
    let less : index_of c.in-Some.target.node < c.args.g.now.slots =
    c.is_graph.ensures.within c.in-Some.target.node (name_by c.args.g.now.ids c.in-Some.target.node) (target_live c.args.g.now c.is_graph.ensures c.in-Some.target (port_of c.args.g.now c.args.source) c.in-Some.ensures) in
    omega arith

pub returns-clause-brings : goal.returns-clause-brings
returns-clause-brings c =
    on_ok c.insert.result
    (target_put c.args.g.now c.is_graph.ensures c.args.within.now.ids c.in-Some.target c.args.source c.in-Some.ensures c.args.seen.now.ids c.insert.new.self.ids (c.contains.ensures.0 c.if-not-contains.false)) c.insert.ensures.put
