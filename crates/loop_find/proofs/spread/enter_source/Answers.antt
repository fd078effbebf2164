use Rattle.std.proofs.Common.{◌<◌, arith, refl, sym, ◌∙◌}
use Rattle.std.proofs.lemmas.Bool.{false≢true}
use Rattle.std.proofs.lemmas.Option.{none-some}
use Rattle.graph_core.specs.GraphValue.{name_by, port_of}
use Rattle.graph_core.specs.Place.{index_of}
use Rattle.loop_find.specs.Spreading.{SourceOf}
use Rattle.loop_find.proofs.Oks.{on_ok}
use Rattle.loop_find.proofs.Spreading.{brings_none, source_left, source_put}
use Rattle.loop_find.proofs.Walking.{source_live}
use Rattle.loop_find.proofs.spread.enter_source.Goals as goal

pub returns-in_default-clause-brings : goal.returns-in_default-clause-brings
returns-in_default-clause-brings c =
    brings_none c.args.g.now (SourceOf c.args.g.now c.args.within.now.ids (port_of c.args.g.now c.args.target)) c.args.seen.now.ids c.args.seen.now.ids refl (λ n so. none-some so.1 (c.in_default.ensures ∙ so.2))

pub returns-then-not-contains-clause-brings : goal.returns-then-not-contains-clause-brings
returns-then-not-contains-clause-brings c =
    source_left c.args.g.now c.is_graph.ensures c.args.within.now.ids c.args.target c.in-Some.source (sym c.in-Some.ensures) c.args.seen.now.ids c.args.seen.now.ids
    (λ i. false≢true (sym c.if-not-contains.true ∙ c.contains.ensures.1 i)) refl

pub insert-requires : goal.insert-requires
insert-requires c =
    let less : index_of c.in-Some.source.node < c.args.g.now.slots =
    c.is_graph.ensures.within c.in-Some.source.node (name_by c.args.g.now.ids c.in-Some.source.node) (source_live c.args.g.now c.is_graph.ensures (port_of c.args.g.now c.args.target) c.in-Some.source (sym c.in-Some.ensures)) in
    omega arith

pub returns-clause-brings : goal.returns-clause-brings
returns-clause-brings c =
    on_ok c.insert.result
    (source_put c.args.g.now c.is_graph.ensures c.args.within.now.ids c.args.target c.in-Some.source (sym c.in-Some.ensures) c.args.seen.now.ids c.insert.new.self.ids (c.contains.ensures.0 c.if-not-contains.false)) c.insert.ensures.put
