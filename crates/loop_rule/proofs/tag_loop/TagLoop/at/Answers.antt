use Rattle.std.proofs.Common.{true≢false, sym, ◌∙◌}
use Rattle.tagged_loop.specs.InOrderLoop.{LoopParts}
use Rattle.loop_rule.proofs.Instances.{instance_listed, instance_reads, can_make_sides, instance_of, no_instance}
use Rattle.loop_rule.proofs.tag_loop.TagLoop.at.Goals as goal

pub returns-then-not-are_listed-clause-refused : goal.returns-then-not-are_listed-clause-refused
returns-then-not-are_listed-clause-refused c = λ _ some.
    let listed = c.are_listed.ensures.1 (instance_listed c.args.g.now.graph c.args.prefix c.args.tags c.args.nodes.now some.0 some.1) in
    true≢false (sym listed ∙ c.if-not-are_listed.true)

pub returns-in_default-clause-refused : goal.returns-in_default-clause-refused
returns-in_default-clause-refused c = λ _ some.
    c.in_default.ensures some.0 (instance_reads c.args.g.now.graph c.args.prefix c.args.tags c.args.nodes.now some.0 some.1 c.requires)

pub of-requires-clause-can : goal.of-requires-clause-can
of-requires-clause-can c =
    let loop : LoopParts = record { shape = c.in-Some.parts.shape.now; fun = c.in-Some.parts.fun.now; goes_back = c.in-Some.parts.goes_back; mark = c.in-Some.parts.mark } in
    can_make_sides c.args.g.now.graph c.requires c.is_graph.ensures.graph.names c.args.prefix c.args.tags c.args.nodes.now loop
    c.ranges.prefix.fits (c.are_listed.ensures.0 c.if-not-are_listed.false) c.in-Some.ensures.0

pub returns-then-matches-clause-ok : goal.returns-then-matches-clause-ok
returns-then-matches-clause-ok c =
    let loop : LoopParts = record { shape = c.in-Some.parts.shape.now; fun = c.in-Some.parts.fun.now; goes_back = c.in-Some.parts.goes_back; mark = c.in-Some.parts.mark } in
    instance_of c.args.g.now.graph c.args.prefix c.args.tags c.args.nodes.now loop c.in_ok-rule.rule
    (c.are_listed.ensures.0 c.if-not-are_listed.false) c.in_ok-rule.ensures (c.matches.ensures.0 c.if-matches.true)

pub returns-else-matches-clause-refused : goal.returns-else-matches-clause-refused
returns-else-matches-clause-refused c = λ _ some.
    let loop : LoopParts = record { shape = c.in-Some.parts.shape.now; fun = c.in-Some.parts.fun.now; goes_back = c.in-Some.parts.goes_back; mark = c.in-Some.parts.mark } in
    no_instance c.args.g.now.graph c.args.prefix c.args.tags c.args.nodes.now loop c.in_ok-rule.rule c.requires c.in-Some.ensures.0 c.in_ok-rule.ensures
    (λ m. true≢false (sym (c.matches.ensures.1 m) ∙ c.if-matches.false)) some.0 some.1
