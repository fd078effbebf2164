use Rattle.std.proofs.Common.{suc, replicate, sym, ◌∙◌, true≢false}
use Rattle.circuit_plans.specs.Places.{number}
use Rattle.pure_extract.specs.TrimFork.{trim_fork}
use Rattle.pure_extract.proofs.TrimForkLaws.TrimInstances.{instance_reads, can_sides, named_sides, rule_at, no_rule}
use Rattle.pure_extract.proofs.trim_fork.TrimFork.at.Goals as goal

pub returns-in_default-clause-refused : goal.returns-in_default-clause-refused
returns-in_default-clause-refused c = λ _ (ends, a, others, output, h).
    c.in_default.ensures a others (number (replicate (suc others) a) output) (instance_reads c.args.g.now.graph c.args.prefix ends c.args.fork.now c.args.sink.now a others output h)

pub of-requires : goal.of-requires
of-requires c =
    let sunk = c.in-Some.sunk in
    named_sides c.args.prefix c.fresh_prefix.result c.args.fork.now c.args.sink.now sunk.fork.now sunk.sink.now sunk.shape.now sunk.others sunk.port c.in-Some.ensures.1 c.in-Some.ensures.2
    (can_sides c.args.g.now.graph c.requires c.is_graph.ensures.graph.names c.args.prefix c.fresh_prefix.result c.ranges.prefix.fits c.fresh_prefix.type_inv c.fresh_prefix.ensures.fresh
    c.args.fork.now c.args.sink.now sunk.shape.now sunk.others sunk.port c.in-Some.ensures.0)

pub returns-then-matches-clause-ok : goal.returns-then-matches-clause-ok
returns-then-matches-clause-ok c =
    let sunk = c.in-Some.sunk in
    let is_fork = c.in-Some.ensures.1 in
    let is_sink = c.in-Some.ensures.2 in
    rule_at c.args.g.now.graph c.args.prefix c.fresh_prefix.result c.args.fork.now c.args.sink.now sunk.shape.now sunk.others sunk.port c.fresh_prefix.ensures c.in-Some.ensures.0
    (can_sides c.args.g.now.graph c.requires c.is_graph.ensures.graph.names c.args.prefix c.fresh_prefix.result c.ranges.prefix.fits c.fresh_prefix.type_inv c.fresh_prefix.ensures.fresh
    c.args.fork.now c.args.sink.now sunk.shape.now sunk.others sunk.port c.in-Some.ensures.0)
    c.in_ok-rule.rule (λ output e. c.in_ok-rule.ensures output e ∙ (λ i. trim_fork c.args.prefix c.fresh_prefix.result (is_fork i) (is_sink i) sunk.shape.now sunk.others output))
    (c.matches.ensures.0 c.if-matches.true)

pub returns-else-matches-clause-refused : goal.returns-else-matches-clause-refused
returns-else-matches-clause-refused c = λ _.
    let sunk = c.in-Some.sunk in
    let is_fork = c.in-Some.ensures.1 in
    let is_sink = c.in-Some.ensures.2 in
    no_rule c.args.g.now.graph c.args.prefix c.fresh_prefix.result c.args.fork.now c.args.sink.now sunk.shape.now sunk.others sunk.port c.fresh_prefix.ensures c.in-Some.ensures.0
    (can_sides c.args.g.now.graph c.requires c.is_graph.ensures.graph.names c.args.prefix c.fresh_prefix.result c.ranges.prefix.fits c.fresh_prefix.type_inv c.fresh_prefix.ensures.fresh
    c.args.fork.now c.args.sink.now sunk.shape.now sunk.others sunk.port c.in-Some.ensures.0)
    c.in_ok-rule.rule (λ output e. c.in_ok-rule.ensures output e ∙ (λ i. trim_fork c.args.prefix c.fresh_prefix.result (is_fork i) (is_sink i) sunk.shape.now sunk.others output))
    (λ m. true≢false (sym (c.matches.ensures.1 m) ∙ c.if-matches.false))
