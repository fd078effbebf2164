use Rattle.std.proofs.Common.{sym, ◌∙◌, true≢false}
use Rattle.pure_extract.specs.SplitJoin.{split_join}
use Rattle.pure_extract.proofs.SplitJoinLaws.SplitInstances.{apart_kinds, can_sides, reads_instance, rule_at, no_rule}
use Rattle.pure_extract.proofs.split_join.SplitJoin.at.Goals as goal

pub returns-in_default-clause-refused : goal.returns-in_default-clause-refused
returns-in_default-clause-refused c = λ _ can. c.in_default.ensures can.parts (reads_instance c.args.g.now.graph c.args.split.now c.args.join.now can)

pub of-requires : goal.of-requires
of-requires c =
    let found = c.in-Some.found in
    can_sides c.args.g.now.graph c.requires c.is_graph.ensures.graph.names c.args.split.now c.args.join.now found.split.now found.join.now found.parts.now c.in-Some.ensures.0 c.in-Some.ensures.1 c.in-Some.ensures.2

pub returns-then-matches-clause-ok : goal.returns-then-matches-clause-ok
returns-then-matches-clause-ok c =
    let found = c.in-Some.found in
    let reads = c.in-Some.ensures.0 in
    let is_split = c.in-Some.ensures.1 in
    let is_join = c.in-Some.ensures.2 in
    rule_at c.args.g.now.graph c.requires c.args.split.now c.args.join.now found.parts.now c.in_ok-rule.rule
    (apart_kinds c.args.g.now.graph c.args.split.now c.args.join.now found.parts.now reads.joined reads.is_split reads.is_join)
    (c.in_ok-rule.ensures ∙ (λ i. split_join (is_split i) (is_join i) found.parts.now)) (c.matches.ensures.0 c.if-matches.true)

pub returns-else-matches-clause-refused : goal.returns-else-matches-clause-refused
returns-else-matches-clause-refused c = λ _.
    let found = c.in-Some.found in
    let is_split = c.in-Some.ensures.1 in
    let is_join = c.in-Some.ensures.2 in
    no_rule c.args.g.now.graph c.requires c.args.split.now c.args.join.now found.parts.now c.in_ok-rule.rule c.in-Some.ensures.0
    (c.in_ok-rule.ensures ∙ (λ i. split_join (is_split i) (is_join i) found.parts.now)) (λ m. true≢false (sym (c.matches.ensures.1 m) ∙ c.if-matches.false))
