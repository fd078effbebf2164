use Rattle.std.proofs.Common.{◌≡◌, ◌∙◌, true, rules, sym, subst}
use Rattle.commands.specs.Words.{runs}
use Rattle.commands.specs.Ruling.{Ran}
use Rattle.commands.proofs.Running.{ran_command}
use Rattle.commands.proofs.ruling.rule.Goals as goal

pub returns-in-Some : goal.returns-in-Some
returns-in-Some g c =
    let source = g.S.Source.told in
    let sink = g.O.Sink.told in
    let does : runs c.in-Some.command ≡ true = search rules in
    subst (λ found. Ran source sink found c.run_command.result c.args.src.now c.run_command.new.src c.args.out.now c.run_command.new.out) (sym (sym c.command_of.ensures ∙ c.in-Some.is))
    (ran_command source sink c.args.src.now c.run_command.new.src c.args.out.now c.run_command.new.out c.one_verdict.ensures.one c.answers_read_back.ensures
    c.answers_keep_behaviour.ensures.refines c.answers_keep_behaviour.ensures.drains c.answers_keep_behaviour.ensures.form c.in-Some.command does c.run_command.result
    c.run_command.ensures.outcome c.run_command.ensures.counts)
