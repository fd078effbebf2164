use Rattle.std.proofs.Common.{◌≡◌, ap, sym, ◌∙◌, take}
use Rattle.std.proofs.lemmas.List.{take_min}
use Rattle.op_table.specs.Operator.{op_word}
use Rattle.fun_expr.specs.Machine.{step_from, in_name}
use Rattle.fun_expr.proofs.step.step.Goals as goal

pub returns-in-Name-clause-same : goal.returns-in-Name-clause-same
returns-in-Name-clause-same c =
    let word = c.as_bytes-word.result.now in
    let letters : take c.min.result word ≡ take c.in-Name.letters (op_word c.in-Name.op) =
    ap (λ n. take n word) c.min.ensures ∙ take_min c.in-Name.letters word ∙ ap (take c.in-Name.letters) (c.as_bytes-word.ensures.value ∙ c.short_name.ensures) in
    c.in_name.ensures ∙ ap (λ front. in_name front c.args.state.nesting c.args.byte) letters ∙ sym (ap (step_from c.args.state.nesting c.args.byte) c.in-Name.is)
