use Rattle.std.proofs.Common.{◌≡◌, Ok, Err, rules, refl}
use Rattle.graph_core.specs.GraphValue.{GraphValue}
use Rattle.commands.specs.Parts.{goes_on}
use Rattle.commands.proofs.Finding.{stopped, behind}
use Rattle.commands.proofs.input.Input.document.Goals as goal

pub returns-in_err-document-clause-judged : goal.returns-in_err-document-clause-judged
returns-in_err-document-clause-judged c =
    let stop = c.in_err-document.field-0.0 in
    let is : c.from_residual.result ≡ Err stop = search rules in
    stopped (λ standing. standing) _ _ _ stop c.from_residual.result is c.in_err-document.ensures.judged

pub returns-in_err-g-clause-judged : goal.returns-in_err-g-clause-judged
returns-in_err-g-clause-judged c =
    let stop = c.in_err-g.field-0.0 in
    let is : c.from_residual-in_err-g.result ≡ Err stop = search rules in
    behind _ _ _ (c.in_ok-document.document, c.in_ok-document.end) c.in_ok-document.ensures.judged c.from_residual-in_err-g.result
    (stopped (λ (g : GraphValue). g.graph) _ _ _ stop c.from_residual-in_err-g.result is c.in_err-g.ensures)

pub returns-clause-judged : goal.returns-clause-judged
returns-clause-judged c =
    let g = c.in_ok-g.g.graph in
    goes_on (c.in_ok-document.document, c.in_ok-document.end) (Ok (g, c.in_ok-document.end)) c.in_ok-document.ensures.judged (goes_on g (Ok (g, c.in_ok-document.end)) c.in_ok-g.ensures refl)
