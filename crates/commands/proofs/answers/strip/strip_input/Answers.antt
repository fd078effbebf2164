use Rattle.std.proofs.Common.{◌≡◌, Ok, Err, rules, ap}
use Rattle.graph_core.specs.GraphValue.{GraphValue}
use Rattle.commands.specs.Parts.{goes_on}
use Rattle.commands.proofs.Finding.{stopped}
use Rattle.commands.proofs.answers.strip.strip_input.Goals as goal

pub returns-in_err-g : goal.returns-in_err-g
returns-in_err-g c =
    let stop = c.in_err-g.field-0.0 in
    let is : c.from_residual.result ≡ Err stop = search rules in
    stopped (λ (g : GraphValue). g.graph) _ _ _ stop c.from_residual.result is c.in_err-g.ensures

pub returns : goal.returns
returns c =
    goes_on c.in_ok-g.g.graph (Ok c.in_ok-text.text.items) c.in_ok-g.ensures (c.in_ok-stripped.stripped.graph, c.in_ok-stripped.ensures.stripped, ap Ok c.in_ok-text.ensures)
