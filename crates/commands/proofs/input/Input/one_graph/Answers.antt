use Rattle.std.proofs.Common.{◌≡◌, Err, rules}
use Rattle.graph_core.specs.GraphValue.{GraphValue}
use Rattle.commands.proofs.Finding.{no_document, no_end, whole_graph}
use Rattle.commands.proofs.input.Input.one_graph.Goals as goal

pub returns-in_err-g : goal.returns-in_err-g
returns-in_err-g c =
    let stop = c.in_err-g.field-0.0 in
    let is : c.from_residual.result ≡ Err stop = search rules in
    no_document c.args.self.bytes c.args.self.place c.requires (λ (g : GraphValue). (g.graph, c.document.new.self.place)) _ stop c.from_residual.result is c.in_err-g.ensures.judged

pub returns-in_err-end : goal.returns-in_err-end
returns-in_err-end c =
    let stop = c.in_err-end.field-0.0 in
    let is : c.from_residual-in_err-end.result ≡ Err stop = search rules in
    no_end c.args.self.bytes c.args.self.place c.requires c.in_ok-g.g.graph c.document.new.self.place c.document.new.self.bytes c.in_ok-g.ensures.kept c.in_ok-g.ensures.judged _
    stop c.from_residual-in_err-end.result is c.in_err-end.ensures

pub returns : goal.returns
returns c =
    whole_graph c.args.self.bytes c.args.self.place c.requires c.in_ok-g.g.graph c.document.new.self.place c.document.new.self.bytes c.in_ok-g.ensures.kept c.in_ok-g.ensures.judged
    c.in_ok-end.ensures
