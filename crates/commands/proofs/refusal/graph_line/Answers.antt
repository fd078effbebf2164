use Rattle.std.proofs.Common.{◌≡◌, ◌∙◌, ◌++◌, true, None, cond, codes, rules, sym, ap}
use Rattle.std.specs.Fmt.{decimal}
use Rattle.dot_text.specs.Printing.{in_quotes}
use Rattle.commands.specs.Status.{fault_word, is_of_edge, graph_text}
use Rattle.commands.proofs.refusal.graph_line.Goals as goal

pub returns-in-None : goal.returns-in-None
returns-in-None c =
    let refusal = c.args.refusal.now in
    let word = fault_word refusal.kind in
    let closed : refusal.port_open ≡ None = search rules in
    let test : is_of_edge refusal.kind ≡ true = search rules in
    let line =
    ap (λ port. codes "graphiti: " ++ graph_text refusal.kind refusal.place refusal.name port ++ codes "\n") closed
    ∙ ap (λ t. codes "graphiti: " ++ cond t (codes "edge " ++ decimal refusal.place ++ codes ": " ++ word) (word ++ codes " " ++ in_quotes refusal.name) ++ codes "\n") test in
    c.edge_line.ensures refusal.name ∙ ap (λ w. codes "graphiti: " ++ (codes "edge " ++ decimal refusal.place ++ codes ": " ++ w) ++ codes "\n") c.fault_word-word.ensures ∙ sym line
