use Rattle.std.proofs.Common.{◌≡◌, ◌+◌, Some, ◌∙◌, arith, rules}
use Rattle.graph_read.proofs.OpenPorts.{opened, none_open, one_open, typed_closed}
use Rattle.graph_read.proofs.open.check_open.Goals as goal

pub returns-in_default-clause-ok : goal.returns-in_default-clause-ok
returns-in_default-clause-ok c = λ nodes are. none_open c.args.g.now c.is_graph.ensures nodes are (typed_closed c.args.g.now (c.in_default.ensures.typed.0 (search rules)))

pub returns-clause-refused : goal.returns-clause-refused
returns-clause-refused c = λ nodes are.
    let found = one_open c.args.g.now c.is_graph.ensures nodes are c.in-Err.open c.in-Some.node.now.name c.in-Some.ensures.denotes c.in-Err.ensures.first in
    let place : 1 + c.in-Err.open.node.index ≡ c.index.result + 1 = omega (arith, c.index.ensures) in
    let name : c.in-Some.node.now.name ≡ c.in-Ok.name = search rules in
    found ∙ (λ i. Some (opened (place i) (name i) (c.in-Err.open.side, c.in-Err.open.port)))
