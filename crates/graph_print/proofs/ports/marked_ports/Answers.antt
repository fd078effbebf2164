use Rattle.std.proofs.Common.{◌-◌, sym, subst, arith}
use Rattle.std.specs.Prelude.{IsTrue}
use Rattle.std.proofs.lemmas.Grind.{common_steps}
use Rattle.std.proofs.lemmas.List.{take_all}
use Rattle.port_types.specs.PortGrammar.{are_marked}
use Rattle.components.specs.Kind.{ports}
use Rattle.graph_print.proofs.PortsInOrder.{port_get-within}
use Rattle.graph_print.proofs.Markers.{marked, marked_up_to}
use Rattle.graph_print.proofs.ports.marked_ports.Goals as goal
use Rattle.graph_print.proofs.ports.marked_ports.Goals.{else-loop-number-test, then-loop-number-test+in_ok-shape+in_ok-push+else-number-number-end}

pub port_shape-requires-clause-there : goal.port_shape-requires-clause-there
port_shape-requires-clause-there c = port_get-within (ports c.args.kind.now c.args.side) c.loop-number.number (omega arith) (omega arith)

pub loop-number-preserved : goal.loop-number-preserved
loop-number-preserved c =
    let next = marked_up_to c.args.kind.now c.args.side c.loop-number.number (ports c.args.kind.now c.args.side) c.in_ok-shape.shape (omega arith) c.in_ok-shape.ensures in
    grind (arith, common_steps, next)

pub returns-clause-ports : goal.returns-clause-ports
returns-clause-ports c =
    elim c.loop-number-test.branch [
      | else-loop-number-test w ↦
          let all = take_all (c.loop-number.number - 1) (ports c.args.kind.now c.args.side) (omega arith) in
          grind (arith, common_steps, all)
      | then-loop-number-test+in_ok-shape+in_ok-push+else-number-number-end w ↦
          let next = marked_up_to c.args.kind.now c.args.side c.loop-number.number (ports c.args.kind.now c.args.side) w.in_ok-shape.shape (omega arith) w.in_ok-shape.ensures in
          let all = take_all c.loop-number.number (ports c.args.kind.now c.args.side) (omega arith) in
          grind (arith, common_steps, next, all)
    ]

pub returns-clause-marked : goal.returns-clause-marked
returns-clause-marked c =
    subst (λ ports. IsTrue (are_marked ports)) (sym (returns-clause-ports c)) (marked c.args.kind.now c.args.side 1 (ports c.args.kind.now c.args.side))
