use Rattle.std.proofs.Common.{◌+◌, ◌<◌, length, arith, ◌∙◌, sym, refl}
use Rattle.std.proofs.lemmas.Bool.{false≢true}
use Rattle.components.specs.Kind.{ins}
use Rattle.components.specs.Node.{body_of}
use Rattle.loop_find.proofs.OrderSteps.{IsFedBelow}
use Rattle.loop_find.proofs.Orders.{fed_more, fed_last}
use Rattle.loop_find.proofs.Walking.{node_stands}
use Rattle.loop_find.proofs.order.is_fed.Goals as goal

pub returns-then-not-is_fed_at : goal.returns-then-not-is_fed_at
returns-then-not-is_fed_at c =
    (λ no. absurd (false≢true no), λ all. absurd (false≢true (sym c.if-not-is_fed_at.true ∙ c.is_fed_at.ensures.1 (all _ refl))))

pub returns-in-Some : goal.returns-in-Some
returns-in-Some c =
    let past : length (ins c.in-Some.node.now.kind) < c.loop-port.port = omega arith in (
      λ yes.
          fed_last c.args.g.now c.is_graph.ensures c.args.body.now.ids c.args.placed.now.ids c.args.id (body_of c.in-Some.node.now) (node_stands c.args.g.now c.args.id c.in-Some.node.now c.in-Some.ensures)
          c.loop-port.port past c.loop-port.invariant,
      λ all. refl,
    )

pub returns-else-not-is_fed_at : goal.returns-else-not-is_fed_at
returns-else-not-is_fed_at c =
    let done : IsFedBelow c.args.g.now c.args.body.now.ids c.args.placed.now.ids c.args.id (c.loop-port.port + 1) =
    fed_more c.args.g.now c.is_graph.ensures c.args.body.now.ids c.args.placed.now.ids c.args.id c.loop-port.port c.loop-port.invariant (c.is_fed_at.ensures.0 c.if-not-is_fed_at.false) in
    let past : length (ins c.in-Some.node.now.kind) < c.loop-port.port + 1 = omega arith in (
      λ yes.
          fed_last c.args.g.now c.is_graph.ensures c.args.body.now.ids c.args.placed.now.ids c.args.id (body_of c.in-Some.node.now) (node_stands c.args.g.now c.args.id c.in-Some.node.now c.in-Some.ensures)
          (c.loop-port.port + 1) past done,
      λ all. refl,
    )
