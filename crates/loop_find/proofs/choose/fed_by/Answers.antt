use Rattle.std.proofs.Common.{◌+◌, ◌<◌, length, arith, ◌∙◌, sym, refl}
use Rattle.std.proofs.lemmas.Bool.{false≢true}
use Rattle.components.specs.Kind.{ins}
use Rattle.components.specs.Node.{body_of}
use Rattle.loop_find.proofs.Walking.{node_stands}
use Rattle.loop_find.proofs.Choosing.{FedBelow, fed_first, fed_more, fed_all}
use Rattle.loop_find.proofs.choose.fed_by.Goals as goal

pub loop-port-init : goal.loop-port-init
loop-port-init c = fed_first c.args.g.now c.args.set.now.ids c.args.id

pub loop-port-preserved : goal.loop-port-preserved
loop-port-preserved c =
    fed_more c.args.g.now c.args.set.now.ids c.args.id c.loop-port.port c.loop-port.invariant (c.is_fed_by.ensures.0 c.if-not-is_fed_by.false)

pub returns-then-not-is_fed_by : goal.returns-then-not-is_fed_by
returns-then-not-is_fed_by c =
    (λ no. absurd (false≢true no), λ all. absurd (false≢true (sym c.if-not-is_fed_by.true ∙ c.is_fed_by.ensures.1 (λ q e. all c.loop-port.port q e))))

pub returns-in-Some : goal.returns-in-Some
returns-in-Some c =
    let past : length (ins c.in-Some.node.now.kind) < c.loop-port.port = omega arith in (
      λ yes.
          fed_all c.args.g.now c.is_graph.ensures c.args.set.now.ids c.args.id (body_of c.in-Some.node.now) c.loop-port.port
          (node_stands c.args.g.now c.args.id c.in-Some.node.now c.in-Some.ensures) past c.loop-port.invariant,
      λ all. refl,
    )

pub returns-else-not-is_fed_by : goal.returns-else-not-is_fed_by
returns-else-not-is_fed_by c =
    let done : FedBelow c.args.g.now c.args.set.now.ids c.args.id (c.loop-port.port + 1) =
    fed_more c.args.g.now c.args.set.now.ids c.args.id c.loop-port.port c.loop-port.invariant (c.is_fed_by.ensures.0 c.if-not-is_fed_by.false) in
    let past : length (ins c.in-Some.node.now.kind) < c.loop-port.port + 1 = omega arith in (
      λ yes.
          fed_all c.args.g.now c.is_graph.ensures c.args.set.now.ids c.args.id (body_of c.in-Some.node.now) (c.loop-port.port + 1)
          (node_stands c.args.g.now c.args.id c.in-Some.node.now c.in-Some.ensures) past done,
      λ all. refl,
    )
