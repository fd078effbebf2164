use Rattle.std.proofs.Common.{◌+◌, ◌<◌, length, arith, ◌∙◌, sym, refl}
use Rattle.std.proofs.lemmas.Bool.{false≢true}
use Rattle.components.specs.Kind.{outs}
use Rattle.components.specs.Node.{body_of}
use Rattle.loop_find.proofs.Walking.{node_stands}
use Rattle.loop_find.proofs.FeedingSteps.{FeedsBelow}
use Rattle.loop_find.proofs.Feeding.{feeds_first, feeds_more, feeds_all}
use Rattle.loop_find.proofs.candidates.feeds_only.Goals as goal

pub loop-port-init : goal.loop-port-init
loop-port-init c =
    feeds_first c.args.g.now c.args.takers.now.ids c.is_graph.ensures c.args.id (body_of c.in-Some.node.now) (node_stands c.args.g.now c.args.id c.in-Some.node.now c.in-Some.ensures) c.args.seen.now.ids

pub loop-port-preserved : goal.loop-port-preserved
loop-port-preserved c =
    feeds_more c.args.g.now c.args.takers.now.ids c.is_graph.ensures c.args.id (body_of c.in-Some.node.now) (node_stands c.args.g.now c.args.id c.in-Some.node.now c.in-Some.ensures) c.args.seen.now.ids
    c.loop-port.port c.loop-port.invariant (c.feeds_at.ensures.0 c.if-not-feeds_at.false)

pub returns-then-not-feeds_at : goal.returns-then-not-feeds_at
returns-then-not-feeds_at c =
    (λ no. absurd (false≢true no), λ all. absurd (false≢true (sym c.if-not-feeds_at.true ∙ c.feeds_at.ensures.1 (all _ refl))))

pub returns-in-Some : goal.returns-in-Some
returns-in-Some c =
    let past : length (outs c.in-Some.node.now.kind) < c.loop-port.port = omega arith in (
      λ yes.
          feeds_all c.args.g.now c.args.takers.now.ids c.is_graph.ensures c.args.id (body_of c.in-Some.node.now) (node_stands c.args.g.now c.args.id c.in-Some.node.now c.in-Some.ensures) c.args.seen.now.ids
          c.loop-port.port past c.loop-port.invariant,
      λ all. refl,
    )

pub returns-else-not-feeds_at : goal.returns-else-not-feeds_at
returns-else-not-feeds_at c =
    let done : FeedsBelow c.args.g.now c.args.takers.now.ids c.args.seen.now.ids c.args.id (c.loop-port.port + 1) =
    feeds_more c.args.g.now c.args.takers.now.ids c.is_graph.ensures c.args.id (body_of c.in-Some.node.now) (node_stands c.args.g.now c.args.id c.in-Some.node.now c.in-Some.ensures) c.args.seen.now.ids
    c.loop-port.port c.loop-port.invariant (c.feeds_at.ensures.0 c.if-not-feeds_at.false) in
    let past : length (outs c.in-Some.node.now.kind) < c.loop-port.port + 1 = omega arith in (
      λ yes.
          feeds_all c.args.g.now c.args.takers.now.ids c.is_graph.ensures c.args.id (body_of c.in-Some.node.now) (node_stands c.args.g.now c.args.id c.in-Some.node.now c.in-Some.ensures) c.args.seen.now.ids
          (c.loop-port.port + 1) past done,
      λ all. refl,
    )
