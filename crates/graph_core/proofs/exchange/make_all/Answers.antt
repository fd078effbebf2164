use Rattle.std.proofs.Common.{◌≡◌, ◌∙◌, ◌+◌, ◌<◌, ◌++◌, ◌∷◌, [], map, take, get_or, length, rules, sym, ap, subst}
use Rattle.std.proofs.lemmas.Iterator.Adapters.{YieldsList-from_vec}
use Rattle.std.proofs.lemmas.Iterator.Consumers.{YieldsList-turn}
use Rattle.std.proofs.lemmas.List.{length_push, take_more}
use Rattle.std.specs.List.{All}
use Rattle.components.specs.Kind.{KindOk}
use Rattle.graph_core.specs.Made.{IsMade, node_of}
use Rattle.graph_core.proofs.Exchanging.{all_push, map_push}
use Rattle.graph_core.proofs.exchange.make_all.Goals as goal

pub make-requires : goal.make-requires
make-requires c =
    let nodes = c.args.nodes.items in
    let i = length c.loop-node.yielded in
    let gives = YieldsList-from_vec {s = c.into_iter-node-iterator.result} nodes (search rules) (search rules) in
    let turn : (i < length nodes) × (c.in-Some.node ≡ get_or nodes i c.in-Some.node) =
    YieldsList-turn gives c.loop-node.yielded c.loop-node.node-iterator c.loop-node.yielded_by c.next.result c.next.new.self c.in-Some.node c.in-Some.is c.next.ensures.steps in
    subst (λ node. KindOk node.kind) (sym turn.1) (c.requires i c.in-Some.node turn.0)

pub loop-node-preserved : goal.loop-node-preserved
loop-node-preserved c =
    let nodes = c.args.nodes.items in
    let i = length c.loop-node.yielded in
    let gives = YieldsList-from_vec {s = c.into_iter-node-iterator.result} nodes (search rules) (search rules) in
    let turn : (i < length nodes) × (c.in-Some.node ≡ get_or nodes i c.in-Some.node) =
    YieldsList-turn gives c.loop-node.yielded c.loop-node.node-iterator c.loop-node.yielded_by c.next.result c.next.new.self c.in-Some.node c.in-Some.is c.next.ensures.steps in
    let one = c.in_ok-make.field-0 in
    let pushed : c.push.new.self.items ≡ c.loop-node.all.items ++ one ∷ [] = search rules in
    let more : length (c.loop-node.yielded ++ c.in-Some.node ∷ []) ≡ i + 1 = length_push c.loop-node.yielded c.in-Some.node in (
      subst (All IsMade) (sym pushed) (all_push IsMade c.loop-node.all.items one c.loop-node.invariant.0 c.in_ok-make.ensures.made),
      ap (map node_of) pushed ∙ map_push node_of c.loop-node.all.items one ∙ (λ k. c.loop-node.invariant.1 k ++ (c.in_ok-make.ensures.node ∙ turn.1) k ∷ [])
          ∙ sym (take_more nodes i c.in-Some.node turn.0) ∙ ap (λ n. take n nodes) (sym more),
    )
