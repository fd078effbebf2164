use Rattle.std.proofs.Common.{◌≡◌, ◌+◌, ◌++◌, ◌∷◌, [], drop, map, length, rules, sym, subst, arith}
use Rattle.std.proofs.lemmas.Iterator.Adapters.{YieldsList-from_vec}
use Rattle.std.proofs.lemmas.Iterator.Consumers.{YieldsList-turn}
use Rattle.std.proofs.lemmas.List.{length_push}
use Rattle.std.specs.FinMap as finite
use Rattle.graph_core.specs.declared.cells.Cell.{Cell}
use Rattle.graph_core.specs.GraphValue.{with_id}
use Rattle.graph_core.specs.Inside.{value_of}
use Rattle.graph_core.specs.Made.{IsMade, node_of}
use Rattle.graph_core.proofs.Tables.{len-map_values}
use Rattle.graph_core.proofs.Exchanging.{SoAdded, Turn, made_turn, so_added, so_added-none}
use Rattle.graph_core.proofs.exchange.put_all.Goals as goal
use Rattle.graph_core.proofs.exchange.put_all.Goals.{In-Some}

pub loop-one-init : goal.loop-one-init
loop-one-init c =
    let g = value_of c.args.cells.now c.args.names.now.ids in
    let nodes = map node_of c.args.made.items in
    let counted : finite.len g.ids ≡ finite.len c.args.cells.now.cells = len-map_values (λ (cell : Cell). cell.node.name) c.args.cells.now.cells in
    let room = c.requires.room in
    let slots = c.requires.slots in
    let list = c.requires.list in (
      c.requires.arena,
      subst (λ ids. SoAdded g nodes ids g nodes 0) (sym c.requires.none) (so_added-none g nodes c.requires.can (omega arith)),
      record { names = omega arith; cells_left = omega arith; ids_left = omega arith },
    )

turn : (c : In-Some) → Turn c.args.made.items (length c.loop-one.yielded) c.in-Some.one
turn c =
    let gives = YieldsList-from_vec {s = c.into_iter-one-iterator.result} c.args.made.items (search rules) (search rules) in
    let at = YieldsList-turn gives c.loop-one.yielded c.loop-one.one-iterator c.loop-one.yielded_by c.next.result c.next.new.self c.in-Some.one c.in-Some.is c.next.ensures.steps in
    made_turn c.args.made.items (length c.loop-one.yielded) c.in-Some.one at.0 at.1

so_far : (c : In-Some) → SoAdded (value_of c.args.cells.now c.args.names.now.ids) (map node_of c.args.made.items) c.loop-one.ids.items (value_of c.loop-one.cells c.loop-one.names.ids)
    (node_of c.in-Some.one ∷ drop (length c.loop-one.yielded + 1) (map node_of c.args.made.items)) (length c.loop-one.yielded)
so_far c =
    subst (λ rest. SoAdded (value_of c.args.cells.now c.args.names.now.ids) (map node_of c.args.made.items) c.loop-one.ids.items (value_of c.loop-one.cells c.loop-one.names.ids) rest (length c.loop-one.yielded))
    (turn c).left c.loop-one.invariant.1

pub enter-id-requires-clause-made : goal.enter-id-requires-clause-made
enter-id-requires-clause-made c = let at = turn (goal.at.enter-id-requires-clause-made c).In-Some in subst IsMade (sym at.is) (c.requires.made (length c.loop-one.yielded) c.in-Some.one at.within)

pub enter-id-requires-clause-node : goal.enter-id-requires-clause-node
enter-id-requires-clause-node c = (so_far (goal.at.enter-id-requires-clause-node c).In-Some).can.0

pub enter-id-requires-clause-name : goal.enter-id-requires-clause-name
enter-id-requires-clause-name c = (so_far (goal.at.enter-id-requires-clause-name c).In-Some).can.1

pub enter-id-requires-clause-slot : goal.enter-id-requires-clause-slot
enter-id-requires-clause-slot c =
    let within = (turn (goal.at.enter-id-requires-clause-slot c).In-Some).within in
    let left = c.loop-one.invariant.2.cells_left in
    omega arith

pub enter-id-requires-clause-room : goal.enter-id-requires-clause-room
enter-id-requires-clause-room c =
    let within = (turn (goal.at.enter-id-requires-clause-room c).In-Some).within in
    let left = c.loop-one.invariant.2.names in
    omega arith

pub push-requires : goal.push-requires
push-requires c =
    let within = (turn (goal.at.push-requires c).In-Some).within in
    let left = c.loop-one.invariant.2.ids_left in
    omega arith

pub loop-one-preserved : goal.loop-one-preserved
loop-one-preserved c =
    let g = value_of c.args.cells.now c.args.names.now.ids in
    let h = value_of c.loop-one.cells c.loop-one.names.ids in
    let nodes = map node_of c.args.made.items in
    let i = length c.loop-one.yielded in
    let at = turn (goal.at.loop-one-preserved c).In-Some in
    let old = so_far (goal.at.loop-one-preserved c).In-Some in
    let node = node_of c.in-Some.one in
    let after = so_added g nodes c.loop-one.ids.items h node (drop (i + 1) nodes) i old at.at c.enter-id.result c.enter-id.ensures.vacant in
    let more : length (c.loop-one.yielded ++ c.in-Some.one ∷ []) ≡ i + 1 = length_push c.loop-one.yielded c.in-Some.one in
    let room = c.loop-one.invariant.2.names in
    let cells_left = c.loop-one.invariant.2.cells_left in
    let ids_left = c.loop-one.invariant.2.ids_left in
    let e1 = c.enter-id.ensures.room in
    let e2 = c.enter-id.ensures.count in
    let e3 = c.enter-id.ensures.slots in
    let p1 = c.push.ensures.len in
    let p2 = c.push.ensures.room in (
      c.enter-id.ensures.arena,
      subst (λ n. SoAdded g nodes c.push.new.ids.items (value_of c.enter-id.new.cells c.enter-id.new.names.ids) (drop n nodes) n) (sym more)
          (subst (λ v. SoAdded g nodes c.push.new.ids.items v (drop (i + 1) nodes) (i + 1)) (sym c.enter-id.ensures.value)
          (subst (λ ids. SoAdded g nodes ids (with_id h c.enter-id.result node) (drop (i + 1) nodes) (i + 1)) (sym c.push.ensures.items) after)),
      record { names = omega arith; cells_left = omega arith; ids_left = omega arith },
    )
