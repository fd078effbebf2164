use Rattle.std.proofs.Common.{◌≡◌, ◌∙◌, ◌+◌, None, max, is_some, refl, sym, ap, arith, cond}
use Rattle.std.specs.Option.{option_map}
use Rattle.std.specs.FinMap as finite
use Rattle.graph_core.specs.declared.cells.Cell.{Cell}
use Rattle.graph_core.specs.Arena.{IsPut}
use Rattle.graph_core.specs.Ids.{id_total}
use Rattle.graph_core.proofs.Link.{none_by}
use Rattle.graph_core.proofs.Put.{put_ok, put_value}
use Rattle.graph_core.proofs.Standing.{name_known, dead_id}
use Rattle.graph_core.proofs.steps.enter.Goals as goal
use Rattle.graph_core.proofs.steps.enter.Goals.{After-list}

fresh : (c : After-list) → finite.get c.args.names.now.ids c.args.made.cell.node.name ≡ None
fresh c = none_by _ (sym (name_known c.args.cells.now c.args.names.now.ids c.requires.arena c.args.made.cell.node.name _ refl) ∙ ap is_some c.requires.name)

is_put : (c : After-list) → IsPut c.args.cells.now c.args.names.now.ids c.fill-id.result c.args.made.cell.node c.fill-id.new.cells c.list.new.names.ids
is_put c =
    record {
      vacant = c.fill-id.ensures.vacant;
      next = c.fill-id.ensures.next;
      cells = c.fill-id.ensures.cells ∙ ap (finite.insert c.args.cells.now.cells c.fill-id.result) c.requires.made.1;
      slots = c.fill-id.ensures.slots;
      names = c.list.ensures.ids ∙ ap (λ n. finite.insert c.args.names.now.ids n c.fill-id.result) c.requires.made.0;
    }

counted : (c : After-list) → finite.len c.fill-id.new.cells.cells ≡ finite.len c.args.cells.now.cells + 1
counted c =
    ap finite.len c.fill-id.ensures.cells ∙ finite.len-insert id_total c.args.cells.now.cells c.fill-id.result c.args.made.cell
    ∙ ap (λ o. cond (is_some o) (finite.len c.args.cells.now.cells) (finite.len c.args.cells.now.cells + 1)) c.fill-id.ensures.vacant

pub returns-clause-arena : goal.returns-clause-arena
returns-clause-arena c =
    put_ok c.args.cells.now c.args.names.now.ids c.requires.arena c.fill-id.result c.args.made.cell.node c.requires.node (fresh c) c.fill-id.new.cells c.list.new.names.ids (is_put c)

pub returns-clause-value : goal.returns-clause-value
returns-clause-value c =
    put_value c.args.cells.now c.args.names.now.ids c.requires.arena c.fill-id.result c.args.made.cell.node c.requires.node (fresh c) c.fill-id.new.cells c.list.new.names.ids (is_put c)

pub returns-clause-vacant : goal.returns-clause-vacant
returns-clause-vacant c = dead_id c.args.cells.now c.fill-id.result (ap (option_map (λ (cell : Cell). cell.node)) c.fill-id.ensures.vacant)

pub returns-clause-count : goal.returns-clause-count
returns-clause-count c = counted c

pub returns-clause-slots : goal.returns-clause-slots
returns-clause-slots c =
    let more = counted c in
    let slots : c.fill-id.new.cells.slots ≡ max c.args.cells.now.slots (finite.len c.fill-id.new.cells.cells) = c.fill-id.ensures.slots in
    let room = c.requires.slot in
    omega arith
