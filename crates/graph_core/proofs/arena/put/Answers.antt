use Rattle.std.proofs.Common.{◌≡◌, ◌∙◌, rules, sym, ap, subst}
use Rattle.std.specs.FinMap as finite
use Rattle.graph_core.specs.Arena.{ListsAt, listed_at}
use Rattle.graph_core.specs.Cells.{bare}
use Rattle.components.specs.Orders.{name_total, name_same}
use Rattle.components.specs.Lookups.{put_undone}
use Rattle.graph_core.proofs.Put.{lists_put, listed_put}
use Rattle.graph_core.proofs.arena.put.Goals as goal
use Rattle.graph_core.proofs.arena.put.Goals.{In_ok-insert, In-Ok}

bare_cell : (c : In_ok-insert) → c.in_ok-cell.cell ≡ bare c.args.node
bare_cell c = c.in_ok-cell.ensures

named : (c : In_ok-insert) → c.insert.new.self.ids ≡ finite.insert c.args.names.now.ids c.args.node.name c.new-2.result
named c =
    let put : c.insert.new.self.ids ≡ finite.insert c.args.names.now.ids c.bytes.result.now c.new-2.result = search rules in
    let name : c.bytes.result.now ≡ c.args.node.name = c.bytes.ensures.same ∙ ap (λ cell. cell.node.name) (bare_cell c) in
    put ∙ ap (λ n. finite.insert c.args.names.now.ids n c.new-2.result) name

celled : (c : In-Ok) → c.insert-2.new.self.cells ≡ finite.insert c.args.cells.now.cells c.in-Ok.id c.in_ok-cell.cell
celled c = c.in-Ok.ensures.cells

pub list-requires : goal.list-requires
list-requires c =
    let at = (goal.at.list-requires c).In_ok-insert in
    let in_ok = (goal.at.list-requires c).In-Ok in
    subst (λ m. ListsAt m (finite.get c.insert-2.new.self.cells c.in-Ok.id)) (sym (named at))
    (subst (λ m. ListsAt (finite.insert c.args.names.now.ids c.args.node.name c.new-2.result) (finite.get m c.in-Ok.id)) (sym (celled in_ok))
    (lists_put c.args.cells.now.cells c.args.names.now.ids c.in-Ok.id c.new-2.result c.args.node c.in_ok-cell.cell (bare_cell at)))

pub returns-in-Ok-clause-ok : goal.returns-in-Ok-clause-ok
returns-in-Ok-clause-ok c =
    let at = (goal.at.returns-in-Ok-clause-ok c).In_ok-insert in
    let in_ok = (goal.at.returns-in-Ok-clause-ok c).In-Ok in
    record {
      vacant = c.in-Ok.ensures.vacant;
      next = c.in-Ok.ensures.next;
      cells = celled in_ok ∙ ap (finite.insert c.args.cells.now.cells c.in-Ok.id) (bare_cell at);
      slots = c.in-Ok.ensures.slots;
      names = c.list.ensures ∙ (λ i. listed_at (named at i) c.in-Ok.id (finite.get (celled in_ok i) c.in-Ok.id))
          ∙ listed_put c.args.cells.now.cells c.args.names.now.ids c.in-Ok.id c.new-2.result c.args.node c.in_ok-cell.cell (bare_cell at);
    }

pub returns-in-Err-clause-names : goal.returns-in-Err-clause-names
returns-in-Err-clause-names c =
    let at = (goal.at.returns-in-Err-clause-names c).In_ok-insert in
    let out : c.remove.new.self.ids ≡ finite.remove c.insert.new.self.ids c.bytes-in-Err.result.now = search rules in
    let back : c.in-Err.cell ≡ c.in_ok-cell.cell = c.in-Err.ensures.back in
    let name : c.bytes-in-Err.result.now ≡ c.args.node.name = c.bytes-in-Err.ensures.same ∙ ap (λ cell. cell.node.name) (back ∙ bare_cell at) in
    out ∙ (λ i. finite.remove (named at i) (name i)) ∙ put_undone name_total name_same c.args.names.now.ids c.args.node.name c.new-2.result c.requires.fresh
