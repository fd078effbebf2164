use Rattle.std.proofs.Common.{◌≡◌, ◌∙◌, None, is_some, true, false, rules, refl, sym, ap, subst, true≢false}
use Rattle.std.specs.Option.{option_map}
use Rattle.std.specs.FinMap as finite
use Rattle.graph_core.proofs.Link.{none_by}
use Rattle.graph_core.specs.declared.cells.Cell.{Cell}
use Rattle.graph_core.specs.Arena.{IsPut}
use Rattle.graph_core.specs.GraphValue.{IsNextOf, with_id}
use Rattle.graph_core.proofs.Standing.{name_known, dead_id}
use Rattle.graph_core.proofs.Tables.{len-map_values}
use Rattle.graph_core.proofs.Put.{put_ok, put_value}
use Rattle.graph_core.proofs.graph.Graph.add_node.Goals as goal
use Rattle.graph_core.proofs.graph.Graph.add_node.Goals.{Else-is_some, In-Ok}

known : (c : Else-is_some) → is_some (finite.get c.args.self.now.graph.nodes c.args.node.name) ≡ false
known c =
    ap (λ v. is_some (finite.get v.graph.nodes c.args.node.name)) (sym c.self.view_is)
    ∙ name_known c.self.inside.cells c.self.inside.names.ids c.self.invariant c.args.node.name _ refl
    ∙ (let none : is_some (finite.get c.self.inside.names.ids c.args.node.name) ≡ false = search rules in none)

fresh : (c : Else-is_some) → finite.get c.self.inside.names.ids c.args.node.name ≡ None
fresh c = let none : is_some (finite.get c.self.inside.names.ids c.args.node.name) ≡ false = search rules in none_by _ none

pub returns-then-is_some-clause-taken : goal.returns-then-is_some-clause-taken
returns-then-is_some-clause-taken c =
    let some : is_some (finite.get c.self.inside.names.ids c.args.node.name) ≡ true = search rules in
    (λ _. ap (λ v. is_some (finite.get v.graph.nodes c.args.node.name)) (sym c.self.view_is) ∙ name_known c.self.inside.cells c.self.inside.names.ids c.self.invariant c.args.node.name _ refl ∙ some, λ _. refl)

pub returns-in_default-clause-taken : goal.returns-in_default-clause-taken
returns-in_default-clause-taken c = (λ e. absurd (cc), λ some. absurd (true≢false (sym some ∙ known (goal.at.returns-in_default-clause-taken c).Else-is_some)))

pub returns-clause-taken : goal.returns-clause-taken
returns-clause-taken c = (λ e. absurd (cc), λ some. absurd (true≢false (sym some ∙ known (goal.at.returns-clause-taken c).Else-is_some)))

is_put : (c : In-Ok) → IsPut c.self.inside.cells c.self.inside.names.ids c.in-Ok.id c.args.node c.put.new.cells c.put.new.names.ids
is_put c = c.in-Ok.ensures.ok

pub invariant_of-self-2 : goal.invariant_of-self-2
invariant_of-self-2 c = put_ok c.self.inside.cells c.self.inside.names.ids c.self.invariant c.in-Ok.id c.args.node c.requires (fresh (goal.at.invariant_of-self-2 c).Else-is_some) c.put.new.cells c.put.new.names.ids (is_put c)

pub returns-clause-ok : goal.returns-clause-ok
returns-clause-ok c =
    put_value c.self.inside.cells c.self.inside.names.ids c.self.invariant c.in-Ok.id c.args.node c.requires (fresh (goal.at.returns-clause-ok c).Else-is_some) c.put.new.cells c.put.new.names.ids (is_put c)
    ∙ ap (λ v. with_id v c.in-Ok.id c.args.node) c.self.view_is

pub returns-clause-fresh : goal.returns-clause-fresh
returns-clause-fresh c = ap (λ v. finite.get v.ids c.in-Ok.id) (sym c.self.view_is) ∙ dead_id c.self.inside.cells c.in-Ok.id (ap (option_map (λ (cell : Cell). cell.node)) (is_put c).vacant)

pub returns-clause-next : goal.returns-clause-next
returns-clause-next c =
    subst (λ v. IsNextOf v c.in-Ok.id) c.self.view_is
    (λ full. (is_put c).next (sym (len-map_values (λ (cell : Cell). cell.node.name) c.self.inside.cells.cells) ∙ full))
