-- The nodes of a graph by names are listed by its keys.
use Rattle.std.proofs.Common.{◌≡◌, inl, inr, refl, sym, ap, ◌∙◌, cond, List, [], ◌∷◌, map, Option, Some, None}
use Rattle.std.proofs.lemmas.Option.{none-some}
use Rattle.std.specs.FinMap as fin
use Rattle.std.specs.FinMap.{find}
use Rattle.components.specs.declared.kind.Kind.{Kind}
use Rattle.components.specs.Name.{Name, name_cmp}
use Rattle.components.specs.Node.{Body}
use Rattle.components.specs.NamedGraph.{NamedGraph}
use Rattle.components.specs.Lookups.{other_test}
use Rattle.components.specs.Orders.{name_total, name_same, name_cases}
use Rattle.circuits.specs.Circuit.{kind_of_body}
use Rattle.circuits.specs.Replacing.{In}
use Rattle.part_drains.specs.Laws.{GraphListsNodes}

found_in : (name : Name) (es : List (Name × Body)) (x : Body) → find name_cmp name es ≡ Some x → In name (map (λ e. e.0) es)
found_in name [] x found = absurd (none-some x found)
found_in name (e ∷ es) x found =
    elim (name_cases name e.0) [
      | inl same ↦ In.head same
      | inr apart ↦ In.tail (found_in name es x (ap (λ t. cond t (Some e.1) (find name_cmp name es)) (sym (other_test name_total name_same name e.0 apart)) ∙ found))
    ]

module _ (g : NamedGraph) (n : Name) (k : Kind) where
  listed : (o : Option Body) → fin.get g.nodes n ≡ o → kind_of_body o ≡ Some k → In n (fin.keys g.nodes)
  listed None is e = absurd (none-some k e)
  listed (Some x) is e = found_in n (fin.entries g.nodes) x (sym (fin.get-entries g.nodes n) ∙ is)

pub lists_nodes : GraphListsNodes
lists_nodes g n k e = listed g n k (fin.get g.nodes n) refl e
