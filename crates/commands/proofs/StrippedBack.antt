-- A stripped graph is within the limits of reading where the graph is.
use Rattle.std.proofs.Common.{◌≡◌, ◌≤◌, Some, arith}
use Rattle.std.specs.FinMap as map
use Rattle.components.specs.Name.{Name}
use Rattle.components.specs.Node.{Body}
use Rattle.components.specs.NamedGraph.{NamedGraph}
use Rattle.rewrite.specs.Behaviour.{StrippedTyped}
use Rattle.commands.specs.Laws.{StrippedCanBeRead}
use Rattle.rewrite.specs.Stripped.{IsStripped}
use Rattle.components.specs.Orders.{name_total, name_same}
use Rattle.commands.proofs.MapEntries.{fewer_entries}

module _ (g h : NamedGraph) (stripped : IsStripped g h) where
  was_node : (name : Name) (body : Body) → map.get h.nodes name ≡ Some body → map.get g.nodes name ≡ Some body
  was_node name body is = ((stripped.nodes name body).0 is).0

  few_nodes : map.len h.nodes ≤ map.len g.nodes
  few_nodes = fewer_entries name_total name_same h.nodes g.nodes was_node

pub stripped_can_be_read : StrippedTyped → StrippedCanBeRead
stripped_can_be_read typed g h can stripped =
    let was = was_node g h stripped in
    let within = can.within in
    record {
      within = record {
        typed = typed g h within.typed stripped;
        names = λ name body is. within.names name body (was name body is);
        few = omega (arith, few_nodes g h stripped, within.few);
        values = λ name body is. within.values name body (was name body is);
        kept = λ name body key value is. within.kept name body key value (was name body is);
      };
      quoted = λ name body key value is. can.quoted name body key value (was name body is);
      utf8 = λ name body key value is. can.utf8 name body key value (was name body is);
    }
