-- The wires that a graph gets with the inner nodes of right: one for each input of right.
use Rattle.std.specs.Prelude.{◌≡◌, Option, Some, if◌then◌else◌, option_and_then}
use Rattle.std.specs.FinMap as map
use Rattle.components.specs.Name.{Port}
use Rattle.components.specs.NamedGraph.{NamedGraph, IsTyped}
use Rattle.circuits.specs.ReplacedGraph.{has_inner, consumer, new_source, Matches, IsRule}

-- the input of the new graph that stands for an input of right: an inner node's own, and for that of an Exit the input that is fed in g by what feeds this Exit in left
abbrev pub new_target : NamedGraph → NamedGraph → NamedGraph → Port → Option Port
new_target g left right p = if has_inner right p.node then Some p else option_and_then (consumer g) (map.get left.feeders p)

-- the new wire, from its source to its target, for an input of right
pub record IsNewWire (g left right : NamedGraph) (p : Port) (wire : Port × Port) : Type 0 where
  pub source : new_source g left right (map.get right.feeders p) ≡ Some wire.0
  pub target : new_target g left right p ≡ Some wire.1

-- a rule that matches in a typed graph
pub record CanReplace (g left right : NamedGraph) : Type 0 where
  pub typed : IsTyped g
  pub is_rule : IsRule left right
  pub matches : Matches g left right
