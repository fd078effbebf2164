-- A Split whose outputs are joined again, and the wire that comes in their place.
use Rattle.std.specs.Prelude.{List, [], ◌∷◌}
use Rattle.std.specs.List.{concat}
use Rattle.components.specs.declared.kind.Kind.{Kind}
use Rattle.components.specs.declared.kind.Kind.TheVariants.{Entry, Exit, Split, Join}
use Rattle.components.specs.Name.{Name}
use Rattle.components.specs.Kind.{Shape}
use Rattle.components.specs.NamedGraph.{NamedGraph}
use Rattle.circuit_plans.specs.Drawing.{DrawnWire, Drawing, wire, drawn}
use Rattle.circuit_plans.specs.Places.{number, each_of}

-- a Split and a Join, with an Entry and an Exit
pub data SplitJoined : Type 0 where
  entry split join exit : SplitJoined

abbrev pub split_joined_nodes : List SplitJoined
split_joined_nodes = entry ∷ split ∷ join ∷ exit ∷ []

abbrev pub split_joined_kind : List Shape → SplitJoined → Kind
split_joined_kind parts entry = Entry (concat parts)
split_joined_kind parts split = Split parts
split_joined_kind parts join = Join parts
split_joined_kind parts exit = Exit (concat parts)

-- each output of the Split is wired to the input of the same number of the Join
abbrev pub split_joined_wires : List Shape → List (DrawnWire SplitJoined)
split_joined_wires parts = wire entry 1 split 1 ∷ wire join 1 exit 1 ∷ each_of parts (λ l. wire split (number parts l) join (number parts l))

abbrev pub split_joined : List Shape → Drawing SplitJoined
split_joined parts = record { kind = split_joined_kind parts; nodes = split_joined_nodes; wires = split_joined_wires parts }

-- the graph of these nodes, where they have these names
abbrev pub split_joined_graph : List Shape → (SplitJoined → Name) → NamedGraph
split_joined_graph parts name = drawn (split_joined parts) name
