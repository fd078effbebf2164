-- A Buffer between an Entry and an Exit, and a rule that leaves it out, whose Entry and Exit have other names.
use Rattle.std.specs.Prelude.{codes}
use Rattle.components.specs.Name.{Name}
use Rattle.components.specs.Kind.{Shape}
use Rattle.components.specs.NamedGraph.{NamedGraph}
use Rattle.circuits.specs.BufferRule.{straight, buffered}
use Rattle.circuit_examples.specs.LoneWire.{entry_name, exit_name}

-- the names of the graph's nodes
abbrev pub first_name : Name
first_name = codes "a"

abbrev pub buffer_name : Name
buffer_name = codes "b"

abbrev pub last_name : Name
last_name = codes "z"

-- the graph: a, b and z in a row
abbrev pub row : Shape → NamedGraph
row shape = buffered first_name buffer_name last_name shape

-- what is left of it: a wired to z
abbrev pub short_row : Shape → NamedGraph
short_row shape = straight first_name last_name shape

-- the rule puts an Entry wired to an Exit in the place of an Entry, the Buffer b and an Exit
abbrev pub old_part : Shape → NamedGraph
old_part shape = buffered entry_name buffer_name exit_name shape

abbrev pub new_part : Shape → NamedGraph
new_part shape = straight entry_name exit_name shape

-- a part whose inner node would have the name of the graph's Entry
abbrev pub taken_part : Shape → NamedGraph
taken_part shape = buffered entry_name first_name exit_name shape
