-- Links between two graphs in memory, and when they plug the one into the other.
use Rattle.std.specs.Prelude.{◌≡◌, ◌≢◌, List, All, AllPairs, if◌then◌else◌}
use Rattle.components.specs.NamedGraph.{IsTyped}
use Rattle.circuits.specs.Circuit.{circuit_of}
use Rattle.circuits.specs.Plug.{PlugLink, Apart, Joins}
use Rattle.graph_core.specs.GraphValue.{GraphValue, name_by}
use Rattle.module_sem.specs.declared.link.Link.{Link}

-- the graph that has the Exit of the link, and the one that has its Entry
abbrev pub exit_graph : GraphValue → GraphValue → Link → GraphValue
exit_graph c g l = if l.outer_exit then c else g

abbrev pub entry_graph : GraphValue → GraphValue → Link → GraphValue
entry_graph c g l = if l.outer_exit then g else c

-- the link by the names of its ends
abbrev pub by_names : GraphValue → GraphValue → Link → PlugLink
by_names c g l = record { exit = name_by (exit_graph c g l).ids l.exit; entry = name_by (entry_graph c g l).ids l.entry }

-- the ids are those of an Exit of the one graph and of an Entry of the other, of one shape
abbrev pub IsJoin : GraphValue → GraphValue → Link → Type 0
IsJoin c g l = Joins (by_names c g l) (circuit_of (exit_graph c g l).graph) (circuit_of (entry_graph c g l).graph)

-- the links have neither an Exit nor an Entry in common: where both lead the same way their ids differ
abbrev pub AreOfDifferentEnds : Link → Link → Type 0
AreOfDifferentEnds a b = a.outer_exit ≡ b.outer_exit → (a.exit ≢ b.exit) × (a.entry ≢ b.entry)

-- both graphs are typed, no name is in both, each link joins an Exit of the one to an Entry of the other, and none is an end of two
pub record CanPlugGraphs (c : GraphValue) (links : List Link) (g : GraphValue) : Type 0 where
  pub outer : IsTyped c.graph
  pub inner : IsTyped g.graph
  pub apart : Apart (circuit_of c.graph) (circuit_of g.graph)
  pub joins : All (IsJoin c g) links
  pub once : AllPairs AreOfDifferentEnds links
