-- Laws of plugging.
use Rattle.std.specs.Prelude.{List, map}
use Rattle.circuits.specs.Circuit.{circuit_of}
use Rattle.circuits.specs.Plug.{CanPlug}
use Rattle.graph_core.specs.GraphValue.{GraphValue, IsGraph}
use Rattle.module_sem.specs.declared.link.Link.{Link}
use Rattle.module_sem.specs.GraphLinks.{CanPlugGraphs, by_names}

-- where graphs can be plugged, their circuits can, by the names of the links
abbrev pub CircuitsCanPlug : Type 0
CircuitsCanPlug = (c : GraphValue) (links : List Link) (g : GraphValue) → IsGraph c → IsGraph g → CanPlugGraphs c links g →
    CanPlug (circuit_of c.graph) (map (by_names c g) links) (circuit_of g.graph)
