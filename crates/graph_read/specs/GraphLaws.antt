-- Laws of graphs that are read.
use Rattle.std.specs.Prelude.{◌≡◌, ◌≤◌, Ok}
use Rattle.std.specs.Str.{IsUtf8}
use Rattle.std.specs.FinMap as map
use Rattle.dot_text.specs.declared.doc.Doc.{Doc}
use Rattle.dot_text.specs.Texts.{DocTexts}
use Rattle.components.specs.NamedGraph.{NamedGraph, IsTyped, HasAllowedNames}
use Rattle.graph_read.specs.GraphReading.{graph_reading}

-- a graph that is read is typed and has at most 65,536 nodes
abbrev pub ReadIsTyped : Type 0
ReadIsTyped = (doc : Doc) (g : NamedGraph) → graph_reading doc ≡ Ok g → IsTyped g × (map.len g.nodes ≤ 65536)

-- the names of a graph that is read are allowed, where the texts of its document are UTF-8
abbrev pub ReadHasAllowedNames : Type 0
ReadHasAllowedNames = (doc : Doc) (g : NamedGraph) → DocTexts IsUtf8 doc → graph_reading doc ≡ Ok g → HasAllowedNames g
