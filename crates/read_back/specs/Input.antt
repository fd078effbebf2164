-- A whole input as a graph.
use Rattle.std.specs.Prelude.{◌≡◌, ℕ, List, length, Ok}
use Rattle.dot_text.specs.declared.doc.Doc.{Doc}
use Rattle.dot_text.specs.Documents.{Stands}
use Rattle.dot_text.specs.Blanks.{SkipsTo}
use Rattle.components.specs.NamedGraph.{NamedGraph}
use Rattle.graph_read.specs.GraphReading.{graph_reading}

-- one document, with nothing behind it but blanks and comments
pub record HoldsDocument (bytes : List ℕ) (document : Doc) : Type 0 where
  pub end : ℕ
  pub stands : Stands bytes 0 document end
  pub behind : SkipsTo bytes end (length bytes)

-- a document, which is this graph
pub record IsInputOf (g : NamedGraph) (bytes : List ℕ) : Type 0 where
  pub document : Doc
  pub holds : HoldsDocument bytes document
  pub reads : graph_reading document ≡ Ok g

abbrev pub IsGraphInput : List ℕ → Type 0
IsGraphInput bytes = (g : NamedGraph) × IsInputOf g bytes
