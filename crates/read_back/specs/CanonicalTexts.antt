-- The texts of canonical documents.
use Rattle.std.specs.Prelude.{◌≡◌, ℕ, List, Some, Ok}
use Rattle.std.specs.Str.{IsUtf8}
use Rattle.std.specs.FinMap as map
use Rattle.dot_text.specs.declared.doc.Doc.{Doc}
use Rattle.dot_text.specs.Printing.{CanBeQuoted, DocPrints}
use Rattle.dot_text.specs.Texts.{DocTexts}
use Rattle.components.specs.Name.{Name}
use Rattle.components.specs.Node.{Body}
use Rattle.components.specs.NamedGraph.{NamedGraph}
use Rattle.graph_print.specs.CanonicalText.{canonical_document}
use Rattle.graph_read.specs.GraphReading.{graph_reading}
use Rattle.read_back.specs.CanonicalReading.{CanBeReadBack}

-- each key and value that a node keeps is so
abbrev pub KeptTexts : (List ℕ → Type 0) → NamedGraph → Type 0
KeptTexts P g = (name : Name) (body : Body) (key value : List ℕ) → map.get g.nodes name ≡ Some body → map.get body.kept key ≡ Some value → P key × P value

-- where what is kept can be quoted and is UTF-8, all texts of the canonical document can be quoted and are UTF-8
abbrev pub CanonicalPrints : Type 0
CanonicalPrints = (g : NamedGraph) → CanBeReadBack g → KeptTexts CanBeQuoted g → KeptTexts IsUtf8 g → DocPrints (canonical_document g) × DocTexts IsUtf8 (canonical_document g)

-- what a graph that is read keeps can be quoted where the texts of its document can, and is UTF-8 where they are
abbrev pub ReadTexts : Type 0
ReadTexts = (doc : Doc) (g : NamedGraph) → graph_reading doc ≡ Ok g → (DocPrints doc → KeptTexts CanBeQuoted g) × (DocTexts IsUtf8 doc → KeptTexts IsUtf8 g)
