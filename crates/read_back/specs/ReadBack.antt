-- Canonical texts as inputs.
use Rattle.std.specs.Prelude.{◌≡◌, ℕ, List}
use Rattle.std.specs.Str.{IsUtf8}
use Rattle.dot_text.specs.Printing.{CanBeQuoted}
use Rattle.components.specs.NamedGraph.{NamedGraph}
use Rattle.graph_print.specs.CanonicalText.{text_of}
use Rattle.read_back.specs.CanonicalReading.{CanBeReadBack}
use Rattle.read_back.specs.CanonicalTexts.{KeptTexts}
use Rattle.read_back.specs.Input.{IsInputOf}

-- within the limits of reading, and what it keeps can be quoted and is UTF-8
pub record CanBeRead (g : NamedGraph) : Type 0 where
  pub within : CanBeReadBack g
  pub quoted : KeptTexts CanBeQuoted g
  pub utf8 : KeptTexts IsUtf8 g

-- the canonical text of a graph is an input of the graph, however long it is
abbrev pub TextReadsBack : Type 0
TextReadsBack = (g : NamedGraph) → CanBeRead g → IsInputOf g (text_of g)

-- the canonical text of a graph, which is an input of this graph and of no other
pub record IsTextOf (g : NamedGraph) (text : List ℕ) : Type 0 where
  pub is : text ≡ text_of g
  pub back : IsInputOf g text
  pub alone : (other : NamedGraph) → IsInputOf other text → other ≡ g

-- a text that is the canonical text of such a graph is an input of it and of no other
abbrev pub TextTellsGraph : Type 0
TextTellsGraph = (g : NamedGraph) (text : List ℕ) → CanBeRead g → text ≡ text_of g → IsTextOf g text

-- a graph that was read is within the limits: its kept texts stood in a document, so they can be written
abbrev pub ReadCanBeRead : Type 0
ReadCanBeRead = (g : NamedGraph) (bytes : List ℕ) → IsInputOf g bytes → CanBeRead g

-- what is printed of a graph that was read is an input of the same graph
abbrev pub PrintReadsBack : Type 0
PrintReadsBack = (g : NamedGraph) (bytes : List ℕ) → IsInputOf g bytes → IsInputOf g (text_of g)

-- bytes are the input of one graph alone
abbrev pub InputIsOneGraph : Type 0
InputIsOneGraph = (g h : NamedGraph) (bytes : List ℕ) → IsInputOf g bytes → IsInputOf h bytes → g ≡ h

-- printing what was printed gives it again
abbrev pub PrintOfPrint : Type 0
PrintOfPrint = (g h : NamedGraph) (bytes : List ℕ) → IsInputOf g bytes → IsInputOf h (text_of g) → text_of h ≡ text_of g
