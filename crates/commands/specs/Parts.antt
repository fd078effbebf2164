-- The parts of an input, from left to right: each is judged whole where the one before it ended.
use Rattle.std.specs.Prelude.{◌≡◌, ℕ, ◌<◌, List, length, Result, Ok, Err}
use Rattle.dot_text.specs.declared.doc.Doc.{Doc}
use Rattle.dot_text.specs.Documents.{Stands, Place}
use Rattle.dot_text.specs.Blanks.{SkipsTo, SkipFails}
use Rattle.components.specs.NamedGraph.{NamedGraph}
use Rattle.graph_read.specs.declared.fault.GraphRefusal.{GraphRefusal}
use Rattle.graph_read.specs.GraphReading.{graph_reading}
use Rattle.commands.specs.declared.refusal.Refusal.{Refusal}
use Rattle.commands.specs.declared.refusal.Refusal.TheVariants.{Syntax, Graph}

-- one part and then the rest, which is judged only where the part is not refused
pub data Then {X Y : Type 0} (Part : Result X Refusal → Type 0) (Rest : X → Result Y Refusal → Type 0) : Result Y Refusal → Type 0 where
  refused : (refusal : Refusal) → Part (Err refusal) → Then Part Rest (Err refusal)
  goes_on : (part : X) (answer : Result Y Refusal) → Part (Ok part) → Rest part answer → Then Part Rest answer

-- a document and where it ends, or the byte where it shows that none stands here
pub data StandsAt (bytes : List ℕ) (from : ℕ) : Result (Doc × ℕ) Refusal → Type 0 where
  stands : (document : Doc) (end : ℕ) → Stands bytes from document end → StandsAt bytes from (Ok (document, end))
  nothing : (place : ℕ) → Place bytes from place → StandsAt bytes from (Err (Syntax place))

-- the graph of a document, or its first refusal
pub data GraphIn (document : Doc) : Result NamedGraph Refusal → Type 0 where
  graph : (g : NamedGraph) → graph_reading document ≡ Ok g → GraphIn document (Ok g)
  no_graph : (refusal : GraphRefusal) → graph_reading document ≡ Err refusal → GraphIn document (Err (Graph refusal))

-- a document of a graph: the graph, and where the document ends
abbrev pub DocumentAt : List ℕ → ℕ → Result (NamedGraph × ℕ) Refusal → Type 0
DocumentAt bytes from = Then (StandsAt bytes from) (λ standing. Then (GraphIn standing.0) (λ g answer. answer ≡ Ok (g, standing.1)))

-- the end of the input, behind blanks and comments, or the byte of something else
pub data EndAt (bytes : List ℕ) (from : ℕ) : Result (Unit {0}) Refusal → Type 0 where
  nothing_more : SkipsTo bytes from (length bytes) → EndAt bytes from (Ok tt)
  unclosed : (place : ℕ) → SkipFails bytes from place → EndAt bytes from (Err (Syntax place))
  more : (place : ℕ) → SkipsTo bytes from place → place < length bytes → EndAt bytes from (Err (Syntax place))

-- an input of one document, with nothing behind it
abbrev pub OneGraph : List ℕ → Result NamedGraph Refusal → Type 0
OneGraph input = Then (DocumentAt input 0) (λ found. Then (EndAt input found.1) (λ _ answer. answer ≡ Ok found.0))

-- the bytes of an input, and where the part that comes next begins
pub record InputState : Type 0 where
  pub bytes : List ℕ
  pub place : ℕ
