-- What holds of each text of a document.
use Rattle.std.specs.Prelude.{ℕ, List}
use Rattle.std.specs.List.{AllByRecursion}
use Rattle.dot_text.specs.Grammar.{Pair}
use Rattle.dot_text.specs.declared.doc.Doc.{Doc}
use Rattle.dot_text.specs.declared.doc.DocNode.{DocNode}
use Rattle.dot_text.specs.declared.doc.DocEdge.{DocEdge}

abbrev pub PairTexts : (List ℕ → Type 0) → Pair → Type 0
PairTexts P pair = P pair.0 × P pair.1

abbrev pub NodeTexts : (List ℕ → Type 0) → DocNode → Type 0
NodeTexts P node = P node.name × AllByRecursion (PairTexts P) node.pairs

abbrev pub EdgeTexts : (List ℕ → Type 0) → DocEdge → Type 0
EdgeTexts P edge = P edge.source × P edge.target × AllByRecursion (PairTexts P) edge.pairs

-- each name, key and value is so
abbrev pub DocTexts : (List ℕ → Type 0) → Doc → Type 0
DocTexts P doc = AllByRecursion (NodeTexts P) doc.nodes × AllByRecursion (EdgeTexts P) doc.edges
