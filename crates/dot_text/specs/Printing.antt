-- The lines of a document, and which documents can be read again from their lines.
use Rattle.std.specs.Prelude.{ℕ, ◌==◌, ◌&&◌, if◌then◌else◌, List, [], ◌∷◌, ◌++◌, codes, is_none}
use Rattle.std.specs.List.{AllByRecursion}
use Rattle.dot_text.specs.Tokens.{keyword}
use Rattle.dot_text.specs.Lexical.{is_name, Quotes}
use Rattle.dot_text.specs.Grammar.{Pair}
use Rattle.dot_text.specs.declared.doc.Doc.{Doc}
use Rattle.dot_text.specs.declared.doc.DocNode.{DocNode}
use Rattle.dot_text.specs.declared.doc.DocEdge.{DocEdge}

-- a backslash before each double quote, and nothing else changes
abbrev pub escaped : List ℕ → List ℕ
escaped [] = []
escaped (b ∷ bs) = if b == 34 then 92 ∷ b ∷ escaped bs else b ∷ escaped bs

-- with a double quote at both ends
abbrev pub in_quotes : List ℕ → List ℕ
in_quotes bs = 34 ∷ (bs ++ 34 ∷ [])

-- a key is bare where it is a name and no keyword
abbrev pub key_text : List ℕ → List ℕ
key_text k = if is_name k && is_none (keyword k) then k else in_quotes (escaped k)

-- key = "value"
abbrev pub pair_text : Pair → List ℕ
pair_text p = key_text p.0 ++ (codes " = " ++ in_quotes (escaped p.1))

-- each pair behind a comma
abbrev pub more_pairs : List Pair → List ℕ
more_pairs [] = []
more_pairs (p ∷ ps) = codes ", " ++ (pair_text p ++ more_pairs ps)

-- pairs, joined by commas
abbrev pub pairs_text : List Pair → List ℕ
pairs_text [] = []
pairs_text (p ∷ ps) = pair_text p ++ more_pairs ps

-- "name" [pairs];
abbrev pub node_line : DocNode → List ℕ
node_line n = codes "  " ++ (in_quotes (escaped n.name) ++ (codes " [" ++ (pairs_text n.pairs ++ codes "];\n")))

-- "source" -> "target" [pairs];
abbrev pub edge_line : DocEdge → List ℕ
edge_line e = codes "  " ++ (in_quotes (escaped e.source) ++ (codes " -> " ++ (in_quotes (escaped e.target) ++ (codes " [" ++ (pairs_text e.pairs ++ codes "];\n")))))

-- a line for each node
abbrev pub node_lines : List DocNode → List ℕ
node_lines [] = []
node_lines (n ∷ ns) = node_line n ++ node_lines ns

-- a line for each edge
abbrev pub edge_lines : List DocEdge → List ℕ
edge_lines [] = []
edge_lines (e ∷ es) = edge_line e ++ edge_lines es

-- the lines of a document, up to its }, without the LF behind it
abbrev pub printed : Doc → List ℕ
printed doc = codes "digraph G {\n" ++ (node_lines doc.nodes ++ (edge_lines doc.edges ++ codes "}"))

-- some quoted text stands for it
pub record CanBeQuoted (v : List ℕ) : Type 0 where
  pub bytes : List ℕ
  pub quotes : Quotes bytes v

-- key and value can be quoted
pub record PairPrints (p : Pair) : Type 0 where
  pub key : CanBeQuoted p.0
  pub value : CanBeQuoted p.1

-- there is a pair
abbrev pub HasPair : List Pair → Type 0
HasPair [] = ⊥
HasPair (p ∷ ps) = Unit {0}

-- the texts of the node can be quoted, and it has a pair
pub record NodePrints (n : DocNode) : Type 0 where
  pub name : CanBeQuoted n.name
  pub pairs : AllByRecursion PairPrints n.pairs
  pub some : HasPair n.pairs

-- the texts of the edge can be quoted
pub record EdgePrints (e : DocEdge) : Type 0 where
  pub source : CanBeQuoted e.source
  pub target : CanBeQuoted e.target
  pub pairs : AllByRecursion PairPrints e.pairs

-- every text can be quoted, and every node has a pair
pub record DocPrints (d : Doc) : Type 0 where
  pub nodes : AllByRecursion NodePrints d.nodes
  pub edges : AllByRecursion EdgePrints d.edges
