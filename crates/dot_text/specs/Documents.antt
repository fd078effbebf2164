-- Where a document stands, which tokens can go on, and the place of a fault.
use Rattle.std.specs.Prelude.{◌≡◌, ℕ, ◌<◌, List, [], ◌∷◌, ◌++◌, length}
use Rattle.dot_text.specs.Tokens.{Token}
use Rattle.dot_text.specs.Lexical.{SkipAt, TokenAt, Gap, Lexes}
use Rattle.dot_text.specs.declared.doc.Doc.{Doc}
use Rattle.dot_text.specs.declared.doc.DocNode.{DocNode}
use Rattle.dot_text.specs.declared.doc.DocEdge.{DocEdge}
use Rattle.dot_text.specs.Grammar.{Kept, Node, Edge, Document}

-- the nodes that are kept, in order
abbrev pub nodes_of : List Kept → List DocNode
nodes_of [] = []
nodes_of (Node a ps ∷ ks) = record { name = a; pairs = ps } ∷ nodes_of ks
nodes_of (Edge a b ps ∷ ks) = nodes_of ks

-- the edges that are kept, in order
abbrev pub edges_of : List Kept → List DocEdge
edges_of [] = []
edges_of (Node a ps ∷ ks) = edges_of ks
edges_of (Edge a b ps ∷ ks) = record { source = a; target = b; pairs = ps } ∷ edges_of ks

-- the document that keeps these
abbrev pub doc_of : List Kept → Doc
doc_of ks = record { nodes = nodes_of ks; edges = edges_of ks }

-- the document with what is kept behind it
abbrev pub keep : Doc → List Kept → Doc
keep doc ks = record { nodes = doc.nodes ++ nodes_of ks; edges = doc.edges ++ edges_of ks }

-- the document doc stands in bytes at from, behind blanks and comments, and ends before to
pub record Stands (bytes : List ℕ) (from : ℕ) (doc : Doc) (to : ℕ) : Type 0 where
  pub tokens : List Token
  pub kept : List Kept
  pub lexes : Lexes bytes from tokens to
  pub document : Document tokens kept
  pub is : doc ≡ doc_of kept

-- some document begins with these tokens
pub record CanGoOn (ts : List Token) : Type 0 where
  pub more : List Token
  pub kept : List Kept
  pub document : Document (ts ++ more) kept

-- behind the tokens ts no document goes on at p: the bytes end, no blank, comment or token stands here, or a token that cannot follow
pub data Stuck (bytes : List ℕ) (p : ℕ) (ts : List Token) : Type 0 where
  ended : p ≡ length bytes → Stuck bytes p ts
  nothing : p < length bytes → ((q : ℕ) → SkipAt bytes p q → ⊥) → ((t : Token) (q : ℕ) → TokenAt bytes p t q → ⊥) → Stuck bytes p ts
  token : (t : Token) (q : ℕ) → TokenAt bytes p t q → (CanGoOn (ts ++ t ∷ []) → ⊥) → Stuck bytes p ts

-- the place of the fault, where no document stands: the first byte at which it shows
pub record Place (bytes : List ℕ) (from place : ℕ) : Type 0 where
  pub none : (doc : Doc) (to : ℕ) → Stands bytes from doc to → ⊥
  pub tokens : List Token
  pub behind : ℕ
  pub lexes : Lexes bytes from tokens behind
  pub can : CanGoOn tokens
  pub gap : Gap bytes behind place
  pub stuck : Stuck bytes place tokens
