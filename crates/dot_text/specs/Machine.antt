-- One token at a time, on states without a stack.
use Rattle.std.specs.Prelude.{ℕ, zero, suc, List, [], ◌∷◌, ◌++◌, Option, Some, None}
use Rattle.dot_text.specs.Tokens.{Token, Id, Digraph, Subgraph, Default, Open, Close, OpenList, CloseList, Semicolon, Comma, Equals, Arrow}
use Rattle.dot_text.specs.declared.doc.Doc.{Doc}
use Rattle.dot_text.specs.Documents.{doc_of, keep}
use Rattle.dot_text.specs.Grammar.{Pair, Kept, Edge, kept_node}
pub use Rattle.dot_text.specs.declared.state.Owner.{Owner}
pub use Rattle.dot_text.specs.declared.state.Owner.TheVariants.{OfNode, OfEdge, OfDefault}

-- what is kept of a statement with these pairs
abbrev pub kept_of : Owner → List Pair → List Kept
kept_of (OfNode a) ps = kept_node a ps
kept_of (OfEdge a b) ps = Edge a b ps ∷ []
kept_of OfDefault ps = []

-- where the reader stands, by what it read last. l subgraphs may still be opened, and k are open; the document is what is kept so far
pub data State : Type 0 where
  Begin : State
  -- digraph or subgraph
  Headed : (l k : ℕ) → Doc → State
  -- the name of the graph or subgraph
  Named : (l k : ℕ) → Doc → State
  -- {, or the ; behind a statement
  Ready : (l k : ℕ) → Doc → State
  -- a statement that takes no attribute list
  Ended : (l k : ℕ) → Doc → State
  -- the ID that begins a statement
  Identified : (l k : ℕ) → Doc → List ℕ → State
  -- that ID and ->
  Pointed : (l k : ℕ) → Doc → List ℕ → State
  -- that ID and =
  Setting : (l k : ℕ) → Doc → State
  -- graph, node or edge
  Defaulted : (l k : ℕ) → Doc → State
  -- an attribute list, or what may be followed by the first one; these are the pairs so far
  Listed : (l k : ℕ) → Doc → Owner → List Pair → State
  -- [, or the , or ; behind a pair
  Inside : (l k : ℕ) → Doc → Owner → List Pair → State
  -- a key
  Keyed : (l k : ℕ) → Doc → Owner → List Pair → List ℕ → State
  -- a key and =
  Equated : (l k : ℕ) → Doc → Owner → List Pair → List ℕ → State
  -- a pair
  Paired : (l k : ℕ) → Doc → Owner → List Pair → State
  -- the } of the document
  Whole : Doc → State

-- where a statement or a } may stand
abbrev pub ready : ℕ → ℕ → Doc → Token → Option State
ready l k d (Id a) = Some (Identified l k d a)
ready l k d Default = Some (Defaulted l k d)
ready (suc l) k d Subgraph = Some (Headed l (suc k) d)
ready (suc l) k d Open = Some (Ready l (suc k) d)
ready l zero d Close = Some (Whole d)
ready l (suc k) d Close = Some (Ended (suc l) k d)
ready _ _ _ _ = None

-- behind a statement
abbrev pub ended : ℕ → ℕ → Doc → Token → Option State
ended l k d Semicolon = Some (Ready l k d)
ended l k d t = ready l k d t

-- behind an attribute list
abbrev pub listed : ℕ → ℕ → Doc → Owner → List Pair → Token → Option State
listed l k d o ps OpenList = Some (Inside l k d o ps)
listed l k d o ps t = ended l k (keep d (kept_of o ps)) t

-- in an attribute list
abbrev pub inside : ℕ → ℕ → Doc → Owner → List Pair → Token → Option State
inside l k d o ps (Id a) = Some (Keyed l k d o ps a)
inside l k d o ps CloseList = Some (Listed l k d o ps)
inside l k d o ps t = None

-- the state behind a token: none where it cannot follow
abbrev pub step : State → Token → Option State
step Begin Digraph = Some (Headed 64 0 (doc_of []))
step Begin t = None
step (Headed l k d) (Id a) = Some (Named l k d)
step (Headed l k d) Open = Some (Ready l k d)
step (Headed l k d) t = None
step (Named l k d) Open = Some (Ready l k d)
step (Named l k d) t = None
step (Ready l k d) t = ready l k d t
step (Ended l k d) t = ended l k d t
step (Identified l k d a) Arrow = Some (Pointed l k d a)
step (Identified l k d a) Equals = Some (Setting l k d)
step (Identified l k d a) t = listed l k d (OfNode a) [] t
step (Pointed l k d a) (Id b) = Some (Listed l k d (OfEdge a b) [])
step (Pointed l k d a) t = None
step (Setting l k d) (Id b) = Some (Ended l k d)
step (Setting l k d) t = None
step (Defaulted l k d) OpenList = Some (Inside l k d OfDefault [])
step (Defaulted l k d) t = None
step (Listed l k d o ps) t = listed l k d o ps t
step (Inside l k d o ps) t = inside l k d o ps t
step (Keyed l k d o ps a) Equals = Some (Equated l k d o ps a)
step (Keyed l k d o ps a) t = None
step (Equated l k d o ps a) (Id b) = Some (Paired l k d o (ps ++ (a, b) ∷ []))
step (Equated l k d o ps a) t = None
step (Paired l k d o ps) Comma = Some (Inside l k d o ps)
step (Paired l k d o ps) Semicolon = Some (Inside l k d o ps)
step (Paired l k d o ps) t = inside l k d o ps t
step (Whole d) t = None

-- the state behind some tokens: none where they cannot follow
abbrev pub run : Option State → List Token → Option State
run o [] = o
run None (t ∷ ts) = None
run (Some s) (t ∷ ts) = run (step s t) ts
