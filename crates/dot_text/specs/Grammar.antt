-- Statements and documents, as lists of tokens.
use Rattle.std.specs.Prelude.{ℕ, suc, List, [], ◌∷◌, ◌++◌}
use Rattle.dot_text.specs.Tokens.{Token, Id, Digraph, Subgraph, Default, Open, Close, OpenList, CloseList, Semicolon, Comma, Equals, Arrow}

-- a key and a value
abbrev pub Pair : Type 0
Pair = List ℕ × List ℕ

-- what a document keeps of a statement
pub data Kept : Type 0 where
  Node : List ℕ → List Pair → Kept
  Edge : List ℕ → List ℕ → List Pair → Kept

-- a node statement without any pair is dropped
abbrev pub kept_node : List ℕ → List Pair → List Kept
kept_node name [] = []
kept_node name (p ∷ ps) = Node name (p ∷ ps) ∷ []

-- , or ; or nothing
pub data PairEnd : List Token → Type 0 where
  nothing : PairEnd []
  comma : PairEnd (Comma ∷ [])
  semicolon : PairEnd (Semicolon ∷ [])

-- the pairs of an attribute list
pub data Pairs : List Token → List Pair → Type 0 where
  none : Pairs [] []
  pair : {end ts : List Token} {ps : List Pair} (k v : List ℕ) → PairEnd end → Pairs ts ps
      → Pairs (Id k ∷ Equals ∷ Id v ∷ end ++ ts) ((k, v) ∷ ps)

-- any number of attribute lists
pub data Lists : List Token → List Pair → Type 0 where
  none : Lists [] []
  list : {ts us : List Token} {ps qs : List Pair} → Pairs ts ps → Lists us qs
      → Lists (OpenList ∷ ts ++ CloseList ∷ us) (ps ++ qs)

-- ; or nothing
pub data End : List Token → Type 0 where
  nothing : End []
  semicolon : End (Semicolon ∷ [])

-- an optional ID
pub data Name : List Token → Type 0 where
  nothing : Name []
  name : (a : List ℕ) → Name (Id a ∷ [])

-- an optional `subgraph` with an optional ID
pub data Head : List Token → Type 0 where
  nothing : Head []
  subgraph : {name : List Token} → Name name → Head (Subgraph ∷ name)

mutual
  -- a statement in which subgraphs nest at most so deep
  pub data Statement : ℕ → List Token → List Kept → Type 0 where
    node : {n : ℕ} {ts : List Token} {ps : List Pair} (a : List ℕ) → Lists ts ps → Statement n (Id a ∷ ts) (kept_node a ps)
    edge : {n : ℕ} {ts : List Token} {ps : List Pair} (a b : List ℕ) → Lists ts ps
        → Statement n (Id a ∷ Arrow ∷ Id b ∷ ts) (Edge a b ps ∷ [])
    default : {n : ℕ} {ts us : List Token} {ps qs : List Pair} → Pairs ts ps → Lists us qs
        → Statement n (Default ∷ OpenList ∷ ts ++ CloseList ∷ us) []
    set : {n : ℕ} (a b : List ℕ) → Statement n (Id a ∷ Equals ∷ Id b ∷ []) []
    subgraph : {n : ℕ} {head ts : List Token} {ks : List Kept} → Head head → Statements n ts ks
        → Statement (suc n) (head ++ Open ∷ ts ++ Close ∷ []) ks

  -- any number of them, with a ; or nothing behind each
  pub data Statements : ℕ → List Token → List Kept → Type 0 where
    none : {n : ℕ} → Statements n [] []
    some : {n : ℕ} {ts end us : List Token} {ks ls : List Kept} → Statement n ts ks → End end → Statements n us ls
        → Statements n (ts ++ end ++ us) (ks ++ ls)

-- the tokens of a document, and what it keeps
pub data Document : List Token → List Kept → Type 0 where
  document : {name ts : List Token} {ks : List Kept} → Name name → Statements 64 ts ks
      → Document (Digraph ∷ name ++ Open ∷ ts ++ Close ∷ []) ks
