-- What a document keeps, put together.
use Rattle.std.proofs.Common.{◌≡◌, refl, sym, ap, ◌∙◌, List, [], ◌∷◌, ◌++◌, append-nil, append_assoc}
use Rattle.dot_text.specs.Grammar.{Kept, Node, Edge}
use Rattle.dot_text.specs.declared.doc.Doc.{Doc}
use Rattle.dot_text.specs.declared.doc.DocNode.{DocNode}
use Rattle.dot_text.specs.declared.doc.DocEdge.{DocEdge}
use Rattle.dot_text.specs.Documents.{nodes_of, edges_of, keep}

nodes_append : (ks ls : List Kept) → nodes_of (ks ++ ls) ≡ nodes_of ks ++ nodes_of ls
nodes_append [] ls = refl
nodes_append (Node a ps ∷ ks) ls = ap (λ z. record { name = a; pairs = ps } ∷ z) (nodes_append ks ls)
nodes_append (Edge a b ps ∷ ks) ls = nodes_append ks ls

edges_append : (ks ls : List Kept) → edges_of (ks ++ ls) ≡ edges_of ks ++ edges_of ls
edges_append [] ls = refl
edges_append (Node a ps ∷ ks) ls = edges_append ks ls
edges_append (Edge a b ps ∷ ks) ls = ap (λ z. record { source = a; target = b; pairs = ps } ∷ z) (edges_append ks ls)

abbrev pub doc_from : List DocNode → List DocEdge → Doc
doc_from ns es = record { nodes = ns; edges = es }

pub keep_nil : (d : Doc) → keep d [] ≡ d
keep_nil d = ap (λ z. doc_from z (d.edges ++ [])) (append-nil d.nodes) ∙ ap (λ z. doc_from d.nodes z) (append-nil d.edges)

pub keep_append : (d : Doc) (ks ls : List Kept) → keep (keep d ks) ls ≡ keep d (ks ++ ls)
keep_append d ks ls =
    ap (λ z. doc_from z ((d.edges ++ edges_of ks) ++ edges_of ls)) (append_assoc d.nodes (nodes_of ks) (nodes_of ls) ∙ ap (λ z. d.nodes ++ z) (sym (nodes_append ks ls)))
    ∙ ap (λ z. doc_from (d.nodes ++ nodes_of (ks ++ ls)) z) (append_assoc d.edges (edges_of ks) (edges_of ls) ∙ ap (λ z. d.edges ++ z) (sym (edges_append ks ls)))
