-- The lines of a document whose texts are UTF-8 are UTF-8.
use Rattle.std.proofs.Common.{◌≡◌, ℕ, ◌<◌, refl, sym, subst, ◌==◌, ◌&&◌, nat_le, true, List, [], ◌∷◌, ◌++◌, codes, IsUtf8, append_assoc, arith, eqb-true}
use Rattle.std.proofs.lemmas.Bool.{cond_both, and_parts}
use Rattle.std.proofs.lemmas.Bool.Decides.{nat_tests}
use Rattle.std.proofs.lemmas.Str.{IsUtf8-append, IsUtf8-nil, IsUtf8-from_ascii}
use Rattle.std.proofs.lemmas.Str.Ascii.{IsAscii-cons, IsAscii-nil}
use Rattle.std.specs.List.{AllByRecursion, list_all}
use Rattle.std.specs.Prelude.{is_none}
use Rattle.dot_text.specs.Tokens.{keyword}
use Rattle.dot_text.specs.Lexical.{is_name}
use Rattle.dot_text.specs.Grammar.{Pair}
use Rattle.dot_text.specs.declared.doc.Doc.{Doc}
use Rattle.dot_text.specs.declared.doc.DocNode.{DocNode}
use Rattle.dot_text.specs.declared.doc.DocEdge.{DocEdge}
use Rattle.dot_text.specs.Printing.{escaped, in_quotes, key_text, pair_text, more_pairs, pairs_text, node_line, edge_line, node_lines, edge_lines, printed}
use Rattle.dot_text.specs.Texts.{PairTexts, NodeTexts, EdgeTexts, DocTexts}
use Rattle.dot_text.proofs.Seams.{cut_before}

one_byte : (b : ℕ) → b < 128 → IsUtf8 (b ∷ [])
one_byte b h = IsUtf8-from_ascii (b ∷ []) (IsAscii-cons b [] h IsAscii-nil)

behind_byte : (b : ℕ) (rest : List ℕ) → b < 128 → IsUtf8 rest → IsUtf8 (b ∷ rest)
behind_byte b rest h u = IsUtf8-append (b ∷ []) rest (one_byte b h) u

low : (b : ℕ) → nat_le b 127 ≡ true → b < 128
low b h = grind (arith, nat_tests)

ascii : (bs : List ℕ) → list_all (λ b. nat_le b 127) bs ≡ true → IsUtf8 bs
ascii [] h = IsUtf8-nil
ascii (b ∷ bs) h = let two = and_parts (nat_le b 127) (list_all (λ c. nat_le c 127) bs) h in behind_byte b bs (low b two.0) (ascii bs two.1)

-- a backslash may stand before each double quote
escaped_behind : (front bs : List ℕ) → IsUtf8 (front ++ bs) → IsUtf8 (front ++ escaped bs)
escaped_behind front [] u = u
escaped_behind front (b ∷ bs) u =
    cond_both (b == 34) _ _ (λ z. IsUtf8 (front ++ z))
    (λ quote.
    let small : b < 128 = omega (arith, eqb-true b 34 quote) in
    let cut : IsUtf8 front × IsUtf8 (b ∷ bs) = cut_before front b bs small u in
    IsUtf8-append front (92 ∷ b ∷ escaped bs) cut.0 (behind_byte 92 (b ∷ escaped bs) (omega arith) (escaped_behind (b ∷ []) bs cut.1)))
    (λ other. subst IsUtf8 (append_assoc front (b ∷ []) (escaped bs)) (escaped_behind (front ++ b ∷ []) bs (subst IsUtf8 (sym (append_assoc front (b ∷ []) bs)) u)))

quoted_utf8 : (v : List ℕ) → IsUtf8 v → IsUtf8 (in_quotes (escaped v))
quoted_utf8 v u =
    let quote : IsUtf8 (34 ∷ []) = one_byte 34 (omega arith) in
    IsUtf8-append (34 ∷ []) (escaped v ++ 34 ∷ []) quote (IsUtf8-append (escaped v) (34 ∷ []) (escaped_behind [] v u) quote)

key_utf8 : (k : List ℕ) → IsUtf8 k → IsUtf8 (key_text k)
key_utf8 k u = cond_both (is_name k && is_none (keyword k)) _ _ IsUtf8 (λ bare. u) (λ quoted. quoted_utf8 k u)

pair_utf8 : (p : Pair) → PairTexts IsUtf8 p → IsUtf8 (pair_text p)
pair_utf8 p h =
    IsUtf8-append (key_text p.0) (codes " = " ++ in_quotes (escaped p.1)) (key_utf8 p.0 h.0)
    (IsUtf8-append (codes " = ") (in_quotes (escaped p.1)) (ascii (codes " = ") refl) (quoted_utf8 p.1 h.1))

more_utf8 : (ps : List Pair) → AllByRecursion (PairTexts IsUtf8) ps → IsUtf8 (more_pairs ps)
more_utf8 [] h = IsUtf8-nil
more_utf8 (p ∷ ps) h =
    IsUtf8-append (codes ", ") (pair_text p ++ more_pairs ps) (ascii (codes ", ") refl)
    (IsUtf8-append (pair_text p) (more_pairs ps) (pair_utf8 p h.0) (more_utf8 ps h.1))

pairs_utf8 : (ps : List Pair) → AllByRecursion (PairTexts IsUtf8) ps → IsUtf8 (pairs_text ps)
pairs_utf8 [] h = IsUtf8-nil
pairs_utf8 (p ∷ ps) h = IsUtf8-append (pair_text p) (more_pairs ps) (pair_utf8 p h.0) (more_utf8 ps h.1)

-- pairs in brackets, and the end of the line
tail_utf8 : (ps : List Pair) → AllByRecursion (PairTexts IsUtf8) ps → IsUtf8 (codes " [" ++ (pairs_text ps ++ codes "];\n"))
tail_utf8 ps h =
    IsUtf8-append (codes " [") (pairs_text ps ++ codes "];\n") (ascii (codes " [") refl)
    (IsUtf8-append (pairs_text ps) (codes "];\n") (pairs_utf8 ps h) (ascii (codes "];\n") refl))

node_utf8 : (n : DocNode) → NodeTexts IsUtf8 n → IsUtf8 (node_line n)
node_utf8 n h =
    IsUtf8-append (codes "  ") (in_quotes (escaped n.name) ++ (codes " [" ++ (pairs_text n.pairs ++ codes "];\n"))) (ascii (codes "  ") refl)
    (IsUtf8-append (in_quotes (escaped n.name)) (codes " [" ++ (pairs_text n.pairs ++ codes "];\n")) (quoted_utf8 n.name h.0) (tail_utf8 n.pairs h.1))

edge_utf8 : (e : DocEdge) → EdgeTexts IsUtf8 e → IsUtf8 (edge_line e)
edge_utf8 e h =
    let last = codes " [" ++ (pairs_text e.pairs ++ codes "];\n") in
    IsUtf8-append (codes "  ") (in_quotes (escaped e.source) ++ (codes " -> " ++ (in_quotes (escaped e.target) ++ last))) (ascii (codes "  ") refl)
    (IsUtf8-append (in_quotes (escaped e.source)) (codes " -> " ++ (in_quotes (escaped e.target) ++ last)) (quoted_utf8 e.source h.0)
    (IsUtf8-append (codes " -> ") (in_quotes (escaped e.target) ++ last) (ascii (codes " -> ") refl)
    (IsUtf8-append (in_quotes (escaped e.target)) last (quoted_utf8 e.target h.1) (tail_utf8 e.pairs h.2))))

nodes_utf8 : (ns : List DocNode) → AllByRecursion (NodeTexts IsUtf8) ns → IsUtf8 (node_lines ns)
nodes_utf8 [] h = IsUtf8-nil
nodes_utf8 (n ∷ ns) h = IsUtf8-append (node_line n) (node_lines ns) (node_utf8 n h.0) (nodes_utf8 ns h.1)

edges_utf8 : (es : List DocEdge) → AllByRecursion (EdgeTexts IsUtf8) es → IsUtf8 (edge_lines es)
edges_utf8 [] h = IsUtf8-nil
edges_utf8 (e ∷ es) h = IsUtf8-append (edge_line e) (edge_lines es) (edge_utf8 e h.0) (edges_utf8 es h.1)

pub printed_utf8 : (doc : Doc) → DocTexts IsUtf8 doc → IsUtf8 (printed doc)
printed_utf8 doc h =
    IsUtf8-append (codes "digraph G {\n") (node_lines doc.nodes ++ (edge_lines doc.edges ++ codes "}")) (ascii (codes "digraph G {\n") refl)
    (IsUtf8-append (node_lines doc.nodes) (edge_lines doc.edges ++ codes "}") (nodes_utf8 doc.nodes h.0)
    (IsUtf8-append (edge_lines doc.edges) (codes "}") (edges_utf8 doc.edges h.1) (ascii (codes "}") refl)))
