-- The texts of a document that stands: each is what an ID stands for.
use Rattle.std.proofs.Common.{◌≡◌, ℕ, refl, sym, subst, ◌==◌, Bool, true, false, if◌then◌else◌, List, [], ◌∷◌, ◌++◌, Some, None, codes, bytes_eq, IsUtf8, append_assoc, append-nil, arith, eqb-true}
use Rattle.std.proofs.lemmas.Bool.{cond_both, and_parts, and_from}
use Rattle.std.proofs.lemmas.Bool.Decides.{nat_tests}
use Rattle.std.specs.Str.{str_to_ascii_lowercase}
use Rattle.std.specs.List.{AllByRecursion, list_all}
use Rattle.dot_text.specs.Tokens.{Token, Id, Open, Close, CloseList}
use Rattle.dot_text.proofs.Cases.{words, marks}
use Rattle.dot_text.specs.Lexical.{is_plain, is_in_name, is_by_numeral, begins_name, is_name, is_numeral, is_unsigned, mark_token, Quotes, Quotes.nothing as no_bytes, Quotes.plain, Quotes.quote, Quotes.passed, Spells, Spells.name as bare, Spells.numeral, Spells.quoted, Spells.arrow, Spells.mark, Lexes, Lexes.none as no_token, Lexes.next}
use Rattle.dot_text.specs.Grammar.{Pair, Kept, Node, Edge, kept_node, Pairs, Pairs.none as no_pair, Pairs.pair, Lists, Lists.none as no_list, Lists.list, Statement, Statement.node, Statement.edge, Statement.default, Statement.set, Statement.subgraph, Statements, Statements.none as no_statement, Statements.some, Document, Document.document}
use Rattle.dot_text.specs.declared.doc.Doc.{Doc}
use Rattle.dot_text.specs.declared.doc.DocNode.{DocNode}
use Rattle.dot_text.specs.declared.doc.DocEdge.{DocEdge}
use Rattle.dot_text.specs.Documents.{nodes_of, edges_of, doc_of, Stands}
use Rattle.dot_text.specs.Printing.{CanBeQuoted, PairPrints, NodePrints, EdgePrints, HasPair, DocPrints}
use Rattle.dot_text.specs.Texts.{PairTexts, NodeTexts, EdgeTexts, DocTexts}
use Rattle.dot_text.proofs.Scanned.{unsigned_all}
use Rattle.dot_text.proofs.Quoted.{without_ascii}

-- ---- lists of which each item is so

each_append : {A : Type 0} (P : A → Type 0) (xs ys : List A) → AllByRecursion P xs → AllByRecursion P ys → AllByRecursion P (xs ++ ys)
each_append P [] ys h k = k
each_append P (x ∷ xs) ys h k = (h.0, each_append P xs ys h.1 k)

each_front : {A : Type 0} (P : A → Type 0) (xs ys : List A) → AllByRecursion P (xs ++ ys) → AllByRecursion P xs
each_front P [] ys h = tt
each_front P (x ∷ xs) ys h = (h.0, each_front P xs ys h.1)

each_back : {A : Type 0} (P : A → Type 0) (xs ys : List A) → AllByRecursion P (xs ++ ys) → AllByRecursion P ys
each_back P [] ys h = h
each_back P (x ∷ xs) ys h = each_back P xs ys h.1

each_map : {A : Type 0} (P Q : A → Type 0) → ((x : A) → P x → Q x) → (xs : List A) → AllByRecursion P xs → AllByRecursion Q xs
each_map P Q f [] h = tt
each_map P Q f (x ∷ xs) h = (f x h.0, each_map P Q f xs h.1)

-- ---- what holds of each ID holds of each text that is kept

module _ (P : List ℕ → Type 0) where
  abbrev pub OfToken : Token → Type 0
  OfToken (Id v) = P v
  OfToken t = Unit {0}

  abbrev pub Ids : List Token → Type 0
  Ids ts = AllByRecursion OfToken ts

  abbrev OfKept : Kept → Type 0
  OfKept (Node a ps) = P a × AllByRecursion (PairTexts P) ps × HasPair ps
  OfKept (Edge a b ps) = P a × P b × AllByRecursion (PairTexts P) ps

  pairs_texts : {ts : List Token} {ps : List Pair} → Pairs ts ps → Ids ts → AllByRecursion (PairTexts P) ps
  pairs_texts no_pair h = tt
  pairs_texts (pair {end = end} {ts = ts} k v e p) h = ((h.0, h.1.1.0), pairs_texts p (each_back OfToken end ts h.1.1.1))

  lists_texts : {ts : List Token} {ps : List Pair} → Lists ts ps → Ids ts → AllByRecursion (PairTexts P) ps
  lists_texts no_list h = tt
  lists_texts (list {ts = ts} {us = us} {ps = ps} {qs = qs} p l) h =
      each_append (PairTexts P) ps qs (pairs_texts p (each_front OfToken ts (CloseList ∷ us) h.1)) (lists_texts l (each_back OfToken ts (CloseList ∷ us) h.1).1)

  node_kept : (a : List ℕ) (ps : List Pair) → P a → AllByRecursion (PairTexts P) ps → AllByRecursion OfKept (kept_node a ps)
  node_kept a [] h k = tt
  node_kept a (p ∷ ps) h k = ((h, k, tt), tt)

  mutual
    statement_texts : {n : ℕ} {ts : List Token} {ks : List Kept} → Statement n ts ks → Ids ts → AllByRecursion OfKept ks
    statement_texts (node {ps = ps} a l) h = node_kept a ps h.0 (lists_texts l h.1)
    statement_texts (edge a b l) h = ((h.0, h.1.1.0, lists_texts l h.1.1.1), tt)
    statement_texts (default p l) h = tt
    statement_texts (set a b) h = tt
    statement_texts (subgraph {head = head} {ts = ts} e s) h =
        statements_texts s (each_back OfToken head (Open ∷ ts) (each_front OfToken (head ++ Open ∷ ts) (Close ∷ []) h)).1

    statements_texts : {n : ℕ} {ts : List Token} {ks : List Kept} → Statements n ts ks → Ids ts → AllByRecursion OfKept ks
    statements_texts no_statement h = tt
    statements_texts (some {ts = ts} {end = end} {us = us} {ks = ks} {ls = ls} s e r) h =
        each_append OfKept ks ls (statement_texts s (each_front OfToken ts end (each_front OfToken (ts ++ end) us h))) (statements_texts r (each_back OfToken (ts ++ end) us h))

  document_texts : {ts : List Token} {ks : List Kept} → Document ts ks → Ids ts → AllByRecursion OfKept ks
  document_texts (document {name = name} {ts = ts} n s) h =
      statements_texts s (each_back OfToken name (Open ∷ ts) (each_front OfToken (name ++ Open ∷ ts) (Close ∷ []) h.1)).1

  abbrev OfNode : DocNode → Type 0
  OfNode n = NodeTexts P n × HasPair n.pairs

  nodes_kept : (ks : List Kept) → AllByRecursion OfKept ks → AllByRecursion OfNode (nodes_of ks)
  nodes_kept [] h = tt
  nodes_kept (Node a ps ∷ ks) h = (((h.0.0, h.0.1), h.0.2), nodes_kept ks h.1)
  nodes_kept (Edge a b ps ∷ ks) h = nodes_kept ks h.1

  edges_kept : (ks : List Kept) → AllByRecursion OfKept ks → AllByRecursion (EdgeTexts P) (edges_of ks)
  edges_kept [] h = tt
  edges_kept (Node a ps ∷ ks) h = edges_kept ks h.1
  edges_kept (Edge a b ps ∷ ks) h = (h.0, edges_kept ks h.1)

  abbrev pub OfDocument : Doc → Type 0
  OfDocument doc = AllByRecursion OfNode doc.nodes × AllByRecursion (EdgeTexts P) doc.edges

  pub kept_texts : {ts : List Token} (ks : List Kept) → Document ts ks → Ids ts → OfDocument (doc_of ks)
  kept_texts ks d h = let texts = document_texts d h in (nodes_kept ks texts, edges_kept ks texts)

-- ---- what an ID stands for can be quoted, and is UTF-8

record Written (v : List ℕ) : Type 0 where
  quoted : CanBeQuoted v
  utf8 : IsUtf8 v

plain_quotes : (w : List ℕ) → list_all is_plain w ≡ true → Quotes w w
plain_quotes [] h = no_bytes
plain_quotes (b ∷ w) h = let two = and_parts (is_plain b) (list_all is_plain w) h in plain b two.0 (plain_quotes w two.1)

name_byte : (b : ℕ) → is_in_name b ≡ true → is_plain b ≡ true
name_byte b h = grind (arith, nat_tests)

first_byte : (b : ℕ) → begins_name b ≡ true → is_plain b ≡ true
first_byte b h = grind (arith, nat_tests)

numeral_byte : (b : ℕ) → is_by_numeral b ≡ true → is_plain b ≡ true
numeral_byte b h = grind (arith, nat_tests)

all_plain : (test : ℕ → Bool) → ((b : ℕ) → test b ≡ true → is_plain b ≡ true) → (w : List ℕ) → list_all test w ≡ true → list_all is_plain w ≡ true
all_plain test each [] h = refl
all_plain test each (b ∷ w) h =
    let two = and_parts (test b) (list_all test w) h in
    and_from (is_plain b) (list_all is_plain w) (each b two.0) (all_plain test each w two.1)

name_plain : (w : List ℕ) → is_name w ≡ true → list_all is_plain w ≡ true
name_plain [] h = refl
name_plain (b ∷ w) h =
    let two = and_parts (begins_name b) (list_all is_in_name w) h in
    and_from (is_plain b) (list_all is_plain w) (first_byte b two.0) (all_plain is_in_name name_byte w two.1)

numeral_plain : (w : List ℕ) → is_numeral w ≡ true → list_all is_plain w ≡ true
numeral_plain [] h = refl
numeral_plain (b ∷ w) h = by (b == 45) refl h
  where
    by : (r : Bool) → (b == 45) ≡ r → (if r then is_unsigned false w else is_unsigned false (b ∷ w)) ≡ true → list_all is_plain (b ∷ w) ≡ true
    by true sign u = and_from (is_plain b) (list_all is_plain w) (subst (λ z. is_plain z ≡ true) (sym (eqb-true b 45 sign)) refl) (all_plain is_by_numeral numeral_byte w (unsigned_all false w u))
    by false sign u = all_plain is_by_numeral numeral_byte (b ∷ w) (unsigned_all false (b ∷ w) u)

-- the value of a quoted text is UTF-8 where the text is, whatever stands on both sides
value_utf8 : {bs : List ℕ} {v : List ℕ} → Quotes bs v → (front behind : List ℕ) → IsUtf8 (front ++ (bs ++ behind)) → IsUtf8 (front ++ (v ++ behind))
value_utf8 no_bytes front behind u = u
value_utf8 (plain {bs = bs} {v = v} b h q) front behind u =
    subst IsUtf8 (append_assoc front (b ∷ []) (v ++ behind)) (value_utf8 q (front ++ b ∷ []) behind (subst IsUtf8 (sym (append_assoc front (b ∷ []) (bs ++ behind))) u))
value_utf8 (quote {bs = bs} {v = v} q) front behind u =
    subst IsUtf8 (append_assoc front (34 ∷ []) (v ++ behind))
    (value_utf8 q (front ++ 34 ∷ []) behind (subst IsUtf8 (sym (append_assoc front (34 ∷ []) (bs ++ behind))) (without_ascii front (34 ∷ (bs ++ behind)) 92 (omega arith) u)))
value_utf8 (passed {bs = bs} {v = v} b h q) front behind u =
    subst IsUtf8 (append_assoc front (92 ∷ b ∷ []) (v ++ behind)) (value_utf8 q (front ++ 92 ∷ b ∷ []) behind (subst IsUtf8 (sym (append_assoc front (92 ∷ b ∷ []) (bs ++ behind))) u))

quoted_written : {bs : List ℕ} {v : List ℕ} → Quotes bs v → IsUtf8 (34 ∷ (bs ++ 34 ∷ [])) → Written v
quoted_written {bs = bs} {v = v} q u =
    let inner : IsUtf8 (34 ∷ (v ++ 34 ∷ [])) = value_utf8 q (34 ∷ []) (34 ∷ []) u in
    let ended : IsUtf8 (v ++ 34 ∷ []) = without_ascii [] (v ++ 34 ∷ []) 34 (omega arith) inner in
    record { quoted = record { bytes = bs; quotes = q }; utf8 = subst IsUtf8 (append-nil v) (without_ascii v [] 34 (omega arith) ended) }

plain_written : (w : List ℕ) → list_all is_plain w ≡ true → IsUtf8 w → Written w
plain_written w h u = record { quoted = record { bytes = w; quotes = plain_quotes w h }; utf8 = u }

token_written : {text rest : List ℕ} {t : Token} → Spells text rest t → IsUtf8 text → OfToken Written t
token_written (bare w h s) u = words (OfToken Written) w tt tt tt tt (plain_written w (name_plain w h) u)
token_written (numeral w h s) u = plain_written w (numeral_plain w h) u
token_written (quoted q) u = quoted_written q u
token_written arrow u = tt
token_written (mark {t = t} b e) u = marks (λ b t. OfToken Written t) tt tt tt tt tt tt tt b t e

lexes_written : {bytes : List ℕ} {p s : ℕ} {ts : List Token} → Lexes bytes p ts s → Ids Written ts
lexes_written no_token = tt
lexes_written (next g a l) = (token_written a.spells a.utf8, lexes_written l)

stands_written : (bytes : List ℕ) (from : ℕ) (doc : Doc) (to : ℕ) → Stands bytes from doc to → OfDocument Written doc
stands_written bytes from doc to st = subst (OfDocument Written) (sym st.is) (kept_texts Written st.kept st.document (lexes_written st.lexes))

-- ---- in the words of the laws

pair_prints : (p : Pair) → PairTexts Written p → PairPrints p
pair_prints p h = record { key = h.0.quoted; value = h.1.quoted }

node_prints : (n : DocNode) → NodeTexts Written n × HasPair n.pairs → NodePrints n
node_prints n h = record { name = h.0.0.quoted; pairs = each_map (PairTexts Written) PairPrints pair_prints n.pairs h.0.1; some = h.1 }

edge_prints : (e : DocEdge) → EdgeTexts Written e → EdgePrints e
edge_prints e h = record { source = h.0.quoted; target = h.1.quoted; pairs = each_map (PairTexts Written) PairPrints pair_prints e.pairs h.2 }

pair_utf8 : (p : Pair) → PairTexts Written p → PairTexts IsUtf8 p
pair_utf8 p h = (h.0.utf8, h.1.utf8)

node_utf8 : (n : DocNode) → NodeTexts Written n × HasPair n.pairs → NodeTexts IsUtf8 n
node_utf8 n h = (h.0.0.utf8, each_map (PairTexts Written) (PairTexts IsUtf8) pair_utf8 n.pairs h.0.1)

edge_utf8 : (e : DocEdge) → EdgeTexts Written e → EdgeTexts IsUtf8 e
edge_utf8 e h = (h.0.utf8, h.1.utf8, each_map (PairTexts Written) (PairTexts IsUtf8) pair_utf8 e.pairs h.2)

pub stands_prints : (bytes : List ℕ) (from : ℕ) (doc : Doc) (to : ℕ) → Stands bytes from doc to → DocPrints doc
stands_prints bytes from doc to st =
    let texts = stands_written bytes from doc to st in
    record { nodes = each_map (OfNode Written) NodePrints node_prints doc.nodes texts.0; edges = each_map (EdgeTexts Written) EdgePrints edge_prints doc.edges texts.1 }

pub stands_texts_utf8 : (bytes : List ℕ) (from : ℕ) (doc : Doc) (to : ℕ) → Stands bytes from doc to → DocTexts IsUtf8 doc
stands_texts_utf8 bytes from doc to st =
    let texts = stands_written bytes from doc to st in
    (each_map (OfNode Written) (NodeTexts IsUtf8) node_utf8 doc.nodes texts.0, each_map (EdgeTexts Written) (EdgeTexts IsUtf8) edge_utf8 doc.edges texts.1)
