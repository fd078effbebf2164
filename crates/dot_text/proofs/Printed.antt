-- Printed documents stand.
use Rattle.std.proofs.Common.{◌≡◌, ℕ, ◌+◌, refl, sym, ap, subst, ◌∙◌, ◌==◌, true, false, ◌&&◌, ◌||◌, List, [], ◌∷◌, ◌++◌, length, drop, codes, bytes_eq, IsUtf8, append-nil, append_assoc, arith, length-append}
use Rattle.std.proofs.lemmas.Bool.{cond-false, cond_both, and_parts, or_parts, not-true, and_from}
use Rattle.std.specs.Prelude.{Option, Some, None, is_none, unwrap_or}
use Rattle.std.specs.List.{AllByRecursion, list_all}
use Rattle.dot_text.specs.Tokens.{Token, Id, Digraph, Open, Close, OpenList, CloseList, Semicolon, Comma, Equals, Arrow, keyword, word_token}
use Rattle.dot_text.specs.Lexical.{is_blank, is_name, Quotes, Quotes.nothing as no_bytes, Quotes.plain, Quotes.quote, Quotes.passed, Spells, Spells.name as bare, Spells.quoted, Spells.arrow, Spells.mark, Skipped.blank, Gap, Gap.none as no_gap, Gap.skip, Lexes, Lexes.none as no_token, Lexes.next}
use Rattle.dot_text.specs.Grammar.{Pair, Kept, Node, Edge, kept_node, PairEnd.nothing as no_mark, PairEnd.comma, Pairs, Pairs.none as no_pair, Pairs.pair, Lists.none as no_list, Lists.list, End.semicolon as end_semicolon, Name.name as a_name, Statement, Statement.node, Statement.edge, Statements, Statements.none as no_statement, Statements.some, Document, Document.document}
use Rattle.dot_text.specs.declared.doc.Doc.{Doc}
use Rattle.dot_text.specs.declared.doc.DocNode.{DocNode}
use Rattle.dot_text.specs.declared.doc.DocEdge.{DocEdge}
use Rattle.dot_text.specs.Documents.{nodes_of, edges_of, Stands}
use Rattle.dot_text.specs.Printing.{escaped, in_quotes, key_text, pair_text, more_pairs, pairs_text, node_line, edge_line, node_lines, edge_lines, printed, CanBeQuoted, PairPrints, NodePrints, EdgePrints, HasPair, DocPrints}
use Rattle.dot_text.proofs.Keeping.{doc_from}
use Rattle.dot_text.proofs.Reading.{past_text}
use Rattle.dot_text.proofs.Prefix.{stands_on}
use Rattle.dot_text.proofs.Seams.{blanks_cut, token_cut}
use Rattle.dot_text.proofs.Cases.{differ}

-- the bytes are these tokens, with blanks before each, and then the rest
pub data Writes : List ℕ → List Token → List ℕ → Type 0 where
  done : {rest : List ℕ} → Writes rest [] rest
  write : (bl text mid : List ℕ) {rest : List ℕ} {t : Token} {ts : List Token} → list_all is_blank bl ≡ true → Spells text mid t → Writes mid ts rest → Writes (bl ++ (text ++ mid)) (t ∷ ts) rest

pub record Led (bytes : List ℕ) (p : ℕ) (ts : List Token) (s rest : List ℕ) : Type 0 where
  pub end : ℕ
  pub lexes : Lexes bytes p ts end
  pub count : end + length rest ≡ p + length s

record Gone (bytes : List ℕ) (p : ℕ) (blanks rest : List ℕ) : Type 0 where
  to : ℕ
  gap : Gap bytes p to
  is : drop to bytes ≡ rest
  count : to ≡ p + length blanks

blanks_gone : (bytes blanks rest : List ℕ) (p : ℕ) → list_all is_blank blanks ≡ true → IsUtf8 (blanks ++ rest) → drop p bytes ≡ blanks ++ rest → Gone bytes p blanks rest
blanks_gone bytes [] rest p h u e = record { to = p; gap = no_gap; is = e; count = omega arith }
blanks_gone bytes (b ∷ bs) rest p h u e =
    let two = and_parts (is_blank b) (list_all is_blank bs) h in
    let (first, more) = blanks_cut (b ∷ []) (bs ++ rest) (and_from (is_blank b) true two.0 refl) u in
    let g : Gone bytes (p + 1) bs rest = blanks_gone bytes bs rest (p + 1) two.1 more (past_text bytes (b ∷ []) (bs ++ rest) p e) in
    record {
      to = g.to;
      gap = skip (record { text = b ∷ []; rest = bs ++ rest; is = e; skipped = blank b two.0; utf8 = first; ends = refl }) g.gap;
      is = g.is;
      count = omega (arith, g.count);
    }

pub writes_lexes : {s rest : List ℕ} {ts : List Token} → Writes s ts rest → IsUtf8 s → (bytes : List ℕ) (p : ℕ) → drop p bytes ≡ s → Led bytes p ts s rest
writes_lexes done u bytes p e = record { end = p; lexes = no_token; count = refl }
writes_lexes (write bl text mid {rest = rest} {t = t} {ts = ts} h sp w) u bytes p e =
    let (before, from) = blanks_cut bl (text ++ mid) h u in
    let (token, behind) = token_cut sp from in
    let g : Gone bytes p bl (text ++ mid) = blanks_gone bytes bl (text ++ mid) p h u e in
    let more : Led bytes (g.to + length text) ts mid rest = writes_lexes w behind bytes (g.to + length text) (past_text bytes text mid g.to g.is) in
    record {
      end = more.end;
      lexes = next g.gap (record { text = text; rest = mid; is = g.is; spells = sp; utf8 = token; ends = refl }) more.lexes;
      count = omega (arith, more.count, g.count, length-append bl (text ++ mid), length-append text mid);
    }

pub NotEmpty : List Token → Type 0
NotEmpty [] = ⊥
NotEmpty (t ∷ ts) = Unit {0}

blank_writes : {s rest : List ℕ} {ts : List Token} (b : ℕ) → is_blank b ≡ true → NotEmpty ts → Writes s ts rest → Writes (b ∷ s) ts rest
unfolding NotEmpty
blank_writes b h n done = absurd n
blank_writes b h n (write bl text mid g sp w) = write (b ∷ bl) text mid (and_from (is_blank b) (list_all is_blank bl) h g) sp w

bytes_as : {s z rest : List ℕ} {ts : List Token} → s ≡ z → Writes s ts rest → Writes z ts rest
bytes_as {rest = rest} {ts = ts} e w = subst (λ v. Writes v ts rest) e w

-- the one way to quote a text
escaped_is : {bs : List ℕ} {v : List ℕ} → Quotes bs v → bs ≡ escaped v
escaped_is no_bytes = refl
escaped_is (plain {v = v} b h q) =
    let n = or_parts (b == 34) (b == 92) (not-true _ h) in
    ap (λ z. b ∷ z) (escaped_is q) ∙ sym (cond-false (b == 34) _ _ n.0)
escaped_is (quote q) = ap (λ z. 92 ∷ 34 ∷ z) (escaped_is q)
escaped_is (passed {v = v} b h q) =
    let n = or_parts (b == 34 || b == 10) (b == 13) (not-true _ h) in
    let m = or_parts (b == 34) (b == 10) n.0 in
    ap (λ z. 92 ∷ b ∷ z) (escaped_is q) ∙ sym (ap (λ z. 92 ∷ z) (cond-false (b == 34) _ _ m.0))

quoted_writes : {mid rest : List ℕ} {ts : List Token} (v : List ℕ) → CanBeQuoted v → Writes mid ts rest → Writes (in_quotes (escaped v) ++ mid) (Id v ∷ ts) rest
quoted_writes {mid = mid} {rest = rest} {ts = ts} v c w =
    subst (λ z. Writes (in_quotes z ++ mid) (Id v ∷ ts) rest) (escaped_is c.quotes) (write [] (in_quotes c.bytes) mid refl (quoted c.quotes) w)

mark_writes : {mid rest : List ℕ} {ts : List Token} {t : Token} (b : ℕ) → Spells (b ∷ []) mid t → Writes mid ts rest → Writes (b ∷ mid) (t ∷ ts) rest
mark_writes {mid = mid} b s w = write [] (b ∷ []) mid refl s w

arrow_writes : {mid rest : List ℕ} {ts : List Token} → Writes mid ts rest → Writes (45 ∷ 62 ∷ mid) (Arrow ∷ ts) rest
arrow_writes {mid = mid} w = write [] (45 ∷ 62 ∷ []) mid refl arrow w

-- a word that is no keyword is an ID
word_id : (w : List ℕ) → is_none (keyword w) ≡ true → word_token w ≡ Id w
word_id w h = by (keyword w) h
  where
    by : (o : Option Token) → is_none o ≡ true → unwrap_or o (Id w) ≡ Id w
    by None h = refl
    by (Some t) h = differ false h refl

key_writes : {mid rest : List ℕ} {ts : List Token} (k : List ℕ) → CanBeQuoted k → Writes (32 ∷ mid) ts rest → Writes (key_text k ++ 32 ∷ mid) (Id k ∷ ts) rest
key_writes {mid = mid} {rest = rest} {ts = ts} k c w =
    cond_both (is_name k && is_none (keyword k)) _ _ (λ z. Writes (z ++ 32 ∷ mid) (Id k ∷ ts) rest)
    (λ h.
    let two = and_parts (is_name k) (is_none (keyword k)) h in
    write [] k (32 ∷ mid) refl (subst (λ t. Spells k (32 ∷ mid) t) (word_id k two.1) (bare k two.0 refl)) w)
    (λ h. quoted_writes k c w)

pair_writes : {mid rest : List ℕ} {ts : List Token} (p : Pair) → PairPrints p → Writes mid ts rest → Writes (pair_text p ++ mid) (Id p.0 ∷ Equals ∷ Id p.1 ∷ ts) rest
unfolding NotEmpty
pair_writes {mid = mid} p h w =
    bytes_as (sym (append_assoc (key_text p.0) (codes " = " ++ in_quotes (escaped p.1)) mid))
    (key_writes p.0 h.key (blank_writes 32 refl tt (mark_writes 61 (mark 61 refl) (blank_writes 32 refl tt (quoted_writes p.1 h.value w)))))

abbrev more_tokens : List Pair → List Token
more_tokens [] = []
more_tokens (p ∷ ps) = Comma ∷ Id p.0 ∷ Equals ∷ Id p.1 ∷ more_tokens ps

abbrev pairs_tokens : List Pair → List Token
pairs_tokens [] = []
pairs_tokens (p ∷ ps) = Id p.0 ∷ Equals ∷ Id p.1 ∷ more_tokens ps

more_writes : {mid rest : List ℕ} {ts : List Token} (ps : List Pair) → AllByRecursion PairPrints ps → Writes mid ts rest → Writes (more_pairs ps ++ mid) (more_tokens ps ++ ts) rest
unfolding NotEmpty
more_writes [] h w = w
more_writes {mid = mid} (p ∷ ps) h w =
    mark_writes 44 (mark 44 refl) (blank_writes 32 refl tt
    (bytes_as (sym (append_assoc (pair_text p) (more_pairs ps) mid)) (pair_writes p h.0 (more_writes ps h.1 w))))

pairs_write : {mid rest : List ℕ} {ts : List Token} (ps : List Pair) → AllByRecursion PairPrints ps → Writes mid ts rest → Writes (pairs_text ps ++ mid) (pairs_tokens ps ++ ts) rest
pairs_write [] h w = w
pairs_write {mid = mid} (p ∷ ps) h w =
    bytes_as (sym (append_assoc (pair_text p) (more_pairs ps) mid)) (pair_writes p h.0 (more_writes ps h.1 w))

pairs_are : (p : Pair) (ps : List Pair) → Pairs (pairs_tokens (p ∷ ps)) (p ∷ ps)
pairs_are p [] = pair p.0 p.1 no_mark no_pair
pairs_are p (q ∷ ps) = pair p.0 p.1 comma (pairs_are q ps)

all_pairs : (ps : List Pair) → Pairs (pairs_tokens ps) ps
all_pairs [] = no_pair
all_pairs (p ∷ ps) = pairs_are p ps

-- what stands behind a statement's ends: a list of pairs, and the end of the line
tail_writes : {mid rest : List ℕ} {ts : List Token} (ps : List Pair) → AllByRecursion PairPrints ps → NotEmpty ts → Writes mid ts rest → Writes (32 ∷ 91 ∷ (pairs_text ps ++ 93 ∷ 59 ∷ 10 ∷ mid)) (OpenList ∷ (pairs_tokens ps ++ CloseList ∷ Semicolon ∷ ts)) rest
unfolding NotEmpty
tail_writes ps h n w =
    blank_writes 32 refl tt (mark_writes 91 (mark 91 refl)
    (pairs_write ps h (mark_writes 93 (mark 93 refl) (mark_writes 59 (mark 59 refl) (blank_writes 10 refl n w)))))

abbrev node_tokens : DocNode → List Token → List Token
node_tokens n ts = Id n.name ∷ OpenList ∷ (pairs_tokens n.pairs ++ CloseList ∷ Semicolon ∷ ts)

abbrev edge_tokens : DocEdge → List Token → List Token
edge_tokens e ts = Id e.source ∷ Arrow ∷ Id e.target ∷ OpenList ∷ (pairs_tokens e.pairs ++ CloseList ∷ Semicolon ∷ ts)

node_writes : {mid rest : List ℕ} {ts : List Token} (n : DocNode) → NodePrints n → NotEmpty ts → Writes mid ts rest → Writes (node_line n ++ mid) (node_tokens n ts) rest
unfolding NotEmpty
node_writes {mid = mid} n h filled w =
    bytes_as (simp append_assoc)
    (blank_writes 32 refl tt (blank_writes 32 refl tt (quoted_writes n.name h.name (tail_writes n.pairs h.pairs filled w))))

edge_writes : {mid rest : List ℕ} {ts : List Token} (e : DocEdge) → EdgePrints e → NotEmpty ts → Writes mid ts rest → Writes (edge_line e ++ mid) (edge_tokens e ts) rest
unfolding NotEmpty
edge_writes {mid = mid} e h filled w =
    bytes_as (simp append_assoc)
    (blank_writes 32 refl tt (blank_writes 32 refl tt (quoted_writes e.source h.source
    (blank_writes 32 refl tt (arrow_writes (blank_writes 32 refl tt (quoted_writes e.target h.target (tail_writes e.pairs h.pairs filled w))))))))

abbrev nodes_tokens : List DocNode → List Token → List Token
nodes_tokens [] ts = ts
nodes_tokens (n ∷ ns) ts = node_tokens n (nodes_tokens ns ts)

abbrev edges_tokens : List DocEdge → List Token → List Token
edges_tokens [] ts = ts
edges_tokens (e ∷ es) ts = edge_tokens e (edges_tokens es ts)

some_nodes : (ns : List DocNode) (ts : List Token) → NotEmpty ts → NotEmpty (nodes_tokens ns ts)
unfolding NotEmpty
some_nodes [] ts h = h
some_nodes (n ∷ ns) ts h = tt

some_edges : (es : List DocEdge) (ts : List Token) → NotEmpty ts → NotEmpty (edges_tokens es ts)
unfolding NotEmpty
some_edges [] ts h = h
some_edges (e ∷ es) ts h = tt

nodes_write : {mid rest : List ℕ} {ts : List Token} (ns : List DocNode) → AllByRecursion NodePrints ns → NotEmpty ts → Writes mid ts rest → Writes (node_lines ns ++ mid) (nodes_tokens ns ts) rest
nodes_write [] h n w = w
nodes_write {mid = mid} {ts = ts} (d ∷ ds) h n w =
    bytes_as (sym (append_assoc (node_line d) (node_lines ds) mid)) (node_writes d h.0 (some_nodes ds ts n) (nodes_write ds h.1 n w))

edges_write : {mid rest : List ℕ} {ts : List Token} (es : List DocEdge) → AllByRecursion EdgePrints es → NotEmpty ts → Writes mid ts rest → Writes (edge_lines es ++ mid) (edges_tokens es ts) rest
edges_write [] h n w = w
edges_write {mid = mid} {ts = ts} (d ∷ ds) h n w =
    bytes_as (sym (append_assoc (edge_line d) (edge_lines ds) mid)) (edge_writes d h.0 (some_edges ds ts n) (edges_write ds h.1 n w))

abbrev nodes_kept : List DocNode → List Kept → List Kept
nodes_kept [] ks = ks
nodes_kept (n ∷ ns) ks = Node n.name n.pairs ∷ nodes_kept ns ks

abbrev edges_kept : List DocEdge → List Kept
edges_kept [] = []
edges_kept (e ∷ es) = Edge e.source e.target e.pairs ∷ edges_kept es

kept_some : (a : List ℕ) (ps : List Pair) → HasPair ps → kept_node a (ps ++ []) ≡ Node a ps ∷ []
kept_some a [] h = absurd h
kept_some a (p ∷ ps) h = ap (λ z. kept_node a z) (append-nil (p ∷ ps))

nodes_stand : (ns : List DocNode) → AllByRecursion NodePrints ns → {us : List Token} {ls : List Kept} → Statements 64 us ls → Statements 64 (nodes_tokens ns us) (nodes_kept ns ls)
nodes_stand [] h r = r
nodes_stand (n ∷ ns) h {us = us} {ls = ls} r =
    let line : Statement 64 (Id n.name ∷ (OpenList ∷ pairs_tokens n.pairs ++ CloseList ∷ [])) (Node n.name n.pairs ∷ []) =
    subst (λ z. Statement 64 (Id n.name ∷ (OpenList ∷ pairs_tokens n.pairs ++ CloseList ∷ [])) z) (kept_some n.name n.pairs h.0.some) (node n.name (list (all_pairs n.pairs) no_list)) in
    subst (λ z. Statements 64 z (Node n.name n.pairs ∷ nodes_kept ns ls)) (simp append_assoc) (some line end_semicolon (nodes_stand ns h.1 r))

edges_stand : (es : List DocEdge) → Statements 64 (edges_tokens es []) (edges_kept es)
edges_stand [] = no_statement
edges_stand (e ∷ es) =
    let line : Statement 64 (Id e.source ∷ Arrow ∷ Id e.target ∷ (OpenList ∷ pairs_tokens e.pairs ++ CloseList ∷ [])) (Edge e.source e.target e.pairs ∷ []) =
    subst (λ z. Statement 64 (Id e.source ∷ Arrow ∷ Id e.target ∷ (OpenList ∷ pairs_tokens e.pairs ++ CloseList ∷ [])) (Edge e.source e.target z ∷ [])) (append-nil e.pairs) (edge e.source e.target (list (all_pairs e.pairs) no_list)) in
    subst (λ z. Statements 64 z (Edge e.source e.target e.pairs ∷ edges_kept es)) (simp append_assoc) (some line end_semicolon (edges_stand es))

nodes_append : (ns : List DocNode) (ts us : List Token) → nodes_tokens ns ts ++ us ≡ nodes_tokens ns (ts ++ us)
nodes_append [] ts us = refl
nodes_append (n ∷ ns) ts us =
    ap (λ z. Id n.name ∷ OpenList ∷ z) (append_assoc (pairs_tokens n.pairs) (CloseList ∷ Semicolon ∷ nodes_tokens ns ts) us
    ∙ ap (λ z. pairs_tokens n.pairs ++ CloseList ∷ Semicolon ∷ z) (nodes_append ns ts us))

edges_append : (es : List DocEdge) (ts us : List Token) → edges_tokens es ts ++ us ≡ edges_tokens es (ts ++ us)
edges_append [] ts us = refl
edges_append (e ∷ es) ts us =
    ap (λ z. Id e.source ∷ Arrow ∷ Id e.target ∷ OpenList ∷ z) (append_assoc (pairs_tokens e.pairs) (CloseList ∷ Semicolon ∷ edges_tokens es ts) us
    ∙ ap (λ z. pairs_tokens e.pairs ++ CloseList ∷ Semicolon ∷ z) (edges_append es ts us))

kept_nodes : (ns : List DocNode) (es : List DocEdge) → nodes_of (nodes_kept ns (edges_kept es)) ≡ ns
kept_nodes [] [] = refl
kept_nodes [] (e ∷ es) = kept_nodes [] es
kept_nodes (n ∷ ns) es = ap (λ z. n ∷ z) (kept_nodes ns es)

kept_edges : (ns : List DocNode) (es : List DocEdge) → edges_of (nodes_kept ns (edges_kept es)) ≡ es
kept_edges [] [] = refl
kept_edges [] (e ∷ es) = ap (λ z. e ∷ z) (kept_edges [] es)
kept_edges (n ∷ ns) es = kept_edges ns es

doc_same : (ns ms : List DocNode) (es fs : List DocEdge) → ns ≡ ms → es ≡ fs → doc_from ns es ≡ doc_from ms fs
doc_same ns ms es fs e f = cc

pub printed_writes : (doc : Doc) → DocPrints doc → Writes (printed doc) (Digraph ∷ Id (codes "G") ∷ Open ∷ nodes_tokens doc.nodes (edges_tokens doc.edges (Close ∷ []))) []
unfolding NotEmpty
printed_writes doc h =
    write [] (codes "digraph") (codes " G {\n" ++ (node_lines doc.nodes ++ (edge_lines doc.edges ++ codes "}"))) refl (bare (codes "digraph") refl refl)
    (write (32 ∷ []) (codes "G") (codes " {\n" ++ (node_lines doc.nodes ++ (edge_lines doc.edges ++ codes "}"))) refl (bare (codes "G") refl refl)
    (blank_writes 32 refl tt (mark_writes 123 (mark 123 refl)
    (blank_writes 10 refl (some_nodes doc.nodes (edges_tokens doc.edges (Close ∷ [])) (some_edges doc.edges (Close ∷ []) tt))
    (nodes_write doc.nodes h.nodes (some_edges doc.edges (Close ∷ []) tt) (edges_write doc.edges h.edges tt (mark_writes 125 (mark 125 refl) done)))))))

pub printed_stands : (doc : Doc) → DocPrints doc → IsUtf8 (printed doc) → Stands (printed doc) 0 doc (length (printed doc))
printed_stands doc h u =
    let led : Led (printed doc) 0 (Digraph ∷ Id (codes "G") ∷ Open ∷ nodes_tokens doc.nodes (edges_tokens doc.edges (Close ∷ []))) (printed doc) [] = writes_lexes (printed_writes doc h) u (printed doc) 0 refl in
    let count : led.end ≡ length (printed doc) = omega (arith, led.count) in
    let tokens : nodes_tokens doc.nodes (edges_tokens doc.edges []) ++ Close ∷ [] ≡ nodes_tokens doc.nodes (edges_tokens doc.edges (Close ∷ [])) =
    nodes_append doc.nodes (edges_tokens doc.edges []) (Close ∷ []) ∙ ap (nodes_tokens doc.nodes) (edges_append doc.edges [] (Close ∷ [])) in
    record {
      tokens = Digraph ∷ Id (codes "G") ∷ Open ∷ nodes_tokens doc.nodes (edges_tokens doc.edges (Close ∷ []));
      kept = nodes_kept doc.nodes (edges_kept doc.edges);
      lexes = subst (λ z. Lexes (printed doc) 0 (Digraph ∷ Id (codes "G") ∷ Open ∷ nodes_tokens doc.nodes (edges_tokens doc.edges (Close ∷ []))) z) count led.lexes;
      document = subst (λ z. Document (Digraph ∷ Id (codes "G") ∷ Open ∷ z) (nodes_kept doc.nodes (edges_kept doc.edges))) tokens (document (a_name (codes "G")) (nodes_stand doc.nodes h.nodes (edges_stand doc.edges)));
      is = sym (doc_same _ _ _ _ (kept_nodes doc.nodes doc.edges) (kept_edges doc.nodes doc.edges));
    }

pub printed_stands_before : (doc : Doc) (after : List ℕ) → DocPrints doc → IsUtf8 (printed doc) → Stands (printed doc ++ after) 0 doc (length (printed doc))
printed_stands_before doc after h u =
    stands_on (printed doc) [] after 0 doc (subst (λ z. Stands z 0 doc (length (printed doc))) (sym (append-nil (printed doc))) (printed_stands doc h u))
