-- The machine takes the tokens of each document.
use Rattle.std.proofs.Common.{◌≡◌, ℕ, suc, refl, sym, ap, ◌∙◌, List, [], ◌∷◌, ◌++◌, Option, Some, None, append-nil, append_assoc}
use Rattle.dot_text.specs.Tokens.{Token, Id, Subgraph, Default, Open, Close, OpenList, CloseList, Semicolon, Equals, Arrow}
use Rattle.dot_text.specs.Grammar.{Pair, Kept, PairEnd.nothing as no_mark, PairEnd.comma, PairEnd.semicolon as pair_semicolon, Pairs, Pairs.none as no_pair, Pairs.pair, Lists, Lists.none as no_list, Lists.list, End, End.nothing as no_end, End.semicolon as end_semicolon, Name.nothing as no_name, Name.name as a_name, Head.nothing as no_head, Head.subgraph as subgraph_head, Statement, Statement.node, Statement.edge, Statement.default, Statement.set, Statement.subgraph, Statements, Statements.none as no_statement, Statements.some, Document, Document.document}
use Rattle.dot_text.specs.declared.doc.Doc.{Doc}
use Rattle.dot_text.specs.Documents.{doc_of, keep}
use Rattle.dot_text.proofs.Keeping.{keep_nil, keep_append}
use Rattle.dot_text.specs.Machine.{Owner, OfNode, OfEdge, OfDefault, State, Begin, Ready, Ended, Identified, Listed, Inside, Paired, Whole, kept_of, ready, step, run}

run_none : (ts : List Token) → run None ts ≡ None
run_none [] = refl
run_none (t ∷ ts) = refl

pub run_append : (o : Option State) (ts us : List Token) → run o (ts ++ us) ≡ run (run o ts) us
run_append o [] us = refl
run_append None (t ∷ ts) us = sym (run_none us)
run_append (Some s) (t ∷ ts) us = run_append (step s t) ts us

-- what may stand behind a statement
pub Follows : List Token → Type 0
Follows [] = ⊥
Follows (Arrow ∷ ts) = ⊥
Follows (Equals ∷ ts) = ⊥
Follows (OpenList ∷ ts) = ⊥
Follows (t ∷ ts) = Unit {0}

-- a statement or a }
pub Starts : List Token → Type 0
Starts [] = ⊥
Starts (Id a ∷ ts) = Unit {0}
Starts (Default ∷ ts) = Unit {0}
Starts (Subgraph ∷ ts) = Unit {0}
Starts (Open ∷ ts) = Unit {0}
Starts (Close ∷ ts) = Unit {0}
Starts (t ∷ ts) = ⊥

starts_follow : (ts : List Token) → Starts ts → Follows ts
unfolding Starts Follows
starts_follow [] h = h
starts_follow (Id a ∷ ts) h = tt
starts_follow (Default ∷ ts) h = tt
starts_follow (Subgraph ∷ ts) h = tt
starts_follow (Open ∷ ts) h = tt
starts_follow (Close ∷ ts) h = tt
starts_follow (t ∷ ts) h = absurd h

ended_ready : (l k : ℕ) (d : Doc) (ts : List Token) → Starts ts → run (Some (Ended l k d)) ts ≡ run (Some (Ready l k d)) ts
unfolding Starts
ended_ready l k d [] h = absurd h
ended_ready l k d (Semicolon ∷ ts) h = absurd h
ended_ready l k d (t ∷ ts) h = refl

listed_ended : (l k : ℕ) (d : Doc) (o : Owner) (ps : List Pair) (ts : List Token) → Follows ts → run (Some (Listed l k d o ps)) ts ≡ run (Some (Ended l k (keep d (kept_of o ps)))) ts
unfolding Follows
listed_ended l k d o ps [] h = absurd h
listed_ended l k d o ps (OpenList ∷ ts) h = absurd h
listed_ended l k d o ps (t ∷ ts) h = refl

identified_listed : (l k : ℕ) (d : Doc) (a : List ℕ) (ts : List Token) → Follows ts → run (Some (Identified l k d a)) ts ≡ run (Some (Listed l k d (OfNode a) [])) ts
unfolding Follows
identified_listed l k d a [] h = absurd h
identified_listed l k d a (Arrow ∷ ts) h = absurd h
identified_listed l k d a (Equals ∷ ts) h = absurd h
identified_listed l k d a (t ∷ ts) h = refl

paired_inside : {ts : List Token} {ps : List Pair} → Pairs ts ps → (l k : ℕ) (d : Doc) (o : Owner) (qs : List Pair) (more : List Token) → run (Some (Paired l k d o qs)) (ts ++ CloseList ∷ more) ≡ run (Some (Inside l k d o qs)) (ts ++ CloseList ∷ more)
paired_inside no_pair l k d o qs more = refl
paired_inside (pair a b e p) l k d o qs more = refl

pub pairs_run : {ts : List Token} {ps : List Pair} → Pairs ts ps → (l k : ℕ) (d : Doc) (o : Owner) (qs : List Pair) (more : List Token) → run (Some (Inside l k d o qs)) (ts ++ CloseList ∷ more) ≡ run (Some (Listed l k d o (qs ++ ps))) more
pairs_run no_pair l k d o qs more = ap (λ z. run (Some (Listed l k d o z)) more) (sym (append-nil qs))
pairs_run (pair {ps = ps} a b no_mark p) l k d o qs more =
    let at : List Pair = qs ++ (a, b) ∷ [] in
    paired_inside p l k d o at more ∙ pairs_run p l k d o at more
    ∙ ap (λ z. run (Some (Listed l k d o z)) more) (append_assoc qs ((a, b) ∷ []) ps)
pairs_run (pair {ps = ps} a b comma p) l k d o qs more =
    pairs_run p l k d o (qs ++ (a, b) ∷ []) more
    ∙ ap (λ z. run (Some (Listed l k d o z)) more) (append_assoc qs ((a, b) ∷ []) ps)
pairs_run (pair {ps = ps} a b pair_semicolon p) l k d o qs more =
    pairs_run p l k d o (qs ++ (a, b) ∷ []) more
    ∙ ap (λ z. run (Some (Listed l k d o z)) more) (append_assoc qs ((a, b) ∷ []) ps)

pub lists_run : {ts : List Token} {ps : List Pair} → Lists ts ps → (l k : ℕ) (d : Doc) (o : Owner) (qs : List Pair) (more : List Token) → run (Some (Listed l k d o qs)) (ts ++ more) ≡ run (Some (Listed l k d o (qs ++ ps))) more
lists_run no_list l k d o qs more = ap (λ z. run (Some (Listed l k d o z)) more) (sym (append-nil qs))
lists_run (list {ts = ts} {us = us} {ps = ps} {qs = rs} p q) l k d o qs more =
    ap (λ z. run (Some (Inside l k d o qs)) z) (append_assoc ts (CloseList ∷ us) more)
    ∙ pairs_run p l k d o qs (us ++ more)
    ∙ lists_run q l k d o (qs ++ ps) more
    ∙ ap (λ z. run (Some (Listed l k d o z)) more) (append_assoc qs ps rs)

identified_lists : {ts : List Token} {ps : List Pair} → Lists ts ps → (l k : ℕ) (d : Doc) (a : List ℕ) (more : List Token) → Follows more → run (Some (Identified l k d a)) (ts ++ more) ≡ run (Some (Ended l k (keep d (kept_of (OfNode a) ps)))) more
identified_lists no_list l k d a more f = identified_listed l k d a more f ∙ listed_ended l k d (OfNode a) [] more f
identified_lists (list {ps = ps} {qs = rs} p q) l k d a more f = lists_run (list p q) l k d (OfNode a) [] more ∙ listed_ended l k d (OfNode a) (ps ++ rs) more f

starts : {n : ℕ} {ts : List Token} {ks : List Kept} → Statement n ts ks → (more : List Token) → Starts (ts ++ more)
unfolding Starts
starts (node a p) more = tt
starts (edge a b p) more = tt
starts (default p q) more = tt
starts (set a b) more = tt
starts (subgraph no_head s) more = tt
starts (subgraph (subgraph_head n) s) more = tt

all_start : {n : ℕ} {ts : List Token} {ks : List Kept} → Statements n ts ks → (more : List Token) → Starts (ts ++ Close ∷ more)
unfolding Starts
all_start no_statement more = tt
all_start (some {ts = ts} {end = end} {us = us} s e r) more = rw append_assoc (rw append_assoc (starts s (end ++ (us ++ Close ∷ more))))

-- behind the end of a statement
end_run : {end : List Token} → End end → (l k : ℕ) (d : Doc) (ts : List Token) → Starts ts → run (Some (Ended l k d)) (end ++ ts) ≡ run (Some (Ready l k d)) ts
end_run no_end l k d ts h = ended_ready l k d ts h
end_run end_semicolon l k d ts h = refl

end_follows : {end : List Token} → End end → (ts : List Token) → Starts ts → Follows (end ++ ts)
unfolding Follows
end_follows no_end ts h = starts_follow ts h
end_follows end_semicolon ts h = tt

mutual
  pub statement_run : {n : ℕ} {ts : List Token} {ks : List Kept} → Statement n ts ks → (k : ℕ) (d : Doc) (more : List Token) → Follows more → run (Some (Ready n k d)) (ts ++ more) ≡ run (Some (Ended n k (keep d ks))) more
  statement_run (node {n = n} a p) k d more f = identified_lists p n k d a more f
  statement_run (edge {n = n} {ps = ps} a b p) k d more f = lists_run p n k d (OfEdge a b) [] more ∙ listed_ended n k d (OfEdge a b) ps more f
  statement_run (default {n = n} {ts = ts} {us = us} {ps = ps} {qs = qs} p q) k d more f =
      ap (λ z. run (Some (Inside n k d OfDefault [])) z) (append_assoc ts (CloseList ∷ us) more)
      ∙ pairs_run p n k d OfDefault [] (us ++ more)
      ∙ lists_run q n k d OfDefault ps more
      ∙ listed_ended n k d OfDefault (ps ++ qs) more f
  statement_run (set {n = n} a b) k d more f = ap (λ z. run (Some (Ended n k z)) more) (sym (keep_nil d))
  statement_run (subgraph {n = n} {ts = ts} no_head s) k d more f =
      ap (λ z. run (Some (Ready n (suc k) d)) z) (append_assoc ts (Close ∷ []) more) ∙ statements_run s (suc k) d more
  statement_run (subgraph {n = n} {ts = ts} (subgraph_head no_name) s) k d more f =
      ap (λ z. run (Some (Ready n (suc k) d)) z) (append_assoc ts (Close ∷ []) more) ∙ statements_run s (suc k) d more
  statement_run (subgraph {n = n} {ts = ts} (subgraph_head (a_name a)) s) k d more f =
      ap (λ z. run (Some (Ready n (suc k) d)) z) (append_assoc ts (Close ∷ []) more) ∙ statements_run s (suc k) d more

  pub statements_run : {n : ℕ} {ts : List Token} {ks : List Kept} → Statements n ts ks → (k : ℕ) (d : Doc) (more : List Token) → run (Some (Ready n k d)) (ts ++ Close ∷ more) ≡ run (ready n k (keep d ks) Close) more
  statements_run (no_statement {n = n}) k d more = ap (λ z. run (ready n k z Close) more) (sym (keep_nil d))
  statements_run (some {n = n} {ts = ts} {end = end} {us = us} {ks = ks} {ls = ls} s e r) k d more =
      let last : List Token = us ++ Close ∷ more in
      let f : Starts (us ++ Close ∷ more) = all_start r more in
      ap (λ z. run (Some (Ready n k d)) z) (append_assoc (ts ++ end) us (Close ∷ more) ∙ append_assoc ts end (us ++ Close ∷ more))
      ∙ statement_run s k d (end ++ (us ++ Close ∷ more)) (end_follows e (us ++ Close ∷ more) f)
      ∙ end_run e n k (keep d ks) (us ++ Close ∷ more) f
      ∙ statements_run r k (keep d ks) more
      ∙ ap (λ z. run (ready n k z Close) more) (keep_append d ks ls)

pub document_run : {ts : List Token} {ks : List Kept} → Document ts ks → run (Some Begin) ts ≡ Some (Whole (doc_of ks))
document_run (document no_name s) = statements_run s 0 (doc_of []) []
document_run (document (a_name a) s) = statements_run s 0 (doc_of []) []

-- no document begins another
behind_whole : (ks ls : Doc) (more : List Token) → run (Some (Whole ks)) more ≡ Some (Whole ls) → (more ≡ []) × (ks ≡ ls)
behind_whole ks ls [] e = (refl, cc)
behind_whole ks ls (t ∷ []) e = let z : None ≡ Some (Whole ls) = e in cc
behind_whole ks ls (t ∷ u ∷ ts) e = let z : None ≡ Some (Whole ls) = e in cc

pub document_unique : (ts more : List Token) (ks ls : List Kept) → Document ts ks → Document (ts ++ more) ls → (more ≡ []) × (doc_of ks ≡ doc_of ls)
document_unique ts more ks ls a b =
    behind_whole (doc_of ks) (doc_of ls) more (ap (λ z. run z more) (sym (document_run a)) ∙ sym (run_append (Some Begin) ts more) ∙ document_run b)
