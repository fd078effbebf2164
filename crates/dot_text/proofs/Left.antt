-- What completes a document from each state of the machine.
use Rattle.std.proofs.Common.{◌≡◌, ℕ, zero, suc, refl, sym, ap, subst, List, [], ◌∷◌, ◌++◌, Option, Some, None, append-nil, append_assoc}
use Rattle.dot_text.specs.Tokens.{Token, Id, Digraph, Subgraph, Default, Open, Close, OpenList, CloseList, Semicolon, Comma, Equals, Arrow}
use Rattle.dot_text.specs.Grammar.{Pair, Kept, PairEnd, PairEnd.nothing as no_mark, PairEnd.comma, PairEnd.semicolon as pair_semicolon, Pairs, Pairs.none as no_pair, Pairs.pair, Lists, Lists.none as no_list, Lists.list, End, End.nothing as no_end, End.semicolon as end_semicolon, Name, Name.nothing as no_name, Name.name as a_name, Head, Head.nothing as no_head, Head.subgraph as subgraph_head, Statement, Statement.node, Statement.edge, Statement.default, Statement.set, Statement.subgraph, Statements, Statements.none as no_statement, Statements.some, Document, Document.document}
use Rattle.dot_text.specs.declared.doc.Doc.{Doc}
use Rattle.dot_text.specs.Documents.{doc_of, keep}
use Rattle.dot_text.proofs.Keeping.{keep_nil, keep_append}
use Rattle.dot_text.specs.Machine.{Owner, OfNode, OfEdge, OfDefault, State, Begin, Headed, Named, Ready, Ended, Identified, Pointed, Setting, Defaulted, Listed, Inside, Keyed, Equated, Paired, Whole, kept_of, ready, ended, listed, inside, step, run}

-- what completes a document from where a statement may begin, with k subgraphs open and l more allowed
pub data Rest : ℕ → ℕ → List Token → List Kept → Type 0 where
  last : {l : ℕ} {ts : List Token} {ks : List Kept} → Statements l ts ks → Rest l zero (ts ++ Close ∷ []) ks
  up : {l k : ℕ} {ts end us : List Token} {ks ls : List Kept} → Statements l ts ks → End end → Rest (suc l) k us ls
      → Rest l (suc k) (ts ++ Close ∷ (end ++ us)) (ks ++ ls)

-- from this state the tokens complete a document that keeps these
pub data Left : State → List Token → Doc → Type 0 where
  at_begin : {ts : List Token} {ks : List Kept} → Document ts ks → Left Begin ts (doc_of ks)
  at_headed : {l k : ℕ} {d ks : Doc} {n ts : List Token} → Name n → Left (Ready l k d) ts ks → Left (Headed l k d) (n ++ Open ∷ ts) ks
  at_named : {l k : ℕ} {d ks : Doc} {ts : List Token} → Left (Ready l k d) ts ks → Left (Named l k d) (Open ∷ ts) ks
  at_ready : {l k : ℕ} {d : Doc} {ks : List Kept} {ts : List Token} → Rest l k ts ks → Left (Ready l k d) ts (keep d ks)
  at_ended : {l k : ℕ} {d ks : Doc} {end ts : List Token} → End end → Left (Ready l k d) ts ks → Left (Ended l k d) (end ++ ts) ks
  at_identified : {l k : ℕ} {d ks : Doc} {a : List ℕ} {ts : List Token} → Left (Listed l k d (OfNode a) []) ts ks → Left (Identified l k d a) ts ks
  at_arrow : {l k : ℕ} {d ks : Doc} {a : List ℕ} {ts : List Token} → Left (Pointed l k d a) ts ks → Left (Identified l k d a) (Arrow ∷ ts) ks
  at_equals : {l k : ℕ} {d ks : Doc} {a : List ℕ} {ts : List Token} → Left (Setting l k d) ts ks → Left (Identified l k d a) (Equals ∷ ts) ks
  at_pointed : {l k : ℕ} {d ks : Doc} {a b : List ℕ} {ts : List Token} → Left (Listed l k d (OfEdge a b) []) ts ks → Left (Pointed l k d a) (Id b ∷ ts) ks
  at_setting : {l k : ℕ} {d ks : Doc} {b : List ℕ} {ts : List Token} → Left (Ended l k d) ts ks → Left (Setting l k d) (Id b ∷ ts) ks
  at_defaulted : {l k : ℕ} {d ks : Doc} {ts : List Token} → Left (Inside l k d OfDefault []) ts ks → Left (Defaulted l k d) (OpenList ∷ ts) ks
  at_listed : {l k : ℕ} {d ks : Doc} {o : Owner} {ps qs : List Pair} {vs ts : List Token} → Lists vs qs → Left (Ended l k (keep d (kept_of o (ps ++ qs)))) ts ks → Left (Listed l k d o ps) (vs ++ ts) ks
  at_inside : {l k : ℕ} {d ks : Doc} {o : Owner} {ps qs : List Pair} {vs ts : List Token} → Pairs vs qs → Left (Listed l k d o (ps ++ qs)) ts ks → Left (Inside l k d o ps) (vs ++ CloseList ∷ ts) ks
  at_keyed : {l k : ℕ} {d ks : Doc} {o : Owner} {ps : List Pair} {a : List ℕ} {ts : List Token} → Left (Equated l k d o ps a) ts ks → Left (Keyed l k d o ps a) (Equals ∷ ts) ks
  at_equated : {l k : ℕ} {d ks : Doc} {o : Owner} {ps : List Pair} {a b : List ℕ} {ts : List Token} → Left (Paired l k d o (ps ++ (a, b) ∷ [])) ts ks → Left (Equated l k d o ps a) (Id b ∷ ts) ks
  at_paired : {l k : ℕ} {d ks : Doc} {o : Owner} {ps : List Pair} {end ts : List Token} → PairEnd end → Left (Inside l k d o ps) ts ks → Left (Paired l k d o ps) (end ++ ts) ks
  at_whole : {ks : Doc} → Left (Whole ks) [] ks

to : {s z : State} {ts us : List Token} {ks : Doc} → s ≡ z → ts ≡ us → Left s ts ks → Left z us ks
to {z = z} {ts = ts} {ks = ks} e f h = subst (λ v. Left z v ks) f (subst (λ v. Left v ts ks) e h)

keeps : {s : State} {ts : List Token} {ks ls : Doc} → ks ≡ ls → Left s ts ks → Left s ts ls
keeps {s = s} {ts = ts} e h = subst (λ v. Left s ts v) e h

rest_to : {l k : ℕ} {ts us : List Token} {ks ls : List Kept} → ts ≡ us → ks ≡ ls → Rest l k ts ks → Rest l k us ls
rest_to {l = l} {k = k} {us = us} {ks = ks} e f h = subst (λ v. Rest l k us v) f (subst (λ v. Rest l k v ks) e h)

rest_more : {l k : ℕ} {ts end us : List Token} {ks ls : List Kept} → Statement l ts ks → End end → Rest l k us ls → Rest l k (ts ++ (end ++ us)) (ks ++ ls)
rest_more {ts = ts} {end = end} {ks = ks} s e (last {ts = vs} {ks = ms} r) = rest_to (simp append_assoc) refl (last (some s e r))
rest_more {ts = ts} {end = end} {ks = ks} s e (up {ts = vs} {end = fin} {us = ws} {ks = ms} {ls = ns} r f x) =
    rest_to (simp append_assoc) (append_assoc ks ms ns) (up (some s e r) f x)

-- a statement before what completes a document
statement_left : {l k : ℕ} {d xs : Doc} {ks : List Kept} {ts us : List Token} → Statement l ts ks → Left (Ended l k (keep d ks)) us xs → Left (Ready l k d) (ts ++ us) xs
statement_left {d = d} {ks = ks} s (at_ended e (at_ready {ks = ls} r)) = keeps (sym (keep_append d ks ls)) (at_ready (rest_more s e r))

from_identified : {l k : ℕ} {d ks : Doc} {a : List ℕ} {ts : List Token} → Left (Identified l k d a) ts ks → Left (Ready l k d) (Id a ∷ ts) ks
from_identified {a = a} (at_identified (at_listed p h)) = statement_left (node a p) h
from_identified {a = a} (at_arrow (at_pointed {b = b} (at_listed p h))) = statement_left (edge a b p) h
from_identified {l = l} {k = k} {d = d} {a = a} (at_equals (at_setting {b = b} h)) =
    statement_left (set a b) (to (ap (λ v. Ended l k v) (sym (keep_nil d))) refl h)

from_defaulted : {l k : ℕ} {d ks : Doc} {ts : List Token} → Left (Defaulted l k d) ts ks → Left (Ready l k d) (Default ∷ ts) ks
from_defaulted (at_defaulted (at_inside {vs = vs} p (at_listed {vs = ws} {ts = ts} q h))) =
    to refl (simp append_assoc) (statement_left (default p q) h)

from_open : {l k : ℕ} {d ks : Doc} {head ts : List Token} → Head head → Left (Ready l (suc k) d) ts ks → Left (Ready (suc l) k d) (head ++ Open ∷ ts) ks
from_open {head = head} h (at_ready (up {ts = vs} {end = end} {us = ws} r e x)) =
    to refl (simp append_assoc) (at_ready (rest_more (subgraph h r) e x))

from_headed : {l k : ℕ} {d ks : Doc} {ts : List Token} → Left (Headed l (suc k) d) ts ks → Left (Ready (suc l) k d) (Subgraph ∷ ts) ks
from_headed (at_headed n h) = from_open (subgraph_head n) h

from_whole : {l : ℕ} {d ks : Doc} {ts : List Token} → Left (Whole d) ts ks → Left (Ready l zero d) (Close ∷ ts) ks
from_whole {d = d} at_whole = keeps (keep_nil d) (at_ready (last no_statement))

from_up : {l k : ℕ} {d ks : Doc} {ts : List Token} → Left (Ended (suc l) k d) ts ks → Left (Ready l (suc k) d) (Close ∷ ts) ks
from_up (at_ended e (at_ready r)) = at_ready (up no_statement e r)

from_begin : {ks : Doc} {ts : List Token} → Left (Headed 64 0 (doc_of [])) ts ks → Left Begin (Digraph ∷ ts) ks
from_begin (at_headed no_name (at_ready (last r))) = at_begin (document no_name r)
from_begin (at_headed (a_name a) (at_ready (last r))) = at_begin (document (a_name a) r)

from_keyed : {l k : ℕ} {d ks : Doc} {o : Owner} {ps : List Pair} {a : List ℕ} {ts : List Token} → Left (Keyed l k d o ps a) ts ks → Left (Inside l k d o ps) (Id a ∷ ts) ks
from_keyed {l = l} {k = k} {d = d} {o = o} {ps = ps} {a = a} (at_keyed (at_equated {b = b} (at_paired e (at_inside {qs = qs} p h)))) =
    to refl (simp append_assoc) (at_inside (pair a b e p) (to (ap (λ v. Listed l k d o v) (append_assoc ps ((a, b) ∷ []) qs)) refl h))

from_listed : {l k : ℕ} {d ks : Doc} {o : Owner} {ps : List Pair} {ts : List Token} → Left (Listed l k d o ps) ts ks → Left (Inside l k d o ps) (CloseList ∷ ts) ks
from_listed {l = l} {k = k} {d = d} {o = o} {ps = ps} h = at_inside no_pair (to (ap (λ v. Listed l k d o v) (sym (append-nil ps))) refl h)

from_inside : {l k : ℕ} {d ks : Doc} {o : Owner} {ps : List Pair} {ts : List Token} → Left (Inside l k d o ps) ts ks → Left (Listed l k d o ps) (OpenList ∷ ts) ks
from_inside {l = l} {k = k} {d = d} {o = o} {ps = ps} (at_inside {qs = qs} p (at_listed {qs = rs} q h)) =
    to refl (simp append_assoc) (at_listed (list p q) (to (ap (λ v. Ended l k (keep d (kept_of o v))) (append_assoc ps qs rs)) refl h))

from_ended : {l k : ℕ} {d ks : Doc} {o : Owner} {ps : List Pair} {ts : List Token} → Left (Ended l k (keep d (kept_of o ps))) ts ks → Left (Listed l k d o ps) ts ks
from_ended {l = l} {k = k} {d = d} {o = o} {ps = ps} h = at_listed no_list (to (ap (λ v. Ended l k (keep d (kept_of o v))) (sym (append-nil ps))) refl h)

-- where a step leads on, what completes the document from there completes it with the token before
pub Before : State → Token → Option State → Type 0
Before s t None = Unit {0}
Before s t (Some z) = (ts : List Token) (ks : Doc) → Left z ts ks → Left s (t ∷ ts) ks

back_ready : (l k : ℕ) (d : Doc) (t : Token) → Before (Ready l k d) t (ready l k d t)
unfolding Before
back_ready l k d (Id a) = λ ts ks h. from_identified h
back_ready l k d Default = λ ts ks h. from_defaulted h
back_ready (suc l) k d Subgraph = λ ts ks h. from_headed h
back_ready (suc l) k d Open = λ ts ks h. from_open no_head h
back_ready l zero d Close = λ ts ks h. from_whole h
back_ready l (suc k) d Close = λ ts ks h. from_up h
back_ready _ _ _ _ = tt

lift : (s z : State) (t : Token) (o : Option State) → ((ts : List Token) (ks : Doc) → Left s ts ks → Left z ts ks) → Before s t o → Before z t o
unfolding Before
lift s z t None f b = tt
lift s z t (Some x) f b = λ ts ks h. f (t ∷ ts) ks (b ts ks h)

back_ended : (l k : ℕ) (d : Doc) (t : Token) → Before (Ended l k d) t (ended l k d t)
unfolding Before
back_ended l k d Semicolon = λ ts ks h. at_ended end_semicolon h
back_ended l k d t = lift (Ready l k d) (Ended l k d) t (ready l k d t) (λ ts ks h. at_ended no_end h) (back_ready l k d t)

back_listed : (l k : ℕ) (d : Doc) (o : Owner) (ps : List Pair) (t : Token) → Before (Listed l k d o ps) t (listed l k d o ps t)
unfolding Before
back_listed l k d o ps OpenList = λ ts ks h. from_inside h
back_listed l k d o ps t = lift (Ended l k (keep d (kept_of o ps))) (Listed l k d o ps) t (ended l k (keep d (kept_of o ps)) t) (λ ts ks h. from_ended h) (back_ended l k (keep d (kept_of o ps)) t)

back_inside : (l k : ℕ) (d : Doc) (o : Owner) (ps : List Pair) (t : Token) → Before (Inside l k d o ps) t (inside l k d o ps t)
unfolding Before
back_inside l k d o ps (Id a) = λ ts ks h. from_keyed h
back_inside l k d o ps CloseList = λ ts ks h. from_listed h
back_inside l k d o ps t = tt

pub back : (s : State) (t : Token) → Before s t (step s t)
unfolding Before
back Begin Digraph = λ ts ks h. from_begin h
back Begin t = tt
back (Headed l k d) (Id a) = λ ts ks h. headed_name h
  where
    headed_name : {ts : List Token} {ks : Doc} → Left (Named l k d) ts ks → Left (Headed l k d) (Id a ∷ ts) ks
    headed_name (at_named h) = at_headed (a_name a) h
back (Headed l k d) Open = λ ts ks h. at_headed no_name h
back (Headed l k d) t = tt
back (Named l k d) Open = λ ts ks h. at_named h
back (Named l k d) t = tt
back (Ready l k d) t = back_ready l k d t
back (Ended l k d) t = back_ended l k d t
back (Identified l k d a) Arrow = λ ts ks h. at_arrow h
back (Identified l k d a) Equals = λ ts ks h. at_equals h
back (Identified l k d a) t = lift (Listed l k d (OfNode a) []) (Identified l k d a) t (listed l k d (OfNode a) [] t) (λ ts ks h. at_identified h) (back_listed l k d (OfNode a) [] t)
back (Pointed l k d a) (Id b) = λ ts ks h. at_pointed h
back (Pointed l k d a) t = tt
back (Setting l k d) (Id b) = λ ts ks h. at_setting h
back (Setting l k d) t = tt
back (Defaulted l k d) OpenList = λ ts ks h. at_defaulted h
back (Defaulted l k d) t = tt
back (Listed l k d o ps) t = back_listed l k d o ps t
back (Inside l k d o ps) t = back_inside l k d o ps t
back (Keyed l k d o ps a) Equals = λ ts ks h. at_keyed h
back (Keyed l k d o ps a) t = tt
back (Equated l k d o ps a) (Id b) = λ ts ks h. at_equated h
back (Equated l k d o ps a) t = tt
back (Paired l k d o ps) Comma = λ ts ks h. at_paired comma h
back (Paired l k d o ps) Semicolon = λ ts ks h. at_paired pair_semicolon h
back (Paired l k d o ps) t = lift (Inside l k d o ps) (Paired l k d o ps) t (inside l k d o ps t) (λ ts ks h. at_paired no_mark h) (back_inside l k d o ps t)
back (Whole d) t = tt

none_runs : (ts : List Token) (z : State) → run None ts ≡ Some z → ⊥
none_runs [] z e = let f : None ≡ Some z = e in cc
none_runs (t ∷ ts) z e = let f : None ≡ Some z = e in cc

past : (ts us : List Token) (ks : Doc) (s z : State) (t : Token) (o : Option State) → Before s t o → ((x : State) → run (Some x) ts ≡ Some z → Left x (ts ++ us) ks) → run o ts ≡ Some z → Left s (t ∷ (ts ++ us)) ks
unfolding Before
past ts us ks s z t None b f e = absurd (none_runs ts z e)
past ts us ks s z t (Some x) b f e = b (ts ++ us) ks (f x e)

-- and so for all tokens that lead from one state to another
pub back_run : (ts us : List Token) (ks : Doc) (s z : State) → run (Some s) ts ≡ Some z → Left z us ks → Left s (ts ++ us) ks
back_run [] us ks s z e h = let same : s ≡ z = cc in subst (λ v. Left v us ks) (sym same) h
back_run (t ∷ ts) us ks s z e h = past ts us ks s z t (step s t) (back s t) (λ x f. back_run ts us ks x z f h) e

-- something completes the document from each state
pub record Ends (s : State) : Type 0 where
  pub tokens : List Token
  pub kept : Doc
  pub left : Left s tokens kept

record AnyRest (l k : ℕ) : Type 0 where
  tokens : List Token
  kept : List Kept
  rest : Rest l k tokens kept

any_rest : (k l : ℕ) → AnyRest l k
any_rest zero l = record { tokens = Close ∷ []; kept = []; rest = last no_statement }
any_rest (suc k) l = let r : AnyRest (suc l) k = any_rest k (suc l) in record { tokens = Close ∷ r.tokens; kept = r.kept; rest = up no_statement no_end r.rest }

end_ready : (l k : ℕ) (d : Doc) → Ends (Ready l k d)
end_ready l k d = let r : AnyRest l k = any_rest k l in record { tokens = r.tokens; kept = keep d r.kept; left = at_ready r.rest }

end_ended : (l k : ℕ) (d : Doc) → Ends (Ended l k d)
end_ended l k d = let r : Ends (Ready l k d) = end_ready l k d in record { tokens = r.tokens; kept = r.kept; left = at_ended no_end r.left }

end_listed : (l k : ℕ) (d : Doc) (o : Owner) (ps : List Pair) → Ends (Listed l k d o ps)
end_listed l k d o ps = let r : Ends (Ended l k (keep d (kept_of o ps))) = end_ended l k (keep d (kept_of o ps)) in record { tokens = r.tokens; kept = r.kept; left = from_ended r.left }

end_inside : (l k : ℕ) (d : Doc) (o : Owner) (ps : List Pair) → Ends (Inside l k d o ps)
end_inside l k d o ps = let r : Ends (Listed l k d o ps) = end_listed l k d o ps in record { tokens = CloseList ∷ r.tokens; kept = r.kept; left = from_listed r.left }

end_paired : (l k : ℕ) (d : Doc) (o : Owner) (ps : List Pair) → Ends (Paired l k d o ps)
end_paired l k d o ps = let r : Ends (Inside l k d o ps) = end_inside l k d o ps in record { tokens = r.tokens; kept = r.kept; left = at_paired no_mark r.left }

end_equated : (l k : ℕ) (d : Doc) (o : Owner) (ps : List Pair) (a : List ℕ) → Ends (Equated l k d o ps a)
end_equated l k d o ps a =
    let r : Ends (Paired l k d o (ps ++ (a, a) ∷ [])) = end_paired l k d o (ps ++ (a, a) ∷ []) in
    record { tokens = Id a ∷ r.tokens; kept = r.kept; left = at_equated r.left }

pub ends : (s : State) → Ends s
ends Begin = record { tokens = Digraph ∷ Open ∷ Close ∷ []; kept = doc_of []; left = at_begin (document no_name no_statement) }
ends (Headed l k d) = let r : Ends (Ready l k d) = end_ready l k d in record { tokens = Open ∷ r.tokens; kept = r.kept; left = at_headed no_name r.left }
ends (Named l k d) = let r : Ends (Ready l k d) = end_ready l k d in record { tokens = Open ∷ r.tokens; kept = r.kept; left = at_named r.left }
ends (Ready l k d) = end_ready l k d
ends (Ended l k d) = end_ended l k d
ends (Identified l k d a) = let r : Ends (Listed l k d (OfNode a) []) = end_listed l k d (OfNode a) [] in record { tokens = r.tokens; kept = r.kept; left = at_identified r.left }
ends (Pointed l k d a) = let r : Ends (Listed l k d (OfEdge a a) []) = end_listed l k d (OfEdge a a) [] in record { tokens = Id a ∷ r.tokens; kept = r.kept; left = at_pointed r.left }
ends (Setting l k d) = let r : Ends (Ended l k d) = end_ended l k d in record { tokens = Id [] ∷ r.tokens; kept = r.kept; left = at_setting r.left }
ends (Defaulted l k d) = let r : Ends (Inside l k d OfDefault []) = end_inside l k d OfDefault [] in record { tokens = OpenList ∷ r.tokens; kept = r.kept; left = at_defaulted r.left }
ends (Listed l k d o ps) = end_listed l k d o ps
ends (Inside l k d o ps) = end_inside l k d o ps
ends (Keyed l k d o ps a) = let r : Ends (Equated l k d o ps a) = end_equated l k d o ps a in record { tokens = Equals ∷ r.tokens; kept = r.kept; left = at_keyed r.left }
ends (Equated l k d o ps a) = end_equated l k d o ps a
ends (Paired l k d o ps) = end_paired l k d o ps
ends (Whole ks) = record { tokens = []; kept = ks; left = at_whole }
