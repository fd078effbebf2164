-- What the machine takes is the beginning of a document.
use Rattle.std.proofs.Common.{◌≡◌, refl, sym, subst, ◌∙◌, List, [], ◌∷◌, ◌++◌, Option, Some, None, append-nil}
use Rattle.std.specs.Prelude.{IsSome}
use Rattle.dot_text.specs.Tokens.{Token}
use Rattle.dot_text.specs.Grammar.{Kept, Document}
use Rattle.dot_text.specs.declared.doc.Doc.{Doc}
use Rattle.dot_text.specs.Documents.{doc_of, CanGoOn}
use Rattle.dot_text.specs.Machine.{State, Begin, Whole, run}
use Rattle.dot_text.proofs.Running.{run_append, document_run}
use Rattle.dot_text.proofs.Left.{Left, at_begin, at_whole, back_run, Ends, ends}

pub record Documented (ts : List Token) (doc : Doc) : Type 0 where
  pub kept : List Kept
  pub document : Document ts kept
  pub is : doc ≡ doc_of kept

is_document : {ts : List Token} {doc : Doc} → Left Begin ts doc → Documented ts doc
is_document (at_begin {ks = ks} d) = record { kept = ks; document = d; is = refl }

-- what the plain machine takes whole is a document
pub whole_document : (ts : List Token) (doc : Doc) → run (Some Begin) ts ≡ Some (Whole doc) → Documented ts doc
whole_document ts doc e = subst (λ v. Documented v doc) (append-nil ts) (is_document (back_run ts [] doc Begin (Whole doc) e at_whole))

-- where it can take tokens, some document begins with them
pub runs_on : (ts : List Token) (s : State) → run (Some Begin) ts ≡ Some s → CanGoOn ts
runs_on ts s e =
    let r : Ends s = ends s in
    let d : Documented (ts ++ r.tokens) r.kept = is_document (back_run ts r.tokens r.kept Begin s e r.left) in
    record { more = r.tokens; kept = d.kept; document = d.document }

some_before : (more : List Token) (ks : Doc) (o : Option State) → run o more ≡ Some (Whole ks) → IsSome o
some_before more ks (Some s) e = refl
some_before [] ks None e = let z : None ≡ Some (Whole ks) = e in cc
some_before (t ∷ more) ks None e = let z : None ≡ Some (Whole ks) = e in cc

pub can_run : (ts : List Token) → CanGoOn ts → IsSome (run (Some Begin) ts)
can_run ts can = some_before can.more (doc_of can.kept) (run (Some Begin) ts) (sym (run_append (Some Begin) ts can.more) ∙ document_run can.document)

pub run_can : (ts : List Token) → IsSome (run (Some Begin) ts) → CanGoOn ts
run_can ts h = by (run (Some Begin) ts) refl h
  where
    by : (o : Option State) → run (Some Begin) ts ≡ o → IsSome o → CanGoOn ts
    by None e h = absurd (cc)
    by (Some s) e h = runs_on ts s e
