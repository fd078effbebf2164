-- Each part of an input has one answer, and so has the whole.
use Rattle.std.proofs.Common.{◌≡◌, ◌<◌, ℕ, Bool, true, false, List, length, Ok, Err, Result, refl, sym, ap, subst, ◌∙◌, arith}
use Rattle.std.specs.Prelude.{IsTrue}
use Rattle.std.proofs.lemmas.Bool.{true≢false}
use Rattle.dot_text.specs.declared.doc.Doc.{Doc}
use Rattle.dot_text.specs.Documents.{Stands}
use Rattle.dot_text.specs.Reading.{Found, IsAnswer, reading}
use Rattle.dot_text.specs.Blanks.{SkipsTo, FirstByte, ended, byte, IsSkip, skipping}
use Rattle.dot_text.specs.Laws.{OneDocument, OnePlace, NoPlaceInDocument, ReadingDecides, StandsWithin, SkippingDecides, OneEndOfBlanks, OneUnclosed, NotBothSkips}
use Rattle.components.specs.NamedGraph.{NamedGraph, IsTyped}
use Rattle.graph_print.specs.CanonicalText.{text_of}
use Rattle.graph_read.specs.declared.fault.GraphRefusal.{GraphRefusal}
use Rattle.graph_read.specs.GraphReading.{graph_reading}
use Rattle.read_back.specs.Input.{IsInputOf}
use Rattle.rewrite.specs.Stripped.{HasStripped, IsOneStripped}
use Rattle.commands.specs.declared.refusal.Refusal.{Refusal}
use Rattle.commands.specs.declared.refusal.Refusal.TheVariants.{Syntax, Graph}
use Rattle.commands.specs.declared.words.Command.{Command}
use Rattle.commands.specs.declared.words.Command.TheVariants.{Print, Strip, Gather, Unfold, Rewrite, Trace, Loops, Sim, Check, Gen}
use Rattle.commands.specs.Words.{runs}
use Rattle.commands.specs.Judged.{Verdict, Judged}
use Rattle.commands.specs.Parts.{Then, refused, goes_on, StandsAt, stands, nothing, GraphIn, graph, no_graph, DocumentAt, EndAt, nothing_more, unclosed, more, OneGraph}

-- a part has an answer
abbrev Has : {X : Type 0} → (Result X Refusal → Type 0) → Type 0
Has {X} Part = (answer : Result X Refusal) × Part answer

-- and no two
abbrev Once : {X : Type 0} → (Result X Refusal → Type 0) → Type 0
Once {X} Part = (a b : Result X Refusal) → Part a → Part b → a ≡ b

pub same_answer : {A B : Type 0} (x y : A) → ◌≡◌ {A = Result A B} (Ok x) (Ok y) → x ≡ y
same_answer x y e = cc

same_refusal : {A B : Type 0} (r s : B) → ◌≡◌ {A = Result A B} (Err r) (Err s) → r ≡ s
same_refusal r s e = cc

answer_or_refusal : {A B : Type 0} (x : A) (r : B) → ¬ (◌≡◌ {A = Result A B} (Ok x) (Err r))
answer_or_refusal x r e = absurd (cc)

module _ {X Y : Type 0} (Part : Result X Refusal → Type 0) (Rest : X → Result Y Refusal → Type 0) where
  then_of : (answer : Result X Refusal) → Part answer → ((part : X) → Part (Ok part) → Has (Rest part)) → Has (Then Part Rest)
  then_of (Err refusal) is rest = (Err refusal, refused refusal is)
  then_of (Ok part) is rest = let behind = rest part is in (behind.0, goes_on part behind.0 is behind.1)

  has_then : Has Part → ((part : X) → Part (Ok part) → Has (Rest part)) → Has (Then Part Rest)
  has_then has rest = then_of has.0 has.1 rest

  once_then : Once Part → ((part : X) → Once (Rest part)) → Once (Then Part Rest)
  once_then once rest a b (refused r is) (refused s also) = ap Err (same_refusal r s (once (Err r) (Err s) is also))
  once_then once rest a b (refused r is) (goes_on part answer also behind) = absurd (answer_or_refusal part r (once (Ok part) (Err r) also is))
  once_then once rest a b (goes_on part answer is behind) (refused s also) = absurd (answer_or_refusal part s (once (Ok part) (Err s) is also))
  once_then once rest a b (goes_on p x is behind) (goes_on q y also then) =
      let same = same_answer p q (once (Ok p) (Ok q) is also) in
      rest q x y (subst (λ part. Rest part x) same behind) then

just : {Y : Type 0} (y : Y) → Has {X = Y} (λ answer. answer ≡ Ok y)
just y = (Ok y, refl)

once_just : {Y : Type 0} (y : Y) → Once {X = Y} (λ answer. answer ≡ Ok y)
once_just y a b is also = is ∙ sym also

-- the part of an answer
pub went : {X Y : Type 0} (Part : Result X Refusal → Type 0) (Rest : X → Result Y Refusal → Type 0) (answer : Result Y Refusal) (y : Y) → Then Part Rest answer → answer ≡ Ok y →
    (part : X) × (Part (Ok part) × Rest part answer)
went Part Rest answer y (refused r is) e = absurd (answer_or_refusal y r (sym e))
went Part Rest answer y (goes_on part behind is rest) e = (part, (is, rest))

-- Documents

standing_of : (bytes : List ℕ) (from : ℕ) (answer : Result Found ℕ) → IsAnswer bytes from answer → Has (StandsAt bytes from)
standing_of bytes from (Ok found) is = (Ok (found.doc, found.to), stands found.doc found.to is)
standing_of bytes from (Err place) is = (Err (Syntax place), nothing place is)

standing_is : (bytes : List ℕ) (from : ℕ) (answer : Result (Doc × ℕ) Refusal) (d : Doc × ℕ) → StandsAt bytes from answer → answer ≡ Ok d → Stands bytes from d.0 d.1
standing_is bytes from answer d (stands document end is) e =
    subst (λ (pair : Doc × ℕ). Stands bytes from pair.0 pair.1) (same_answer (document, end) d e) is
standing_is bytes from answer d (nothing place at) e = absurd (answer_or_refusal d (Syntax place) (sym e))

graph_of : (document : Doc) (answer : Result NamedGraph GraphRefusal) → graph_reading document ≡ answer → Has (GraphIn document)
graph_of document (Ok g) is = (Ok g, graph g is)
graph_of document (Err refusal) is = (Err (Graph refusal), no_graph refusal is)

graph_is : (document : Doc) (answer : Result NamedGraph Refusal) (g : NamedGraph) → GraphIn document answer → answer ≡ Ok g → graph_reading document ≡ Ok g
graph_is document answer g (graph h is) e = is ∙ ap Ok (same_answer h g e)
graph_is document answer g (no_graph refusal is) e = absurd (answer_or_refusal g (Graph refusal) (sym e))

not_refused : (document : Doc) (g : NamedGraph) (refusal : GraphRefusal) → graph_reading document ≡ Ok g → ¬ (graph_reading document ≡ Err refusal)
not_refused document g refusal reads is = absurd (cc)

once_graph : (document : Doc) → Once (GraphIn document)
once_graph document a b (graph g is) (graph h also) = ap Ok (same_answer g h (sym is ∙ also))
once_graph document a b (graph g is) (no_graph refusal also) = absurd (not_refused document g refusal is also)
once_graph document a b (no_graph refusal also) (graph g is) = absurd (not_refused document g refusal is also)
once_graph document a b (no_graph r is) (no_graph s also) = ap (λ refusal. Err (Graph refusal)) (same_refusal r s (sym is ∙ also))

module _ (one : OneDocument) (one_place : OnePlace) (no_place : NoPlaceInDocument) (bytes : List ℕ) (from : ℕ) where
  once_standing : Once (StandsAt bytes from)
  once_standing a b (stands d e is) (stands f h also) = let same = one bytes from d f e h is also in let document = same.0 in let end = same.1 in cc
  once_standing a b (stands d e is) (nothing place at) = absurd (no_place bytes from place e d at is)
  once_standing a b (nothing place at) (stands d e is) = absurd (no_place bytes from place e d at is)
  once_standing a b (nothing p at) (nothing q also) = ap (λ place. Err (Syntax place)) (one_place bytes from p q at also)

-- Ends

end_at : (bytes : List ℕ) (from to : ℕ) → SkipsTo bytes from to → FirstByte bytes to → Has (EndAt bytes from)
end_at bytes from to skips (ended e) = (Ok tt, nothing_more (subst (SkipsTo bytes from) e skips))
end_at bytes from to skips (byte short no_blank no_comment) = (Err (Syntax to), more to skips short)

pub before_end : (bytes : List ℕ) (from to : ℕ) → SkipsTo bytes from to → ¬ (to ≡ length bytes) → to < length bytes
before_end bytes from to skips other =
    elim skips.first [
      | ended e ↦ absurd (other e)
      | byte short no_blank no_comment ↦ short
    ]

end_of : (bytes : List ℕ) (from : ℕ) (answer : Result ℕ ℕ) → IsSkip bytes from answer → Has (EndAt bytes from)
end_of bytes from (Ok to) skips = end_at bytes from to skips skips.first
end_of bytes from (Err place) fails = (Err (Syntax place), unclosed place fails)

end_is : (bytes : List ℕ) (from : ℕ) (answer : Result (Unit {0}) Refusal) → EndAt bytes from answer → answer ≡ Ok tt → SkipsTo bytes from (length bytes)
end_is bytes from answer (nothing_more skips) e = skips
end_is bytes from answer (unclosed place fails) e = absurd (answer_or_refusal tt (Syntax place) (sym e))
end_is bytes from answer (more place skips short) e = absurd (answer_or_refusal tt (Syntax place) (sym e))

module _ (one : OneEndOfBlanks) (one_unclosed : OneUnclosed) (not_both : NotBothSkips) (bytes : List ℕ) (from : ℕ) where
  past_end : (place : ℕ) → SkipsTo bytes from (length bytes) → SkipsTo bytes from place → ¬ (place < length bytes)
  past_end place skips also short = let same = one bytes from place (length bytes) also skips in absurd (omega (arith, same, short))

  once_end : Once (EndAt bytes from)
  once_end a b (nothing_more skips) (nothing_more also) = refl
  once_end a b (nothing_more skips) (unclosed place fails) = absurd (not_both bytes from (length bytes) place skips fails)
  once_end a b (nothing_more skips) (more place also short) = absurd (past_end place skips also short)
  once_end a b (unclosed place fails) (nothing_more skips) = absurd (not_both bytes from (length bytes) place skips fails)
  once_end a b (unclosed p fails) (unclosed q also) = ap (λ place. Err (Syntax place)) (one_unclosed bytes from p q fails also)
  once_end a b (unclosed p fails) (more q skips short) = absurd (not_both bytes from q p skips fails)
  once_end a b (more place also short) (nothing_more skips) = absurd (past_end place skips also short)
  once_end a b (more q skips short) (unclosed p fails) = absurd (not_both bytes from q p skips fails)
  once_end a b (more p skips short) (more q also less) = ap (λ place. Err (Syntax place)) (one bytes from p q skips also)

-- Inputs of one document

document_is : (bytes : List ℕ) (from : ℕ) (found : NamedGraph × ℕ) → DocumentAt bytes from (Ok found) → (document : Doc) × (Stands bytes from document found.1 × (graph_reading document ≡ Ok found.0))
document_is bytes from found is =
    let (standing, (at, rest)) = went (StandsAt bytes from) (λ (standing : Doc × ℕ). Then (GraphIn standing.0) (λ (g : NamedGraph) answer. answer ≡ Ok (g, standing.1))) (Ok found) found is refl in
    let (g, (in_it, e)) = went (GraphIn standing.0) (λ (g : NamedGraph) answer. answer ≡ Ok (g, standing.1)) (Ok found) found rest refl in
    let same = same_answer found (g, standing.1) e in
    let is_end = standing_is bytes from (Ok standing) standing at refl in
    (standing.0, (subst (Stands bytes from standing.0) (sym (ap (λ (pair : NamedGraph × ℕ). pair.1) same)) is_end, graph_is standing.0 (Ok g) g in_it refl ∙ ap (λ (pair : NamedGraph × ℕ). Ok pair.0) (sym same)))

pub input_is : (input : List ℕ) (g : NamedGraph) → OneGraph input (Ok g) → IsInputOf g input
input_is input g is =
    let (found, (at, rest)) = went (DocumentAt input 0) (λ (found : NamedGraph × ℕ). Then (EndAt input found.1) (λ _ answer. answer ≡ Ok found.0)) (Ok g) g is refl in
    let (nothing_is, (end, e)) = went (EndAt input found.1) (λ _ answer. answer ≡ Ok found.0) (Ok g) g rest refl in
    let (document, (there, reads)) = document_is input 0 found at in
    record {
      document = document;
      holds = record { end = found.1; stands = there; behind = end_is input found.1 (Ok tt) end refl };
      reads = reads ∙ ap Ok (sym (same_answer g found.0 e));
    }

module _ (decides : ReadingDecides) (stays : StandsWithin) (skipping_decides : SkippingDecides) (input : List ℕ) where
  has_document : Has (DocumentAt input 0)
  has_document = has_then _ _ (standing_of input 0 (reading input 0) (decides input 0 (omega arith))) (λ standing at.
      has_then _ _ (graph_of standing.0 (graph_reading standing.0) refl) (λ g is. just (g, standing.1)))

  has_one_graph : Has (OneGraph input)
  has_one_graph = has_then _ _ has_document (λ found at.
      let (document, (there, reads)) = document_is input 0 found at in
      let fits = stays input 0 found.1 document (omega arith) there in
      has_then _ _ (end_of input found.1 (skipping input found.1) (skipping_decides input found.1 fits)) (λ _ _. just found.0))

  pub has_verdict : HasStripped → ((g : NamedGraph) → OneGraph input (Ok g) → IsTyped g) → (command : Command) → IsTrue (runs command) → (verdict : Verdict) × Judged command input verdict
  has_verdict strips typed Print is = has_then _ _ has_one_graph (λ g _. just (text_of g))
  has_verdict strips typed Strip is = has_then _ _ has_one_graph (λ g one. let (h, stripped) = strips g (typed g one) in (Ok (text_of h), (h, stripped, refl)))
  has_verdict strips typed Gather is = absurd (true≢false (sym is))
  has_verdict strips typed Unfold is = absurd (true≢false (sym is))
  has_verdict strips typed Rewrite is = absurd (true≢false (sym is))
  has_verdict strips typed Trace is = absurd (true≢false (sym is))
  has_verdict strips typed Loops is = absurd (true≢false (sym is))
  has_verdict strips typed (Sim limit) is = absurd (true≢false (sym is))
  has_verdict strips typed Check is = absurd (true≢false (sym is))
  has_verdict strips typed (Gen count) is = absurd (true≢false (sym is))

module _ (one : OneDocument) (one_place : OnePlace) (no_place : NoPlaceInDocument) (one_end : OneEndOfBlanks) (one_unclosed : OneUnclosed) (not_both : NotBothSkips)
    (input : List ℕ) where
  once_document : Once (DocumentAt input 0)
  once_document = once_then _ _ (once_standing one one_place no_place input 0) (λ standing. once_then _ _ (once_graph standing.0) (λ g. once_just (g, standing.1)))

  once_one_graph : Once (OneGraph input)
  once_one_graph = once_then _ _ once_document (λ found. once_then _ _ (once_end one_end one_unclosed not_both input found.1) (λ _. once_just found.0))

  pub one_verdict : IsOneStripped → (command : Command) (verdict other : Verdict) → Judged command input verdict → Judged command input other → verdict ≡ other
  one_verdict strips Print = once_then _ _ once_one_graph (λ g. once_just (text_of g))
  one_verdict strips Strip = once_then _ _ once_one_graph (λ g a b (h, is, e) (k, also, f). e ∙ ap (λ graph. Ok (text_of graph)) (strips g h k is also) ∙ sym f)
  one_verdict strips Gather = λ a b is also. absurd is
  one_verdict strips Unfold = λ a b is also. absurd is
  one_verdict strips Rewrite = λ a b is also. absurd is
  one_verdict strips Trace = λ a b is also. absurd is
  one_verdict strips Loops = λ a b is also. absurd is
  one_verdict strips (Sim limit) = λ a b is also. absurd is
  one_verdict strips Check = λ a b is also. absurd is
  one_verdict strips (Gen count) = λ a b is also. absurd is
