-- A document is found at its last byte.
use Rattle.std.proofs.Common.{◌≡◌, ◌⊎◌, ℕ, ◌+◌, ◌≤◌, inl, inr, sym, ap, subst, ◌∙◌, List, [], ◌∷◌, ◌++◌, Ok, length, take, drop, append-nil, append_assoc, arith, length-append}
use Rattle.std.proofs.lemmas.List.{take-append-drop, length-take}
use Rattle.std.proofs.lemmas.Bool.Decides.{eqb_tells}
use Rattle.dot_text.specs.Tokens.{Token}
use Rattle.dot_text.specs.Lexical.{Gap, Gap.none as no_gap, Gap.skip, Lexes, Lexes.none as no_token, Lexes.next}
use Rattle.dot_text.specs.declared.doc.Doc.{Doc}
use Rattle.dot_text.specs.Documents.{Stands}
use Rattle.dot_text.specs.Reading.{Found}
use Rattle.dot_text.specs.Stream.{Scan, Going, Over, reader_of}
use Rattle.dot_text.proofs.Reading.{behind_at}
use Rattle.dot_text.proofs.Prefix.{stands_on}
use Rattle.dot_text.proofs.Stream.{over_is, going_is}

gap_within : {bytes : List ℕ} {p q : ℕ} → Gap bytes p q → p ≤ length bytes → q ≤ length bytes
gap_within no_gap h = h
gap_within {bytes = bytes} {p = p} (skip s g) h = gap_within g (omega (arith, s.ends, behind_at bytes s.text s.rest p h s.is))

lexes_within : {bytes : List ℕ} {p q : ℕ} {ts : List Token} → Lexes bytes p ts q → p ≤ length bytes → q ≤ length bytes
lexes_within no_token h = h
lexes_within {bytes = bytes} (next {q = q} g a l) h = lexes_within l (omega (arith, a.ends, behind_at bytes a.text a.rest q (gap_within g h) a.is))

-- a document ends within the bytes
pub stands_within : (bytes : List ℕ) (from to : ℕ) (doc : Doc) → from ≤ length bytes → Stands bytes from doc to → to ≤ length bytes
stands_within bytes from to doc h stands = lexes_within stands.lexes h

-- a document that ends within the first bytes stands in them
stands_below : (bytes more : List ℕ) (doc : Doc) (to : ℕ) → to ≤ length bytes → Stands (bytes ++ more) 0 doc to → Stands bytes 0 doc to
stands_below bytes more doc to h st =
    let w : List ℕ = take to bytes in
    let len : length (take to bytes) ≡ to = length-take to bytes ∙ omega arith in
    let whole : take to bytes ++ (drop to bytes ++ more) ≡ bytes ++ more = sym (append_assoc (take to bytes) (drop to bytes) more) ∙ ap (λ z. z ++ more) (take-append-drop to bytes) in
    let moved : Stands (take to bytes ++ (drop to bytes ++ more)) 0 doc (length (take to bytes)) = subst (λ z. Stands z 0 doc (length (take to bytes))) (sym whole) (subst (λ z. Stands (bytes ++ more) 0 doc z) (sym len) st) in
    subst (λ z. Stands bytes 0 doc z) len (subst (λ z. Stands z 0 doc (length (take to bytes))) (take-append-drop to bytes) (stands_on (take to bytes) (drop to bytes ++ more) (drop to bytes) 0 doc moved))

low_or : (a b : ℕ) → b ≤ a + 1 → (b ≤ a) ⊎ (b ≡ a + 1)
low_or a b h = elim (eqb_tells b (a + 1)) [ inl x ↦ inr x.1 | inr x ↦ inl (omega (arith, x.1)) ]

pub ends_at_last : (taken : List ℕ) (b : ℕ) (reader : Scan) (found : Found) → reader_of taken ≡ Going reader → reader_of (taken ++ b ∷ []) ≡ Over (Ok found) → found.to ≡ length taken + 1
ends_at_last taken b reader found e f =
    let st : Stands (taken ++ b ∷ []) 0 found.doc found.to = subst (λ z. Stands z 0 found.doc found.to) (append-nil (taken ++ b ∷ [])) (over_is (taken ++ b ∷ []) [] (Ok found) f) in
    let within : found.to ≤ length (taken ++ b ∷ []) = stands_within (taken ++ b ∷ []) 0 found.to found.doc (omega arith) st in
    elim (low_or (length taken) found.to (omega (arith, within, length-append taken (b ∷ [])))) [
      | inl low ↦ absurd (going_is taken reader e found.doc found.to (stands_below taken (b ∷ []) found.doc found.to low st))
      | inr at ↦ at
    ]
