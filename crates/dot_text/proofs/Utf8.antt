-- The bytes of a document are UTF-8.
use Rattle.std.proofs.Common.{◌≡◌, ℕ, ◌+◌, ◌-◌, refl, sym, ap, subst, ◌∙◌, List, [], ◌++◌, length, take, drop, IsUtf8, append_assoc, arith, length-append}
use Rattle.std.proofs.lemmas.Str.{IsUtf8-append, IsUtf8-nil}
use Rattle.std.proofs.Math.Seq.{take-append_seam}
use Rattle.dot_text.specs.Tokens.{Token}
use Rattle.dot_text.specs.Lexical.{Gap, Gap.none as no_gap, Gap.skip, Lexes, Lexes.none as no_token, Lexes.next}
use Rattle.dot_text.specs.declared.doc.Doc.{Doc}
use Rattle.dot_text.specs.Documents.{Stands}
use Rattle.dot_text.proofs.Reading.{past_text}

-- the bytes from p to q
record Bytes (bytes : List ℕ) (p q : ℕ) : Type 0 where
  text : List ℕ
  is : drop p bytes ≡ text ++ drop q bytes
  utf8 : IsUtf8 text
  ends : q ≡ p + length text

joined : {bytes : List ℕ} {p q r : ℕ} → Bytes bytes p q → Bytes bytes q r → Bytes bytes p r
joined {bytes = bytes} {r = r} a b =
    record {
      text = a.text ++ b.text;
      is = a.is ∙ ap (λ z. a.text ++ z) b.is ∙ sym (append_assoc a.text b.text (drop r bytes));
      utf8 = IsUtf8-append a.text b.text a.utf8 b.utf8;
      ends = omega (arith, a.ends, b.ends, length-append a.text b.text);
    }

one : {bytes : List ℕ} {p q : ℕ} (text rest : List ℕ) → drop p bytes ≡ text ++ rest → IsUtf8 text → q ≡ p + length text → Bytes bytes p q
one {bytes = bytes} {p = p} {q = q} text rest e u h =
    let there : drop q bytes ≡ rest = ap (λ z. drop z bytes) h ∙ past_text bytes text rest p e in
    record { text = text; is = e ∙ ap (λ z. text ++ z) (sym there); utf8 = u; ends = h }

nothing : {bytes : List ℕ} (p : ℕ) → Bytes bytes p p
nothing p = record { text = []; is = refl; utf8 = IsUtf8-nil; ends = omega arith }

gap_bytes : {bytes : List ℕ} {p q : ℕ} → Gap bytes p q → Bytes bytes p q
gap_bytes (no_gap {p = p}) = nothing p
gap_bytes (skip s g) = joined (one s.text s.rest s.is s.utf8 s.ends) (gap_bytes g)

lexes_bytes : {bytes : List ℕ} {p q : ℕ} {ts : List Token} → Lexes bytes p ts q → Bytes bytes p q
lexes_bytes (no_token {p = p}) = nothing p
lexes_bytes (next g a l) = joined (gap_bytes g) (joined (one a.text a.rest a.is a.utf8 a.ends) (lexes_bytes l))

pub stands_utf8 : (bytes : List ℕ) (from : ℕ) (doc : Doc) (to : ℕ) → Stands bytes from doc to → IsUtf8 (take (to - from) (drop from bytes))
stands_utf8 bytes from doc to st =
    let b : Bytes bytes from to = lexes_bytes st.lexes in
    let n : to - from ≡ length b.text = omega (arith, b.ends) in
    subst IsUtf8 (sym (ap (λ z. take z (drop from bytes)) n ∙ ap (take (length b.text)) b.is ∙ take-append_seam b.text (drop to bytes))) b.utf8
