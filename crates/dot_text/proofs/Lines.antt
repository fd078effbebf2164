-- The pieces of printed lines, one more at a time.
use Rattle.std.proofs.Common.{◌≡◌, ℕ, ◌+◌, ◌<◌, ◌≤◌, ltb, refl, sym, ap, subst, IsUtf8, ◌∙◌, ◌==◌, true, false, if◌then◌else◌, List, [], ◌∷◌, ◌++◌, length, take, get_or, codes, arith, append_assoc, append-nil, length-take}
use Rattle.std.proofs.lemmas.Bool.{cond-false, cond_both}
use Rattle.std.proofs.lemmas.Bool.Decides.{nat_tests}
use Rattle.std.proofs.lemmas.List.{take_more}
use lib.Utf8.{encode}
use Rattle.dot_text.specs.declared.doc.Doc.{Doc}
use Rattle.dot_text.specs.Grammar.{Pair}
use Rattle.dot_text.specs.Documents.{Stands}
use Rattle.dot_text.specs.Printing.{escaped, pair_text, more_pairs, pairs_text, printed, DocPrints}
use Rattle.dot_text.proofs.Seams.{cut_before}
use Rattle.dot_text.proofs.Printed.{printed_stands_before}

escaped_append : (bs rest : List ℕ) → escaped (bs ++ rest) ≡ escaped bs ++ escaped rest
escaped_append [] rest = refl
escaped_append (b ∷ bs) rest =
    elim (b == 34) as (λ v. (if v then 92 ∷ b ∷ escaped (bs ++ rest) else b ∷ escaped (bs ++ rest)) ≡ (if v then 92 ∷ b ∷ escaped bs else b ∷ escaped bs) ++ escaped rest) [
      | true ↦ ap (λ z. 92 ∷ b ∷ z) (escaped_append bs rest)
      | false ↦ ap (λ z. b ∷ z) (escaped_append bs rest)
    ]

not_quote : (b : ℕ) (bs : List ℕ) → (b == 34) ≡ false → escaped bs ≡ bs → escaped (b ∷ bs) ≡ b ∷ bs
not_quote b bs h e = cond-false (b == 34) _ _ h ∙ ap (λ z. b ∷ z) e

high : (b : ℕ) (bs : List ℕ) → 128 ≤ b → escaped bs ≡ bs → escaped (b ∷ bs) ≡ b ∷ bs
high b bs h e = not_quote b bs (grind (arith, nat_tests)) e

-- no byte of another character is a double quote
pub escaped_char : (c : ℕ) → (c == 34) ≡ false → escaped (encode c) ≡ encode c
unfolding encode
escaped_char c h =
    cond_both (ltb c 128) _ _ (λ z. escaped z ≡ z) (λ low. not_quote c [] h refl) (λ n.
    cond_both (ltb c 2048) _ _ (λ z. escaped z ≡ z) (λ low. high _ _ (omega arith) (high _ _ (omega arith) refl)) (λ n.
    cond_both (ltb c 65536) _ _ (λ z. escaped z ≡ z) (λ low. high _ _ (omega arith) (high _ _ (omega arith) (high _ _ (omega arith) refl)))
    (λ n. high _ _ (omega arith) (high _ _ (omega arith) (high _ _ (omega arith) (high _ _ (omega arith) refl))))))

more_pairs_append : (ps : List Pair) (p : Pair) → more_pairs (ps ++ p ∷ []) ≡ more_pairs ps ++ (codes ", " ++ pair_text p)
more_pairs_append [] p = ap (λ z. codes ", " ++ z) (append-nil (pair_text p))
more_pairs_append (q ∷ ps) p = ap (λ z. codes ", " ++ (pair_text q ++ z)) (more_pairs_append ps p) ∙ ap (λ z. codes ", " ++ z) (sym (append_assoc (pair_text q) (more_pairs ps) (codes ", " ++ pair_text p)))

pairs_append : (ps : List Pair) (p : Pair) → pairs_text (ps ++ p ∷ []) ≡ (pairs_text ps ++ (if length ps == 0 then [] else codes ", ")) ++ pair_text p
pairs_append [] p = append-nil (pair_text p)
pairs_append (q ∷ ps) p =
    let some : (length (q ∷ ps) == 0) ≡ false = grind (arith, nat_tests) in
    rw (more_pairs_append ps p, some) (simp append_assoc)

-- one more pair
pub next_pair : (ps : List Pair) (i : ℕ) (d : Pair) → i < length ps → pairs_text (take (i + 1) ps) ≡ (pairs_text (take i ps) ++ (if i == 0 then [] else codes ", ")) ++ pair_text (get_or ps i d)
next_pair ps i d within =
    let count : length (take i ps) ≡ i = simp length-take (omega arith) in
    rw (take_more ps i d within) (rw count at (pairs_append (take i ps) (get_or ps i d)))

-- one more character
pub next_char : (c : ℕ) (out new before behind whole : List ℕ) → before ≡ encode c ++ behind → new ≡ out ++ escaped (encode c) → out ++ escaped before ≡ whole → new ++ escaped behind ≡ whole
next_char c out new before behind whole e f h =
    ap (λ z. z ++ escaped behind) f ∙ append_assoc out (escaped (encode c)) (escaped behind)
    ∙ ap (λ z. out ++ z) (sym (escaped_append (encode c) behind) ∙ ap escaped (sym e)) ∙ h

-- all lines, with the last LF
pub lines_stand : (doc : Doc) (bytes : List ℕ) → bytes ≡ printed doc ++ codes "\n" → IsUtf8 bytes → DocPrints doc → Stands bytes 0 doc (length (printed doc))
lines_stand doc bytes e u h =
    let whole : IsUtf8 (printed doc ++ codes "\n") = subst IsUtf8 e u in
    subst (λ z. Stands z 0 doc (length (printed doc))) (sym e) (printed_stands_before doc (codes "\n") h (cut_before (printed doc) 10 [] (omega arith) whole).0)
