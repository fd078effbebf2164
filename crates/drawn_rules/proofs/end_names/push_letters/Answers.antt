use Rattle.std.proofs.Common.{◌≡◌, ◌<◌, ◌+◌, ℕ, suc, sym, ap, ◌∙◌, List, [], ◌∷◌, ◌++◌, take, length, append_assoc, arith, slice_index_or, string_bytes, rules}
use Rattle.std.proofs.Math.Seq.{take-suc}
use Rattle.std.proofs.lemmas.List.{length-take-le}
use Rattle.components.specs.Name.{Name}
use Rattle.drawn_rules.specs.EndNames.{other_letter, letters_from}
use Rattle.drawn_rules.proofs.end_names.push_letters.Goals as goal

letters_append : (from : ℕ) (names : List Name) (name : Name) → letters_from from (names ++ name ∷ []) ≡ letters_from from names ++ other_letter name (from + length names) ∷ []
letters_append from [] name = let e : from ≡ from + 0 = omega arith in ap (λ z. other_letter name z ∷ []) e
letters_append from (first ∷ names) name =
    let e : suc from + length names ≡ from + suc (length names) = omega arith in
    ap (λ z. other_letter first from ∷ z) (letters_append (suc from) names name ∙ ap (λ z. letters_from (suc from) names ++ other_letter name z ∷ []) e)

letters_more : (names : List Name) (place : ℕ) (name : Name) → slice_index_or names place name ≡ name → place < length names →
    letters_from 1 (take (place + 1) names) ≡ letters_from 1 (take place names) ++ other_letter name (place + 1) ∷ []
letters_more names place name is within =
    let next : place + 1 ≡ suc place = omega arith in
    let long : 1 + length (take place names) ≡ place + 1 = ap (λ z. 1 + z) (length-take-le place names (omega (arith, within))) ∙ omega arith in
    ap (λ z. letters_from 1 (take z names)) next ∙ ap (letters_from 1) (take-suc names place name within ∙ ap (λ z. take place names ++ z ∷ []) is)
    ∙ letters_append 1 (take place names) name ∙ ap (λ z. letters_from 1 (take place names) ++ other_letter name z ∷ []) long

step : (new old start letters more letter : List ℕ) → new ≡ old ++ letter → old ≡ start ++ letters → more ≡ letters ++ letter → new ≡ start ++ more
step new old start letters more letter e f g = e ∙ ap (λ z. z ++ letter) f ∙ append_assoc start letters letter ∙ ap (λ z. start ++ z) (sym g)

pub loop-place-preserved : goal.loop-place-preserved
loop-place-preserved c =
    let name = c.index-names-place.result in
    let letter = c.other_letter.ensures ∙ ap (λ z. other_letter z (c.loop-place.place + 1) ∷ []) c.bytes.ensures.same in
    step (string_bytes c.push_str.new.self) (string_bytes c.loop-place.text) (string_bytes c.args.text.now) (letters_from 1 (take c.loop-place.place c.args.names.now)) (letters_from 1 (take (c.loop-place.place + 1) c.args.names.now)) c.other_letter.result.now
    (search (rules, c.push_str.ensures.bytes)) c.loop-place.invariant
    (letters_more c.args.names.now c.loop-place.place name (search (rules, c.index-names-place.is)) c.loop-place-test.true ∙ ap (λ z. letters_from 1 (take c.loop-place.place c.args.names.now) ++ z) (sym letter))
