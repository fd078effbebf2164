-- A name has a number exactly where it begins with the prefix of that number.
use Rattle.std.proofs.Common.{◌≡◌, ℕ, ◌+◌, ◌<◌, ◌^◌, Bool, false, not, cond, nat_lt, ◌==◌, List, [], ◌∷◌, ◌++◌, length, take, drop, get_or, Option, Some, None, IsSome, position, is_some, refl, sym, ap, subst, ◌∙◌, append_assoc, arith}
use Rattle.std.specs.Prelude.{option_and_then, bytes_eq}
use Rattle.std.specs.Char.{digit_value}
use Rattle.std.specs.Fmt.{decimal}
use Rattle.std.specs.List.{position_or_len}
use Rattle.std.specs.Str.Parse.{AllDigits}
use Rattle.std.proofs.lemmas.Bool.{lt-ltb, eqb-true, ne_eqb, true≢false}
use Rattle.std.proofs.lemmas.Fmt.{decimal_is_IsNumeral}
use Rattle.std.proofs.lemmas.List.{take_at, drop_at, drop_more, take-append-drop, length-append}
use Rattle.std.proofs.lemmas.List.Quantifiers.{position-Some}
use Rattle.std.proofs.lemmas.Option.{cond_some, option_and_then_some}
use Rattle.std.proofs.lemmas.Slice.Eq.{bytes_eq-Decides}
use Rattle.port_types.specs.Numeral.{numeral_value, NumeralsTellNumbers}
use Rattle.port_types.specs.PortGrammar.{text_behind}
use Rattle.components.specs.Name.{Name}
use Rattle.subst_engine.specs.Prefix.{prefix_text, BeginsWith}
use Rattle.subst_engine.specs.PrefixNumber.{number_before_bar, number_in}

-- What stands behind a front

behind-append : (front rest : List ℕ) → text_behind front (front ++ rest) ≡ Some rest
unfolding text_behind
behind-append front rest = rw (take_at front rest (length front) refl, drop_at front rest (length front) refl, (bytes_eq-Decides front front).1 refl) refl

behind-is : (front text rest : List ℕ) → text_behind front text ≡ Some rest → text ≡ front ++ rest
unfolding text_behind
behind-is front text rest e =
    let parts = cond_some (bytes_eq (take (length front) text) front) (drop (length front) text) rest e in
    let same : take (length front) text ≡ front = (bytes_eq-Decides (take (length front) text) front).0 parts.0 in
    sym (take-append-drop (length front) text) ∙ (λ i. same i ++ parts.1 i)

-- The first `_`

is_bar : ℕ → Bool
is_bar byte = byte == 95

bar-behind : (digits more : List ℕ) → AllDigits 10 digits → position_or_len (λ byte. byte == 95) (digits ++ 95 ∷ more) ≡ length digits
bar-behind [] more all = refl
bar-behind (byte ∷ digits) more all =
    let other : (byte == 95) ≡ false = ne_eqb byte 95 (λ is. let small : digit_value 95 < 10 = subst (λ b. digit_value b < 10) is all.0 in omega arith) in
    ap (λ b. cond (not b) (1 + position_or_len (λ byte. byte == 95) (digits ++ 95 ∷ more)) 0) other
    ∙ ap (λ n. 1 + n) (bar-behind digits more all.1) ∙ omega arith

first_bar : (digits more : List ℕ) → AllDigits 10 digits → position (λ byte. byte == 95) (digits ++ 95 ∷ more) ≡ Some (length digits)
first_bar digits more all =
    let at = bar-behind digits more all in
    let within : length digits < length (digits ++ 95 ∷ more) = omega (arith, length-append digits (95 ∷ more)) in
    ap (λ n. cond (nat_lt n (length (digits ++ 95 ∷ more))) (Some n) None) at ∙ ap (λ b. cond b (Some (length digits)) None) (lt-ltb (length digits) (length (digits ++ 95 ∷ more)) within)

-- the text before the first `_`, and behind it
split_at_bar : (text : List ℕ) (end : ℕ) → position (λ byte. byte == 95) text ≡ Some end → text ≡ take end text ++ 95 ∷ drop (end + 1) text
split_at_bar text end found =
    let there = position-Some (λ byte. byte == 95) text end 0 found in
    let bar : get_or text end 0 ≡ 95 = eqb-true (get_or text end 0) 95 there.1 in
    sym (take-append-drop end text) ∙ ap (λ l. take end text ++ l) (drop_more text end 0 there.0 ∙ ap (λ b. b ∷ drop (end + 1) text) bar)

module _ (law : NumeralsTellNumbers) where
  before_bar : (number : ℕ) (more : List ℕ) → number < 2 ^ 64 → number_before_bar (decimal number ++ 95 ∷ more) ≡ Some number
  before_bar number more small =
      let all : AllDigits 10 (decimal number) = (decimal_is_IsNumeral number small).0.1 in
      ap (option_and_then (λ end. numeral_value (take end (decimal number ++ 95 ∷ more)))) (first_bar (decimal number) more all)
      ∙ ap numeral_value (take_at (decimal number) (95 ∷ more) (length (decimal number)) refl)
      ∙ (law (decimal number) number).1 (small, refl)

  before_bar_is : (text : List ℕ) (number : ℕ) → number_before_bar text ≡ Some number → (more : List ℕ) × (text ≡ decimal number ++ 95 ∷ more)
  before_bar_is text number is =
      option_and_then_some (λ end. numeral_value (take end text)) (position (λ byte. byte == 95) text) number is
      (λ end found value. (drop (end + 1) text, split_at_bar text end found ∙ ap (λ l. l ++ 95 ∷ drop (end + 1) text) ((law (take end text) number).0 value).1))

  -- a name with a number begins with its prefix
  pub begins : (name : Name) (number : ℕ) → number_in name ≡ Some number → BeginsWith (prefix_text number) name
  begins name number is =
      option_and_then_some number_before_bar (text_behind (111 ∷ 111 ∷ 111 ∷ 95 ∷ []) name) number is
      (λ rest found value.
      let (more, written) = before_bar_is rest number value in
      let whole : name ≡ prefix_text number ++ more =
      behind-is (111 ∷ 111 ∷ 111 ∷ 95 ∷ []) name rest found ∙ ap (λ l. 111 ∷ 111 ∷ 111 ∷ 95 ∷ l) (written ∙ sym (append_assoc (decimal number) (95 ∷ []) more)) in
      ap (λ o. is_some o) (ap (text_behind (prefix_text number)) whole ∙ behind-append (prefix_text number) more))

  -- and a name that begins with a prefix has its number
  pub number_of_prefix : (name : Name) (number : ℕ) → number < 2 ^ 64 → BeginsWith (prefix_text number) name → number_in name ≡ Some number
  number_of_prefix name number small begin = by (text_behind (prefix_text number) name) refl begin
    where
      by : (o : Option (List ℕ)) → text_behind (prefix_text number) name ≡ o → IsSome o → number_in name ≡ Some number
      by None found there = absurd (true≢false (sym there))
      by (Some more) found there =
          let whole : name ≡ 111 ∷ 111 ∷ 111 ∷ 95 ∷ (decimal number ++ 95 ∷ more) =
          behind-is (prefix_text number) name more found ∙ ap (λ l. 111 ∷ 111 ∷ 111 ∷ 95 ∷ l) (append_assoc (decimal number) (95 ∷ []) more) in
          ap number_in whole
          ∙ ap (option_and_then number_before_bar) (behind-append (111 ∷ 111 ∷ 111 ∷ 95 ∷ []) (decimal number ++ 95 ∷ more))
          ∙ before_bar number more small
