-- The names of the new nodes, and of the Entry and the Exit, are allowed.
use Rattle.std.proofs.Common.{◌≡◌, inl, inr, ℕ, suc, ◌+◌, ◌^◌, ◌<◌, ◌≤◌, Bool, true, false, ◌&&◌, ◌||◌, ◌==◌, if◌then◌else◌, length, nat_le, slice_index, slice_index_or, refl, ap, ◌∙◌, List, [], ◌∷◌, ◌++◌, arith, length-append}
use Rattle.std.specs.List.{list_all}
use Rattle.std.specs.Fmt.{decimal}
use Rattle.std.specs.Str.Parse.{AllDigits}
use Rattle.std.proofs.lemmas.Bool.{and_parts, and_from, or_cases, or_left, leb-true, le-leb}
use Rattle.std.proofs.lemmas.Fmt.{decimal_is_IsNumeral, length-decimal-le}
use Rattle.std.proofs.lemmas.List.Folds.{list_all-append}
use Rattle.std.proofs.lemmas.List.Sums.{AllPass-from_list_all}
use Rattle.std.proofs.lemmas.Str.{IsUtf8-from_ascii}
use Rattle.std.proofs.lemmas.Str.Ascii.{IsAscii-from_all}
use Rattle.std.proofs.lemmas.Str.Parse.{digit_from_value}
use Rattle.components.specs.Name.{Name, IsNameByte, IsName}
use Rattle.subst_engine.specs.Prefix.{prefix_text}
use Rattle.drawn_rules.specs.EndNames.{other_letter, letters_from, entry_name, exit_name}

-- a digit, a `_` or a small letter
abbrev pub is_word_byte : ℕ → Bool
is_word_byte c = (nat_le 48 c && nat_le c 57) || (nat_le 95 c && nat_le c 122)

record WordByte (c : ℕ) : Type 0 where
  name : IsNameByte c
  ascii : c < 128

between : (low c high : ℕ) → (nat_le low c && nat_le c high) ≡ true → (low ≤ c) × (c ≤ high)
between low c high test = let parts = and_parts (nat_le low c) (nat_le c high) test in (leb-true low c parts.0, leb-true c high parts.1)

word_byte : (c : ℕ) → is_word_byte c ≡ true → WordByte c
word_byte c test =
    elim (or_cases (nat_le 48 c && nat_le c 57) (nat_le 95 c && nat_le c 122) test) [
      | inl digit ↦ let in_range = between 48 c 57 digit in record { name = (omega arith, (λ is. omega arith), (λ is. omega arith)); ascii = omega arith }
      | inr letter ↦ let in_range = between 95 c 122 letter in record { name = (omega arith, (λ is. omega arith), (λ is. omega arith)); ascii = omega arith }
    ]

pub word_name : (name : Name) → list_all is_word_byte name ≡ true → 1 ≤ length name → length name ≤ 255 → IsName name
word_name name test some few =
    let letters = AllPass-from_list_all is_word_byte name test in
    record {
      some = some;
      few = few;
      bytes = λ k d within. (word_byte (slice_index_or name k d) (letters k d within)).name;
      utf8 = IsUtf8-from_ascii name (IsAscii-from_all name (λ k d within. (word_byte (slice_index_or name k d) (letters k d within)).ascii));
    }

-- New nodes

digits_pass : (ds : List ℕ) → AllDigits 10 ds → list_all is_word_byte ds ≡ true
digits_pass [] h = refl
digits_pass (c ∷ cs) h =
    let in_range = digit_from_value c h.0 in
    let digit : (nat_le 48 c && nat_le c 57) ≡ true = and_from (nat_le 48 c) (nat_le c 57) (le-leb 48 c in_range.0) (le-leb c 57 in_range.1) in
    and_from (is_word_byte c) (list_all is_word_byte cs) (or_left (nat_le 48 c && nat_le c 57) (nat_le 95 c && nat_le c 122) digit) (digits_pass cs h.1)

pub decimal_pass : (number : ℕ) → number < 2 ^ 64 → list_all is_word_byte (decimal number) ≡ true
decimal_pass number small = digits_pass (decimal number) (decimal_is_IsNumeral number small).0.1

prefix_pass : (number : ℕ) → number < 2 ^ 64 → list_all is_word_byte (prefix_text number) ≡ true
prefix_pass number small =
    list_all-append is_word_byte (decimal number) (95 ∷ []) ∙ and_from (list_all is_word_byte (decimal number)) true (decimal_pass number small) refl

prefix_short : (number : ℕ) → number < 2 ^ 64 → length (prefix_text number) ≤ 25
prefix_short number small =
    let few : length (decimal number) ≤ 20 = length-decimal-le 20 number (omega arith) (omega arith) small in
    let long : length (decimal number ++ (95 ∷ [])) ≡ length (decimal number) + 1 = length-append (decimal number) (95 ∷ []) in
    omega (arith, few, long)

pub prefixed_name : (number : ℕ) → number < 2 ^ 64 → (word : List ℕ) → list_all is_word_byte word ≡ true → length word ≤ 200 → IsName (prefix_text number ++ word)
prefixed_name number small word test short =
    let front = prefix_short number small in
    let long : length (prefix_text number ++ word) ≡ length (prefix_text number) + length word = length-append (prefix_text number) word in
    word_name (prefix_text number ++ word)
    (list_all-append is_word_byte (prefix_text number) word ∙ and_from (list_all is_word_byte (prefix_text number)) (list_all is_word_byte word) (prefix_pass number small) test)
    (omega arith)
    (omega (arith, front, long, short))

-- The Entry and the Exit

letter_passes : (b : Bool) → is_word_byte (if b then 98 else 97) ≡ true
letter_passes true = refl
letter_passes false = refl

letters_pass : (place : ℕ) (names : List Name) → list_all is_word_byte (letters_from place names) ≡ true
letters_pass place [] = refl
letters_pass place (name ∷ names) =
    and_from (is_word_byte (other_letter name place)) (list_all is_word_byte (letters_from (suc place) names)) (letter_passes (slice_index name place == 97)) (letters_pass (suc place) names)

letters_long : (place : ℕ) (names : List Name) → length (letters_from place names) ≡ length names
letters_long place [] = refl
letters_long place (name ∷ names) = ap suc (letters_long (suc place) names)

pub entry_is_name : (names : List Name) → length names ≤ 254 → IsName (entry_name names)
entry_is_name names few = let long = letters_long 1 names in word_name (entry_name names) (letters_pass 1 names) (omega arith) (omega (arith, long, few))

pub exit_is_name : (names : List Name) → length names ≤ 254 → IsName (exit_name names)
exit_is_name names few = let long = letters_long 1 names in word_name (exit_name names) (letters_pass 1 names) (omega arith) (omega (arith, long, few))
