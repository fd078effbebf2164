-- Printed ports are read, and what is read is printed.
use Rattle.std.proofs.Common.{◌≡◌, ◌≢◌, ◌==◌, ◌&&◌, ℕ, ◌+◌, ◌^◌, ◌≤◌, ◌<◌, Bool, true, false, cond, List, [], ◌∷◌, ◌++◌, length, map, Option, Some, None, Ok, Err, codes, refl, sym, ap, subst, ◌∙◌, append_assoc, append-nil, arith}
use Rattle.std.specs.Prelude.{nat_lt, IsTrue}
use Rattle.std.specs.Char.{is_ascii_digit}
use Rattle.std.specs.Fmt.{decimal}
use Rattle.std.specs.List.{list_all, list_any, filter, slice_split, join_with_byte, All}
use Rattle.std.specs.Str.Parse.{digits_value}
use Rattle.std.proofs.lemmas.Bool.Decides.{nat_tests}
use Rattle.std.proofs.lemmas.List.{length-map, length-append}
use Rattle.std.proofs.lemmas.List.Elements.{All-nil, All-cons, All-head, All-tail, All-append, All-weaker}
use Rattle.std.proofs.lemmas.List.Folds.{list_any_none}
use Rattle.std.proofs.lemmas.List.Splits.{slice_split_none, slice_split_at}
use Rattle.std.proofs.lemmas.List.Sums.{AllPass-from_list_all}
use Rattle.port_types.specs.declared.side.Side.{Side}
use Rattle.port_types.specs.declared.side.Side.TheVariants.{Ins, Outs}
use Rattle.port_types.specs.declared.port.Port.{Port}
use Rattle.port_types.specs.declared.port.PortFault.TheVariants.{MemoryPort, TooManyPorts, TooWide, BadPort}
use Rattle.port_types.specs.Shape.{IsShape}
use Rattle.port_types.specs.PortText.{side_word, port_name, shape_text, marker_text, marked_text, marked_texts_from, marked_ports_text}
use Rattle.port_types.specs.Numeral.{is_numeral}
use Rattle.port_types.specs.PortGrammar.{is_blank, is_word, words_of, shape_within, shape_reading, is_marker_or_none, are_marked, with_marker, behind_marker, behind_name, behind_found, text_behind, port_reading, word_reading, words_reading, reading}
use Rattle.port_types.specs.PortLaws.{ArePorts, ReadsBack, ReadsPorts, IsUnbounded, TooWideIsUnbounded}
use Rattle.port_types.proofs.Numerals.{numeral_digits, numeral_of, value_of}
use Rattle.port_types.proofs.Fields.{shape_test, no_shape}
use Rattle.port_types.proofs.Fronts.{behind-append, behind-is}
use Rattle.port_types.proofs.PortWords.{ok_ok, both_true, port_word, port_read_is, port_too_wide}
use Rattle.port_types.proofs.Words.{as_read, read_as, few_ports, all_marked}

-- ---- pieces that hold no separator

abbrev AreUncut : (ℕ → Bool) → List (List ℕ) → Type 0
AreUncut cuts [] = Unit {0}
AreUncut cuts (piece ∷ pieces) = All (λ byte. cuts byte ≡ false) piece × AreUncut cuts pieces

-- joined by a separator they are split again
split_joined : (cuts : ℕ → Bool) (separator : ℕ) (pieces : List (List ℕ)) → cuts separator ≡ true → 0 < length pieces → AreUncut cuts pieces → slice_split cuts (join_with_byte separator pieces) ≡ pieces
split_joined cuts separator [] is some uncut = absurd (omega arith)
split_joined cuts separator (piece ∷ []) is some uncut = slice_split_none cuts piece uncut.0
split_joined cuts separator (piece ∷ next ∷ pieces) is some uncut =
    slice_split_at cuts piece separator (join_with_byte separator (next ∷ pieces)) uncut.0 is
    ∙ ap (λ rest. piece ∷ rest) (split_joined cuts separator (next ∷ pieces) is (omega arith) uncut.1)

-- ---- the bytes of a port's text: past the blank, and no `*`

abbrev IsInWord : ℕ → Type 0
IsInWord byte = (32 < byte) × (byte ≢ 42)

not_star : (byte : ℕ) → IsInWord byte → (byte == 42) ≡ false
not_star byte is = grind (arith, nat_tests)

not_blank : (byte : ℕ) → IsInWord byte → is_blank byte ≡ false
not_blank byte is = grind (arith, nat_tests)

digit_in_word : (byte : ℕ) → is_ascii_digit byte ≡ true → IsInWord byte
digit_in_word byte is = (grind (arith, nat_tests), λ same. absurd (grind (arith, nat_tests)))

digit_no_dot : (byte : ℕ) → is_ascii_digit byte ≡ true → (byte == 46) ≡ false
digit_no_dot byte is = grind (arith, nat_tests)

numeral_in_word : (numeral : List ℕ) → is_numeral numeral ≡ true → All IsInWord numeral
numeral_in_word numeral is = All-weaker (λ byte. is_ascii_digit byte ≡ true) IsInWord digit_in_word numeral (AllPass-from_list_all is_ascii_digit numeral (numeral_digits numeral is))

numeral_no_dot : (numeral : List ℕ) → is_numeral numeral ≡ true → All (λ byte. (byte == 46) ≡ false) numeral
numeral_no_dot numeral is = All-weaker (λ byte. is_ascii_digit byte ≡ true) (λ byte. (byte == 46) ≡ false) digit_no_dot numeral (AllPass-from_list_all is_ascii_digit numeral (numeral_digits numeral is))

one_in_word : (byte : ℕ) → IsInWord byte → All IsInWord (byte ∷ [])
one_in_word byte is = All-cons IsInWord byte [] is (All-nil IsInWord)

side_in_word : (side : Side) → All IsInWord (side_word side)
side_in_word Ins = All-cons IsInWord 105 (110 ∷ []) (omega arith, λ e. omega arith) (one_in_word 110 (omega arith, λ e. omega arith))
side_in_word Outs =
    All-cons IsInWord 111 (117 ∷ 116 ∷ []) (omega arith, λ e. omega arith)
    (All-cons IsInWord 117 (116 ∷ []) (omega arith, λ e. omega arith) (one_in_word 116 (omega arith, λ e. omega arith)))

marker_in_word : (marker : Option ℕ) → is_marker_or_none marker ≡ true → All IsInWord (marker_text marker)
marker_in_word None is = All-nil IsInWord
marker_in_word (Some byte) is = one_in_word byte (grind (arith, nat_tests), λ same. absurd (grind (arith, nat_tests)))

-- ---- numerals joined by dots

fields_uncut : (fields : List (List ℕ)) → list_all is_numeral fields ≡ true → AreUncut (λ byte. byte == 46) fields
fields_uncut [] are = tt
fields_uncut (field ∷ fields) are = let parts = both_true (is_numeral field) (list_all is_numeral fields) are in (numeral_no_dot field parts.0, fields_uncut fields parts.1)

fields_in_word : (fields : List (List ℕ)) → list_all is_numeral fields ≡ true → All IsInWord (join_with_byte 46 fields)
fields_in_word [] are = All-nil IsInWord
fields_in_word (field ∷ []) are = numeral_in_word field (both_true (is_numeral field) true are).0
fields_in_word (field ∷ next ∷ fields) are =
    let parts = both_true (is_numeral field) (list_all is_numeral (next ∷ fields)) are in
    All-append IsInWord field (46 ∷ join_with_byte 46 (next ∷ fields)) (numeral_in_word field parts.0)
    (All-cons IsInWord 46 (join_with_byte 46 (next ∷ fields)) (omega arith, λ e. omega arith) (fields_in_word (next ∷ fields) parts.1))

-- they are read as their numbers, within the bounds or past them
pub shape_of_fields : (fields : List (List ℕ)) → 0 < length fields → list_all is_numeral fields ≡ true → shape_reading (join_with_byte 46 fields) ≡ shape_within (map (digits_value 10) fields)
unfolding shape_reading
shape_of_fields fields some are =
    let again = split_joined (λ byte. byte == 46) 46 fields refl some (fields_uncut fields are) in
    ap (λ fs. cond (list_all is_numeral fs) (shape_within (map (digits_value 10) fs)) (Err BadPort)) again
    ∙ ap (λ b. cond b (shape_within (map (digits_value 10) fields)) (Err BadPort)) are

-- ---- the widths of a shape

below_numeral : (width : ℕ) → width ≤ 64 → width < 2 ^ 64
below_numeral width small = omega arith

widths_are_numerals : (widths : List ℕ) → All (λ width. width ≤ 64) widths → list_all is_numeral (map decimal widths) ≡ true
widths_are_numerals [] small = refl
widths_are_numerals (width ∷ widths) small =
    let here = numeral_of width (below_numeral width (All-head (λ w. w ≤ 64) width widths small)) in
    let rest = widths_are_numerals widths (All-tail (λ w. w ≤ 64) width widths small) in
    λ i. here i && rest i

widths_valued : (widths : List ℕ) → All (λ width. width ≤ 64) widths → map (digits_value 10) (map decimal widths) ≡ widths
widths_valued [] small = refl
widths_valued (width ∷ widths) small =
    let here = value_of width (below_numeral width (All-head (λ w. w ≤ 64) width widths small)) in
    let rest = widths_valued widths (All-tail (λ w. w ≤ 64) width widths small) in
    λ i. here i ∷ rest i

pub shape_read_back : (shape : List ℕ) → IsShape shape → shape_reading (shape_text shape) ≡ Ok shape
shape_read_back shape is =
    let numerals = widths_are_numerals shape is.narrow in
    let some : 0 < length (map decimal shape) = omega (arith, is.some, length-map shape decimal) in
    shape_of_fields (map decimal shape) some numerals
    ∙ ap shape_within (widths_valued shape is.narrow)
    ∙ ap (λ b. cond b (Ok shape) (Err TooWide)) (shape_test shape is)

-- ---- a port word

word_in_parts : (side : Side) (number : ℕ) (marker : Option ℕ) (text : List ℕ) → port_name side number ++ marker_text marker ++ codes ":" ++ text ≡ port_name side number ++ (marker_text marker ++ 58 ∷ text)
word_in_parts side number marker text =
    append_assoc (port_name side number ++ marker_text marker) (codes ":") text ∙ append_assoc (port_name side number) (marker_text marker) (58 ∷ text)

behind_name_read : (marker : Option ℕ) (text : List ℕ) → is_marker_or_none marker ≡ true → behind_name (marker_text marker ++ 58 ∷ text) ≡ with_marker marker (shape_reading text)
unfolding behind_name
behind_name_read None text is = refl
behind_name_read (Some byte) text is = ap (λ b. cond b (behind_marker (Some byte) (58 ∷ text)) (behind_marker None (byte ∷ 58 ∷ text))) is

-- a port word says its marker and what the text of its shape says
pub port_word_read : (side : Side) (number : ℕ) (marker : Option ℕ) (text : List ℕ) → is_marker_or_none marker ≡ true →
    port_reading side number (port_name side number ++ marker_text marker ++ codes ":" ++ text) ≡ with_marker marker (shape_reading text)
unfolding port_reading
port_word_read side number marker text is =
    ap (λ word. behind_found (text_behind (port_name side number) word)) (word_in_parts side number marker text)
    ∙ ap behind_found (behind-append (port_name side number) (marker_text marker ++ 58 ∷ text))
    ∙ behind_name_read marker text is

decimal_in_word : (number : ℕ) → number < 2 ^ 64 → All IsInWord (decimal number)
decimal_in_word number small = numeral_in_word (decimal number) (numeral_of number small)

marked_in_word : (side : Side) (number : ℕ) (port : Port) → number < 2 ^ 64 → is_marker_or_none port.marker ≡ true → IsShape port.shape → All IsInWord (marked_text side number port)
marked_in_word side number port small marked shape =
    All-append IsInWord (port_name side number ++ marker_text port.marker ++ codes ":") (shape_text port.shape)
    (All-append IsInWord (port_name side number ++ marker_text port.marker) (codes ":")
    (All-append IsInWord (port_name side number) (marker_text port.marker)
    (All-append IsInWord (side_word side) (decimal number) (side_in_word side) (decimal_in_word number small))
    (marker_in_word port.marker marked))
    (one_in_word 58 (omega arith, λ e. omega arith)))
    (fields_in_word (map decimal port.shape) (widths_are_numerals port.shape shape.narrow))

not_late : (number : ℕ) → number ≤ 64 → nat_lt 64 number ≡ false
not_late number small = grind (arith, nat_tests)

-- the text of a port is read as the port
marked_read : (side : Side) (number : ℕ) (port : Port) → number ≤ 64 → is_marker_or_none port.marker ≡ true → IsShape port.shape → word_reading side number (marked_text side number port) ≡ Ok port
unfolding word_reading
marked_read side number port small marked shape =
    let word = marked_text side number port in
    let in_word = marked_in_word side number port (omega arith) marked shape in
    let no_star : list_any (λ byte. byte == 42) word ≡ false = list_any_none (λ byte. byte == 42) word (All-weaker IsInWord (λ byte. (byte == 42) ≡ false) not_star word in_word) in
    let read : port_reading side number word ≡ Ok port =
    port_word_read side number port.marker (shape_text port.shape) marked ∙ ap (with_marker port.marker) (shape_read_back port.shape shape) in
    ap (λ b. cond b (Err MemoryPort) (cond (nat_lt 64 number) (Err TooManyPorts) (port_reading side number word))) no_star
    ∙ ap (λ b. cond b (Err TooManyPorts) (port_reading side number word)) (not_late number small)
    ∙ read

-- ---- the words of a text

word_some : (side : Side) (number : ℕ) (port : Port) → 0 < length (marked_text side number port)
word_some side number port =
    omega (arith, length-append (port_name side number ++ marker_text port.marker ++ codes ":") (shape_text port.shape), length-append (port_name side number ++ marker_text port.marker) (codes ":"))

some_is_word : (part : List ℕ) → 0 < length part → is_word part ≡ true
some_is_word part some = grind (arith, nat_tests)

texts_are_words : (side : Side) (number : ℕ) (ports : List Port) → filter is_word (marked_texts_from side number ports) ≡ marked_texts_from side number ports
texts_are_words side number [] = refl
texts_are_words side number (port ∷ ports) =
    let word = marked_text side number port in
    let rest = marked_texts_from side (number + 1) ports in
    ap (λ b. cond b (word ∷ filter is_word rest) (filter is_word rest)) (some_is_word word (word_some side number port))
    ∙ ap (λ ws. word ∷ ws) (texts_are_words side (number + 1) ports)

ports_marked : (port : Port) (ports : List Port) → IsTrue (are_marked (port ∷ ports)) → (is_marker_or_none port.marker ≡ true) × IsTrue (are_marked ports)
ports_marked port ports marked = both_true (is_marker_or_none port.marker) (are_marked ports) marked

texts_uncut : (side : Side) (number : ℕ) (ports : List Port) → number + length ports < 2 ^ 64 → IsTrue (are_marked ports) → All (λ port. IsShape port.shape) ports → AreUncut is_blank (marked_texts_from side number ports)
texts_uncut side number [] small marked shapes = tt
texts_uncut side number (port ∷ ports) small marked shapes =
    let marks = ports_marked port ports marked in
    let in_word = marked_in_word side number port (omega arith) marks.0 (All-head (λ p. IsShape p.shape) port ports shapes) in (
      All-weaker IsInWord (λ byte. is_blank byte ≡ false) not_blank (marked_text side number port) in_word,
      texts_uncut side (number + 1) ports (omega arith) marks.1 (All-tail (λ p. IsShape p.shape) port ports shapes),
    )

printed_words : (side : Side) (ports : List Port) → ArePorts ports → words_of (marked_ports_text side ports) ≡ marked_texts_from side 1 ports
printed_words side [] are = refl
printed_words side (port ∷ ports) are =
    ap (filter is_word) (split_joined is_blank 32 (marked_texts_from side 1 (port ∷ ports)) refl (omega arith) (texts_uncut side 1 (port ∷ ports) (omega (arith, are.few)) are.marked are.shapes))
    ∙ texts_are_words side 1 (port ∷ ports)

texts_read : (side : Side) (number : ℕ) (ports : List Port) → number + length ports ≤ 65 → IsTrue (are_marked ports) → All (λ port. IsShape port.shape) ports → words_reading side number (marked_texts_from side number ports) ≡ Ok ports
texts_read side number [] small marked shapes = refl
texts_read side number (port ∷ ports) small marked shapes =
    let marks = ports_marked port ports marked in
    as_read side number (marked_text side number port) (marked_texts_from side (number + 1) ports) port ports
    (marked_read side number port (omega arith) marks.0 (All-head (λ p. IsShape p.shape) port ports shapes))
    (texts_read side (number + 1) ports (omega arith) marks.1 (All-tail (λ p. IsShape p.shape) port ports shapes))

pub reads_back : ReadsBack
reads_back side ports are = ap (words_reading side 1) (printed_words side ports are) ∙ texts_read side 1 ports (omega (arith, are.few)) are.marked are.shapes

-- ---- what is read is printed

word_is_text : (side : Side) (number : ℕ) (word : List ℕ) (port : Port) → word_reading side number word ≡ Ok port → (word ≡ marked_text side number port) × IsShape port.shape
word_is_text side number word port read =
    let parts = port_read_is side number word port (port_word side number word port read) in
    (behind-is (port_name side number) word (marker_text port.marker ++ 58 ∷ shape_text port.shape) parts.is ∙ sym (word_in_parts side number port.marker (shape_text port.shape)), parts.shape)

words_are_texts : (side : Side) (number : ℕ) (words : List (List ℕ)) (ports : List Port) → words_reading side number words ≡ Ok ports → (words ≡ marked_texts_from side number ports) × All (λ port. IsShape port.shape) ports
words_are_texts side number [] ports read = subst (λ ps. ([] ≡ marked_texts_from side number ps) × All (λ port. IsShape port.shape) ps) (ok_ok [] ports read) (refl, All-nil (λ port. IsShape port.shape))
words_are_texts side number (word ∷ words) ports read =
    let both = read_as side number word words ports read in
    let here = word_is_text side number word both.first both.is_first in
    let rest = words_are_texts side (number + 1) words both.others both.are_others in
    subst (λ ps. (word ∷ words ≡ marked_texts_from side number ps) × All (λ port. IsShape port.shape) ps) (sym both.are)
    ((λ i. here.0 i ∷ rest.0 i), All-cons (λ port. IsShape port.shape) both.first both.others here.1 rest.1)

pub reads_ports : ReadsPorts
reads_ports side text ports = (to, from)
  where
    to : reading side text ≡ Ok ports → (words_of text ≡ marked_texts_from side 1 ports) × ArePorts ports
    to read =
        let texts = words_are_texts side 1 (words_of text) ports read in (
          texts.0,
          record {
            few = omega (arith, few_ports side 1 (words_of text) ports (omega arith) read);
            marked = all_marked side 1 (words_of text) ports read;
            shapes = texts.1;
          },
        )

    from : (words_of text ≡ marked_texts_from side 1 ports) × ArePorts ports → reading side text ≡ Ok ports
    from is = ap (words_reading side 1) is.0 ∙ texts_read side 1 ports (omega (arith, is.1.few)) is.1.marked is.1.shapes

pub too_wide_is_unbounded : TooWideIsUnbounded
too_wide_is_unbounded side number word = (to, from)
  where
    to : port_reading side number word ≡ Err TooWide → IsUnbounded side number word
    to read =
        let parts = port_too_wide side number word read in
        let wide = parts.4 in
        let whole : word ≡ port_name side number ++ marker_text parts.0 ++ codes ":" ++ parts.1 =
        behind-is (port_name side number) word (marker_text parts.0 ++ 58 ∷ parts.1) parts.2 ∙ sym (word_in_parts side number parts.0 parts.1) in
        record {
          marker = parts.0;
          fields = wide.fields;
          is = whole ∙ ap (λ text. port_name side number ++ marker_text parts.0 ++ codes ":" ++ text) wide.is;
          marked = parts.3;
          some = wide.some;
          numerals = wide.numerals;
          past = wide.past;
        }

    from : IsUnbounded side number word → port_reading side number word ≡ Err TooWide
    from is =
        ap (port_reading side number) is.is
        ∙ port_word_read side number is.marker (join_with_byte 46 is.fields) is.marked
        ∙ ap (with_marker is.marker) (shape_of_fields is.fields is.some is.numerals)
        ∙ ap (λ b. with_marker is.marker (cond b (Ok (map (digits_value 10) is.fields)) (Err TooWide))) (no_shape (map (digits_value 10) is.fields) is.past)
