-- What one word says.
use Rattle.std.proofs.Common.{◌≡◌, ◌≢◌, ◌==◌, ◌&&◌, ℕ, ◌≤◌, ◌<◌, Bool, true, false, cond, List, [], ◌∷◌, ◌++◌, length, map, Option, Some, None, Result, Ok, Err, refl, sym, ap, subst, ◌∙◌, arith}
use Rattle.std.specs.Prelude.{nat_lt}
use Rattle.std.specs.Fmt.{decimal}
use Rattle.std.specs.List.{list_all, list_any, All, join_with_byte}
use Rattle.std.specs.Str.Parse.{digits_value}
use Rattle.std.proofs.lemmas.Bool.Decides.{nat_tests}
use Rattle.std.proofs.lemmas.Bool.{eqb-true}
use Rattle.std.proofs.lemmas.List.Elements.{All-head, All-tail}
use Rattle.std.proofs.lemmas.List.Splits.{join_with_byte-slice_split, length-slice_split}
use Rattle.port_types.specs.declared.side.Side.{Side}
use Rattle.port_types.specs.declared.port.Port.{Port}
use Rattle.port_types.specs.declared.port.PortFault.{PortFault}
use Rattle.port_types.specs.declared.port.PortFault.TheVariants.{MemoryPort, TooManyPorts, TooWide, BadPort}
use Rattle.port_types.specs.Shape.{IsShape}
use Rattle.port_types.specs.PortText.{port_name, shape_text, marker_text}
use Rattle.port_types.specs.Numeral.{is_numeral}
use Rattle.port_types.specs.PortGrammar.{is_shape, fields_of, shape_reading, is_marker, is_marker_or_none, with_marker, behind_marker, behind_name, behind_found, text_behind, port_reading, word_reading}
use Rattle.port_types.proofs.Numerals.{written}
use Rattle.port_types.proofs.Fields.{shape_test, shape_from_test}

-- ---- two answers

pub ok_ok : {A : Type 0} (x y : A) → ◌≡◌ {A = Result A PortFault} (Ok x) (Ok y) → x ≡ y
ok_ok x y e = cc

pub no_ok : {A : Type 0} (f : PortFault) (y : A) → ◌≡◌ {A = Result A PortFault} (Err f) (Ok y) → ⊥
no_ok f y e = absurd (cc)

pub both_true : (a b : Bool) → a && b ≡ true → (a ≡ true) × (b ≡ true)
both_true true true e = (refl, refl)
both_true true false e = absurd (cc)
both_true false b e = absurd (cc)

-- ---- the words that are judged as ports

pub few_words : (side : Side) (number : ℕ) (word : List ℕ) (port : Port) → word_reading side number word ≡ Ok port → number ≤ 64
unfolding word_reading
few_words side number word port is = by (list_any (λ byte. byte == 42) word) (nat_lt 64 number) refl refl is
  where
    by : (memory late : Bool) → list_any (λ byte. byte == 42) word ≡ memory → nat_lt 64 number ≡ late → cond memory (Err MemoryPort) (cond late (Err TooManyPorts) (port_reading side number word)) ≡ Ok port → number ≤ 64
    by true late m l read = absurd (no_ok MemoryPort port read)
    by false true m l read = absurd (no_ok TooManyPorts port read)
    by false false m l read = grind (arith, nat_tests)

-- a word that was read is a port word
pub port_word : (side : Side) (number : ℕ) (word : List ℕ) (port : Port) → word_reading side number word ≡ Ok port → port_reading side number word ≡ Ok port
unfolding word_reading
port_word side number word port is = by (list_any (λ byte. byte == 42) word) (nat_lt 64 number) is
  where
    by : (memory late : Bool) → cond memory (Err MemoryPort) (cond late (Err TooManyPorts) (port_reading side number word)) ≡ Ok port → port_reading side number word ≡ Ok port
    by true late read = absurd (no_ok MemoryPort port read)
    by false true read = absurd (no_ok TooManyPorts port read)
    by false false read = read

-- ---- the parts of a port word

-- what a word says that is more than a bad port: its name, a marker or none, a colon and the text of a shape
pub record HasParts (side : Side) (number : ℕ) (word : List ℕ) (answer : Result Port PortFault) : Type 0 where
  pub marker : Option ℕ
  pub text : List ℕ
  pub is : text_behind (port_name side number) word ≡ Some (marker_text marker ++ 58 ∷ text)
  pub marked : is_marker_or_none marker ≡ true
  pub read : with_marker marker (shape_reading text) ≡ answer

-- behind a marker or none
record HasShape (marker : Option ℕ) (rest : List ℕ) (answer : Result Port PortFault) : Type 0 where
  text : List ℕ
  is : rest ≡ 58 ∷ text
  read : with_marker marker (shape_reading text) ≡ answer

shape_behind : (marker : Option ℕ) (rest : List ℕ) (answer : Result Port PortFault) → behind_marker marker rest ≡ answer → answer ≢ Err BadPort → HasShape marker rest answer
shape_behind marker [] answer is good = absurd (good (sym is))
shape_behind marker (byte ∷ text) answer is good = by (byte == 58) refl is
  where
    by : (colon : Bool) → (byte == 58) ≡ colon → cond colon (with_marker marker (shape_reading text)) (Err BadPort) ≡ answer → HasShape marker (byte ∷ text) answer
    by true same read = record { text = text; is = ap (λ b. b ∷ text) (eqb-true byte 58 same); read = read }
    by false other read = absurd (good (sym read))

record HasMarker (rest : List ℕ) (answer : Result Port PortFault) : Type 0 where
  marker : Option ℕ
  text : List ℕ
  is : rest ≡ marker_text marker ++ 58 ∷ text
  marked : is_marker_or_none marker ≡ true
  read : with_marker marker (shape_reading text) ≡ answer

marker_behind : (rest : List ℕ) (answer : Result Port PortFault) → behind_name rest ≡ answer → answer ≢ Err BadPort → HasMarker rest answer
unfolding behind_name
marker_behind [] answer is good = absurd (good (sym is))
marker_behind (byte ∷ rest) answer is good = by (is_marker byte) refl is
  where
    by : (marker : Bool) → is_marker byte ≡ marker → cond marker (behind_marker (Some byte) rest) (behind_marker None (byte ∷ rest)) ≡ answer → HasMarker (byte ∷ rest) answer
    by true marked read =
        let shape = shape_behind (Some byte) rest answer read good in
        record { marker = Some byte; text = shape.text; is = ap (λ r. byte ∷ r) shape.is; marked = marked; read = shape.read }
    by false none read =
        let shape = shape_behind None (byte ∷ rest) answer read good in
        record { marker = None; text = shape.text; is = shape.is; marked = refl; read = shape.read }

pub has_parts : (side : Side) (number : ℕ) (word : List ℕ) (answer : Result Port PortFault) → port_reading side number word ≡ answer → answer ≢ Err BadPort → HasParts side number word answer
unfolding port_reading
has_parts side number word answer is good = by (text_behind (port_name side number) word) refl is
  where
    by : (found : Option (List ℕ)) → text_behind (port_name side number) word ≡ found → behind_found found ≡ answer → HasParts side number word answer
    by None none read = absurd (good (sym read))
    by (Some rest) found read =
        let parts = marker_behind rest answer read good in
        record { marker = parts.marker; text = parts.text; is = found ∙ ap (λ r. Some r) parts.is; marked = parts.marked; read = parts.read }

with_marker-Ok : (marker : Option ℕ) (read : Result (List ℕ) PortFault) (port : Port) → with_marker marker read ≡ Ok port → (marker ≡ port.marker) × (read ≡ Ok port.shape)
with_marker-Ok marker (Ok shape) port is =
    let same : port ≡ record { marker = marker; shape = shape } = sym (ok_ok (record { marker = marker; shape = shape }) port is) in
    (sym (ap (λ (p : Port). p.marker) same), ap (λ (p : Port). Ok p.shape) (sym same))
with_marker-Ok marker (Err fault) port is = absurd (no_ok fault port is)

with_marker-Err : (marker : Option ℕ) (read : Result (List ℕ) PortFault) (fault : PortFault) → with_marker marker read ≡ Err fault → read ≡ Err fault
with_marker-Err marker (Ok shape) fault is = absurd (cc)
with_marker-Err marker (Err other) fault is = cc

-- ---- the text of a shape

values_written : (fields : List (List ℕ)) → list_all is_numeral fields ≡ true → All (λ width. width ≤ 64) (map (digits_value 10) fields) → map decimal (map (digits_value 10) fields) ≡ fields
values_written [] are small = refl
values_written (field ∷ fields) are small =
    let parts = both_true (is_numeral field) (list_all is_numeral fields) are in
    let width : digits_value 10 field ≤ 64 = All-head (λ w. w ≤ 64) (digits_value 10 field) (map (digits_value 10) fields) small in
    let here = written field parts.0 (omega arith) in
    let rest = values_written fields parts.1 (All-tail (λ w. w ≤ 64) (digits_value 10 field) (map (digits_value 10) fields) small) in
    λ i. here i ∷ rest i

-- a text that was read as a shape is the shape's
pub shape_read_is : (text shape : List ℕ) → shape_reading text ≡ Ok shape → (text ≡ shape_text shape) × IsShape shape
unfolding shape_reading
shape_read_is text shape is = by (list_all is_numeral (fields_of text)) (is_shape (map (digits_value 10) (fields_of text))) refl refl is
  where
    by : (numerals within : Bool) → list_all is_numeral (fields_of text) ≡ numerals → is_shape (map (digits_value 10) (fields_of text)) ≡ within
        → cond numerals (cond within (Ok (map (digits_value 10) (fields_of text))) (Err TooWide)) (Err BadPort) ≡ Ok shape → (text ≡ shape_text shape) × IsShape shape
    by true true numerals within read =
        let same : map (digits_value 10) (fields_of text) ≡ shape = ok_ok (map (digits_value 10) (fields_of text)) shape read in
        let shaped : IsShape (map (digits_value 10) (fields_of text)) = shape_from_test (map (digits_value 10) (fields_of text)) within in
        let again : map decimal (map (digits_value 10) (fields_of text)) ≡ fields_of text = values_written (fields_of text) numerals shaped.narrow in
        (sym (ap shape_text (sym same) ∙ ap (join_with_byte 46) again ∙ join_with_byte-slice_split 46 text), subst IsShape same shaped)
    by true false numerals within read = absurd (no_ok TooWide shape read)
    by false within numerals is_within read = absurd (no_ok BadPort shape read)

-- one that was too wide is numerals joined by dots
pub record IsTooWide (text : List ℕ) : Type 0 where
  pub fields : List (List ℕ)
  pub is : text ≡ join_with_byte 46 fields
  pub some : 0 < length fields
  pub numerals : list_all is_numeral fields ≡ true
  pub past : ¬ (IsShape (map (digits_value 10) fields))

pub too_wide_is : (text : List ℕ) → shape_reading text ≡ Err TooWide → IsTooWide text
unfolding shape_reading
too_wide_is text is = by (list_all is_numeral (fields_of text)) (is_shape (map (digits_value 10) (fields_of text))) refl refl is
  where
    by : (numerals within : Bool) → list_all is_numeral (fields_of text) ≡ numerals → is_shape (map (digits_value 10) (fields_of text)) ≡ within
        → cond numerals (cond within (Ok (map (digits_value 10) (fields_of text))) (Err TooWide)) (Err BadPort) ≡ Err TooWide → IsTooWide text
    by true true numerals within read = absurd (cc)
    by true false numerals within read = record {
      fields = fields_of text;
      is = sym (join_with_byte-slice_split 46 text);
      some = omega (arith, length-slice_split (λ byte. byte == 46) text);
      numerals = numerals;
      past = λ shape. let test = shape_test (map (digits_value 10) (fields_of text)) shape in absurd (cc);
    }
    by false within numerals is_within read = absurd (cc)

-- ---- a word that was read

pub record IsPortText (side : Side) (number : ℕ) (word : List ℕ) (port : Port) : Type 0 where
  pub is : text_behind (port_name side number) word ≡ Some (marker_text port.marker ++ 58 ∷ shape_text port.shape)
  pub marked : is_marker_or_none port.marker ≡ true
  pub shape : IsShape port.shape

pub port_read_is : (side : Side) (number : ℕ) (word : List ℕ) (port : Port) → port_reading side number word ≡ Ok port → IsPortText side number word port
port_read_is side number word port read =
    let parts = has_parts side number word (Ok port) read (λ bad. absurd (cc)) in
    let both = with_marker-Ok parts.marker (shape_reading parts.text) port parts.read in
    let shape = shape_read_is parts.text port.shape both.1 in
    record {
      is = parts.is ∙ (λ i. Some (marker_text (both.0 i) ++ 58 ∷ shape.0 i));
      marked = ap is_marker_or_none (sym both.0) ∙ parts.marked;
      shape = shape.1;
    }

pub port_too_wide : (side : Side) (number : ℕ) (word : List ℕ) → port_reading side number word ≡ Err TooWide
    → (marker : Option ℕ) × (text : List ℕ) × (text_behind (port_name side number) word ≡ Some (marker_text marker ++ 58 ∷ text)) × (is_marker_or_none marker ≡ true) × IsTooWide text
port_too_wide side number word read =
    let parts = has_parts side number word (Err TooWide) read (λ bad. absurd (cc)) in
    (parts.marker, parts.text, parts.is, parts.marked, too_wide_is parts.text (with_marker-Err parts.marker (shape_reading parts.text) TooWide parts.read))

pub marked_word : (side : Side) (number : ℕ) (word : List ℕ) (port : Port) → word_reading side number word ≡ Ok port → is_marker_or_none port.marker ≡ true
marked_word side number word port is = (port_read_is side number word port (port_word side number word port is)).marked
