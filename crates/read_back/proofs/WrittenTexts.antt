-- Texts that the printer makes itself: ASCII, with neither a double quote nor a backslash. They can be written.
use Rattle.std.proofs.Common.{◌≡◌, ℕ, ◌+◌, ◌^◌, ◌<◌, ◌≤◌, Bool, true, ◌&&◌, List, [], ◌∷◌, ◌++◌, length, map, Option, Some, None, codes, decimal, refl, arith}
use Rattle.std.specs.Prelude.{nat_le, false}
use Rattle.std.specs.Char.{digit_value}
use Rattle.std.specs.Fmt.{digits}
use Rattle.std.specs.List.{AllByRecursion, list_all, join_with_byte}
use Rattle.std.specs.Str.{IsUtf8}
use Rattle.std.specs.Str.Parse.{AllDigits}
use Rattle.std.proofs.lemmas.Bool.{and_from, and_parts}
use Rattle.std.proofs.lemmas.Bool.Decides.{nat_tests}
use Rattle.std.proofs.lemmas.Fmt.{digits_is_IsNumeral}
use Rattle.std.proofs.lemmas.List.Elements.{recursion_from_All}
use Rattle.std.proofs.lemmas.Str.{IsUtf8-append, IsUtf8-nil, IsUtf8-from_ascii}
use Rattle.std.proofs.lemmas.Str.Ascii.{IsAscii-cons, IsAscii-nil}
use Rattle.op_table.specs.declared.op.Op.{Op}
use Rattle.op_table.specs.declared.op.Op.TheVariants.{Add, Sub, Mul, Udiv, Urem, Sdiv, Srem, And, Or, Xor, Shl, Lshr, Ashr, Eq, Ne, Ult, Ule, Ugt, Uge, Slt, Sle, Sgt, Sge, Select, Zext, Sext, Trunc, Ret}
use Rattle.op_table.specs.Operator.{graph_word}
use Rattle.fun_expr.specs.Each.{Each}
use Rattle.fun_expr.specs.FunText.{fun_text}
use Rattle.fun_expr.specs.Function.{Function, FunOk}
use Rattle.fun_expr.specs.Laws.{PrintedIsText, IsPlainByte, TextIsPlain}
use Rattle.port_types.specs.declared.port.Port.{Port}
use Rattle.port_types.specs.declared.side.Side.{Side}
use Rattle.port_types.specs.declared.side.Side.TheVariants.{Ins, Outs}
use Rattle.port_types.specs.Shape.{IsShape}
use Rattle.port_types.specs.PortText.{shape_text, side_word, port_name, marker_text, marked_text, marked_texts_from, marked_ports_text}
use Rattle.port_types.specs.PortGrammar.{is_marker_or_none, are_marked}
use Rattle.port_types.specs.PortLaws.{ArePorts}
use Rattle.dot_text.specs.Lexical.{is_plain, Quotes, Quotes.nothing, Quotes.plain}
use Rattle.dot_text.specs.Printing.{CanBeQuoted}
use Rattle.components.specs.declared.kind.Kind.{Kind}
use Rattle.components.specs.declared.kind.Kind.TheVariants.{Entry, Exit, Buffer, Fork, Join, Split, Operator, Constant, Source0, Sink0, Pure, Mux, Branch, Merge, CtrlMerge, Init, Tagger}
use Rattle.graph_print.specs.CanonicalText.{kind_word, hexadecimal}

-- some quoted text stands for it, and it is UTF-8
pub record IsWritten (text : List ℕ) : Type 0 where
  pub quoted : CanBeQuoted text
  pub utf8 : IsUtf8 text

abbrev simple_byte : ℕ → Bool
simple_byte byte = is_plain byte && nat_le byte 127

abbrev simple : List ℕ → Bool
simple text = list_all simple_byte text

low : (byte : ℕ) → nat_le byte 127 ≡ true → byte < 128
low byte h = grind (arith, nat_tests)

simple_quotes : (text : List ℕ) → simple text ≡ true → Quotes text text
simple_quotes [] h = nothing
simple_quotes (byte ∷ text) h =
    let parts = and_parts (simple_byte byte) (simple text) h in
    plain byte (and_parts (is_plain byte) (nat_le byte 127) parts.0).0 (simple_quotes text parts.1)

simple_utf8 : (text : List ℕ) → simple text ≡ true → IsUtf8 text
simple_utf8 [] h = IsUtf8-nil
simple_utf8 (byte ∷ text) h =
    let parts = and_parts (simple_byte byte) (simple text) h in
    let first : IsUtf8 (byte ∷ []) = IsUtf8-from_ascii (byte ∷ []) (IsAscii-cons byte [] (low byte (and_parts (is_plain byte) (nat_le byte 127) parts.0).1) IsAscii-nil) in
    IsUtf8-append (byte ∷ []) text first (simple_utf8 text parts.1)

pub written : (text : List ℕ) → simple text ≡ true → IsWritten text
written text h = record { quoted = record { bytes = text; quotes = simple_quotes text h }; utf8 = simple_utf8 text h }

-- ---- numbers

simple_append : (a b : List ℕ) → simple a ≡ true → simple b ≡ true → simple (a ++ b) ≡ true
simple_append [] b p q = q
simple_append (byte ∷ a) b p q =
    let parts = and_parts (simple_byte byte) (simple a) p in
    and_from (simple_byte byte) (simple (a ++ b)) parts.0 (simple_append a b parts.1 q)

digit_simple : (byte : ℕ) → digit_value byte < 16 → simple_byte byte ≡ true
digit_simple byte h = grind (arith, nat_tests)

digits_simple : (base : ℕ) (text : List ℕ) → base ≤ 16 → AllDigits base text → simple text ≡ true
digits_simple base [] few all = refl
digits_simple base (byte ∷ text) few all = and_from (simple_byte byte) (simple text) (digit_simple byte (omega (arith, few, all.0))) (digits_simple base text few all.1)

decimal_simple : (number : ℕ) → number < 2 ^ 64 → simple (decimal number) ≡ true
decimal_simple number small = digits_simple 10 (decimal number) (omega arith) (digits_is_IsNumeral 10 false (omega arith) (omega arith) number (omega arith)).0.1

pub hexadecimal_simple : (value : ℕ) → value < 2 ^ 64 → simple (hexadecimal value) ≡ true
hexadecimal_simple value small =
    simple_append (codes "0x") (digits 16 false value) refl
    (digits_simple 16 (digits 16 false value) (omega arith) (digits_is_IsNumeral 16 false (omega arith) (omega arith) value (omega arith)).0.1)

-- ---- shapes and ports

abbrev AreSimple : List (List ℕ) → Type 0
AreSimple texts = AllByRecursion (λ text. simple text ≡ true) texts

join_simple : (byte : ℕ) → simple_byte byte ≡ true → (texts : List (List ℕ)) → AreSimple texts → simple (join_with_byte byte texts) ≡ true
join_simple byte h [] each = refl
join_simple byte h (text ∷ []) each = each.0
join_simple byte h (text ∷ other ∷ texts) each =
    simple_append text (byte ∷ join_with_byte byte (other ∷ texts)) each.0 (and_from (simple_byte byte) (simple (join_with_byte byte (other ∷ texts))) h (join_simple byte h (other ∷ texts) each.1))

widths_simple : (widths : List ℕ) → AllByRecursion (λ width. width ≤ 64) widths → AreSimple (map decimal widths)
widths_simple [] h = tt
widths_simple (width ∷ widths) h = (decimal_simple width (omega (arith, h.0)), widths_simple widths h.1)

shape_simple : (shape : List ℕ) → IsShape shape → simple (shape_text shape) ≡ true
shape_simple shape right = join_simple 46 refl (map decimal shape) (widths_simple shape (recursion_from_All (λ width. width ≤ 64) shape right.narrow))

pub side_simple : (side : Side) → simple (side_word side) ≡ true
side_simple Ins = refl
side_simple Outs = refl

pub name_simple : (side : Side) (number : ℕ) → number < 2 ^ 64 → simple (port_name side number) ≡ true
name_simple side number small = simple_append (side_word side) (decimal number) (side_simple side) (decimal_simple number small)

marker_simple : (marker : Option ℕ) → is_marker_or_none marker ≡ true → simple (marker_text marker) ≡ true
marker_simple None h = refl
marker_simple (Some byte) h = grind (arith, nat_tests)

port_simple : (side : Side) (number : ℕ) (port : Port) → number < 2 ^ 64 → is_marker_or_none port.marker ≡ true → IsShape port.shape → simple (marked_text side number port) ≡ true
port_simple side number port small marked right =
    simple_append ((port_name side number ++ marker_text port.marker) ++ codes ":") (shape_text port.shape)
    (simple_append (port_name side number ++ marker_text port.marker) (codes ":")
    (simple_append (port_name side number) (marker_text port.marker) (name_simple side number small) (marker_simple port.marker marked)) refl)
    (shape_simple port.shape right)

port_texts_simple : (side : Side) (number : ℕ) (ports : List Port) → number + length ports < 2 ^ 64 → are_marked ports ≡ true →
    AllByRecursion (λ (port : Port). IsShape port.shape) ports → AreSimple (marked_texts_from side number ports)
port_texts_simple side number [] few marked right = tt
port_texts_simple side number (port ∷ ports) few marked right =
    let parts = and_parts (is_marker_or_none port.marker) (are_marked ports) marked in
    (port_simple side number port (omega arith) parts.0 right.0, port_texts_simple side (number + 1) ports (omega arith) parts.1 right.1)

pub ports_simple : (side : Side) (ports : List Port) → ArePorts ports → simple (marked_ports_text side ports) ≡ true
ports_simple side ports are =
    join_simple 32 refl (marked_texts_from side 1 ports)
    (port_texts_simple side 1 ports (omega (arith, are.few)) are.marked (recursion_from_All (λ (port : Port). IsShape port.shape) ports are.shapes))

-- ---- functions

plain_simple : (byte : ℕ) → IsPlainByte byte → simple_byte byte ≡ true
plain_simple byte h = grind (arith, nat_tests)

each_simple : (text : List ℕ) → Each IsPlainByte text → simple text ≡ true
each_simple [] each = refl
each_simple (byte ∷ text) each = and_from (simple_byte byte) (simple text) (plain_simple byte each.0) (each_simple text each.1)

-- what ensures that the texts of functions can be written
pub record FunctionLaws : Type 0 where
  pub printed : PrintedIsText
  pub plain : TextIsPlain

pub function_written : FunctionLaws → (fun : Function) → FunOk fun → IsWritten (fun_text fun.binds fun.outs)
function_written laws fun ok =
    let text = fun_text fun.binds fun.outs in
    written text (each_simple text (laws.plain text fun.binds fun.outs (laws.printed fun ok)))

-- ---- words

pub decimal_written : (number : ℕ) → number < 2 ^ 64 → IsWritten (decimal number)
decimal_written number small = written (decimal number) (decimal_simple number small)

pub word_simple : (kind : Kind) → simple (kind_word kind) ≡ true
word_simple (Entry shape) = refl
word_simple (Exit shape) = refl
word_simple (Buffer shape) = refl
word_simple (Fork shape count) = refl
word_simple (Join shapes) = refl
word_simple (Split shapes) = refl
word_simple (Operator op widths width) = refl
word_simple (Constant shape width value) = refl
word_simple (Source0 shape) = refl
word_simple (Sink0 shape) = refl
word_simple (Pure fun shape) = refl
word_simple (Mux shape) = refl
word_simple (Branch shape) = refl
word_simple (Merge shape count) = refl
word_simple (CtrlMerge shape count width) = refl
word_simple (Init value mark) = refl
word_simple (Tagger shape tags) = refl

pub op_simple : (op : Op) → simple (graph_word op) ≡ true
op_simple Add = refl
op_simple Sub = refl
op_simple Mul = refl
op_simple Udiv = refl
op_simple Urem = refl
op_simple Sdiv = refl
op_simple Srem = refl
op_simple And = refl
op_simple Or = refl
op_simple Xor = refl
op_simple Shl = refl
op_simple Lshr = refl
op_simple Ashr = refl
op_simple Eq = refl
op_simple Ne = refl
op_simple Ult = refl
op_simple Ule = refl
op_simple Ugt = refl
op_simple Uge = refl
op_simple Slt = refl
op_simple Sle = refl
op_simple Sgt = refl
op_simple Sge = refl
op_simple Select = refl
op_simple Zext = refl
op_simple Sext = refl
op_simple Trunc = refl
op_simple Ret = refl
