-- The bytes of a text of the grammar are those of ASCII that are printed, with neither a double quote nor a backslash.
use Rattle.std.proofs.Common.{◌≡◌, ◌≢◌, ◌<◌, ◌≤◌, ◌&&◌, ◌==◌, ℕ, Bool, true, false, not, List, [], ◌∷◌, ◌++◌, codes, refl, ap, sym, ◌∙◌, subst, arith}
use Rattle.std.specs.Prelude.{nat_le}
use Rattle.std.specs.Char.{is_ascii_digit}
use Rattle.std.specs.List.{list_all, join_with_byte, flat_map}
use Rattle.std.proofs.lemmas.Bool.{and_parts, and_from}
use Rattle.std.proofs.lemmas.Bool.Decides.{nat_tests}
use Rattle.op_table.specs.declared.op.Op.{Op}
use Rattle.op_table.specs.declared.op.Op.TheVariants.{Add, Sub, Mul, Udiv, Urem, Sdiv, Srem, And, Or, Xor, Shl, Lshr, Ashr, Eq, Ne, Ult, Ule, Ugt, Uge, Slt, Sle, Sgt, Sge, Select, Zext, Sext, Trunc, Ret}
use Rattle.op_table.specs.Operator.{op_word}
use Rattle.port_types.specs.Numeral.{is_numeral}
use Rattle.fun_expr.specs.Each.{Each}
use Rattle.fun_expr.specs.FunGrammar.{Spells, SpellEach, spells_field, spells_lit, spells_apply, no_more, and_more, Numerals, joined_binds, IsFunText}
use Rattle.fun_expr.specs.FunGrammar as grammar
use Rattle.fun_expr.specs.Laws.{IsPlainByte, TextIsPlain}
use Rattle.fun_expr.specs.declared.expr.Expr.{Expr}

plain_byte : ℕ → Bool
plain_byte byte = nat_le 32 byte && nat_le byte 126 && not (byte == 34) && not (byte == 92)

abbrev plain : List ℕ → Bool
plain text = list_all plain_byte text

plain_append : (a b : List ℕ) → plain a ≡ true → plain b ≡ true → plain (a ++ b) ≡ true
plain_append [] b p q = q
plain_append (byte ∷ a) b p q =
    let parts = and_parts (plain_byte byte) (plain a) p in
    and_from (plain_byte byte) (plain (a ++ b)) parts.0 (plain_append a b parts.1 q)

-- ---- numerals

digit_plain : (byte : ℕ) → is_ascii_digit byte ≡ true → plain_byte byte ≡ true
unfolding plain_byte
digit_plain byte h = grind (arith, nat_tests)

digits_plain : (digits : List ℕ) → list_all is_ascii_digit digits ≡ true → plain digits ≡ true
digits_plain [] h = refl
digits_plain (digit ∷ digits) h =
    let parts = and_parts (is_ascii_digit digit) (list_all is_ascii_digit digits) h in
    and_from (plain_byte digit) (plain digits) (digit_plain digit parts.0) (digits_plain digits parts.1)

word_plain : (word : List ℕ) → is_numeral word ≡ true → plain word ≡ true
word_plain [] h = absurd (cc)
word_plain (digit ∷ []) h = and_from (plain_byte digit) true (digit_plain digit h) refl
word_plain (first ∷ second ∷ more) h = digits_plain (first ∷ second ∷ more) (and_parts (not (first == 48)) (list_all is_ascii_digit (first ∷ second ∷ more)) h).1

numeral_plain : (word : List ℕ) (number : ℕ) → grammar.Numeral word number → plain word ≡ true
numeral_plain word number n = word_plain word n.is

-- ---- names of operators

op_plain : (op : Op) → plain (op_word op) ≡ true
unfolding plain_byte
op_plain Add = refl
op_plain Sub = refl
op_plain Mul = refl
op_plain Udiv = refl
op_plain Urem = refl
op_plain Sdiv = refl
op_plain Srem = refl
op_plain And = refl
op_plain Or = refl
op_plain Xor = refl
op_plain Shl = refl
op_plain Lshr = refl
op_plain Ashr = refl
op_plain Eq = refl
op_plain Ne = refl
op_plain Ult = refl
op_plain Ule = refl
op_plain Ugt = refl
op_plain Uge = refl
op_plain Slt = refl
op_plain Sle = refl
op_plain Sgt = refl
op_plain Sge = refl
op_plain Select = refl
op_plain Zext = refl
op_plain Sext = refl
op_plain Trunc = refl
op_plain Ret = refl

-- ---- marks

mark_plain : (plain (codes "#") ≡ true) × (plain (codes "'") ≡ true) × (plain (codes ":") ≡ true) × (plain (codes "(") ≡ true) × (plain (codes ")") ≡ true)
unfolding plain_byte
mark_plain = (refl, refl, refl, refl, refl)

arrow_plain : (plain (codes "->") ≡ true) × (plain (codes " ") ≡ true) × (plain (codes " #") ≡ true)
unfolding plain_byte
arrow_plain = (refl, refl, refl)

separators_plain : (plain_byte 44 ≡ true) × (plain_byte 59 ≡ true)
unfolding plain_byte
separators_plain = (refl, refl)

-- ---- expressions

abbrev ArePlain : List (List ℕ) → Type 0
ArePlain pieces = Each (λ piece. plain piece ≡ true) pieces

join_plain : (byte : ℕ) → plain_byte byte ≡ true → (pieces : List (List ℕ)) → ArePlain pieces → plain (join_with_byte byte pieces) ≡ true
join_plain byte h [] each = refl
join_plain byte h (piece ∷ []) each = each.0
join_plain byte h (piece ∷ other ∷ pieces) each =
    plain_append piece (byte ∷ join_with_byte byte (other ∷ pieces)) each.0
    (and_from (plain_byte byte) (plain (join_with_byte byte (other ∷ pieces))) h (join_plain byte h (other ∷ pieces) each.1))

mutual
  piece_plain : (piece : List ℕ) (e : Expr) → Spells piece e → plain piece ≡ true
  piece_plain _ _ (spells_field word place n) = plain_append (codes "#") word mark_plain.0 (numeral_plain word place n)
  piece_plain _ _ (spells_lit first second width number n m) =
      plain_append (first ++ codes "'") second (plain_append first (codes "'") (numeral_plain first width n) mark_plain.1) (numeral_plain second number m)
  piece_plain _ _ (spells_apply op word width pieces args n some each) =
      plain_append ((((op_word op ++ codes ":") ++ word) ++ codes "(") ++ join_with_byte 44 pieces) (codes ")")
      (plain_append (((op_word op ++ codes ":") ++ word) ++ codes "(") (join_with_byte 44 pieces)
      (plain_append ((op_word op ++ codes ":") ++ word) (codes "(")
      (plain_append (op_word op ++ codes ":") word (plain_append (op_word op) (codes ":") (op_plain op) mark_plain.2) (numeral_plain word width n)) mark_plain.3)
      (join_plain 44 separators_plain.0 pieces (pieces_plain pieces args each))) mark_plain.4

  pieces_plain : (pieces : List (List ℕ)) (es : List Expr) → SpellEach pieces es → ArePlain pieces
  pieces_plain _ _ no_more = tt
  pieces_plain _ _ (and_more piece e pieces es s ss) = (piece_plain piece e s, pieces_plain pieces es ss)

-- ---- texts

binds_plain : (pieces : List (List ℕ)) → ArePlain pieces → plain (joined_binds pieces) ≡ true
binds_plain [] each = refl
binds_plain (piece ∷ pieces) each =
    plain_append (join_with_byte 59 (piece ∷ pieces)) (codes " ") (join_plain 59 separators_plain.1 (piece ∷ pieces) each) arrow_plain.1

outs_plain : (words : List (List ℕ)) (outs : List ℕ) → Numerals words outs → plain (flat_map (λ word. codes " #" ++ word) words) ≡ true
outs_plain [] [] all = refl
outs_plain [] (out ∷ outs) all = absurd all
outs_plain (word ∷ words) [] all = absurd all
outs_plain (word ∷ words) (out ∷ outs) all =
    plain_append (codes " #" ++ word) (flat_map (λ word. codes " #" ++ word) words)
    (plain_append (codes " #") word arrow_plain.2 (numeral_plain word out all.0)) (outs_plain words outs all.1)

text_plain : (text : List ℕ) (binds : List Expr) (outs : List ℕ) → IsFunText text binds outs → plain text ≡ true
text_plain text binds outs t =
    ap plain t.is
    ∙ plain_append (joined_binds t.pieces ++ codes "->") (flat_map (λ word. codes " #" ++ word) t.words)
    (plain_append (joined_binds t.pieces) (codes "->") (binds_plain t.pieces (pieces_plain t.pieces binds t.spell_binds)) arrow_plain.0)
    (outs_plain t.words outs t.spell_outs)

byte_plain : (byte : ℕ) → plain_byte byte ≡ true → IsPlainByte byte
unfolding plain_byte
byte_plain byte h = (grind (arith, nat_tests), grind (arith, nat_tests), grind (arith, nat_tests), grind (arith, nat_tests))

each_plain : (text : List ℕ) → plain text ≡ true → Each IsPlainByte text
each_plain [] h = tt
each_plain (byte ∷ text) h = let parts = and_parts (plain_byte byte) (plain text) h in (byte_plain byte parts.0, each_plain text parts.1)

pub text_is_plain : TextIsPlain
text_is_plain text binds outs t = each_plain text (text_plain text binds outs t)
