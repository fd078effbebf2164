-- A text is the text of one function.
use Rattle.std.proofs.Common.{◌≡◌, ◌⊎◌, inl, inr, ◌==◌, not, ℕ, zero, suc, ◌<◌, ◌≤◌, Bool, true, false, List, [], ◌∷◌, ◌++◌, length, refl, ap, sym, ◌∙◌, arith, append_assoc}
use Rattle.std.specs.Prelude.{codes}
use Rattle.std.specs.Char.{is_ascii_digit}
use Rattle.std.specs.List.{list_all, join_with_byte, flat_map}
use Rattle.std.specs.Str.Parse.{digits_value}
use Rattle.std.proofs.lemmas.Bool.{and_parts}
use Rattle.std.proofs.lemmas.Bool.Decides.{nat_tests}
use Rattle.op_table.specs.declared.op.Op.{Op}
use Rattle.op_table.specs.declared.op.Op.TheVariants.{Add, Sub, Mul, Udiv, Urem, Sdiv, Srem, And, Or, Xor, Shl, Lshr, Ashr, Eq, Ne, Ult, Ule, Ugt, Uge, Slt, Sle, Sgt, Sge, Select, Zext, Sext, Trunc, Ret}
use Rattle.op_table.specs.Operator.{op_word}
use Rattle.op_table.specs.Laws.{ShortWordsDiffer}
use Rattle.port_types.specs.Numeral.{is_numeral}
use Rattle.fun_expr.specs.FunReading.{GoesOnTo}
use Rattle.fun_expr.specs.FunGrammar.{Numeral, Spells, SpellEach, spells_field, spells_lit, spells_apply, no_more, and_more, Numerals, joined_binds, IsFunText}
use Rattle.fun_expr.specs.declared.expr.Expr.{Expr}
use Rattle.fun_expr.specs.declared.expr.Expr.TheVariants.{Field, Lit, Apply}

-- the first byte of a text, and what it is not
pub record Begins (text : List ℕ) : Type 0 where
  pub byte : ℕ
  pub rest : List ℕ
  pub is : text ≡ byte ∷ rest
  pub no_digit : is_ascii_digit byte ≡ false
  pub no_hash : (byte == 35) ≡ false
  pub no_dash : (byte == 45) ≡ false

-- the name of an operator begins with a letter
pub word_begins : (op : Op) → Begins (op_word op)
word_begins Add = record { byte = 97; rest = 100 ∷ 100 ∷ []; is = refl; no_digit = refl; no_hash = refl; no_dash = refl }
word_begins Sub = record { byte = 115; rest = 117 ∷ 98 ∷ []; is = refl; no_digit = refl; no_hash = refl; no_dash = refl }
word_begins Mul = record { byte = 109; rest = 117 ∷ 108 ∷ []; is = refl; no_digit = refl; no_hash = refl; no_dash = refl }
word_begins Udiv = record { byte = 117; rest = 100 ∷ 105 ∷ 118 ∷ []; is = refl; no_digit = refl; no_hash = refl; no_dash = refl }
word_begins Urem = record { byte = 117; rest = 114 ∷ 101 ∷ 109 ∷ []; is = refl; no_digit = refl; no_hash = refl; no_dash = refl }
word_begins Sdiv = record { byte = 115; rest = 100 ∷ 105 ∷ 118 ∷ []; is = refl; no_digit = refl; no_hash = refl; no_dash = refl }
word_begins Srem = record { byte = 115; rest = 114 ∷ 101 ∷ 109 ∷ []; is = refl; no_digit = refl; no_hash = refl; no_dash = refl }
word_begins And = record { byte = 97; rest = 110 ∷ 100 ∷ []; is = refl; no_digit = refl; no_hash = refl; no_dash = refl }
word_begins Or = record { byte = 111; rest = 114 ∷ []; is = refl; no_digit = refl; no_hash = refl; no_dash = refl }
word_begins Xor = record { byte = 120; rest = 111 ∷ 114 ∷ []; is = refl; no_digit = refl; no_hash = refl; no_dash = refl }
word_begins Shl = record { byte = 115; rest = 104 ∷ 108 ∷ []; is = refl; no_digit = refl; no_hash = refl; no_dash = refl }
word_begins Lshr = record { byte = 108; rest = 115 ∷ 104 ∷ 114 ∷ []; is = refl; no_digit = refl; no_hash = refl; no_dash = refl }
word_begins Ashr = record { byte = 97; rest = 115 ∷ 104 ∷ 114 ∷ []; is = refl; no_digit = refl; no_hash = refl; no_dash = refl }
word_begins Eq = record { byte = 101; rest = 113 ∷ []; is = refl; no_digit = refl; no_hash = refl; no_dash = refl }
word_begins Ne = record { byte = 110; rest = 101 ∷ []; is = refl; no_digit = refl; no_hash = refl; no_dash = refl }
word_begins Ult = record { byte = 117; rest = 108 ∷ 116 ∷ []; is = refl; no_digit = refl; no_hash = refl; no_dash = refl }
word_begins Ule = record { byte = 117; rest = 108 ∷ 101 ∷ []; is = refl; no_digit = refl; no_hash = refl; no_dash = refl }
word_begins Ugt = record { byte = 117; rest = 103 ∷ 116 ∷ []; is = refl; no_digit = refl; no_hash = refl; no_dash = refl }
word_begins Uge = record { byte = 117; rest = 103 ∷ 101 ∷ []; is = refl; no_digit = refl; no_hash = refl; no_dash = refl }
word_begins Slt = record { byte = 115; rest = 108 ∷ 116 ∷ []; is = refl; no_digit = refl; no_hash = refl; no_dash = refl }
word_begins Sle = record { byte = 115; rest = 108 ∷ 101 ∷ []; is = refl; no_digit = refl; no_hash = refl; no_dash = refl }
word_begins Sgt = record { byte = 115; rest = 103 ∷ 116 ∷ []; is = refl; no_digit = refl; no_hash = refl; no_dash = refl }
word_begins Sge = record { byte = 115; rest = 103 ∷ 101 ∷ []; is = refl; no_digit = refl; no_hash = refl; no_dash = refl }
word_begins Select = record { byte = 115; rest = 101 ∷ 108 ∷ 101 ∷ 99 ∷ 116 ∷ []; is = refl; no_digit = refl; no_hash = refl; no_dash = refl }
word_begins Zext = record { byte = 122; rest = 101 ∷ 120 ∷ 116 ∷ []; is = refl; no_digit = refl; no_hash = refl; no_dash = refl }
word_begins Sext = record { byte = 115; rest = 101 ∷ 120 ∷ 116 ∷ []; is = refl; no_digit = refl; no_hash = refl; no_dash = refl }
word_begins Trunc = record { byte = 116; rest = 114 ∷ 117 ∷ 110 ∷ 99 ∷ []; is = refl; no_digit = refl; no_hash = refl; no_dash = refl }
word_begins Ret = record { byte = 114; rest = 101 ∷ 116 ∷ []; is = refl; no_digit = refl; no_hash = refl; no_dash = refl }

-- and holds no colon
pub no_colon : (op : Op) → list_all (λ byte. not (byte == 58)) (op_word op) ≡ true
no_colon Add = refl
no_colon Sub = refl
no_colon Mul = refl
no_colon Udiv = refl
no_colon Urem = refl
no_colon Sdiv = refl
no_colon Srem = refl
no_colon And = refl
no_colon Or = refl
no_colon Xor = refl
no_colon Shl = refl
no_colon Lshr = refl
no_colon Ashr = refl
no_colon Eq = refl
no_colon Ne = refl
no_colon Ult = refl
no_colon Ule = refl
no_colon Ugt = refl
no_colon Uge = refl
no_colon Slt = refl
no_colon Sle = refl
no_colon Sgt = refl
no_colon Sge = refl
no_colon Select = refl
no_colon Zext = refl
no_colon Sext = refl
no_colon Trunc = refl
no_colon Ret = refl

pub heads : {A : Type 0} {a b : A} {xs ys : List A} → a ∷ xs ≡ b ∷ ys → (a ≡ b) × (xs ≡ ys)
heads h = (cc, cc)

abbrev pub AreDigits : List ℕ → Type 0
AreDigits word = list_all is_ascii_digit word ≡ true

pub numeral_digits : (word : List ℕ) → is_numeral word ≡ true → AreDigits word
numeral_digits [] is = cc
numeral_digits (x ∷ []) is = grind (arith, nat_tests)
numeral_digits (x ∷ y ∷ xs) is = grind (arith, nat_tests)

-- no digit stands first
abbrev Stops : List ℕ → Type 0
Stops [] = Unit {0}
Stops (byte ∷ rest) = is_ascii_digit byte ≡ false

digits_end : (word word' rest rest' : List ℕ) → AreDigits word → AreDigits word' → Stops rest → Stops rest' → word ++ rest ≡ word' ++ rest' → (word ≡ word') × (rest ≡ rest')
digits_end [] [] rest rest' d d' s s' h = (refl, h)
digits_end [] (x ∷ word') [] rest' d d' s s' h = absurd cc
digits_end [] (x ∷ word') (y ∷ rest) rest' d d' s s' h =
    let first = (and_parts (is_ascii_digit x) (list_all is_ascii_digit word') d').0 in
    let same = ap is_ascii_digit (heads h).0 in
    absurd cc
digits_end (x ∷ word) [] rest [] d d' s s' h = absurd cc
digits_end (x ∷ word) [] rest (y ∷ rest') d d' s s' h =
    let first = (and_parts (is_ascii_digit x) (list_all is_ascii_digit word) d).0 in
    let same = ap is_ascii_digit (heads h).0 in
    absurd cc
digits_end (x ∷ word) (y ∷ word') rest rest' d d' s s' h =
    let r = digits_end word word' rest rest' (and_parts (is_ascii_digit x) (list_all is_ascii_digit word) d).1 (and_parts (is_ascii_digit y) (list_all is_ascii_digit word') d').1 s s' (heads h).1 in
    (ap (λ z. z ∷ word) (heads h).0 ∙ ap (λ zs. y ∷ zs) r.0, r.1)

-- numerals with the same text have one number
numeral_end : (word word' : List ℕ) (n m : ℕ) (rest rest' : List ℕ) → Numeral word n → Numeral word' m → Stops rest → Stops rest' → word ++ rest ≡ word' ++ rest' → (n ≡ m) × (rest ≡ rest')
numeral_end word word' n m rest rest' a b s s' h =
    let e = digits_end word word' rest rest' (numeral_digits word a.is) (numeral_digits word' b.is) s s' h in
    (sym a.value ∙ ap (digits_value 10) e.0 ∙ b.value, e.1)

-- what stands before the first colon
colon_end : (word word' rest rest' : List ℕ) → list_all (λ byte. not (byte == 58)) word ≡ true → list_all (λ byte. not (byte == 58)) word' ≡ true → word ++ 58 ∷ rest ≡ word' ++ 58 ∷ rest' → (word ≡ word') × (rest ≡ rest')
colon_end [] [] rest rest' a b h = (refl, (heads h).1)
colon_end [] (x ∷ word') rest rest' a b h =
    let first = (and_parts (not (x == 58)) (list_all (λ byte. not (byte == 58)) word') b).0 in
    let same : (x == 58) ≡ true = ap (λ y. y == 58) (sym (heads h).0) in
    absurd (clash (x == 58) same first)
  where
    clash : (t : Bool) → t ≡ true → not t ≡ true → ⊥
    clash true e k = cc
    clash false e k = cc
colon_end (x ∷ word) [] rest rest' a b h =
    let first = (and_parts (not (x == 58)) (list_all (λ byte. not (byte == 58)) word) a).0 in
    let same : (x == 58) ≡ true = ap (λ y. y == 58) (heads h).0 in
    absurd (clash (x == 58) same first)
  where
    clash : (t : Bool) → t ≡ true → not t ≡ true → ⊥
    clash true e k = cc
    clash false e k = cc
colon_end (x ∷ word) (y ∷ word') rest rest' a b h =
    let r = colon_end word word' rest rest' (and_parts (not (x == 58)) (list_all (λ byte. not (byte == 58)) word) a).1 (and_parts (not (y == 58)) (list_all (λ byte. not (byte == 58)) word') b).1 (heads h).1 in
    (ap (λ z. z ∷ word) (heads h).0 ∙ ap (λ zs. y ∷ zs) r.0, r.1)

-- regrouped texts
pub lit_text : (a b c r : List ℕ) → ((a ++ b) ++ c) ++ r ≡ a ++ (b ++ (c ++ r))
lit_text a b c r = simp append_assoc

pub apply_text : (a b c d e f r : List ℕ) → (((((a ++ b) ++ c) ++ d) ++ e) ++ f) ++ r ≡ a ++ (b ++ (c ++ (d ++ (e ++ (f ++ r)))))
apply_text a b c d e f r = simp append_assoc

-- a numeral begins with a digit
pub record Digit (word : List ℕ) : Type 0 where
  pub byte : ℕ
  pub rest : List ℕ
  pub is : word ≡ byte ∷ rest
  pub digit : is_ascii_digit byte ≡ true

pub numeral_begins : (word : List ℕ) → is_numeral word ≡ true → Digit word
numeral_begins [] h = absurd cc
numeral_begins (x ∷ word) h = record { byte = x; rest = word; is = refl; digit = (and_parts (is_ascii_digit x) (list_all is_ascii_digit word) (numeral_digits (x ∷ word) h)).0 }

hash_word : (word : List ℕ) (n : ℕ) (more r : List ℕ) → Numeral word n → 35 ∷ r ≡ word ++ more → ⊥
hash_word word n more r num h =
    let d = numeral_begins word num.is in
    let first : 35 ≡ d.byte = (heads (h ∙ ap (λ x. x ++ more) d.is)).0 in
    let no : is_ascii_digit 35 ≡ true = ap is_ascii_digit first ∙ d.digit in
    cc

hash_op : (op : Op) (more r : List ℕ) → 35 ∷ r ≡ op_word op ++ more → ⊥
hash_op op more r h =
    let b = word_begins op in
    let first : 35 ≡ b.byte = (heads (h ∙ ap (λ x. x ++ more) b.is)).0 in
    let no : (35 == 35) ≡ false = ap (λ x. x == 35) first ∙ b.no_hash in
    cc

word_op : (word : List ℕ) (n : ℕ) (op : Op) (more more' : List ℕ) → Numeral word n → word ++ more ≡ op_word op ++ more' → ⊥
word_op word n op more more' num h =
    let d = numeral_begins word num.is in
    let b = word_begins op in
    let first : d.byte ≡ b.byte = (heads (sym (ap (λ x. x ++ more) d.is) ∙ h ∙ ap (λ x. x ++ more') b.is)).0 in
    let no : true ≡ false = sym d.digit ∙ ap is_ascii_digit first ∙ b.no_digit in
    cc

-- a separator and what closes a list are no digits, and differ
record Closes (separator close : ℕ) : Type 0 where
  first : is_ascii_digit separator ≡ false
  second : is_ascii_digit close ≡ false
  differ : separator ≡ close → ⊥

commas : Closes 44 41
commas = record { first = refl; second = refl; differ = λ h. cc }

semicolons : Closes 59 32
semicolons = record { first = refl; second = refl; differ = λ h. cc }

-- no expression begins with a dash
dash_hash : (word r more : List ℕ) → 45 ∷ r ≡ (codes "#" ++ word) ++ more → ⊥
dash_hash word r more h = let e : ◌≡◌ {A = ℕ} 45 35 = (heads h).0 in cc

pub dash_digit : (byte : ℕ) → is_ascii_digit byte ≡ true → 45 ≡ byte → ⊥
dash_digit byte d e = let no : is_ascii_digit 45 ≡ true = ap is_ascii_digit e ∙ d in cc

dash_word : (word : List ℕ) (n : ℕ) (more r : List ℕ) → Numeral word n → 45 ∷ r ≡ word ++ more → ⊥
dash_word word n more r num h =
    let d = numeral_begins word num.is in
    dash_digit d.byte d.digit (heads (h ∙ ap (λ x. x ++ more) d.is)).0

dash_lit : (first second : List ℕ) (width : ℕ) (r more : List ℕ) → Numeral first width → 45 ∷ r ≡ (first ++ codes "'" ++ second) ++ more → ⊥
dash_lit first second width r more a h = dash_word first width (codes "'" ++ (second ++ more)) r a (h ∙ lit_text first (codes "'") second more)

dash_op : (op : Op) (more r : List ℕ) → 45 ∷ r ≡ op_word op ++ more → ⊥
dash_op op more r h =
    let b = word_begins op in
    let no : (45 == 45) ≡ false = ap (λ x. x == 45) (heads (h ∙ ap (λ x. x ++ more) b.is)).0 ∙ b.no_dash in
    cc

dash_apply : (op : Op) (word joined r more : List ℕ) → 45 ∷ r ≡ (op_word op ++ codes ":" ++ word ++ codes "(" ++ joined ++ codes ")") ++ more → ⊥
dash_apply op word joined r more h =
    dash_op op (codes ":" ++ (word ++ (codes "(" ++ (joined ++ (codes ")" ++ more))))) r (h ∙ apply_text (op_word op) (codes ":") word (codes "(") joined (codes ")") more)

module _ (names : ShortWordsDiffer) where
  mutual
    one : (t t' r r' : List ℕ) (e e' : Expr) → Spells t e → Spells t' e' → Stops r → Stops r' → t ++ r ≡ t' ++ r' → (e ≡ e') × (r ≡ r')
    one _ _ r r' _ _ (spells_field word place n) (spells_field word' place' n') s s' h =
        let x = numeral_end word word' place place' r r' n n' s s' (heads h).1 in
        (ap Field x.0, x.1)
    one _ _ r r' _ _ (spells_field word place n) (spells_lit first second width number a b) s s' h =
        absurd (hash_word first width (codes "'" ++ (second ++ r')) (word ++ r) a (h ∙ lit_text first (codes "'") second r'))
    one _ _ r r' _ _ (spells_field word place n) (spells_apply op word' width pieces args a some each) s s' h =
        absurd (hash_op op (codes ":" ++ (word' ++ (codes "(" ++ (join_with_byte 44 pieces ++ (codes ")" ++ r'))))) (word ++ r) (h ∙ apply_text (op_word op) (codes ":") word' (codes "(") (join_with_byte 44 pieces) (codes ")") r'))
    one _ _ r r' _ _ (spells_lit first second width number a b) (spells_field word place n) s s' h =
        absurd (hash_word first width (codes "'" ++ (second ++ r)) (word ++ r') a (sym h ∙ lit_text first (codes "'") second r))
    one _ _ r r' _ _ (spells_lit first second width number a b) (spells_lit first' second' width' number' a' b') s s' h =
        let x = numeral_end first first' width width' (codes "'" ++ (second ++ r)) (codes "'" ++ (second' ++ r')) a a' refl refl (sym (lit_text first (codes "'") second r) ∙ h ∙ lit_text first' (codes "'") second' r') in
        let y = numeral_end second second' number number' r r' b b' s s' (heads x.1).1 in
        (ap (λ w. Lit w number) x.0 ∙ ap (Lit width') y.0, y.1)
    one _ _ r r' _ _ (spells_lit first second width number a b) (spells_apply op word' width' pieces args a' some each) s s' h =
        absurd (word_op first width op (codes "'" ++ (second ++ r)) (codes ":" ++ (word' ++ (codes "(" ++ (join_with_byte 44 pieces ++ (codes ")" ++ r'))))) a
        (sym (lit_text first (codes "'") second r) ∙ h ∙ apply_text (op_word op) (codes ":") word' (codes "(") (join_with_byte 44 pieces) (codes ")") r'))
    one _ _ r r' _ _ (spells_apply op word width pieces args a some each) (spells_field word' place n) s s' h =
        absurd (hash_op op (codes ":" ++ (word ++ (codes "(" ++ (join_with_byte 44 pieces ++ (codes ")" ++ r))))) (word' ++ r') (sym h ∙ apply_text (op_word op) (codes ":") word (codes "(") (join_with_byte 44 pieces) (codes ")") r))
    one _ _ r r' _ _ (spells_apply op word width pieces args a some each) (spells_lit first second width' number a' b) s s' h =
        absurd (word_op first width' op (codes "'" ++ (second ++ r')) (codes ":" ++ (word ++ (codes "(" ++ (join_with_byte 44 pieces ++ (codes ")" ++ r))))) a'
        (sym (lit_text first (codes "'") second r') ∙ sym h ∙ apply_text (op_word op) (codes ":") word (codes "(") (join_with_byte 44 pieces) (codes ")") r))
    one _ _ r r' _ _ (spells_apply op word width pieces args a some each) (spells_apply op' word' width' pieces' args' a' some' each') s s' h =
        let tail = λ (w : List ℕ) (ps : List (List ℕ)) (x : List ℕ). w ++ (codes "(" ++ (join_with_byte 44 ps ++ (codes ")" ++ x))) in
        let x = colon_end (op_word op) (op_word op') (tail word pieces r) (tail word' pieces' r') (no_colon op) (no_colon op')
        (sym (apply_text (op_word op) (codes ":") word (codes "(") (join_with_byte 44 pieces) (codes ")") r) ∙ h ∙ apply_text (op_word op') (codes ":") word' (codes "(") (join_with_byte 44 pieces') (codes ")") r') in
        let y = numeral_end word word' width width' (40 ∷ (join_with_byte 44 pieces ++ 41 ∷ r)) (40 ∷ (join_with_byte 44 pieces' ++ 41 ∷ r')) a a' refl refl x.1 in
        let z = many 44 41 commas pieces pieces' args args' r r' each each' some some' (heads y.1).1 in
        (ap (λ o. Apply o width args) (names op op' x.0) ∙ ap (λ w. Apply op' w args) y.0 ∙ ap (Apply op' width') z.0, z.1)

    many : (separator close : ℕ) → Closes separator close → (ps ps' : List (List ℕ)) (es es' : List Expr) (r r' : List ℕ) → SpellEach ps es → SpellEach ps' es' → 1 ≤ length es → 1 ≤ length es' →
        join_with_byte separator ps ++ close ∷ r ≡ join_with_byte separator ps' ++ close ∷ r' → (es ≡ es') × (r ≡ r')
    many separator close c _ _ _ _ r r' no_more each' some some' h = absurd (omega arith)
    many separator close c _ _ _ _ r r' (and_more p e _ _ x xs) no_more some some' h = absurd (omega arith)
    many separator close c _ _ _ _ r r' (and_more p e _ _ x no_more) (and_more p' e' _ _ x' no_more) some some' h =
        let o = one p p' (close ∷ r) (close ∷ r') e e' x x' c.second c.second h in
        (ap (λ y. y ∷ []) o.0, (heads o.1).1)
    many separator close c _ _ _ _ r r' (and_more p e _ _ x no_more) (and_more p' e' _ _ x' (and_more q f qs fs y ys)) some some' h =
        let o = one p p' (close ∷ r) (separator ∷ (join_with_byte separator (q ∷ qs) ++ close ∷ r')) e e' x x' c.second c.first (h ∙ append_assoc p' (separator ∷ join_with_byte separator (q ∷ qs)) (close ∷ r')) in
        absurd (c.differ (sym (heads o.1).0))
    many separator close c _ _ _ _ r r' (and_more p e _ _ x (and_more q f qs fs y ys)) (and_more p' e' _ _ x' no_more) some some' h =
        let o = one p p' (separator ∷ (join_with_byte separator (q ∷ qs) ++ close ∷ r)) (close ∷ r') e e' x x' c.first c.second (sym (append_assoc p (separator ∷ join_with_byte separator (q ∷ qs)) (close ∷ r)) ∙ h) in
        absurd (c.differ (heads o.1).0)
    many separator close c _ _ _ _ r r' (and_more p e _ _ x (and_more q f qs fs y ys)) (and_more p' e' _ _ x' (and_more q' f' qs' fs' y' ys')) some some' h =
        let o = one p p' (separator ∷ (join_with_byte separator (q ∷ qs) ++ close ∷ r)) (separator ∷ (join_with_byte separator (q' ∷ qs') ++ close ∷ r')) e e' x x' c.first c.first
        (sym (append_assoc p (separator ∷ join_with_byte separator (q ∷ qs)) (close ∷ r)) ∙ h ∙ append_assoc p' (separator ∷ join_with_byte separator (q' ∷ qs')) (close ∷ r')) in
        let m = many separator close c (q ∷ qs) (q' ∷ qs') (f ∷ fs) (f' ∷ fs') r r' (and_more q f qs fs y ys) (and_more q' f' qs' fs' y' ys') (omega arith) (omega arith) (heads o.1).1 in
        (ap (λ z. z ∷ (f ∷ fs)) o.0 ∙ ap (λ zs. e' ∷ zs) m.0, m.1)

  -- the texts of outs
  outs_stop : (words : List (List ℕ)) → Stops (flat_map (λ word. codes " #" ++ word) words)
  outs_stop [] = tt
  outs_stop (word ∷ words) = refl

  outs_one : (words words' : List (List ℕ)) (outs outs' : List ℕ) → Numerals words outs → Numerals words' outs' → flat_map (λ word. codes " #" ++ word) words ≡ flat_map (λ word. codes " #" ++ word) words' → outs ≡ outs'
  outs_one [] [] [] [] n n' h = refl
  outs_one [] [] [] (x ∷ outs') n n' h = absurd n'
  outs_one [] [] (x ∷ outs) outs' n n' h = absurd n
  outs_one [] (w ∷ words') outs outs' n n' h = absurd cc
  outs_one (w ∷ words) [] outs outs' n n' h = absurd cc
  outs_one (w ∷ words) (w' ∷ words') [] outs' n n' h = absurd n
  outs_one (w ∷ words) (w' ∷ words') (x ∷ outs) [] n n' h = absurd n'
  outs_one (w ∷ words) (w' ∷ words') (x ∷ outs) (y ∷ outs') n n' h =
      let e = numeral_end w w' x y (flat_map (λ word. codes " #" ++ word) words) (flat_map (λ word. codes " #" ++ word) words') n.0 n'.0 (outs_stop words) (outs_stop words') (heads (heads h).1).1 in
      ap (λ z. z ∷ outs) e.0 ∙ ap (λ zs. y ∷ zs) (outs_one words words' outs outs' n.1 n'.1 e.1)

  no_dash_first : (p : List ℕ) (e : Expr) → Spells p e → (r more : List ℕ) → 45 ∷ r ≡ p ++ more → ⊥
  no_dash_first _ _ (spells_field word place n) r more h = dash_hash word r more h
  no_dash_first _ _ (spells_lit first second width number a b) r more h = dash_lit first second width r more a h
  no_dash_first _ _ (spells_apply op word width pieces args a some each) r more h = dash_apply op word (join_with_byte 44 pieces) r more h

  -- the first piece of several
  join_begins : (p : List ℕ) (ps : List (List ℕ)) → (more : List ℕ) × (join_with_byte 59 (p ∷ ps) ≡ p ++ more)
  join_begins p [] = ([], sym (nil p))
    where
      nil : (xs : List ℕ) → xs ++ [] ≡ xs
      nil [] = refl
      nil (x ∷ xs) = ap (λ ys. x ∷ ys) (nil xs)
  join_begins p (q ∷ ps) = (59 ∷ join_with_byte 59 (q ∷ ps), refl)

  no_dash_join : (ps : List (List ℕ)) (es : List Expr) → SpellEach ps es → 1 ≤ length es → (r more : List ℕ) → 45 ∷ r ≡ join_with_byte 59 ps ++ more → ⊥
  no_dash_join _ _ no_more some r more h = absurd (omega arith)
  no_dash_join _ _ (and_more p e ps es x xs) some r more h =
      let b = join_begins p ps in
      no_dash_first p e x r (b.0 ++ more) (h ∙ ap (λ y. y ++ more) b.1 ∙ append_assoc p b.0 more)

  -- binds and outs
  whole : (ps ps' : List (List ℕ)) (es es' : List Expr) (tail tail' : List ℕ) → SpellEach ps es → SpellEach ps' es' →
      joined_binds ps ++ (45 ∷ tail) ≡ joined_binds ps' ++ (45 ∷ tail') → (es ≡ es') × (tail ≡ tail')
  whole _ _ _ _ tail tail' no_more no_more h = (refl, (heads h).1)
  whole _ _ _ _ tail tail' no_more (and_more p e ps es x xs) h =
      absurd (no_dash_join (p ∷ ps) (e ∷ es) (and_more p e ps es x xs) (omega arith) tail (32 ∷ 45 ∷ tail') (h ∙ append_assoc (join_with_byte 59 (p ∷ ps)) (codes " ") (45 ∷ tail')))
  whole _ _ _ _ tail tail' (and_more p e ps es x xs) no_more h =
      absurd (no_dash_join (p ∷ ps) (e ∷ es) (and_more p e ps es x xs) (omega arith) tail' (32 ∷ 45 ∷ tail) (sym h ∙ append_assoc (join_with_byte 59 (p ∷ ps)) (codes " ") (45 ∷ tail)))
  whole _ _ _ _ tail tail' (and_more p e ps es x xs) (and_more p' e' ps' es' x' xs') h =
      let m = many 59 32 semicolons (p ∷ ps) (p' ∷ ps') (e ∷ es) (e' ∷ es') (45 ∷ tail) (45 ∷ tail') (and_more p e ps es x xs) (and_more p' e' ps' es' x' xs') (omega arith) (omega arith)
      (sym (append_assoc (join_with_byte 59 (p ∷ ps)) (codes " ") (45 ∷ tail)) ∙ h ∙ append_assoc (join_with_byte 59 (p' ∷ ps')) (codes " ") (45 ∷ tail')) in
      (m.0, (heads m.1).1)

  pub text_is_one : (text : List ℕ) (binds binds' : List Expr) (outs outs' : List ℕ) → IsFunText text binds outs → IsFunText text binds' outs' → (binds ≡ binds') × (outs ≡ outs')
  text_is_one text binds binds' outs outs' t t' =
      let tail = flat_map (λ word. codes " #" ++ word) t.words in
      let tail' = flat_map (λ word. codes " #" ++ word) t'.words in
      let w = whole t.pieces t'.pieces binds binds' (62 ∷ tail) (62 ∷ tail') t.spell_binds t'.spell_binds
      (sym (append_assoc (joined_binds t.pieces) (codes "->") tail) ∙ sym t.is ∙ t'.is ∙ append_assoc (joined_binds t'.pieces) (codes "->") tail') in
      (w.0, outs_one t.words t'.words outs outs' t.spell_outs t'.spell_outs (heads w.1).1)

-- the longest front has one length
apart : (a b : ℕ) → (a ≡ b) ⊎ ((a < b) ⊎ (b < a))
apart zero zero = inl refl
apart zero (suc b) = inr (inl (omega arith))
apart (suc a) zero = inr (inr (omega arith))
apart (suc a) (suc b) = lift (apart a b)
  where
    lift : (a ≡ b) ⊎ ((a < b) ⊎ (b < a)) → (suc a ≡ suc b) ⊎ ((suc a < suc b) ⊎ (suc b < suc a))
    lift (inl e) = inl (ap suc e)
    lift (inr (inl h)) = inr (inl (omega arith))
    lift (inr (inr h)) = inr (inr (omega arith))

pub fault_is_one : (text : List ℕ) (byte other : ℕ) → GoesOnTo text byte → GoesOnTo text other → other ≡ byte
fault_is_one text byte other g g' = by (apart byte other)
  where
    by : (byte ≡ other) ⊎ ((byte < other) ⊎ (other < byte)) → other ≡ byte
    by (inl e) = sym e
    by (inr (inl h)) = absurd (g.longest other h g'.within g'.front)
    by (inr (inr h)) = absurd (g'.longest byte h g.within g.front)
