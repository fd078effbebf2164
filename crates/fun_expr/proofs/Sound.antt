-- What is read to an end is a text of the grammar: what may follow in each state, from the end of a text to its start.
use Rattle.std.proofs.Common.{◌≡◌, ◌==◌, ◌+◌, ◌-◌, ◌⊎◌, inl, inr, ℕ, zero, suc, List, [], ◌∷◌, ◌++◌, Bool, true, false, cond, length, take, Option, Some, None, Result, Ok, Err, refl, ap, sym, ◌∙◌, subst, arith, append_assoc}
use Rattle.std.specs.Prelude.{codes}
use Rattle.std.specs.Char.{is_ascii_digit}
use Rattle.std.specs.List.{join_with_byte, flat_map}
use Rattle.std.specs.Str.Parse.{digits_value}
use Rattle.std.proofs.lemmas.List.{take_at}
use Rattle.std.proofs.lemmas.Bool.{eqb-true}
use Rattle.std.proofs.lemmas.Bool.Decides.{nat_tests}
use Rattle.op_table.specs.declared.op.Op.{Op}
use Rattle.op_table.specs.Operator.{op_word}
use Rattle.port_types.specs.Numeral.{is_numeral}
use Rattle.fun_expr.specs.declared.expr.Expr.{Expr}
use Rattle.fun_expr.specs.declared.expr.Expr.TheVariants.{Field, Lit, Apply}
use Rattle.fun_expr.specs.declared.state.Number.{Number}
use Rattle.fun_expr.specs.declared.state.Number.TheVariants.{Place, LiteralWidth, Literal, OperatorWidth, Out}
use Rattle.fun_expr.specs.declared.state.Spot.{Spot}
use Rattle.fun_expr.specs.declared.state.Spot.TheVariants.{Start, Expression, Name, Numeral, Digits, Closed, Spaced, Dash, Arrow, Gap}
use Rattle.fun_expr.specs.declared.state.State.{State}
use Rattle.fun_expr.specs.declared.scan.Extent.{Extent}
use Rattle.fun_expr.specs.Machine.{state, leads, named, operator, in_name, expression, behind, only_at, ended, with_digit, held_width, is_zero, numeral_on, first_named, op_named, step_from, step, is_whole, ends_out}
use Rattle.fun_expr.specs.Counting.{counted, go_on, scanned}
use Rattle.fun_expr.specs.FunGrammar.{Spells, SpellEach, spells_field, spells_lit, spells_apply, no_more, and_more, Numerals, joined_binds, IsFunText}
use Rattle.fun_expr.specs.FunGrammar as grammar
use Rattle.fun_expr.proofs.OneText.{AreDigits, lit_text, apply_text}
use Rattle.fun_expr.proofs.OpNames.{first_is, named_is}

-- outs
pub record OutsRest (r : List ℕ) : Type 0 where
  pub words : List (List ℕ)
  pub outs : List ℕ
  pub spell : Numerals words outs
  pub is : r ≡ flat_map (λ word. codes " #" ++ word) words

-- some bytes, and then outs
pub record ThenOuts (front r : List ℕ) : Type 0 where
  pub rest : List ℕ
  pub is : r ≡ front ++ rest
  pub outs : OutsRest rest

abbrev pub pieces_text : ℕ → List (List ℕ) → List ℕ
pieces_text separator pieces = flat_map (λ piece. separator ∷ piece) pieces

-- further expressions behind separators, some bytes, and then what has to follow
pub record Further (separator : ℕ) (close : List ℕ) (Follows : List ℕ → Type 0) (r : List ℕ) : Type 0 where
  pub pieces : List (List ℕ)
  pub es : List Expr
  pub rest : List ℕ
  pub spell : SpellEach pieces es
  pub is : r ≡ pieces_text separator pieces ++ close ++ rest
  pub follows : Follows rest

-- behind an expression within so many operators
abbrev pub Behind : ℕ → List ℕ → Type 0
Behind zero r = Further 59 (32 ∷ 45 ∷ 62 ∷ []) OutsRest r
Behind (suc k) r = Further 44 (41 ∷ []) (Behind k) r

-- an expression
pub record ExprRest (k : ℕ) (r : List ℕ) : Type 0 where
  pub piece : List ℕ
  pub e : Expr
  pub rest : List ℕ
  pub spell : Spells piece e
  pub is : r ≡ piece ++ rest
  pub follows : Behind k rest

-- a numeral behind a byte
pub record SecondRest (k : ℕ) (r : List ℕ) : Type 0 where
  pub word : List ℕ
  pub number : ℕ
  pub rest : List ℕ
  pub spell : grammar.Numeral word number
  pub is : r ≡ 39 ∷ (word ++ rest)
  pub follows : Behind k rest

pub record ArgsRest (k : ℕ) (r : List ℕ) : Type 0 where
  pub rest : List ℕ
  pub is : r ≡ 40 ∷ rest
  pub args : ExprRest (suc k) rest

-- behind a numeral
abbrev pub Ended : Number → ℕ → List ℕ → Type 0
Ended Place k r = Behind k r
Ended LiteralWidth k r = SecondRest k r
Ended (Literal width) k r = Behind k r
Ended (OperatorWidth op) k r = ArgsRest k r
Ended Out k r = OutsRest r

pub record NumeralRest (kind : Number) (k : ℕ) (r : List ℕ) : Type 0 where
  pub word : List ℕ
  pub number : ℕ
  pub rest : List ℕ
  pub spell : grammar.Numeral word number
  pub is : r ≡ word ++ rest
  pub ended : Ended kind k rest

-- further digits; none behind a 0
pub record DigitsRest (kind : Number) (zero_first : Bool) (k : ℕ) (r : List ℕ) : Type 0 where
  pub digits : List ℕ
  pub rest : List ℕ
  pub are : AreDigits digits
  pub none : zero_first ≡ true → digits ≡ []
  pub is : r ≡ digits ++ rest
  pub ended : Ended kind k rest

-- the further letters of a name
pub record NameRest (front : List ℕ) (k : ℕ) (r : List ℕ) : Type 0 where
  pub op : Op
  pub more : List ℕ
  pub rest : List ℕ
  pub name : op_word op ≡ front ++ more
  pub is : r ≡ more ++ 58 ∷ rest
  pub width : NumeralRest (OperatorWidth op) k rest

pub record GapRest (k : ℕ) (r : List ℕ) : Type 0 where
  pub rest : List ℕ
  pub is : r ≡ 35 ∷ rest
  pub out : NumeralRest Out k rest

abbrev pub Rest : Spot → ℕ → List ℕ → Type 0
Rest Start k r = ExprRest k r ⊎ ThenOuts (45 ∷ 62 ∷ []) r
Rest Expression k r = ExprRest k r
Rest (Name op letters) k r = NameRest (take letters (op_word op)) k r
Rest (Numeral kind) k r = NumeralRest kind k r
Rest (Digits kind value) k r = DigitsRest kind (is_zero value) k r
Rest Closed k r = Behind k r
Rest Spaced k r = ThenOuts (45 ∷ 62 ∷ []) r
Rest Dash k r = ThenOuts (62 ∷ []) r
Rest Arrow k r = OutsRest r
Rest Gap k r = GapRest k r

abbrev pub RestAt : State → List ℕ → Type 0
RestAt s r = Rest s.spot s.nesting r

-- where a test leads
chosen : {A : Type 0} (b : Bool) (x y z : A) → cond b x y ≡ z → ((b ≡ true) × (x ≡ z)) ⊎ ((b ≡ false) × (y ≡ z))
chosen true x y z e = inl (refl, e)
chosen false x y z e = inr (refl, e)

led : (spot : Spot) (k : ℕ) (s : State) (r : List ℕ) → leads spot k ≡ Some s → RestAt s r → Rest spot k r
led spot k s r e h = let same : state spot k ≡ s = cc in subst (λ z. RestAt z r) (sym same) h

never : (s : State) → ◌≡◌ {A = Option State} None (Some s) → ⊥
never s e = cc

-- the one byte that may stand here
only : (wanted byte : ℕ) (spot : Spot) (k : ℕ) (s : State) (r : List ℕ) → only_at wanted byte spot k ≡ Some s → RestAt s r → (byte ≡ wanted) × Rest spot k r
only wanted byte spot k s r e h = by (chosen (byte == wanted) (leads spot k) None (Some s) e)
  where
    by : (((byte == wanted) ≡ true) × (leads spot k ≡ Some s)) ⊎ (((byte == wanted) ≡ false) × (None ≡ Some s)) → (byte ≡ wanted) × Rest spot k r
    by (inl p) = (eqb-true byte wanted p.0, led spot k s r p.1 h)
    by (inr p) = absurd (never s p.1)

-- one more piece
more_pieces : (separator : ℕ) (close : List ℕ) (Follows : List ℕ → Type 0) (byte : ℕ) (piece : List ℕ) (e : Expr) (r rest : List ℕ) → byte ≡ separator → Spells piece e → r ≡ piece ++ rest →
    Further separator close Follows rest → Further separator close Follows (byte ∷ r)
more_pieces separator close Follows byte piece e r rest same spell is f = record {
  pieces = piece ∷ f.pieces;
  es = e ∷ f.es;
  rest = f.rest;
  spell = and_more piece e f.pieces f.es spell f.spell;
  is = ap (λ b. b ∷ r) same ∙ ap (λ x. separator ∷ x) (is ∙ ap (λ x. piece ++ x) f.is ∙ regroup piece (pieces_text separator f.pieces) close f.rest);
  follows = f.follows;
}
  where
    regroup : (a b c d : List ℕ) → a ++ (b ++ c ++ d) ≡ ((a ++ b) ++ c) ++ d
    regroup a b c d = simp append_assoc

-- a byte behind an expression
back_behind : (k byte : ℕ) (s : State) (r : List ℕ) → behind k byte ≡ Some s → RestAt s r → Behind k (byte ∷ r)
back_behind zero byte s r e h = by (chosen (byte == 59) (leads Expression 0) (cond (byte == 32) (leads Spaced 0) None) (Some s) e)
  where
    second : (((byte == 32) ≡ true) × (leads Spaced 0 ≡ Some s)) ⊎ (((byte == 32) ≡ false) × (None ≡ Some s)) → Behind 0 (byte ∷ r)
    second (inl p) =
        let o = led Spaced 0 s r p.1 h in
        record { pieces = []; es = []; rest = o.rest; spell = no_more; is = ap (λ b. b ∷ r) (eqb-true byte 32 p.0) ∙ ap (λ x. 32 ∷ x) o.is; follows = o.outs }
    second (inr p) = absurd (never s p.1)

    by : (((byte == 59) ≡ true) × (leads Expression 0 ≡ Some s)) ⊎ (((byte == 59) ≡ false) × (cond (byte == 32) (leads Spaced 0) None ≡ Some s)) → Behind 0 (byte ∷ r)
    by (inl p) = let x = led Expression 0 s r p.1 h in more_pieces 59 (32 ∷ 45 ∷ 62 ∷ []) OutsRest byte x.piece x.e r x.rest (eqb-true byte 59 p.0) x.spell x.is x.follows
    by (inr p) = second (chosen (byte == 32) (leads Spaced 0) None (Some s) p.1)
back_behind (suc k) byte s r e h = by (chosen (byte == 44) (leads Expression (suc k)) (cond (byte == 41) (leads Closed k) None) (Some s) e)
  where
    second : (((byte == 41) ≡ true) × (leads Closed k ≡ Some s)) ⊎ (((byte == 41) ≡ false) × (None ≡ Some s)) → Behind (suc k) (byte ∷ r)
    second (inl p) =
        let o = led Closed k s r p.1 h in
        record { pieces = []; es = []; rest = r; spell = no_more; is = ap (λ b. b ∷ r) (eqb-true byte 41 p.0); follows = o }
    second (inr p) = absurd (never s p.1)

    by : (((byte == 44) ≡ true) × (leads Expression (suc k) ≡ Some s)) ⊎ (((byte == 44) ≡ false) × (cond (byte == 41) (leads Closed k) None ≡ Some s)) → Behind (suc k) (byte ∷ r)
    by (inl p) = let x = led Expression (suc k) s r p.1 h in more_pieces 44 (41 ∷ []) (Behind k) byte x.piece x.e r x.rest (eqb-true byte 44 p.0) x.spell x.is x.follows
    by (inr p) = second (chosen (byte == 41) (leads Closed k) None (Some s) p.1)

-- the space before an out
gap_outs : (byte k : ℕ) (r : List ℕ) → byte ≡ 32 → GapRest k r → OutsRest (byte ∷ r)
gap_outs byte k r same g = record {
  words = g.out.word ∷ g.out.ended.words;
  outs = g.out.number ∷ g.out.ended.outs;
  spell = (g.out.spell, g.out.ended.spell);
  is = ap (λ b. b ∷ r) same ∙ ap (λ x. 32 ∷ x) (g.is ∙ ap (λ x. 35 ∷ x) (g.out.is ∙ ap (λ x. g.out.word ++ x) g.out.ended.is));
}

-- a byte behind a numeral
back_ended : (kind : Number) (value : Option ℕ) (k byte : ℕ) (s : State) (r : List ℕ) → ended kind value k byte ≡ Some s → RestAt s r → Ended kind k (byte ∷ r)
back_ended Place value k byte s r e h = back_behind k byte s r e h
back_ended LiteralWidth value k byte s r e h =
    let o = only 39 byte (Numeral (Literal (held_width value))) k s r e h in
    record { word = o.1.word; number = o.1.number; rest = o.1.rest; spell = o.1.spell; is = ap (λ b. b ∷ r) o.0 ∙ ap (λ x. 39 ∷ x) o.1.is; follows = o.1.ended }
back_ended (Literal width) value k byte s r e h = back_behind k byte s r e h
back_ended (OperatorWidth op) value k byte s r e h =
    let o = only 40 byte Expression (suc k) s r e h in
    record { rest = r; is = ap (λ b. b ∷ r) o.0; args = o.1 }
back_ended Out value k byte s r e h =
    let o = only 32 byte Gap k s r e h in
    gap_outs byte k r o.0 o.1

-- a first digit, and those behind it
begun_numeral : (d : ℕ) (digits : List ℕ) → is_ascii_digit d ≡ true → AreDigits digits → ((d == 48) ≡ true → digits ≡ []) → is_numeral (d ∷ digits) ≡ true
begun_numeral d [] digit are none = digit
begun_numeral d (x ∷ digits) digit are none = by (d == 48) refl
  where
    by : (b : Bool) → (d == 48) ≡ b → is_numeral (d ∷ x ∷ digits) ≡ true
    by true e = let bad = none e in absurd cc
    by false e = rw (e, digit, are) refl

is_zero_digit : (d : ℕ) → is_ascii_digit d ≡ true → (d == 48) ≡ true → (d - 48 == 0) ≡ true
is_zero_digit d digit e = grind (arith, nat_tests)

begun : (kind : Number) (k d : ℕ) (r : List ℕ) → is_ascii_digit d ≡ true → DigitsRest kind (is_zero (Some (d - 48))) k r → NumeralRest kind k (d ∷ r)
begun kind k d r digit h = record {
  word = d ∷ h.digits;
  number = digits_value 10 (d ∷ h.digits);
  rest = h.rest;
  spell = record { is = begun_numeral d h.digits digit h.are (λ e. h.none (is_zero_digit d digit e)); value = refl };
  is = ap (λ x. d ∷ x) h.is;
  ended = h.ended;
}

-- a byte in the digits of a numeral
back_digits : (kind : Number) (value : Option ℕ) (k byte : ℕ) (s : State) (r : List ℕ) →
    cond (is_ascii_digit byte) (numeral_on kind value k byte) (ended kind value k byte) ≡ Some s → RestAt s r → DigitsRest kind (is_zero value) k (byte ∷ r)
back_digits kind value k byte s r e h = by (chosen (is_ascii_digit byte) (numeral_on kind value k byte) (ended kind value k byte) (Some s) e)
  where
    one_more : is_ascii_digit byte ≡ true → ((is_zero value ≡ true) × (None ≡ Some s)) ⊎ ((is_zero value ≡ false) × (leads (Digits kind (with_digit value byte)) k ≡ Some s)) → DigitsRest kind (is_zero value) k (byte ∷ r)
    one_more digit (inl p) = absurd (never s p.1)
    one_more digit (inr p) =
        let d = led (Digits kind (with_digit value byte)) k s r p.1 h in
        record { digits = byte ∷ d.digits; rest = d.rest; are = rw (digit, d.are) refl; none = λ z. absurd cc; is = ap (λ x. byte ∷ x) d.is; ended = d.ended }

    by : ((is_ascii_digit byte ≡ true) × (numeral_on kind value k byte ≡ Some s)) ⊎ ((is_ascii_digit byte ≡ false) × (ended kind value k byte ≡ Some s)) → DigitsRest kind (is_zero value) k (byte ∷ r)
    by (inl p) = one_more p.0 (chosen (is_zero value) None (leads (Digits kind (with_digit value byte)) k) (Some s) p.1)
    by (inr p) = record { digits = []; rest = byte ∷ r; are = refl; none = λ z. refl; is = refl; ended = back_ended kind value k byte s r p.1 h }

-- a letter of a name
length_snoc : (front : List ℕ) (byte : ℕ) → length (front ++ byte ∷ []) ≡ length front + 1
length_snoc [] byte = omega arith
length_snoc (x ∷ front) byte = omega (arith, length_snoc front byte)

letter : (front : List ℕ) (byte : ℕ) (word more : List ℕ) → word ≡ front ++ byte ∷ more → take (length front + 1) word ≡ front ++ byte ∷ []
letter front byte word more e =
    ap (take (length front + 1)) (e ∙ sym (append_assoc front (byte ∷ []) more)) ∙ take_at (front ++ byte ∷ []) more (length front + 1) (length_snoc front byte)

back_letter : (front : List ℕ) (k byte : ℕ) (s : State) (r : List ℕ) (o : Option Op) → first_named front byte ≡ o → named (length front + 1) k o ≡ Some s → RestAt s r → NameRest front k (byte ∷ r)
back_letter front k byte s r None first e h = absurd (never s e)
back_letter front k byte s r (Some op) first e h =
    let n = led (Name op (length front + 1)) k s r e h in
    let is = first_is front byte op first in
    record {
      op = n.op;
      more = byte ∷ n.more;
      rest = n.rest;
      name = n.name ∙ ap (λ w. w ++ n.more) (letter front byte (op_word op) is.0 is.1) ∙ append_assoc front (byte ∷ []) n.more;
      is = ap (λ x. byte ∷ x) n.is;
      width = n.width;
    }

nil : (xs : List ℕ) → xs ++ [] ≡ xs
nil [] = refl
nil (x ∷ xs) = ap (λ ys. x ∷ ys) (nil xs)

back_colon : (front : List ℕ) (k byte : ℕ) (s : State) (r : List ℕ) (o : Option Op) → byte ≡ 58 → op_named front ≡ o → operator k o ≡ Some s → RestAt s r → NameRest front k (byte ∷ r)
back_colon front k byte s r None same found e h = absurd (never s e)
back_colon front k byte s r (Some op) same found e h =
    record {
      op = op;
      more = [];
      rest = r;
      name = named_is front op found ∙ sym (nil front);
      is = ap (λ b. b ∷ r) same;
      width = led (Numeral (OperatorWidth op)) k s r e h;
    }

back_name : (front : List ℕ) (k byte : ℕ) (s : State) (r : List ℕ) → in_name front k byte ≡ Some s → RestAt s r → NameRest front k (byte ∷ r)
back_name front k byte s r e h = by (chosen (byte == 58) (operator k (op_named front)) (named (length front + 1) k (first_named front byte)) (Some s) e)
  where
    by : (((byte == 58) ≡ true) × (operator k (op_named front) ≡ Some s)) ⊎ (((byte == 58) ≡ false) × (named (length front + 1) k (first_named front byte) ≡ Some s)) → NameRest front k (byte ∷ r)
    by (inl p) = back_colon front k byte s r (op_named front) (eqb-true byte 58 p.0) refl p.1 h
    by (inr p) = back_letter front k byte s r (first_named front byte) refl p.1 h

-- the three forms of an expression
field_rest : (k byte : ℕ) (r : List ℕ) → byte ≡ 35 → NumeralRest Place k r → ExprRest k (byte ∷ r)
field_rest k byte r same n = record {
  piece = codes "#" ++ n.word;
  e = Field n.number;
  rest = n.rest;
  spell = spells_field n.word n.number n.spell;
  is = ap (λ b. b ∷ r) same ∙ ap (λ x. 35 ∷ x) n.is;
  follows = n.ended;
}

literal_rest : (k : ℕ) (r : List ℕ) → NumeralRest LiteralWidth k r → ExprRest k r
literal_rest k r n = record {
  piece = n.word ++ codes "'" ++ n.ended.word;
  e = Lit n.number n.ended.number;
  rest = n.ended.rest;
  spell = spells_lit n.word n.ended.word n.number n.ended.number n.spell n.ended.spell;
  is = n.is ∙ ap (λ x. n.word ++ x) n.ended.is ∙ sym (lit_text n.word (codes "'") n.ended.word n.ended.rest);
  follows = n.ended.follows;
}

join_pieces : (separator : ℕ) (piece : List ℕ) (pieces : List (List ℕ)) → join_with_byte separator (piece ∷ pieces) ≡ piece ++ pieces_text separator pieces
join_pieces separator piece [] = sym (nil piece)
join_pieces separator piece (p ∷ pieces) = ap (λ x. piece ++ separator ∷ x) (join_pieces separator p pieces)

args_text : (piece pieces rest : List ℕ) → piece ++ (pieces ++ codes ")" ++ rest) ≡ (piece ++ pieces) ++ (codes ")" ++ rest)
args_text piece pieces rest = simp append_assoc

operator_rest : (k : ℕ) (r : List ℕ) → NameRest [] k r → ExprRest k r
operator_rest k r n =
    let args = n.width.ended.args in
    let last = args.follows in
    let joined = join_with_byte 44 (args.piece ∷ last.pieces) in
    let width = n.width in
    record {
      piece = op_word n.op ++ codes ":" ++ width.word ++ codes "(" ++ joined ++ codes ")";
      e = Apply n.op width.number (args.e ∷ last.es);
      rest = last.rest;
      spell = spells_apply n.op width.word width.number (args.piece ∷ last.pieces) (args.e ∷ last.es) width.spell (omega arith) (and_more args.piece args.e last.pieces last.es args.spell last.spell);
      is = n.is ∙ ap (λ w. w ++ 58 ∷ n.rest) (sym n.name)
          ∙ ap (λ x. op_word n.op ++ 58 ∷ x) (width.is ∙ ap (λ x. width.word ++ x) (width.ended.is ∙ ap (λ x. 40 ∷ x)
          (args.is ∙ ap (λ x. args.piece ++ x) last.is ∙ args_text args.piece (pieces_text 44 last.pieces) last.rest ∙ ap (λ j. j ++ (codes ")" ++ last.rest)) (sym (join_pieces 44 args.piece last.pieces)))))
          ∙ sym (apply_text (op_word n.op) (codes ":") width.word (codes "(") joined (codes ")") last.rest);
      follows = last.follows;
    }

back_expression : (k byte : ℕ) (s : State) (r : List ℕ) → expression k byte ≡ Some s → RestAt s r → ExprRest k (byte ∷ r)
back_expression k byte s r e h =
    by (chosen (byte == 35) (leads (Numeral Place) k) (cond (is_ascii_digit byte) (leads (Digits LiteralWidth (Some (byte - 48))) k) (named 1 k (first_named [] byte))) (Some s) e)
  where
    second : ((is_ascii_digit byte ≡ true) × (leads (Digits LiteralWidth (Some (byte - 48))) k ≡ Some s)) ⊎ ((is_ascii_digit byte ≡ false) × (named 1 k (first_named [] byte) ≡ Some s)) → ExprRest k (byte ∷ r)
    second (inl p) = literal_rest k (byte ∷ r) (begun LiteralWidth k byte r p.0 (led (Digits LiteralWidth (Some (byte - 48))) k s r p.1 h))
    second (inr p) = operator_rest k (byte ∷ r) (back_letter [] k byte s r (first_named [] byte) refl p.1 h)

    by : (((byte == 35) ≡ true) × (leads (Numeral Place) k ≡ Some s)) ⊎ (((byte == 35) ≡ false) × (cond (is_ascii_digit byte) (leads (Digits LiteralWidth (Some (byte - 48))) k) (named 1 k (first_named [] byte)) ≡ Some s)) → ExprRest k (byte ∷ r)
    by (inl p) = field_rest k byte r (eqb-true byte 35 p.0) (led (Numeral Place) k s r p.1 h)
    by (inr p) = second (chosen (is_ascii_digit byte) (leads (Digits LiteralWidth (Some (byte - 48))) k) (named 1 k (first_named [] byte)) (Some s) p.1)

-- a byte in each state
then_byte : (byte wanted : ℕ) (front r : List ℕ) → byte ≡ wanted → ThenOuts front r → ThenOuts (wanted ∷ front) (byte ∷ r)
then_byte byte wanted front r same t = record { rest = t.rest; is = ap (λ b. b ∷ r) same ∙ ap (λ x. wanted ∷ x) t.is; outs = t.outs }

arrow_outs : (byte : ℕ) (r : List ℕ) → byte ≡ 62 → OutsRest r → ThenOuts (62 ∷ []) (byte ∷ r)
arrow_outs byte r same o = record { rest = r; is = ap (λ b. b ∷ r) same; outs = o }

pub back : (spot : Spot) (k byte : ℕ) (s : State) (r : List ℕ) → step_from k byte spot ≡ Some s → RestAt s r → Rest spot k (byte ∷ r)
back Start k byte s r e h = by (chosen (byte == 45) (leads Dash k) (expression k byte) (Some s) e)
  where
    by : (((byte == 45) ≡ true) × (leads Dash k ≡ Some s)) ⊎ (((byte == 45) ≡ false) × (expression k byte ≡ Some s)) → ExprRest k (byte ∷ r) ⊎ ThenOuts (45 ∷ 62 ∷ []) (byte ∷ r)
    by (inl p) = inr (then_byte byte 45 (62 ∷ []) r (eqb-true byte 45 p.0) (led Dash k s r p.1 h))
    by (inr p) = inl (back_expression k byte s r p.1 h)
back Expression k byte s r e h = back_expression k byte s r e h
back (Name op letters) k byte s r e h = back_name (take letters (op_word op)) k byte s r e h
back (Numeral kind) k byte s r e h = by (chosen (is_ascii_digit byte) (leads (Digits kind (Some (byte - 48))) k) None (Some s) e)
  where
    by : ((is_ascii_digit byte ≡ true) × (leads (Digits kind (Some (byte - 48))) k ≡ Some s)) ⊎ ((is_ascii_digit byte ≡ false) × (None ≡ Some s)) → NumeralRest kind k (byte ∷ r)
    by (inl p) = begun kind k byte r p.0 (led (Digits kind (Some (byte - 48))) k s r p.1 h)
    by (inr p) = absurd (never s p.1)
back (Digits kind value) k byte s r e h = back_digits kind value k byte s r e h
back Closed k byte s r e h = back_behind k byte s r e h
back Spaced k byte s r e h = let o = only 45 byte Dash k s r e h in then_byte byte 45 (62 ∷ []) r o.0 o.1
back Dash k byte s r e h = let o = only 62 byte Arrow k s r e h in arrow_outs byte r o.0 o.1
back Arrow k byte s r e h = let o = only 32 byte Gap k s r e h in gap_outs byte k r o.0 o.1
back Gap k byte s r e h = let o = only 35 byte (Numeral Out) k s r e h in record { rest = r; is = ap (λ b. b ∷ r) o.0; out = o.1 }

-- the end of a text
no_outs : OutsRest []
no_outs = record { words = []; outs = []; spell = tt; is = refl }

out_ended : (kind : Number) (z : Bool) (k : ℕ) → ends_out kind ≡ true → DigitsRest kind z k []
out_ended Place z k e = absurd cc
out_ended LiteralWidth z k e = absurd cc
out_ended (Literal width) z k e = absurd cc
out_ended (OperatorWidth op) z k e = absurd cc
out_ended Out z k e = record { digits = []; rest = []; are = refl; none = λ _. refl; is = refl; ended = no_outs }

at_end : (spot : Spot) (k : ℕ) → is_whole spot ≡ true → Rest spot k []
at_end Start k e = absurd cc
at_end Expression k e = absurd cc
at_end (Name op letters) k e = absurd cc
at_end (Numeral kind) k e = absurd cc
at_end (Digits kind value) k e = out_ended kind (is_zero value) k e
at_end Closed k e = absurd cc
at_end Spaced k e = absurd cc
at_end Dash k e = absurd cc
at_end Arrow k e = no_outs
at_end Gap k e = absurd cc

ends : (s : State) (x y : Extent) (at : ℕ) → cond (is_whole s.spot) (Ok x) (Err at) ≡ Ok y → RestAt s []
ends s x y at e = by (is_whole s.spot) refl
  where
    by : (b : Bool) → is_whole s.spot ≡ b → RestAt s []
    by true h = at_end s.spot s.nesting h
    by false h = let bad : ◌≡◌ {A = Result Extent ℕ} (Err at) (Ok y) = ap (λ b. cond b (Ok x) (Err at)) (sym h) ∙ e in absurd cc

goes : (s : State) (byte at : ℕ) (bytes : List ℕ) (y : Extent) (next : State → Result Extent ℕ) (o : Option State) → step s byte ≡ o → ((t : State) → next t ≡ Ok y → RestAt t bytes) → go_on at next o ≡ Ok y → RestAt s (byte ∷ bytes)
goes s byte at bytes y next None e rest h = absurd cc
goes s byte at bytes y next (Some t) e rest h = back s.spot s.nesting byte t bytes e (rest t h)

pub sound : (text : List ℕ) (s : State) (x y : Extent) (at : ℕ) → scanned s x at text ≡ Ok y → RestAt s text
sound [] s x y at h = ends s x y at h
sound (byte ∷ bytes) s x y at h =
    goes s byte at bytes y (λ next. scanned next (counted s byte x) (at + 1) bytes) (step s byte) refl (λ t e. sound bytes t (counted s byte x) y (at + 1) e) h

-- from the start it is a text of the grammar
abbrev pub IsText : List ℕ → Type 0
IsText text = (binds : List Expr) × (outs : List ℕ) × IsFunText text binds outs

with_binds : (p : List ℕ) (ps rest : List ℕ) → p ++ (ps ++ (32 ∷ 45 ∷ 62 ∷ []) ++ rest) ≡ ((p ++ ps) ++ codes " ") ++ codes "->" ++ rest
with_binds p ps rest = simp append_assoc

pub text_from : (text : List ℕ) → Rest Start 0 text → IsText text
text_from text (inr t) = ([], t.outs.outs, record { pieces = []; words = t.outs.words; spell_binds = no_more; spell_outs = t.outs.spell; is = t.is ∙ ap (λ x. 45 ∷ 62 ∷ x) t.outs.is })
text_from text (inl x) =
    let f = x.follows in (
      x.e ∷ f.es,
      f.follows.outs,
      record {
        pieces = x.piece ∷ f.pieces;
        words = f.follows.words;
        spell_binds = and_more x.piece x.e f.pieces f.es x.spell f.spell;
        spell_outs = f.follows.spell;
        is = x.is ∙ ap (λ y. x.piece ++ y) f.is ∙ with_binds x.piece (pieces_text 59 f.pieces) f.rest
            ∙ ap (λ j. (j ++ codes " ") ++ codes "->" ++ f.rest) (sym (join_pieces 59 x.piece f.pieces))
            ∙ ap (λ y. joined_binds (x.piece ∷ f.pieces) ++ codes "->" ++ y) f.follows.is;
      },
    )
