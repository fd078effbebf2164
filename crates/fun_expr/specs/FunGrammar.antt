-- The grammar of the texts of functions. Numerals may have any length, so a text may say a function that passes every bound.
use Rattle.std.specs.Prelude.{◌≡◌, ℕ, ◌≤◌, true, List, [], ◌∷◌, ◌++◌, length, codes}
use Rattle.std.specs.List.{join_with_byte, flat_map}
use Rattle.std.specs.Str.Parse.{digits_value}
use Rattle.op_table.specs.declared.op.Op.{Op}
use Rattle.op_table.specs.Operator.{op_word}
use Rattle.port_types.specs.Numeral.{is_numeral}
use Rattle.fun_expr.specs.declared.expr.Expr.{Expr}
use Rattle.fun_expr.specs.declared.expr.Expr.TheVariants.{Field, Lit, Apply}

-- digits without a leading zero, and their number
pub record Numeral (word : List ℕ) (number : ℕ) : Type 0 where
  pub is : is_numeral word ≡ true
  pub value : digits_value 10 word ≡ number

-- A field is `#` and its place, a literal its width, a quote and its number; an operator has its name, its width and at least one argument.
mutual
  pub data Spells : List ℕ → Expr → Type 0 where
    spells_field : (word : List ℕ) (place : ℕ) → Numeral word place → Spells (codes "#" ++ word) (Field place)
    spells_lit : (first second : List ℕ) (width number : ℕ) → Numeral first width → Numeral second number → Spells (first ++ codes "'" ++ second) (Lit width number)
    spells_apply : (op : Op) (word : List ℕ) (width : ℕ) (pieces : List (List ℕ)) (args : List Expr) → Numeral word width → 1 ≤ length args → SpellEach pieces args →
        Spells (op_word op ++ codes ":" ++ word ++ codes "(" ++ join_with_byte 44 pieces ++ codes ")") (Apply op width args)

  pub data SpellEach : List (List ℕ) → List Expr → Type 0 where
    no_more : SpellEach [] []
    and_more : (piece : List ℕ) (e : Expr) (pieces : List (List ℕ)) (es : List Expr) → Spells piece e → SpellEach pieces es → SpellEach (piece ∷ pieces) (e ∷ es)

-- numerals of numbers, in order
abbrev pub Numerals : List (List ℕ) → List ℕ → Type 0
Numerals [] [] = Unit {0}
Numerals [] (number ∷ numbers) = ⊥
Numerals (word ∷ words) [] = ⊥
Numerals (word ∷ words) (number ∷ numbers) = Numeral word number × Numerals words numbers

-- the pieces joined by `;`, with a space behind them where there is one
abbrev pub joined_binds : List (List ℕ) → List ℕ
joined_binds [] = []
joined_binds (piece ∷ pieces) = join_with_byte 59 (piece ∷ pieces) ++ codes " "

-- the binds joined by `;`, a space where there is a bind, `->`, and for each out a space, `#` and its place
pub record IsFunText (text : List ℕ) (binds : List Expr) (outs : List ℕ) : Type 0 where
  pub pieces : List (List ℕ)
  pub words : List (List ℕ)
  pub spell_binds : SpellEach pieces binds
  pub spell_outs : Numerals words outs
  pub is : text ≡ joined_binds pieces ++ codes "->" ++ flat_map (λ word. codes " #" ++ word) words
