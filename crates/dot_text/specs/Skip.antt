-- What bytes begin with, as far as blanks and comments go.
use Rattle.std.specs.Prelude.{◌≡◌, ℕ, ◌+◌, Bool, false, List, ◌∷◌, ◌++◌, Option, Some, None, length}
use Rattle.dot_text.specs.declared.blanks.Skip.{Skip}
use Rattle.dot_text.specs.declared.blanks.Skip.TheVariants.{Bytes, Unclosed, Nothing}
use Rattle.dot_text.specs.Lexical.{Skipped}
use Rattle.dot_text.specs.Scanner.{Cut, block_of}

-- the bytes begin with a blank or a comment of n bytes; line says that a line begins at them
pub record BeginsBlank (line : Bool) (bs : List ℕ) (n : ℕ) : Type 0 where
  pub text : List ℕ
  pub rest : List ℕ
  pub is : bs ≡ text ++ rest
  pub skipped : Skipped line text rest
  pub count : n ≡ length text

-- they begin with the first two bytes of a block comment
pub record BeginsBlock (bs : List ℕ) : Type 0 where
  pub rest : List ℕ
  pub is : bs ≡ 47 ∷ 42 ∷ rest

-- they begin with a blank or a comment, with a block comment that is not closed, or with neither
abbrev pub BeginsAs : Bool → List ℕ → Skip → Type 0
BeginsAs line bs (Bytes n) = BeginsBlank line bs n
BeginsAs line bs Unclosed = BeginsBlock bs × ((n : ℕ) → BeginsBlank line bs n → ⊥)
BeginsAs line bs Nothing = (BeginsBlock bs → ⊥) × ((n : ℕ) → BeginsBlank line bs n → ⊥)

-- how many bytes there are with those of the cut, if it is there
abbrev pub len_from : ℕ → Option Cut → Option ℕ
len_from n None = None
len_from n (Some c) = Some (n + length c.text)

-- how many bytes there are up to the first */ and with it
abbrev pub block_len_of : List ℕ → Option ℕ
block_len_of bs = len_from 0 (block_of false bs)
