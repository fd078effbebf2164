-- Where blanks and comments end, whatever their bytes, and comments that are not closed.
use Rattle.std.specs.Prelude.{◌≡◌, ℕ, zero, suc, ◌+◌, ◌<◌, ◌==◌, Bool, false, ◌&&◌, if◌then◌else◌, List, [], ◌∷◌, ◌++◌, Result, Ok, Err, MatchResult, length, drop}
use Rattle.dot_text.specs.Lexical.{begins_line, Skipped}
use Rattle.dot_text.specs.Scanner.{Front, AtEnd, Skips, Gives, Faulty, front_at}

-- a blank or a comment stands from p to q, whatever its bytes
pub record BlankAt (bytes : List ℕ) (p q : ℕ) : Type 0 where
  pub text : List ℕ
  pub rest : List ℕ
  pub is : drop p bytes ≡ text ++ rest
  pub skipped : Skipped (begins_line bytes p) text rest
  pub ends : q ≡ p + length text

-- only blanks and comments stand from p to q
pub data Blanks (bytes : List ℕ) : ℕ → ℕ → Type 0 where
  none : {p : ℕ} → Blanks bytes p p
  skip : {p q r : ℕ} → BlankAt bytes p q → Blanks bytes q r → Blanks bytes p r

-- a comment begins at p with /* and is not closed
pub record Unclosed (bytes : List ℕ) (p : ℕ) : Type 0 where
  pub rest : List ℕ
  pub is : drop p bytes ≡ 47 ∷ 42 ∷ rest
  pub none : (q : ℕ) → BlankAt bytes p q → ⊥

-- the bytes end at p, or the byte at p is in no blank and no comment
pub data FirstByte (bytes : List ℕ) (p : ℕ) : Type 0 where
  ended : p ≡ length bytes → FirstByte bytes p
  byte : p < length bytes → ((q : ℕ) → BlankAt bytes p q → ⊥) → (Unclosed bytes p → ⊥) → FirstByte bytes p

-- blanks and comments stand at from, and behind them the first byte that is in none, or the end
pub record SkipsTo (bytes : List ℕ) (from to : ℕ) : Type 0 where
  pub blanks : Blanks bytes from to
  pub first : FirstByte bytes to

-- blanks and comments stand at from, and behind them a comment begins that is not closed
pub record SkipFails (bytes : List ℕ) (from place : ℕ) : Type 0 where
  pub blanks : Blanks bytes from place
  pub unclosed : Unclosed bytes place

-- the answer is the first byte behind blanks and comments, or else where a comment begins that is not closed
abbrev pub IsSkip : List ℕ → ℕ → Result ℕ ℕ → Type 0
IsSkip bytes from r = MatchResult r (λ to. SkipsTo bytes from to) (λ place. SkipFails bytes from place)

-- whether the bytes begin with /*
abbrev pub opens : List ℕ → Bool
opens [] = false
opens (b ∷ []) = false
opens (b ∷ c ∷ bs) = b == 47 && c == 42

-- what a front says of the place behind blanks and comments
abbrev pub skip_on : ℕ → Bool → Front → (ℕ → Result ℕ ℕ) → Result ℕ ℕ
skip_on p opened AtEnd after = Ok p
skip_on p opened (Skips c) after = after (p + length c.text)
skip_on p opened (Gives t c) after = Ok p
skip_on p opened Faulty after = if opened then Err p else Ok p

-- at most n blanks and comments
abbrev pub skips : ℕ → List ℕ → ℕ → Result ℕ ℕ
skips zero bytes p = Ok p
skips (suc n) bytes p = skip_on p (opens (drop p bytes)) (front_at bytes p) (λ q. skips n bytes q)

-- the place behind blanks and comments, or that of the comment that is not closed
abbrev pub skipping : List ℕ → ℕ → Result ℕ ℕ
skipping bytes from = skips (suc (length bytes)) bytes from
