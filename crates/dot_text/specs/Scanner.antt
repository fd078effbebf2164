-- What stands at the front of some bytes, as a function.
use Rattle.std.specs.Prelude.{ℕ, ◌==◌, Bool, true, false, ◌&&◌, ◌||◌, if◌then◌else◌, List, [], ◌∷◌, ◌++◌, Option, Some, None, drop}
use Rattle.std.specs.Char.{is_ascii_digit}
use Rattle.dot_text.specs.Tokens.{Token, Id, Arrow, word_token}
use Rattle.dot_text.specs.Lexical.{is_blank, begins_name, is_in_name, is_by_numeral, is_in_line, is_unsigned, mark_token, begins_line}

-- some bytes, and those behind them
pub record Cut : Type 0 where
  pub text : List ℕ
  pub rest : List ℕ

-- with one more byte at the front
abbrev pub before : ℕ → Cut → Cut
before b c = record { text = b ∷ c.text; rest = c.rest }

-- the longest front all of whose bytes pass
abbrev pub run_of : (ℕ → Bool) → List ℕ → Cut
run_of test [] = record { text = []; rest = [] }
run_of test (b ∷ bs) = if test b then before b (run_of test bs) else record { text = []; rest = b ∷ bs }

-- what stands at the front of some bytes
pub data Front : Type 0 where
  AtEnd : Front
  Skips : Cut → Front
  Gives : Token → Cut → Front
  Faulty : Front

-- the same of a block comment
abbrev pub block_before : ℕ → Option Cut → Option Cut
block_before b None = None
block_before b (Some c) = Some (before b c)

-- the bytes up to the next */ and with it
abbrev pub block_of : Bool → List ℕ → Option Cut
block_of star [] = None
block_of star (b ∷ bs) =
    if star && b == 47 then Some (record { text = b ∷ []; rest = bs }) else block_before b (block_of (b == 42) bs)

-- a quoted text behind its first quote: what it stands for, and its bytes with the closing quote
pub record Quoted : Type 0 where
  pub value : List ℕ
  pub cut : Cut

-- the same of a quoted text, whose value begins with these bytes
abbrev pub quoted_before : List ℕ → ℕ → Option Quoted → Option Quoted
quoted_before v b None = None
quoted_before v b (Some q) = Some (record { value = v ++ q.value; cut = before b q.cut })

-- passed says that a backslash stands before the bytes
abbrev pub quoted_of : Bool → List ℕ → Option Quoted
quoted_of passed [] = None
quoted_of true (b ∷ bs) =
    if b == 10 || b == 13 then None
    else (if b == 34 then quoted_before (34 ∷ []) b (quoted_of false bs) else quoted_before (92 ∷ b ∷ []) b (quoted_of false bs))
quoted_of false (b ∷ bs) =
    if b == 34 then Some (record { value = []; cut = record { text = b ∷ []; rest = bs } })
    else (if b == 92 then quoted_before [] b (quoted_of true bs) else quoted_before (b ∷ []) b (quoted_of false bs))

-- a name or a keyword
abbrev pub gives_name : Cut → Front
gives_name c = Gives (word_token c.text) c

-- a numeral; sign is the bytes before the cut
abbrev pub gives_numeral : List ℕ → Cut → Front
gives_numeral sign c =
    if is_unsigned false c.text then Gives (Id (sign ++ c.text)) (record { text = sign ++ c.text; rest = c.rest }) else Faulty

-- a quoted text, if it is closed
abbrev pub gives_quoted : Option Quoted → Front
gives_quoted None = Faulty
gives_quoted (Some q) = Gives (Id q.value) (before 34 q.cut)

-- a token of one byte, if it is one
abbrev pub gives_mark : ℕ → List ℕ → Option Token → Front
gives_mark b bs None = Faulty
gives_mark b bs (Some t) = Gives t (record { text = b ∷ []; rest = bs })

-- what stands from a - on
abbrev pub behind_minus : List ℕ → Front
behind_minus [] = Faulty
behind_minus (b ∷ bs) =
    if b == 62 then Gives Arrow (record { text = 45 ∷ 62 ∷ []; rest = bs }) else gives_numeral (45 ∷ []) (run_of is_by_numeral (b ∷ bs))

-- a block comment, if it is closed
abbrev pub skips_block : Option Cut → Front
skips_block None = Faulty
skips_block (Some c) = Skips (before 47 (before 42 c))

-- what stands from a / on
abbrev pub behind_slash : List ℕ → Front
behind_slash [] = Faulty
behind_slash (b ∷ bs) =
    if b == 47 then Skips (before 47 (before 47 (run_of is_in_line bs)))
    else (if b == 42 then skips_block (block_of false bs) else Faulty)

-- what begins a numeral without a sign
abbrev pub begins_number : ℕ → Bool
begins_number b = is_ascii_digit b || b == 46

-- a blank, a comment or a token; line says that a line begins here
abbrev pub front : Bool → List ℕ → Front
front line [] = AtEnd
front line (b ∷ bs) =
    if begins_name b then gives_name (run_of is_in_name (b ∷ bs))
    else (if begins_number b then gives_numeral [] (run_of is_by_numeral (b ∷ bs))
    else (if is_blank b then Skips (record { text = b ∷ []; rest = bs })
    else (if b == 34 then gives_quoted (quoted_of false bs)
    else (if b == 45 then behind_minus bs
    else (if b == 47 then behind_slash bs
    else (if b == 35 && line then Skips (before 35 (run_of is_in_line bs))
    else gives_mark b bs (mark_token b)))))))

-- what stands at a place
abbrev pub front_at : List ℕ → ℕ → Front
front_at bytes p = front (begins_line bytes p) (drop p bytes)
