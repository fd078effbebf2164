-- Which bytes spell a token, which are a blank or a comment, and the tokens that stand in some bytes.
use Rattle.std.specs.Prelude.{◌≡◌, ℕ, zero, suc, ◌+◌, ◌==◌, nat_le, Bool, true, false, not, ◌&&◌, ◌||◌, if◌then◌else◌, IsTrue, IsFalse, List, [], ◌∷◌, ◌++◌, Option, Some, None, length, get_or, drop, IsUtf8}
use Rattle.std.specs.Char.{is_ascii_digit, is_ascii_alphabetic}
use Rattle.std.specs.List.{list_all}
use Rattle.dot_text.specs.Tokens.{Token, Id, Open, Close, OpenList, CloseList, Semicolon, Comma, Equals, Arrow, word_token}

-- space, tab, CR and LF
abbrev pub is_blank : ℕ → Bool
is_blank b = b == 32 || b == 9 || b == 13 || b == 10

-- an ASCII letter, _ or a byte from 128 on
abbrev pub begins_name : ℕ → Bool
begins_name b = is_ascii_alphabetic b || b == 95 || nat_le 128 b

-- what may stand in a name behind its first byte
abbrev pub is_in_name : ℕ → Bool
is_in_name b = begins_name b || is_ascii_digit b

-- a digit, an ASCII letter, _ or . : what may not follow a numeral at once
abbrev pub is_by_numeral : ℕ → Bool
is_by_numeral b = is_ascii_digit b || is_ascii_alphabetic b || b == 95 || b == 46

-- no LF
abbrev pub is_in_line : ℕ → Bool
is_in_line b = not (b == 10)

-- the first byte, if there is one, does not pass
abbrev pub stops : (ℕ → Bool) → List ℕ → Bool
stops test [] = true
stops test (b ∷ bs) = not (test b)

-- a name: no digit stands first
abbrev pub is_name : List ℕ → Bool
is_name [] = false
is_name (b ∷ bs) = begins_name b && list_all is_in_name bs

-- there are no bytes
abbrev pub is_empty : List ℕ → Bool
is_empty [] = true
is_empty (b ∷ bs) = false

-- without a sign: . and digits, or digits with an optional . and further digits; some says that digits stand before
abbrev pub is_unsigned : Bool → List ℕ → Bool
is_unsigned some [] = some
is_unsigned some (b ∷ bs) =
    if b == 46 then list_all is_ascii_digit bs && (some || not (is_empty bs)) else is_ascii_digit b && is_unsigned true bs

-- an optional -, 45, and then the rest of a numeral
abbrev pub is_numeral : List ℕ → Bool
is_numeral [] = false
is_numeral (b ∷ bs) = if b == 45 then is_unsigned false bs else is_unsigned false (b ∷ bs)

-- neither a double quote, 34, nor a backslash, 92
abbrev pub is_plain : ℕ → Bool
is_plain b = not (b == 34 || b == 92)

-- what a backslash passes over and leaves as it is
abbrev pub is_passed : ℕ → Bool
is_passed b = not (b == 34 || b == 10 || b == 13)

-- the bytes between two quotes, and what they stand for
pub data Quotes : List ℕ → List ℕ → Type 0 where
  nothing : Quotes [] []
  plain : {bs : List ℕ} {v : List ℕ} (b : ℕ) → IsTrue (is_plain b) → Quotes bs v → Quotes (b ∷ bs) (b ∷ v)
  quote : {bs : List ℕ} {v : List ℕ} → Quotes bs v → Quotes (92 ∷ 34 ∷ bs) (34 ∷ v)
  passed : {bs : List ℕ} {v : List ℕ} (b : ℕ) → IsTrue (is_passed b) → Quotes bs v → Quotes (92 ∷ b ∷ bs) (92 ∷ b ∷ v)

-- { } [ ] ; , =
abbrev pub mark_token : ℕ → Option Token
mark_token b =
    if b == 123 then Some Open
    else (if b == 125 then Some Close
    else (if b == 91 then Some OpenList
    else (if b == 93 then Some CloseList
    else (if b == 59 then Some Semicolon
    else (if b == 44 then Some Comma
    else (if b == 61 then Some Equals
    else None))))))

-- these bytes, before the rest, are the token
pub data Spells : List ℕ → List ℕ → Token → Type 0 where
  name : {rest : List ℕ} (w : List ℕ) → IsTrue (is_name w) → IsTrue (stops is_in_name rest) → Spells w rest (word_token w)
  numeral : {rest : List ℕ} (w : List ℕ) → IsTrue (is_numeral w) → IsTrue (stops is_by_numeral rest) → Spells w rest (Id w)
  quoted : {rest bs : List ℕ} {v : List ℕ} → Quotes bs v → Spells (34 ∷ (bs ++ 34 ∷ [])) rest (Id v)
  arrow : {rest : List ℕ} → Spells (45 ∷ 62 ∷ []) rest Arrow
  mark : {rest : List ℕ} {t : Token} (b : ℕ) → mark_token b ≡ Some t → Spells (b ∷ []) rest t

-- whether */ stands in the bytes; star says that a *, 42, stands before them
abbrev pub closes : Bool → List ℕ → Bool
closes star [] = false
closes star (b ∷ bs) = (star && b == 47) || closes (b == 42) bs

-- whether the bytes end in *
abbrev pub ends_star : Bool → List ℕ → Bool
ends_star star [] = star
ends_star star (b ∷ bs) = ends_star (b == 42) bs

-- these bytes, before the rest, are a blank or a comment; line says that a line begins at them. 47 is /, and 35 is #
pub data Skipped : Bool → List ℕ → List ℕ → Type 0 where
  blank : {line : Bool} {rest : List ℕ} (b : ℕ) → IsTrue (is_blank b) → Skipped line (b ∷ []) rest
  slashes : {line : Bool} {rest : List ℕ} (w : List ℕ) → IsTrue (list_all is_in_line w) → IsTrue (stops is_in_line rest) → Skipped line (47 ∷ 47 ∷ w) rest
  block : {line : Bool} {rest : List ℕ} (w : List ℕ) → IsFalse (closes false w) → IsTrue (ends_star false w) → Skipped line (47 ∷ 42 ∷ (w ++ 47 ∷ [])) rest
  hash : {rest : List ℕ} (w : List ℕ) → IsTrue (list_all is_in_line w) → IsTrue (stops is_in_line rest) → Skipped true (35 ∷ w) rest

-- a line begins at byte 0 and behind each LF
abbrev pub begins_line : List ℕ → ℕ → Bool
begins_line bytes zero = true
begins_line bytes (suc p) = get_or bytes p 0 == 10

-- a blank or a comment stands from p to q
pub record SkipAt (bytes : List ℕ) (p q : ℕ) : Type 0 where
  pub text : List ℕ
  pub rest : List ℕ
  pub is : drop p bytes ≡ text ++ rest
  pub skipped : Skipped (begins_line bytes p) text rest
  pub utf8 : IsUtf8 text
  pub ends : q ≡ p + length text

-- the token t stands from p to q
pub record TokenAt (bytes : List ℕ) (p : ℕ) (t : Token) (q : ℕ) : Type 0 where
  pub text : List ℕ
  pub rest : List ℕ
  pub is : drop p bytes ≡ text ++ rest
  pub spells : Spells text rest t
  pub utf8 : IsUtf8 text
  pub ends : q ≡ p + length text

-- only blanks and comments stand from p to q
pub data Gap (bytes : List ℕ) : ℕ → ℕ → Type 0 where
  none : {p : ℕ} → Gap bytes p p
  skip : {p q r : ℕ} → SkipAt bytes p q → Gap bytes q r → Gap bytes p r

-- these tokens stand from p on, the last of them up to q
pub data Lexes (bytes : List ℕ) : ℕ → List Token → ℕ → Type 0 where
  none : {p : ℕ} → Lexes bytes p [] p
  next : {p q r s : ℕ} {t : Token} {ts : List Token} → Gap bytes p q → TokenAt bytes q t r → Lexes bytes r ts s → Lexes bytes p (t ∷ ts) s
