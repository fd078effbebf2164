-- Reading one byte at a time.
use Rattle.std.specs.Prelude.{ℕ, ◌==◌, Bool, true, false, ◌&&◌, ◌||◌, if◌then◌else◌, List, [], ◌∷◌, ◌++◌, Option, Some, None, Result, Ok, Err}
use Rattle.dot_text.specs.Tokens.{Token, Id, Arrow, word_token}
use Rattle.dot_text.specs.Lexical.{is_blank, begins_name, is_in_name, is_by_numeral, is_in_line, is_numeral, mark_token, begins_line}
use Rattle.dot_text.specs.Scanner.{Cut, Front, Skips, Gives, begins_number}
use Rattle.dot_text.specs.Machine.{State, Begin}
use Rattle.dot_text.specs.Reading.{Found, Turn, Fails, Goes, Finds, turn_at}

-- within what the bytes stand
pub data Mode : Type 0 where
  InName : Mode
  InNumber : Mode
  Minus : Mode
  InQuotes : Bool → List ℕ → Mode
  Slash : Mode
  InLine : Mode
  InBlock : Bool → Mode

-- what has been read whole: blanks, or a token
pub data Item : Type 0 where
  Blank : Item
  Lexeme : Token → Item

-- what the next byte does to an item: it goes on with something, ends it, or is a fault
pub data Start : Type 0 where
  More : Mode → Start
  With : Item → Start
  Bad : Start

-- what it does within an item; the item may have ended before it
pub data Taken : Type 0 where
  Now : Start → Taken
  Before : Item → Taken

-- a token of one byte, if it is one
abbrev pub with_mark : Option Token → Start
with_mark None = Bad
with_mark (Some t) = With (Lexeme t)

-- the first byte of an item
abbrev pub starts : Bool → ℕ → Start
starts line b =
    if begins_name b then More InName
    else (if begins_number b then More InNumber
    else (if is_blank b then With Blank
    else (if b == 34 then More (InQuotes false [])
    else (if b == 45 then More Minus
    else (if b == 47 then More Slash
    else (if b == 35 && line then More InLine
    else with_mark (mark_token b)))))))

-- the next byte of a numeral
abbrev pub number_taken : List ℕ → ℕ → Taken
number_taken text b =
    if is_by_numeral b then Now (More InNumber) else (if is_numeral text then Before (Lexeme (Id text)) else Now Bad)

-- the next byte of an item; text is its bytes so far
abbrev pub taken : Mode → List ℕ → ℕ → Taken
taken InName text b = if is_in_name b then Now (More InName) else Before (Lexeme (word_token text))
taken InNumber text b = number_taken text b
taken Minus text b = if b == 62 then Now (With (Lexeme Arrow)) else number_taken text b
taken (InQuotes true v) text b =
    if b == 10 || b == 13 then Now Bad
    else (if b == 34 then Now (More (InQuotes false (v ++ 34 ∷ []))) else Now (More (InQuotes false (v ++ 92 ∷ b ∷ []))))
taken (InQuotes false v) text b =
    if b == 34 then Now (With (Lexeme (Id v)))
    else (if b == 92 then Now (More (InQuotes true v)) else Now (More (InQuotes false (v ++ b ∷ []))))
taken Slash text b = if b == 47 then Now (More InLine) else (if b == 42 then Now (More (InBlock false)) else Now Bad)
taken InLine text b = if is_in_line b then Now (More InLine) else Before Blank
taken (InBlock star) text b = if star && b == 47 then Now (With Blank) else Now (More (InBlock (b == 42)))

-- the item that ends where the bytes end
abbrev pub last_item : Mode → List ℕ → Option Item
last_item InName text = Some (Lexeme (word_token text))
last_item InNumber text = if is_numeral text then Some (Lexeme (Id text)) else None
last_item InLine text = Some Blank
last_item m text = None

-- the reader: between items, or within one that began at a place. line says that a line begins at the next byte
pub data Scan : Type 0 where
  Between : ℕ → Bool → State → Scan
  Within : ℕ → List ℕ → Mode → Bool → State → Scan

-- the reader goes on, or has its answer
pub data Step : Type 0 where
  Going : Scan → Step
  Over : Result Found ℕ → Step

-- an item as the scanner has it
abbrev pub front_with : Item → Cut → Front
front_with Blank c = Skips c
front_with (Lexeme t) c = Gives t c

-- the item of these bytes from p on is read
abbrev pub item_turn : ℕ → State → Item → List ℕ → Turn
item_turn p s i text = turn_at p s (front_with i (record { text = text; rest = [] }))

-- where a turn leads before the next byte is there
abbrev pub after_turn : Bool → Turn → Step
after_turn line (Fails q) = Over (Err q)
after_turn line (Goes q s) = Going (Between q line s)
after_turn line (Finds f) = Over (Ok f)

-- a byte that does this to the item that began at p
abbrev pub begin : ℕ → List ℕ → State → ℕ → Start → Step
begin p text s b (More m) = Going (Within p (text ++ b ∷ []) m (b == 10) s)
begin p text s b (With i) = after_turn (b == 10) (item_turn p s i (text ++ b ∷ []))
begin p text s b Bad = Over (Err p)

-- a byte that comes behind the turn of an item
abbrev pub again : Bool → ℕ → Turn → Step
again line b (Fails q) = Over (Err q)
again line b (Goes q s) = begin q [] s b (starts line b)
again line b (Finds f) = Over (Ok f)

-- a byte within an item
abbrev pub take_in : ℕ → List ℕ → Bool → State → ℕ → Taken → Step
take_in p text line s b (Now x) = begin p text s b x
take_in p text line s b (Before i) = again line b (item_turn p s i text)

-- one byte
abbrev pub push : Scan → ℕ → Step
push (Between p line s) b = begin p [] s b (starts line b)
push (Within p text m line s) b = take_in p text line s b (taken m text b)

-- some bytes, one at a time
abbrev pub pushes : Step → List ℕ → Step
pushes x [] = x
pushes (Over r) (b ∷ bs) = Over r
pushes (Going c) (b ∷ bs) = pushes (push c b) bs

-- the answer where the bytes end behind a turn
abbrev pub last_turn : Turn → Result Found ℕ
last_turn (Fails q) = Err q
last_turn (Goes q s) = Err q
last_turn (Finds f) = Ok f

-- the answer where they end with an item, or within one
abbrev pub finish_item : ℕ → List ℕ → State → Option Item → Result Found ℕ
finish_item p text s None = Err p
finish_item p text s (Some i) = last_turn (item_turn p s i text)

-- the answer where the bytes end
abbrev pub answer : Step → Result Found ℕ
answer (Over r) = r
answer (Going (Between p line s)) = Err p
answer (Going (Within p text m line s)) = finish_item p text s (last_item m text)

-- what is known behind the bytes from a place on
abbrev pub reader_at : List ℕ → ℕ → Step
reader_at bytes from = Going (Between from (begins_line bytes from) Begin)

-- the bytes have been taken, from the first on
abbrev pub reader_of : List ℕ → Step
reader_of bytes = pushes (Going (Between 0 true Begin)) bytes
