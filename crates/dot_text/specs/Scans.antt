-- What the reader's items stand for, and that the value of a quoted ID is UTF-8 where its bytes are.
use Rattle.std.specs.Prelude.{ℕ, true, false, List, [], ◌∷◌, ◌++◌, IsUtf8}
use Rattle.dot_text.specs.declared.scan.Mode.{Mode}
use Rattle.dot_text.specs.declared.scan.Mode.TheVariants.{InName, InNumber, Minus, InQuotes, Slash, InLine, InBlock}
use Rattle.dot_text.specs.declared.scan.Item.{Item}
use Rattle.dot_text.specs.declared.scan.Item.TheVariants.{Blank, Id, Fixed}
use Rattle.dot_text.specs.declared.scan.Start.{Start}
use Rattle.dot_text.specs.declared.scan.Start.TheVariants.{More, With, Bad}
use Rattle.dot_text.specs.declared.scan.Taken.{Taken}
use Rattle.dot_text.specs.declared.scan.Taken.TheVariants.{Now, Before}
use Rattle.dot_text.specs.Tokens as tokens
use Rattle.dot_text.specs.Stream as stream

abbrev pub mode_of : Mode → stream.Mode
mode_of InName = stream.InName
mode_of InNumber = stream.InNumber
mode_of Minus = stream.Minus
mode_of (InQuotes passed value) = stream.InQuotes passed value.items
mode_of Slash = stream.Slash
mode_of InLine = stream.InLine
mode_of (InBlock star) = stream.InBlock star

abbrev pub item_of : Item → stream.Item
item_of Blank = stream.Blank
item_of (Id id) = stream.Lexeme (tokens.Id id.items)
item_of (Fixed token) = stream.Lexeme token

abbrev pub start_of : Start → stream.Start
start_of (More mode) = stream.More (mode_of mode)
start_of (With item) = stream.With (item_of item)
start_of Bad = stream.Bad

abbrev pub taken_of : Taken → stream.Taken
taken_of (Now start) = stream.Now (start_of start)
taken_of (Before item) = stream.Before (item_of item)

-- whatever follows, where it is UTF-8 behind the bytes, it is behind what they stand for
abbrev pub KeepsValue : List ℕ → List ℕ → Type 0
KeepsValue text value = (more : List ℕ) → IsUtf8 (text ++ more) → IsUtf8 (value ++ more)

-- the same where a backslash, 92, stands behind them, and is not yet part of what they stand for
abbrev pub KeepsEscaped : List ℕ → List ℕ → Type 0
KeepsEscaped text value = (more : List ℕ) → IsUtf8 (text ++ more) → IsUtf8 (value ++ 92 ∷ more)

-- the same of the bytes of an item so far, within quotes
abbrev pub Keeps : List ℕ → Mode → Type 0
Keeps text (InQuotes true value) = KeepsEscaped text value.items
Keeps text (InQuotes false value) = KeepsValue text value.items
Keeps text InName = Unit {0}
Keeps text InNumber = Unit {0}
Keeps text Minus = Unit {0}
Keeps text Slash = Unit {0}
Keeps text InLine = Unit {0}
Keeps text (InBlock star) = Unit {0}

-- an ID is UTF-8 where its bytes are
abbrev pub KeepsItem : List ℕ → Item → Type 0
KeepsItem text (Id id) = IsUtf8 text → IsUtf8 id.items
KeepsItem text Blank = Unit {0}
KeepsItem text (Fixed token) = Unit {0}

-- the same of what goes on or ends with a byte
abbrev pub KeepsStart : List ℕ → ℕ → Start → Type 0
KeepsStart text byte (More mode) = Keeps (text ++ byte ∷ []) mode
KeepsStart text byte (With item) = KeepsItem (text ++ byte ∷ []) item
KeepsStart text byte Bad = Unit {0}

abbrev pub KeepsTaken : List ℕ → ℕ → Taken → Type 0
KeepsTaken text byte (Now start) = KeepsStart text byte start
KeepsTaken text byte (Before item) = KeepsItem text item
