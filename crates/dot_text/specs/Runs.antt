-- Bytes that leave a reader within the same item.
use Rattle.std.specs.Prelude.{ℕ, ◌==◌, Bool, false, not, List, ◌++◌}
use Rattle.dot_text.specs.Lexical.{is_in_name, is_by_numeral, is_in_line, is_plain}
use Rattle.dot_text.specs.Stream.{Mode, InName, InNumber, InQuotes, InLine, InBlock}

-- no *
abbrev pub is_no_star : ℕ → Bool
is_no_star b = not (b == 42)

abbrev pub never : ℕ → Bool
never b = false

-- the bytes behind which the mode is the same, but that a quoted text has them too
abbrev pub stays : Mode → ℕ → Bool
stays InName = is_in_name
stays InNumber = is_by_numeral
stays InLine = is_in_line
stays (InBlock false) = is_no_star
stays (InQuotes false v) = is_plain
stays m = never

-- the mode behind such bytes
abbrev pub stayed : Mode → List ℕ → Mode
stayed (InQuotes false v) run = InQuotes false (v ++ run)
stayed m run = m
