-- What stands at the front of an item whose first bytes have been read.
use Rattle.std.specs.Prelude.{ℕ, ◌==◌, false, if◌then◌else◌, List, [], ◌∷◌, ◌++◌, Option, Some, None}
use Rattle.dot_text.specs.Tokens.{Id, Arrow}
use Rattle.dot_text.specs.Lexical.{is_in_name, is_by_numeral, is_in_line, is_numeral}
use Rattle.dot_text.specs.Scanner.{Cut, before, run_of, Front, Skips, Gives, Faulty, block_of, Quoted, quoted_of, gives_name}
use Rattle.dot_text.specs.Stream.{Mode, InName, InNumber, Minus, InQuotes, Slash, InLine, InBlock}

-- the text before what is cut
abbrev pub onto : List ℕ → Cut → Cut
onto text c = record { text = text ++ c.text; rest = c.rest }

abbrev pub number_rest : List ℕ → Cut → Front
number_rest text c = if is_numeral (text ++ c.text) then Gives (Id (text ++ c.text)) (onto text c) else Faulty

abbrev pub quoted_rest : List ℕ → List ℕ → Option Quoted → Front
quoted_rest text v None = Faulty
quoted_rest text v (Some q) = Gives (Id (v ++ q.value)) (onto text q.cut)

abbrev pub block_rest : List ℕ → Option Cut → Front
block_rest text None = Faulty
block_rest text (Some c) = Skips (onto text c)

abbrev pub slash_rest : List ℕ → List ℕ → Front
slash_rest text [] = Faulty
slash_rest text (b ∷ bs) =
    if b == 47 then Skips (onto text (before b (run_of is_in_line bs)))
    else (if b == 42 then block_rest (text ++ b ∷ []) (block_of false bs) else Faulty)

abbrev pub minus_rest : List ℕ → List ℕ → Front
minus_rest text [] = Faulty
minus_rest text (b ∷ bs) =
    if b == 62 then Gives Arrow (record { text = text ++ b ∷ []; rest = bs }) else number_rest text (run_of is_by_numeral (b ∷ bs))

-- what stands at the front of an item whose first bytes have been read
abbrev pub rest_front : Mode → List ℕ → List ℕ → Front
rest_front InName text more = gives_name (onto text (run_of is_in_name more))
rest_front InNumber text more = number_rest text (run_of is_by_numeral more)
rest_front Minus text more = minus_rest text more
rest_front (InQuotes passed v) text more = quoted_rest text v (quoted_of passed more)
rest_front Slash text more = slash_rest text more
rest_front InLine text more = Skips (onto text (run_of is_in_line more))
rest_front (InBlock star) text more = block_rest text (block_of star more)
