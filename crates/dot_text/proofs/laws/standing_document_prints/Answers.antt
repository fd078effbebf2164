use Rattle.dot_text.proofs.Printed.{printed_stands_before}
use Rattle.dot_text.proofs.PrintedUtf8.{printed_utf8}
use Rattle.dot_text.proofs.StandingTexts.{stands_prints, stands_texts_utf8}
use Rattle.dot_text.proofs.laws.standing_document_prints.Goals as goal

pub returns-clause-prints : goal.returns-clause-prints
returns-clause-prints c = stands_prints

pub returns-clause-utf8 : goal.returns-clause-utf8
returns-clause-utf8 c = stands_texts_utf8

pub returns-clause-stands : goal.returns-clause-stands
returns-clause-stands c = λ bytes after from doc to st.
    printed_stands_before doc after (stands_prints bytes from doc to st) (printed_utf8 doc (stands_texts_utf8 bytes from doc to st))
