-- What is proved about the definitions.
use Rattle.std.specs.Prelude.{◌≡◌, ◌↔◌, ◌≤◌, ◌+◌, ◌-◌, ℕ, List, [], ◌∷◌, ◌++◌, Some, IsSome, Ok, Err, length, take, drop, IsUtf8}
use Rattle.dot_text.specs.declared.doc.Doc.{Doc}
use Rattle.dot_text.specs.Tokens.{Token}
use Rattle.dot_text.specs.Lexical.{Spells, TokenAt}
use Rattle.dot_text.specs.Grammar.{Kept, Document}
use Rattle.dot_text.specs.Documents.{Stands, Place, CanGoOn, doc_of}
use Rattle.dot_text.specs.Machine.{Begin, Whole, run}
use Rattle.dot_text.specs.Reading.{Found, IsAnswer, reading}
use Rattle.dot_text.specs.Stream.{Scan, Going, Over, pushes, answer, reader_at, reader_of}
use Rattle.dot_text.specs.Printing.{DocPrints, printed}
use Rattle.dot_text.specs.Texts.{DocTexts}
use Rattle.dot_text.specs.Blanks.{SkipsTo, SkipFails, IsSkip, skipping}

-- whatever other token begins at the byte of a token ends no later
abbrev pub TokenIsLongest : Type 0
TokenIsLongest =
    (bytes : List ℕ) (p q : ℕ) (t u : Token) (text rest other : List ℕ) → TokenAt bytes p t q → drop p bytes ≡ text ++ rest → Spells text other u
    → p + length text ≤ q

-- at one place at most one document stands, with one end
abbrev pub OneDocument : Type 0
OneDocument = (bytes : List ℕ) (from : ℕ) (doc other : Doc) (to end : ℕ) → Stands bytes from doc to → Stands bytes from other end → (doc ≡ other) × (to ≡ end)

-- a fault has one place
abbrev pub OnePlace : Type 0
OnePlace = (bytes : List ℕ) (from p q : ℕ) → Place bytes from p → Place bytes from q → p ≡ q

-- a fault has no place where a document stands
abbrev pub NoPlaceInDocument : Type 0
NoPlaceInDocument = (bytes : List ℕ) (from p to : ℕ) (doc : Doc) → Place bytes from p → Stands bytes from doc to → ⊥

-- the machine takes tokens exactly where they can go on
abbrev pub MachineGoes : Type 0
MachineGoes = (ts : List Token) → CanGoOn ts ↔ IsSome (run (Some Begin) ts)

-- the machine is done exactly where the tokens are those of a document
abbrev pub MachineEnds : Type 0
MachineEnds = (ts : List Token) (doc : Doc) → (run (Some Begin) ts ≡ Some (Whole doc)) ↔ ((kept : List Kept) × Document ts kept × (doc ≡ doc_of kept))

-- either a document stands at a place or a fault has its place, and reading finds which
abbrev pub ReadingDecides : Type 0
ReadingDecides = (bytes : List ℕ) (from : ℕ) → from ≤ length bytes → IsAnswer bytes from (reading bytes from)

-- whether a document stands depends on the bytes below its end alone
abbrev pub LooksNoFurther : Type 0
LooksNoFurther = (below after other : List ℕ) (from : ℕ) (doc : Doc) → Stands (below ++ after) from doc (length below) → Stands (below ++ other) from doc (length below)

-- a document ends within the bytes
abbrev pub StandsWithin : Type 0
StandsWithin = (bytes : List ℕ) (from to : ℕ) (doc : Doc) → from ≤ length bytes → Stands bytes from doc to → to ≤ length bytes

-- the bytes of a document, from the place where it is read to its end, are UTF-8
abbrev pub DocumentIsUtf8 : Type 0
DocumentIsUtf8 = (bytes : List ℕ) (from : ℕ) (doc : Doc) (to : ℕ) → Stands bytes from doc to → IsUtf8 (take (to - from) (drop from bytes))

-- where the lines of a document stand in UTF-8, whatever comes behind, the document stands
abbrev pub PrintedStands : Type 0
PrintedStands = (doc : Doc) (after : List ℕ) → DocPrints doc → IsUtf8 (printed doc) → Stands (printed doc ++ after) 0 doc (length (printed doc))

-- the lines of a document whose texts are UTF-8 are UTF-8
abbrev pub PrintedIsUtf8 : Type 0
PrintedIsUtf8 = (doc : Doc) → DocTexts IsUtf8 doc → IsUtf8 (printed doc)

-- the texts of a document that stands can be quoted, and each of its nodes has a pair
abbrev pub StandingPrints : Type 0
StandingPrints = (bytes : List ℕ) (from : ℕ) (doc : Doc) (to : ℕ) → Stands bytes from doc to → DocPrints doc

-- the texts of a document that stands are UTF-8
abbrev pub StandingIsUtf8 : Type 0
StandingIsUtf8 = (bytes : List ℕ) (from : ℕ) (doc : Doc) (to : ℕ) → Stands bytes from doc to → DocTexts IsUtf8 doc

-- a document that stands somewhere stands where its lines stand, whatever comes behind
abbrev pub StandingStandsPrinted : Type 0
StandingStandsPrinted =
    (bytes after : List ℕ) (from : ℕ) (doc : Doc) (to : ℕ) → Stands bytes from doc to → Stands (printed doc ++ after) 0 doc (length (printed doc))

-- reading byte by byte finds the same
abbrev pub StreamDecides : Type 0
StreamDecides = (bytes : List ℕ) (from : ℕ) → from ≤ length bytes → IsAnswer bytes from (answer (pushes (reader_at bytes from) (drop from bytes)))

-- while it goes on, no document stands in the bytes taken
abbrev pub StreamGoesOn : Type 0
StreamGoesOn = (taken : List ℕ) (reader : Scan) (doc : Doc) (to : ℕ) → reader_of taken ≡ Going reader → Stands taken 0 doc to → ⊥

-- what it found stands, whatever comes behind
abbrev pub StreamFinds : Type 0
StreamFinds = (taken more : List ℕ) (found : Found) → reader_of taken ≡ Over (Ok found) → Stands (taken ++ more) 0 found.doc found.to

-- it finds a document at its last byte
abbrev pub StreamFindsAtOnce : Type 0
StreamFindsAtOnce =
    (taken : List ℕ) (byte : ℕ) (reader : Scan) (found : Found) → reader_of taken ≡ Going reader → reader_of (taken ++ byte ∷ []) ≡ Over (Ok found)
    → found.to ≡ length taken + 1

-- the place of the fault that it met stays, whatever comes behind
abbrev pub StreamFails : Type 0
StreamFails = (taken more : List ℕ) (place : ℕ) → reader_of taken ≡ Over (Err place) → Place (taken ++ more) 0 place

-- blanks and comments end, or a comment is not closed, and skipping finds which
abbrev pub SkippingDecides : Type 0
SkippingDecides = (bytes : List ℕ) (from : ℕ) → from ≤ length bytes → IsSkip bytes from (skipping bytes from)

-- blanks and comments end at one place
abbrev pub OneEndOfBlanks : Type 0
OneEndOfBlanks = (bytes : List ℕ) (from to end : ℕ) → SkipsTo bytes from to → SkipsTo bytes from end → to ≡ end

-- at most one comment is not closed
abbrev pub OneUnclosed : Type 0
OneUnclosed = (bytes : List ℕ) (from place other : ℕ) → SkipFails bytes from place → SkipFails bytes from other → place ≡ other

-- blanks do not both end and go over into a comment that is not closed
abbrev pub NotBothSkips : Type 0
NotBothSkips = (bytes : List ℕ) (from to place : ℕ) → SkipsTo bytes from to → SkipFails bytes from place → ⊥
