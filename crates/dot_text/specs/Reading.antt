-- The document at a place, or the place of the fault, as a function.
use Rattle.std.specs.Prelude.{ℕ, zero, suc, ◌+◌, if◌then◌else◌, List, Option, Some, None, Result, Ok, Err, MatchResult, length}
use Rattle.std.specs.Str.{is_utf8}
use Rattle.dot_text.specs.declared.doc.Doc.{Doc}
use Rattle.dot_text.specs.Documents.{Stands, Place}
use Rattle.dot_text.specs.Scanner.{Front, AtEnd, Skips, Gives, Faulty, front_at}
use Rattle.dot_text.specs.Machine.{State, Begin, Whole, step}

-- a document, and where it ends
pub record Found : Type 0 where
  pub doc : Doc
  pub to : ℕ

-- the answer is the document that stands in bytes at from, with its end, or else the place of the fault
abbrev pub IsAnswer : List ℕ → ℕ → Result Found ℕ → Type 0
IsAnswer bytes from r = MatchResult r (λ found. Stands bytes from found.doc found.to) (λ place. Place bytes from place)

-- one blank, comment or token is read: reading fails at a place, goes on at a place, or ends
pub data Turn : Type 0 where
  Fails : ℕ → Turn
  Goes : ℕ → State → Turn
  Finds : Found → Turn

-- where a token from p to q leads
abbrev pub behind_token : ℕ → ℕ → Option State → Turn
behind_token p q None = Fails p
behind_token p q (Some (Whole doc)) = Finds (record { doc = doc; to = q })
behind_token p q (Some s) = Goes q s

-- what a front at p does in a state: its bytes have to be UTF-8
abbrev pub turn_at : ℕ → State → Front → Turn
turn_at p s AtEnd = Fails p
turn_at p s (Skips c) = if is_utf8 c.text then Goes (p + length c.text) s else Fails p
turn_at p s (Gives t c) = if is_utf8 c.text then behind_token p (p + length c.text) (step s t) else Fails p
turn_at p s Faulty = Fails p

-- the answer, once it is there
abbrev pub go_on : Turn → (ℕ → State → Result Found ℕ) → Result Found ℕ
go_on (Fails q) next = Err q
go_on (Goes q s) next = next q s
go_on (Finds f) next = Ok f

-- at most n turns
abbrev pub reads : ℕ → List ℕ → ℕ → State → Result Found ℕ
reads zero bytes p s = Err p
reads (suc n) bytes p s = go_on (turn_at p s (front_at bytes p)) (λ q z. reads n bytes q z)

-- the document at a place, or the place of the fault
abbrev pub reading : List ℕ → ℕ → Result Found ℕ
reading bytes from = reads (suc (length bytes)) bytes from Begin
