-- What the reader stands for, over the bytes that it reads.
use Rattle.std.specs.Prelude.{ℕ, ◌<◌, ◌≤◌, List, Option, Some, None, Result, Ok, Err, length, drop, slice_range}
use Rattle.dot_text.specs.declared.scan.Item.{Item}
use Rattle.dot_text.specs.declared.reader.Answer.{Answer}
use Rattle.dot_text.specs.declared.reader.Answer.TheVariants.{Found, Fault}
use Rattle.dot_text.specs.declared.reader.Turn.{Turn}
use Rattle.dot_text.specs.declared.reader.Turn.TheVariants.{Fails, Goes, Finds}
use Rattle.dot_text.specs.Scanner.{Front, Faulty}
use Rattle.dot_text.specs.Reading as reading
use Rattle.dot_text.specs.Stream as stream
use Rattle.dot_text.specs.States.{state_of}
use Rattle.dot_text.specs.Scans.{KeepsItem, item_of}

-- what stands at a place: an item and the place behind it, or none
abbrev pub front_of : List ℕ → ℕ → Option (Item × ℕ) → Front
front_of bytes at None = Faulty
front_of bytes at (Some found) = stream.front_with (item_of found.0) (record { text = slice_range bytes at found.1; rest = drop found.1 bytes })

-- an item stands from at to the place behind it, and keeps UTF-8
pub record Fits (bytes : List ℕ) (at : ℕ) (found : Item × ℕ) : Type 0 where
  pub further : at < found.1
  pub within : found.1 ≤ length bytes
  pub keeps : KeepsItem (slice_range bytes at found.1) found.0

-- of an item that stands from start to end
abbrev pub turn_of : ℕ → ℕ → Turn → reading.Turn
turn_of start end Fails = reading.Fails start
turn_of start end (Goes state) = reading.Goes end (state_of state)
turn_of start end (Finds doc) = reading.Finds (record { doc = doc; to = end })

abbrev pub answer_of : Answer → Result reading.Found ℕ
answer_of (Found doc to) = Ok (record { doc = doc; to = to })
answer_of (Fault place) = Err place
