-- What a run does.
use Rattle.std.specs.Prelude.{◌≡◌, ◌≢◌, ◌⊎◌, ◌↔◌, ℕ, ◌+◌, ◌<◌, ◌≤◌, List, length, take, Option, Some, None, IfSome, Ok, Err}
use Rattle.gx_base.specs.Stream.{Told, NeverFell, CountRose, GaveWhole, GaveSome, Took}
use Rattle.components.specs.NamedGraph.{NamedGraph}
use Rattle.circuits.specs.Circuit.{circuit_of}
use Rattle.circuits.specs.Refines.{Refines}
use Rattle.rewrite.specs.Behaviour.{KeepsDrains}
use Rattle.read_back.specs.Input.{IsInputOf}
use Rattle.read_back.specs.ReadBack.{CanBeRead, IsTextOf}
use Rattle.commands.specs.declared.refusal.Refusal.{Refusal}
use Rattle.commands.specs.declared.status.Status.{Status}
use Rattle.commands.specs.declared.status.Status.TheVariants.{Done, Usage, NotYet, Refused, TooLong, ReadFault, WriteFault, NoMemory}
use Rattle.commands.specs.declared.words.Command.{Command}
use Rattle.commands.specs.Words.{Reads, IsLater}
use Rattle.commands.specs.Judged.{Verdict, Judged, PrintsGraph, HasForm}

-- the most bytes of an input
abbrev pub max_input : ℕ
max_input = 16777216

-- a sink took a front of the text, and not all of it
pub record TookCut (text : List ℕ) (old new : Told) : Type 0 where
  pub count : ℕ
  pub cut : count < length text
  pub took : Took (take count text) old new

-- what a status says of the verdict: the sink took all of the answer, or a front of it, or the input is refused
pub data Tells (old new : Told) : Verdict → Status → Type 0 where
  answer : (text : List ℕ) → Took text old new → Tells old new (Ok text) Done
  front : (text : List ℕ) → TookCut text old new → Tells old new (Ok text) WriteFault
  refusal : (why : Refusal) → Tells old new (Err why) (Refused why)

-- the input was read to its end, and the status tells the command's verdict on it
pub record Judges (command : Command) (status : Status) (src_old src_new out_old out_new : Told) : Type 0 where
  pub input : List ℕ
  pub gave : GaveWhole input src_old src_new
  pub within : length input ≤ max_input
  pub verdict : Verdict
  pub judged : Judged command input verdict
  pub tells : Tells out_old out_new verdict status

-- the status tells a verdict
abbrev pub TellsVerdict : Status → Type 0
TellsVerdict Done = Unit {0}
TellsVerdict WriteFault = Unit {0}
TellsVerdict (Refused why) = Unit {0}
TellsVerdict Usage = ⊥
TellsVerdict NotYet = ⊥
TellsVerdict TooLong = ⊥
TellsVerdict ReadFault = ⊥
TellsVerdict NoMemory = ⊥

-- words that name no command have no P
abbrev pub OfCommand : (Command → Type 0) → Option Command → Type 0
OfCommand P None = ⊥
OfCommand P (Some command) = P command

-- the status that a verdict leads to, unless memory runs out; an answer cannot be written where the sink fails
abbrev pub LeadsTo : Verdict → Status → Type 0
LeadsTo (Ok text) status = (status ≡ Done) ⊎ ((status ≡ WriteFault) ⊎ (status ≡ NoMemory))
LeadsTo (Err why) status = (status ≡ Refused why) ⊎ (status ≡ NoMemory)

-- what an input leads to: within the limit its verdict, and else that it is too long
pub record Completes (command : Command) (input : List ℕ) (status : Status) : Type 0 where
  pub judged : (verdict : Verdict) → length input ≤ max_input → Judged command input verdict → LeadsTo verdict status
  pub long : max_input < length input → (status ≡ TooLong) ⊎ (status ≡ NoMemory)

-- the text of a graph that has P of the one of the input: an input of the printed graph, and of no other
pub record IsPrint (P : NamedGraph → NamedGraph → Type 0) (input text : List ℕ) : Type 0 where
  pub graph : NamedGraph
  pub read : IsInputOf graph input
  pub printed : NamedGraph
  pub is : IsTextOf printed text
  pub has : P graph printed

-- the status tells an answer, whether all of it was written or a front
abbrev pub TellsAnswer : Status → Type 0
TellsAnswer Done = Unit {0}
TellsAnswer WriteFault = Unit {0}
TellsAnswer Usage = ⊥
TellsAnswer NotYet = ⊥
TellsAnswer (Refused why) = ⊥
TellsAnswer TooLong = ⊥
TellsAnswer ReadFault = ⊥
TellsAnswer NoMemory = ⊥

-- P of the command that the words name, where it is one that prints a graph
abbrev pub IfPrints : (Command → Type 0) → Option Command → Type 0
IfPrints P None = Unit {0}
IfPrints P (Some command) = PrintsGraph command → P command

-- the answer that the status tells is the text of a graph that has P of the one that was read
pub record Printed (P : NamedGraph → NamedGraph → Type 0) (command : Command) (status : Status) (src_old src_new out_old out_new : Told) : Type 0 where
  pub judges : Judges command status src_old src_new out_old out_new
  pub text : List ℕ
  pub is : judges.verdict ≡ Ok text
  pub print : IsPrint P judges.input text

-- the printed graph is within the limits of reading, and what it keeps can be quoted and is UTF-8
abbrev pub PrintCanBeRead : NamedGraph → NamedGraph → Type 0
PrintCanBeRead g printed = CanBeRead printed

-- the printed graph refines the one that was read: in every surrounding circuit it shows nothing that the other does not
abbrev pub PrintRefines : NamedGraph → NamedGraph → Type 0
PrintRefines g printed = Refines (circuit_of printed) (circuit_of g)

-- what the graph that was read drains, by itself, the printed one drains to the same outputs
abbrev pub PrintDrains : NamedGraph → NamedGraph → Type 0
PrintDrains g printed = KeepsDrains printed g

-- what writing an answer came to
pub data Writes (text : List ℕ) (old new : Told) : Status → Type 0 where
  all_written : Took text old new → Writes text old new Done
  write_failed : TookCut text old new → CountRose old new → Writes text old new WriteFault

-- what a command that runs came to
pub data Outcome {O : Type 0} (told : O → Told) (command : Command) (src_old src_new : Told) (out_old out_new : O) : Status → Type 0 where
  answered : (input text : List ℕ) (status : Status) → GaveWhole input src_old src_new → length input ≤ max_input → Judged command input (Ok text) →
      Writes text (told out_old) (told out_new) status → Outcome told command src_old src_new out_old out_new status
  refused : (input : List ℕ) (why : Refusal) → GaveWhole input src_old src_new → length input ≤ max_input → Judged command input (Err why) →
      out_new ≡ out_old → Outcome told command src_old src_new out_old out_new (Refused why)
  no_memory : GaveSome (λ count. count ≤ max_input) src_old src_new → out_new ≡ out_old → Outcome told command src_old src_new out_old out_new NoMemory
  read_failed : GaveSome (λ count. count ≤ max_input) src_old src_new → CountRose src_old src_new → out_new ≡ out_old →
      Outcome told command src_old src_new out_old out_new ReadFault
  too_long : GaveSome (λ count. count ≡ max_input + 1) src_old src_new → out_new ≡ out_old → Outcome told command src_old src_new out_old out_new TooLong

-- what a run of the program does with its input and its answer, before its line is written
pub record Ran {S O : Type 0} (source : S → Told) (sink : O → Told) (found : Option Command) (status : Status) (src_old src_new : S) (out_old out_new : O)
    : Type 0 where
  pub usage : (status ≡ Usage) ↔ (found ≡ None)
  pub later : (status ≡ NotYet) ↔ IsLater found
  pub unread : ¬ (Reads found) → src_new ≡ src_old
  pub judged : TellsVerdict status → OfCommand (λ command. Judges command status (source src_old) (source src_new) (sink out_old) (sink out_new)) found
  pub complete : Reads found → ¬ (CountRose (source src_old) (source src_new)) →
      IfSome (source src_old).bytes (λ input. OfCommand (λ command. Completes command input status) found)
  pub read_fault : status ≡ ReadFault → CountRose (source src_old) (source src_new)
  pub too_long : status ≡ TooLong → GaveSome (λ count. count ≡ max_input + 1) (source src_old) (source src_new)
  pub within : status ≢ TooLong → GaveSome (λ count. count ≤ max_input) (source src_old) (source src_new)
  pub write_fault : status ≡ WriteFault → CountRose (sink out_old) (sink out_new)
  pub nothing_written : status ≢ Done → status ≢ WriteFault → out_new ≡ out_old
  pub counts : NeverFell (source src_old) (source src_new) × NeverFell (sink out_old) (sink out_new)
  pub reads_back : TellsAnswer status →
      IfPrints (λ command. Printed PrintCanBeRead command status (source src_old) (source src_new) (sink out_old) (sink out_new)) found
  pub refines : TellsAnswer status →
      IfPrints (λ command. Printed PrintRefines command status (source src_old) (source src_new) (sink out_old) (sink out_new)) found
  pub drains : TellsAnswer status →
      IfPrints (λ command. Printed PrintDrains command status (source src_old) (source src_new) (sink out_old) (sink out_new)) found
  pub form : TellsAnswer status →
      IfPrints (λ command. Printed (HasForm command) command status (source src_old) (source src_new) (sink out_old) (sink out_new)) found
