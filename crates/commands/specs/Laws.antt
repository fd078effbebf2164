-- What is proved about verdicts.
use Rattle.std.specs.Prelude.{◌≡◌, ◌↔◌, ℕ, List, Ok, IsTrue}
use Rattle.components.specs.NamedGraph.{NamedGraph, IsTyped}
use Rattle.commands.specs.declared.words.Command.{Command}
use Rattle.commands.specs.Words.{runs}
use Rattle.commands.specs.Parts.{OneGraph}
use Rattle.commands.specs.Judged.{Verdict, Judged, PrintsGraph, HasForm}
use Rattle.commands.specs.Ruling.{IsPrint, PrintCanBeRead, PrintRefines, PrintDrains}
use Rattle.read_back.specs.ReadBack.{CanBeRead}
use Rattle.read_back.specs.Input.{IsInputOf}
use Rattle.rewrite.specs.Stripped.{IsStripped}

-- a command that runs has a verdict on each input
abbrev pub HasVerdict : Type 0
HasVerdict = (command : Command) (input : List ℕ) → IsTrue (runs command) → (verdict : Verdict) × Judged command input verdict

-- and no two
abbrev pub IsOneVerdict : Type 0
IsOneVerdict = (command : Command) (input : List ℕ) (verdict other : Verdict) → Judged command input verdict → Judged command input other → verdict ≡ other

-- the graph of an input is typed
abbrev pub GraphsAreTyped : Type 0
GraphsAreTyped = (input : List ℕ) (g : NamedGraph) → OneGraph input (Ok g) → IsTyped g

-- an input is judged to be one graph exactly where it is an input of this graph
abbrev pub GraphInputs : Type 0
GraphInputs = (input : List ℕ) (g : NamedGraph) → OneGraph input (Ok g) ↔ IsInputOf g input

-- each answer of a command that prints a graph is the text of one that has P of the graph of the input
abbrev pub AnswersHave : (Command → NamedGraph → NamedGraph → Type 0) → Type 0
AnswersHave P = (command : Command) (input text : List ℕ) → PrintsGraph command → Judged command input (Ok text) → IsPrint (P command) input text

-- answers are read back as the graphs whose texts they are
abbrev pub AnswersReadBack : Type 0
AnswersReadBack = AnswersHave (λ command. PrintCanBeRead)

-- they refine the graph of the input
abbrev pub AnswersRefine : Type 0
AnswersRefine = AnswersHave (λ command. PrintRefines)

-- they drain what it drains
abbrev pub AnswersDrain : Type 0
AnswersDrain = AnswersHave (λ command. PrintDrains)

-- they have the form that the command gives
abbrev pub AnswersHaveForm : Type 0
AnswersHaveForm = AnswersHave HasForm

-- the stripped graph of a graph that is within the limits of reading, and whose kept texts can be quoted and are UTF-8, is so too
abbrev pub StrippedCanBeRead : Type 0
StrippedCanBeRead = (g h : NamedGraph) → CanBeRead g → IsStripped g h → CanBeRead h
