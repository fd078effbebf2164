-- What each command answers to an input.
use Rattle.std.specs.Prelude.{◌≡◌, ℕ, List, Result, Ok, Err}
use Rattle.components.specs.NamedGraph.{NamedGraph}
use Rattle.graph_print.specs.CanonicalText.{text_of}
use Rattle.rewrite.specs.Stripped.{IsStripped, OnlyRingsAreLeft}
use Rattle.commands.specs.declared.refusal.Refusal.{Refusal}
use Rattle.commands.specs.declared.refusal.Stop.{Stop}
use Rattle.commands.specs.declared.refusal.Stop.TheVariants.{Refused, NoMemory}
use Rattle.commands.specs.declared.words.Command.{Command}
use Rattle.commands.specs.declared.words.Command.TheVariants.{Print, Strip, Gather, Unfold, Rewrite, Trace, Loops, Sim, Check, Gen}
use Rattle.commands.specs.Parts.{Then, OneGraph}

-- the text of the answer, or why the input is refused
abbrev pub Verdict : Type 0
Verdict = Result (List ℕ) Refusal

-- the canonical text of the graph of the input
abbrev pub Prints : List ℕ → Verdict → Type 0
Prints input = Then (OneGraph input) (λ g verdict. verdict ≡ Ok (text_of g))

-- the canonical text of its stripped graph
abbrev pub Strips : List ℕ → Verdict → Type 0
Strips input = Then (OneGraph input) (λ g verdict. (stripped : NamedGraph) × IsStripped g stripped × (verdict ≡ Ok (text_of stripped)))

-- the verdict of a command on an input; a command that does not run yet has none
abbrev pub Judged : Command → List ℕ → Verdict → Type 0
Judged Print input verdict = Prints input verdict
Judged Strip input verdict = Strips input verdict
Judged Gather input verdict = ⊥
Judged Unfold input verdict = ⊥
Judged Rewrite input verdict = ⊥
Judged Trace input verdict = ⊥
Judged Loops input verdict = ⊥
Judged (Sim limit) input verdict = ⊥
Judged Check input verdict = ⊥
Judged (Gen count) input verdict = ⊥

-- the answer is the text of a graph that was made of the one of the input
abbrev pub PrintsGraph : Command → Type 0
PrintsGraph Print = Unit {0}
PrintsGraph Strip = Unit {0}
PrintsGraph Gather = ⊥
PrintsGraph Unfold = ⊥
PrintsGraph Rewrite = ⊥
PrintsGraph Trace = ⊥
PrintsGraph Loops = ⊥
PrintsGraph (Sim limit) = ⊥
PrintsGraph Check = ⊥
PrintsGraph (Gen count) = ⊥

-- what a command does to the form of a graph: nothing, or it leaves no Buffer but those wired to themselves
abbrev pub HasForm : Command → NamedGraph → NamedGraph → Type 0
HasForm Print g printed = printed ≡ g
HasForm Strip g printed = OnlyRingsAreLeft printed
HasForm Gather g printed = Unit {0}
HasForm Unfold g printed = Unit {0}
HasForm Rewrite g printed = Unit {0}
HasForm Trace g printed = Unit {0}
HasForm Loops g printed = Unit {0}
HasForm (Sim limit) g printed = Unit {0}
HasForm Check g printed = Unit {0}
HasForm (Gen count) g printed = Unit {0}

-- a call found an answer or a refusal that is so; where there was no memory it found nothing
abbrev pub Found : {A X : Type 0} → (A → X) → (Result X Refusal → Type 0) → Result A Stop → Type 0
Found of Is (Ok answer) = Is (Ok (of answer))
Found of Is (Err (Refused refusal)) = Is (Err refusal)
Found of Is (Err NoMemory) = Unit {0}
