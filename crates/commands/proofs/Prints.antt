-- Answers that are texts of graphs.
use Rattle.std.proofs.Common.{◌≡◌, ℕ, List, Ok, refl}
use Rattle.components.specs.NamedGraph.{NamedGraph}
use Rattle.graph_print.specs.CanonicalText.{text_of}
use Rattle.graph_read.specs.GraphLaws.{ReadIsTyped}
use Rattle.read_back.specs.ReadBack.{CanBeRead, ReadCanBeRead, TextTellsGraph}
use Rattle.rewrite.specs.Stripped.{IsStripped}
use Rattle.commands.specs.declared.words.Command.{Command}
use Rattle.commands.specs.declared.words.Command.TheVariants.{Print, Strip, Gather, Unfold, Rewrite, Trace, Loops, Sim, Check, Gen}
use Rattle.commands.specs.Laws.{AnswersHave, GraphInputs, GraphsAreTyped, StrippedCanBeRead}
use Rattle.commands.specs.Parts.{goes_on, stands, graph, nothing_more, OneGraph}
use Rattle.commands.proofs.Verdicts.{went, input_is, same_answer}

pub graphs_are_typed : ReadIsTyped → GraphsAreTyped
graphs_are_typed typed input g is = let read = input_is input g is in (typed read.document g read.reads).0

pub graph_inputs : GraphInputs
graph_inputs input g = (
  input_is input g,
  λ read.
      let end = read.holds.end in
      goes_on (g, end) (Ok g)
      (goes_on (read.document, end) (Ok (g, end)) (stands read.document end read.holds.stands) (goes_on g (Ok (g, end)) (graph g read.reads) refl))
      (goes_on tt (Ok g) (nothing_more read.holds.behind) refl),
)

module _ (tells : TextTellsGraph) (can : ReadCanBeRead) (stripped_can : StrippedCanBeRead) where
  pub read_can : (input : List ℕ) (g : NamedGraph) → OneGraph input (Ok g) → CanBeRead g
  read_can input g one = can g input (input_is input g one)

  pub strip_can : (input : List ℕ) (g h : NamedGraph) → OneGraph input (Ok g) → IsStripped g h → CanBeRead h
  strip_can input g h one stripped = stripped_can g h (read_can input g one) stripped

  -- a command prints the graph of the input, or its stripped graph
  pub answers_have : (P : Command → NamedGraph → NamedGraph → Type 0) → ((input : List ℕ) (g : NamedGraph) → OneGraph input (Ok g) → P Print g g) →
      ((input : List ℕ) (g h : NamedGraph) → OneGraph input (Ok g) → IsStripped g h → P Strip g h) → AnswersHave P
  answers_have P printed stripped Print input text prints judged =
      let (g, (is, e)) = went (OneGraph input) (λ g verdict. verdict ≡ Ok (text_of g)) (Ok text) text judged refl in
      record { graph = g; read = input_is input g is; printed = g; is = tells g text (read_can input g is) (same_answer text (text_of g) e); has = printed input g is }
  answers_have P printed stripped Strip input text prints judged =
      let (g, (is, (h, is_stripped, e))) = went (OneGraph input) (λ g verdict. (h : NamedGraph) × IsStripped g h × (verdict ≡ Ok (text_of h))) (Ok text) text judged refl in
      record {
        graph = g;
        read = input_is input g is;
        printed = h;
        is = tells h text (strip_can input g h is is_stripped) (same_answer text (text_of h) e);
        has = stripped input g h is is_stripped;
      }
  answers_have P printed stripped Gather input text prints judged = absurd prints
  answers_have P printed stripped Unfold input text prints judged = absurd prints
  answers_have P printed stripped Rewrite input text prints judged = absurd prints
  answers_have P printed stripped Trace input text prints judged = absurd prints
  answers_have P printed stripped Loops input text prints judged = absurd prints
  answers_have P printed stripped (Sim limit) input text prints judged = absurd prints
  answers_have P printed stripped Check input text prints judged = absurd prints
  answers_have P printed stripped (Gen count) input text prints judged = absurd prints
