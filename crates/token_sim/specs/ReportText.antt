-- Reports as they are printed.
use Rattle.std.specs.Prelude.{ℕ, Bool, true, false, List, [], ◌∷◌, ◌++◌, codes}
use Rattle.std.specs.Fmt.{decimal}
use Rattle.components.specs.Name.{Name}
use Rattle.circuits.specs.PortTokens.{Token}
use Rattle.graph_core.specs.declared.place.NodeId.{NodeId}
use Rattle.graph_core.specs.GraphValue.{GraphValue, name_by}
use Rattle.token_sim.specs.declared.report.Finish.{Finish}
use Rattle.token_sim.specs.declared.report.Finish.TheVariants.{Quiet, Stopped}
use Rattle.token_sim.specs.declared.report.Report.{Report}

-- each number in decimal behind a dot
abbrev pub behind_dots : List ℕ → List ℕ
behind_dots [] = []
behind_dots (number ∷ numbers) = 46 ∷ (decimal number ++ behind_dots numbers)

-- the numbers in decimal, joined by dots
abbrev pub token_text : Token → List ℕ
token_text [] = []
token_text (number ∷ numbers) = decimal number ++ behind_dots numbers

-- each token behind a blank
abbrev pub tokens_text : List Token → List ℕ
tokens_text [] = []
tokens_text (token ∷ tokens) = 32 ∷ (token_text token ++ tokens_text tokens)

-- the line of an Exit
abbrev pub output_text : Name → List Token → List ℕ
output_text n tokens = n ++ codes ":" ++ tokens_text tokens ++ 10 ∷ []

abbrev pub outputs_text : GraphValue → List (NodeId × List Token) → List ℕ
outputs_text g [] = []
outputs_text g (output ∷ outputs) = output_text (name_by g.ids output.0) output.1 ++ outputs_text g outputs

abbrev pub finish_word : Finish → List ℕ
finish_word Quiet = codes "quiet after "
finish_word Stopped = codes "stopped after "

abbrev pub finish_text : Finish → ℕ → List ℕ
finish_text finish firings = finish_word finish ++ decimal firings ++ codes " firings" ++ 10 ∷ []

abbrev pub drained_word : Bool → List ℕ
drained_word true = codes "drained yes"
drained_word false = codes "drained no"

abbrev pub drained_text : Bool → List ℕ
drained_text drained = drained_word drained ++ 10 ∷ []

-- a line for each Exit, how it ended, and whether it drained
abbrev pub report_text : GraphValue → Report → List ℕ
report_text g report = outputs_text g report.outputs ++ finish_text report.finish report.firings ++ drained_text report.drained
