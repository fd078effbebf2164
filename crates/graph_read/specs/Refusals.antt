-- What a call that reads a graph may refuse.
use Rattle.std.specs.Prelude.{◌≡◌, Option, Some, Result, Err}
use Rattle.graph_read.specs.declared.fault.GraphRefusal.{GraphRefusal}
use Rattle.graph_read.specs.declared.fault.GraphFault.{GraphFault}
use Rattle.graph_read.specs.declared.fault.GraphFault.TheVariants.{Refused, NoMemory}

-- this is what the reading refuses, unless memory ran out
abbrev pub IsRefusal : {A : Type 0} → Result A GraphRefusal → GraphFault → Type 0
IsRefusal read (Refused refusal) = read ≡ Err refusal
IsRefusal read NoMemory = Unit {0}

-- this is the refusal that is found, unless memory ran out
abbrev pub IsFoundRefusal : Option GraphRefusal → GraphFault → Type 0
IsFoundRefusal found (Refused refusal) = found ≡ Some refusal
IsFoundRefusal found NoMemory = Unit {0}
