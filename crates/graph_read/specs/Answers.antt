-- What a call that reads may answer: what is read, or want of memory.
use Rattle.std.specs.Prelude.{◌≡◌, Result, Ok, Err}
use Rattle.components.specs.declared.node.Node.{Node}
use Rattle.components.specs.Name.{Name}
use Rattle.components.specs.Node.{NodeOk, body_of}
use Rattle.graph_read.specs.declared.fault.GraphFaultKind.{GraphFaultKind}
use Rattle.graph_read.specs.declared.fault.StatementFault.{StatementFault}
use Rattle.graph_read.specs.declared.fault.StatementFault.TheVariants.{Refused, NoMemory}
use Rattle.graph_read.specs.NodeReading.{NodeReading}

-- this is what is read, unless memory ran out
abbrev pub IsRead : {A : Type 0} → Result A GraphFaultKind → Result A StatementFault → Type 0
IsRead read (Ok value) = read ≡ Ok value
IsRead read (Err (Refused fault)) = read ≡ Err fault
IsRead read (Err NoMemory) = Unit {0}

-- this is a node of this name with the body that is read, unless memory ran out
abbrev pub IsNodeRead : Name → NodeReading → Result Node StatementFault → Type 0
IsNodeRead name read (Ok node) = NodeOk node × (node.name ≡ name) × (read ≡ Ok (body_of node))
IsNodeRead name read (Err (Refused fault)) = read ≡ Err fault
IsNodeRead name read (Err NoMemory) = Unit {0}
