-- The canonical text of a graph: the lines of its canonical document.
use Rattle.std.specs.Prelude.{ℕ, zero, suc, ◌+◌, ◌==◌, false, List, [], ◌∷◌, ◌++◌, Option, Some, None, map, codes, if◌then◌else◌}
use Rattle.std.specs.Fmt.{decimal, digits}
use Rattle.std.specs.FinMap.{entries}
use Rattle.port_types.specs.declared.side.Side.{Side}
use Rattle.port_types.specs.declared.side.Side.TheVariants.{Ins, Outs}
use Rattle.op_table.specs.declared.op.Op.{Op}
use Rattle.op_table.specs.declared.op.Op.TheVariants.{Select}
use Rattle.op_table.specs.Operator.{graph_word}
use Rattle.fun_expr.specs.FunText.{fun_text}
use Rattle.port_types.specs.declared.port.Port as printed_port
use Rattle.port_types.specs.PortText.{side_word, port_name, marked_ports_text}
use Rattle.dot_text.specs.Grammar.{Pair}
use Rattle.dot_text.specs.Printing.{printed}
use Rattle.dot_text.specs.declared.doc.Doc.{Doc}
use Rattle.dot_text.specs.declared.doc.DocNode.{DocNode}
use Rattle.dot_text.specs.declared.doc.DocEdge.{DocEdge}
use Rattle.components.specs.declared.kind.Kind.{Kind}
use Rattle.components.specs.declared.kind.Kind.TheVariants.{Entry, Exit, Buffer, Fork, Join, Split, Operator, Constant, Source0, Sink0, Pure, Mux, Branch, Merge, CtrlMerge, Init, Tagger}
use Rattle.components.specs.Component.{component_at, word_of}
use Rattle.components.specs.Name.{Name, Port}
use Rattle.components.specs.Kind.{Shape, ports}
use Rattle.components.specs.Node.{Body}
use Rattle.components.specs.NamedGraph.{NamedGraph}

-- a port with its marker, if it has one
abbrev pub PrintedPort : Type 0
PrintedPort = printed_port.Port

-- `0x` and lower-case digits without leading zeros
abbrev pub hexadecimal : ℕ → List ℕ
hexadecimal value = codes "0x" ++ digits 16 false value

-- the mark of an Init, where it has one
abbrev pub mark_pairs : ℕ → List Pair
mark_pairs zero = []
mark_pairs (suc mark) = (codes "ooo", decimal (suc mark)) ∷ []

-- the word of the kind's component
abbrev pub kind_word : Kind → List ℕ
kind_word kind = word_of (component_at kind)

-- the attributes that the kind alone owns, in the order of print
abbrev pub own_pairs : Kind → List Pair
own_pairs (Entry shape) = []
own_pairs (Exit shape) = []
own_pairs (Buffer shape) = []
own_pairs (Fork shape count) = []
own_pairs (Join shapes) = []
own_pairs (Split shapes) = []
own_pairs (Operator op widths width) = (codes "op", graph_word op) ∷ []
own_pairs (Constant shape width value) = (codes "value", hexadecimal value) ∷ []
own_pairs (Source0 shape) = []
own_pairs (Sink0 shape) = []
own_pairs (Pure fun shape) = (codes "fun", fun_text fun.binds fun.outs) ∷ []
own_pairs (Mux shape) = []
own_pairs (Branch shape) = []
own_pairs (Merge shape count) = []
own_pairs (CtrlMerge shape count width) = []
own_pairs (Init value mark) = (codes "value", hexadecimal value) ∷ mark_pairs mark
own_pairs (Tagger shape tags) = (codes "tags", decimal tags) ∷ []

-- The markers of ports: `?` where a condition or a choice is, `+` and `-` at what it chooses between.

abbrev pub condition : Option ℕ
condition = Some 63

abbrev pub yes : Option ℕ
yes = Some 43

abbrev pub no : Option ℕ
no = Some 45

-- the marker of the operand of this number of a select
abbrev pub select_marker : ℕ → Option ℕ
select_marker number = if number == 1 then condition else (if number == 2 then yes else no)

abbrev pub operand_marker : Op → ℕ → Option ℕ
operand_marker Select number = select_marker number
operand_marker _ number = None

-- the marker of the port of this number
abbrev pub marker : Kind → Side → ℕ → Option ℕ
marker (Entry shape) side number = None
marker (Exit shape) side number = None
marker (Buffer shape) side number = None
marker (Fork shape count) side number = None
marker (Join shapes) side number = None
marker (Split shapes) side number = None
marker (Operator op widths width) Ins number = operand_marker op number
marker (Operator op widths width) Outs number = None
marker (Constant shape width value) side number = None
marker (Source0 shape) side number = None
marker (Sink0 shape) side number = None
marker (Pure fun shape) side number = None
marker (Mux shape) Ins number = if number == 1 then condition else None
marker (Mux shape) Outs number = None
marker (Branch shape) Ins number = if number == 2 then condition else None
marker (Branch shape) Outs number = if number == 1 then yes else no
marker (Merge shape count) side number = None
marker (CtrlMerge shape count width) Ins number = None
marker (CtrlMerge shape count width) Outs number = if number == 2 then condition else None
marker (Init value mark) side number = None
marker (Tagger shape tags) side number = None

-- the ports of these shapes, from this number on, with their markers
abbrev pub marked_from : Kind → Side → ℕ → List Shape → List PrintedPort
marked_from kind side number [] = []
marked_from kind side number (shape ∷ shapes) = record { marker = marker kind side number; shape = shape } ∷ marked_from kind side (number + 1) shapes

abbrev pub marked_ports : Kind → Side → List PrintedPort
marked_ports kind side = marked_from kind side 1 (ports kind side)

abbrev pub printed_side : Side → List PrintedPort → List Pair
printed_side side [] = []
printed_side side (port ∷ ports) = (side_word side, marked_ports_text side (port ∷ ports)) ∷ []

-- the ports of a side; a side without ports has no pair
abbrev pub side_pairs : Kind → Side → List Pair
side_pairs kind side = printed_side side (marked_ports kind side)

-- the type, the ports, the kind's own attributes, and what is kept in the byte order of the keys
abbrev pub pairs_of : Body → List Pair
pairs_of body = (codes "type", kind_word body.kind) ∷ side_pairs body.kind Ins ++ side_pairs body.kind Outs ++ own_pairs body.kind ++ entries body.kept

abbrev pub node_entry : Name × Body → DocNode
node_entry node = record { name = node.0; pairs = pairs_of node.1 }

-- a wire, as its input and its output
abbrev pub edge_entry : Port × Port → DocEdge
edge_entry wire =
    record {
      source = wire.1.node;
      target = wire.0.node;
      pairs = (codes "from", port_name Outs wire.1.port) ∷ (codes "to", port_name Ins wire.0.port) ∷ [];
    }

-- the nodes in the byte order of their names, and the wires in the byte order of the target's name and by its port
abbrev pub canonical_document : NamedGraph → Doc
canonical_document g = record { nodes = map node_entry (entries g.nodes); edges = map edge_entry (entries g.feeders) }

-- each line ends with LF
abbrev pub text_of : NamedGraph → List ℕ
text_of g = printed (canonical_document g) ++ codes "\n"
