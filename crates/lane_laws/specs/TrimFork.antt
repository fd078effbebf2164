-- A Fork with a Sink at one of its outputs, and the Fork of the other outputs.
use Rattle.std.specs.Prelude.{ℕ, zero, suc, ◌≤◌, List, ◌∷◌, replicate}
use Rattle.port_types.specs.Shape.{IsShape}
use Rattle.components.specs.declared.kind.Kind.{Kind}
use Rattle.components.specs.declared.kind.Kind.TheVariants.{Entry, Exit, Fork, Sink0}
use Rattle.components.specs.Name.{Name}
use Rattle.components.specs.Kind.{Shape}
use Rattle.components.specs.NamedGraph.{NamedGraph}
use Rattle.circuit_plans.specs.Drawing.{DrawnWire, Drawing, wire, drawn}
use Rattle.circuit_plans.specs.Places.{Place, first, later, number, each_of}

-- an output of a Fork of count outputs
abbrev pub Output : Shape → ℕ → Type 0
Output a count = Place (replicate count a)

-- the outputs other than s, in their order
abbrev pub other_than : (a : Shape) (others : ℕ) → Output a (suc others) → Output a others → Output a (suc others)
other_than a zero s l = elim l [ ]
other_than a (suc others) first l = later l
other_than a (suc others) (later s) first = first
other_than a (suc others) (later s) (later l) = later (other_than a others s l)

-- the Fork and the Sink, with an Entry for the Fork's input and an Exit for each other output
pub data Untrimmed (a : Shape) (others : ℕ) : Type 0 where
  entry fork sink : Untrimmed a others
  exit : Output a others → Untrimmed a others

-- the Fork of the other outputs, with the same ends
pub data Trimmed (a : Shape) (others : ℕ) : Type 0 where
  new_entry new_fork : Trimmed a others
  new_exit : Output a others → Trimmed a others

abbrev pub untrimmed_kind : (a : Shape) (others : ℕ) → Untrimmed a others → Kind
untrimmed_kind a others entry = Entry a
untrimmed_kind a others fork = Fork a (suc others)
untrimmed_kind a others sink = Sink0 a
untrimmed_kind a others (exit l) = Exit a

abbrev pub untrimmed_nodes : (a : Shape) (others : ℕ) → List (Untrimmed a others)
untrimmed_nodes a others = entry ∷ fork ∷ sink ∷ each_of (replicate others a) exit

-- the Sink is fed by output s of the Fork
abbrev pub untrimmed_wires : (a : Shape) (others : ℕ) → Output a (suc others) → List (DrawnWire (Untrimmed a others))
untrimmed_wires a others s =
    wire entry 1 fork 1 ∷
    wire fork (number (replicate (suc others) a) s) sink 1 ∷
    each_of (replicate others a) (λ l. wire fork (number (replicate (suc others) a) (other_than a others s l)) (exit l) 1)

abbrev pub untrimmed : (a : Shape) (others : ℕ) → Output a (suc others) → Drawing (Untrimmed a others)
untrimmed a others s = record { kind = untrimmed_kind a others; nodes = untrimmed_nodes a others; wires = untrimmed_wires a others s }

abbrev pub trimmed_kind : (a : Shape) (others : ℕ) → Trimmed a others → Kind
trimmed_kind a others new_entry = Entry a
trimmed_kind a others new_fork = Fork a others
trimmed_kind a others (new_exit l) = Exit a

abbrev pub trimmed_nodes : (a : Shape) (others : ℕ) → List (Trimmed a others)
trimmed_nodes a others = new_entry ∷ new_fork ∷ each_of (replicate others a) new_exit

abbrev pub trimmed_wires : (a : Shape) (others : ℕ) → List (DrawnWire (Trimmed a others))
trimmed_wires a others = wire new_entry 1 new_fork 1 ∷ each_of (replicate others a) (λ l. wire new_fork (number (replicate others a) l) (new_exit l) 1)

abbrev pub trimmed : (a : Shape) (others : ℕ) → Drawing (Trimmed a others)
trimmed a others = record { kind = trimmed_kind a others; nodes = trimmed_nodes a others; wires = trimmed_wires a others }

-- the two graphs, where the nodes have these names
abbrev pub untrimmed_graph : (a : Shape) (others : ℕ) → Output a (suc others) → (Untrimmed a others → Name) → NamedGraph
untrimmed_graph a others s name = drawn (untrimmed a others s) name

abbrev pub trimmed_graph : (a : Shape) (others : ℕ) → (Trimmed a others → Name) → NamedGraph
trimmed_graph a others name = drawn (trimmed a others) name

-- a Fork of this shape, of these outputs and one more
pub record CanTrim (a : Shape) (others : ℕ) : Type 0 where
  pub shape : IsShape a
  pub some : 1 ≤ others
  pub few : suc others ≤ 64
