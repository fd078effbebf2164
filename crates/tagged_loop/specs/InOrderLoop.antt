-- The in-order loop between an Entry and an Exit: one tuple after another goes through its turns.
use Rattle.std.specs.Prelude.{ℕ, Bool, List, [], ◌∷◌}
use Rattle.fun_expr.specs.Function.{Function}
use Rattle.components.specs.declared.kind.Kind.{Kind}
use Rattle.components.specs.declared.kind.Kind.TheVariants.{Entry, Exit, Init, Mux, Pure, Split, Fork, Branch}
use Rattle.components.specs.Name.{Name}
use Rattle.components.specs.Kind.{Shape, field}
use Rattle.components.specs.NamedGraph.{NamedGraph}
use Rattle.circuit_plans.specs.Drawing.{DrawnWire, Drawing, wire, drawn}
use Rattle.loop_laws.specs.Polarity.{exit_bit, back_out, exit_out, back_in, fresh_in}
use Rattle.tagged_loop.specs.LoopFunction.{with_bit}

pub data InOrderNode : Type 0 where
  entry init mux pure pair cond branch exit : InOrderNode

abbrev pub in_order_nodes : List InOrderNode
in_order_nodes = entry ∷ init ∷ mux ∷ pure ∷ pair ∷ cond ∷ branch ∷ exit ∷ []

-- what a loop is made of: the shape of its tuples, its function, whether it goes back on condition 1, and the mark of its Init
pub record LoopParts : Type 0 where
  pub shape : Shape
  pub fun : Function
  pub goes_back : Bool
  pub mark : ℕ

-- the Init holds the bit on which the loop ends, so that the Mux begins with what is new
abbrev pub in_order_kind : LoopParts → InOrderNode → Kind
in_order_kind loop entry = Entry loop.shape
in_order_kind loop init = Init (exit_bit loop.goes_back) loop.mark
in_order_kind loop mux = Mux loop.shape
in_order_kind loop pure = Pure loop.fun (with_bit loop.shape)
in_order_kind loop pair = Split (loop.shape ∷ field 1 ∷ [])
in_order_kind loop cond = Fork (field 1) 2
in_order_kind loop branch = Branch loop.shape
in_order_kind loop exit = Exit loop.shape

abbrev pub in_order_wires : Bool → List (DrawnWire InOrderNode)
in_order_wires goes_back =
    wire init 1 mux 1 ∷
    wire entry 1 mux (fresh_in goes_back) ∷
    wire branch (back_out goes_back) mux (back_in goes_back) ∷
    wire mux 1 pure 1 ∷
    wire pure 1 pair 1 ∷
    wire pair 1 branch 1 ∷
    wire pair 2 cond 1 ∷
    wire cond 1 branch 2 ∷
    wire cond 2 init 1 ∷
    wire branch (exit_out goes_back) exit 1 ∷
    []

abbrev pub in_order : LoopParts → Drawing InOrderNode
in_order loop = record { kind = in_order_kind loop; nodes = in_order_nodes; wires = in_order_wires loop.goes_back }

-- the graph of the loop, where its nodes have these names
abbrev pub in_order_loop : LoopParts → (InOrderNode → Name) → NamedGraph
in_order_loop loop name = drawn (in_order loop) name
