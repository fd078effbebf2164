-- The tagged loop between an Entry and an Exit: as many tuples as there are tags may be in their turns at once, and a Tagger gives their results in order.
use Rattle.std.specs.Prelude.{ℕ, Bool, List, [], ◌∷◌}
use Rattle.port_types.specs.Tag.{tag_width}
use Rattle.components.specs.declared.kind.Kind.{Kind}
use Rattle.components.specs.declared.kind.Kind.TheVariants.{Entry, Exit, Tagger, Merge, Split, Pure, Join, Branch}
use Rattle.components.specs.Name.{Name}
use Rattle.components.specs.Kind.{field, tagged}
use Rattle.components.specs.NamedGraph.{NamedGraph}
use Rattle.circuit_plans.specs.Drawing.{DrawnWire, Drawing, wire, drawn}
use Rattle.loop_laws.specs.Polarity.{back_out, exit_out}
use Rattle.tagged_loop.specs.LoopFunction.{with_bit}
use Rattle.tagged_loop.specs.InOrderLoop.{LoopParts}

pub data TaggedNode : Type 0 where
  new_entry tagger merge tag new_pure new_pair retag new_branch new_exit : TaggedNode

abbrev pub tagged_nodes : List TaggedNode
tagged_nodes = new_entry ∷ tagger ∷ merge ∷ tag ∷ new_pure ∷ new_pair ∷ retag ∷ new_branch ∷ new_exit ∷ []

-- a tuple is on the ring with a tag before it, but where the function takes it
abbrev pub tagged_kind : LoopParts → ℕ → TaggedNode → Kind
tagged_kind loop tags new_entry = Entry loop.shape
tagged_kind loop tags tagger = Tagger loop.shape tags
tagged_kind loop tags merge = Merge (tagged tags loop.shape) 2
tagged_kind loop tags tag = Split (field (tag_width tags) ∷ loop.shape ∷ [])
tagged_kind loop tags new_pure = Pure loop.fun (with_bit loop.shape)
tagged_kind loop tags new_pair = Split (loop.shape ∷ field 1 ∷ [])
tagged_kind loop tags retag = Join (field (tag_width tags) ∷ loop.shape ∷ [])
tagged_kind loop tags new_branch = Branch (tagged tags loop.shape)
tagged_kind loop tags new_exit = Exit loop.shape

abbrev pub tagged_wires : Bool → List (DrawnWire TaggedNode)
tagged_wires goes_back =
    wire new_entry 1 tagger 1 ∷
    wire tagger 1 merge 1 ∷
    wire merge 1 tag 1 ∷
    wire tag 1 retag 1 ∷
    wire tag 2 new_pure 1 ∷
    wire new_pure 1 new_pair 1 ∷
    wire new_pair 1 retag 2 ∷
    wire new_pair 2 new_branch 2 ∷
    wire retag 1 new_branch 1 ∷
    wire new_branch (back_out goes_back) merge 2 ∷
    wire new_branch (exit_out goes_back) tagger 2 ∷
    wire tagger 2 new_exit 1 ∷
    []

abbrev pub tagged_drawing : LoopParts → ℕ → Drawing TaggedNode
tagged_drawing loop tags = record { kind = tagged_kind loop tags; nodes = tagged_nodes; wires = tagged_wires loop.goes_back }

-- the graph of the loop with so many tags, where its nodes have these names
abbrev pub tagged_loop : LoopParts → ℕ → (TaggedNode → Name) → NamedGraph
tagged_loop loop tags name = drawn (tagged_drawing loop tags) name
