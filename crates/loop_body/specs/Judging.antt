-- What is computed of five lists to tell whether they are a body: marks on outputs, roots, and what the lanes reach.
use Rattle.std.specs.Prelude.{◌≡◌, ◌≢◌, ℕ, zero, suc, ◌+◌, ◌≤◌, ◌&&◌, Bool, true, false, not, IsTrue, List, [], ◌∷◌, ◌++◌, map, length, replicate, Option, Some, None, slice_get, slice_set, unwrap_or}
use Rattle.std.specs.List.{list_any}
use Rattle.fun_expr.specs.Each.{Each, total}
use Rattle.components.specs.declared.kind.Kind.{Kind}
use Rattle.components.specs.declared.kind.Kind.TheVariants.{Entry, Exit, Buffer, Fork, Join, Split, Operator, Constant, Source0, Sink0, Pure, Mux, Branch, Merge, CtrlMerge, Init, Tagger}
use Rattle.components.specs.declared.node.Node.{Node}
use Rattle.components.specs.Kind.{Shape, AreParts, outs}
use Rattle.loop_body.specs.declared.body_port.BodyPort.{BodyPort}
use Rattle.loop_body.specs.BodyKind.{weight}
use Rattle.loop_body.specs.Body.{Body, kinds, entry, NodesFit}

-- the kinds of nodes
abbrev pub kinds_of : List Node → List Kind
kinds_of nodes = map (λ (node : Node). node.kind) nodes

-- the shapes of the outputs of these kinds
abbrev pub rows_of : List Kind → List (List Shape)
rows_of kinds = map outs kinds

-- Marks: a row of tests for each row of outputs.
-- no output has a mark
abbrev pub unmarked : List (List Shape) → List (List Bool)
unmarked rows = map (λ (row : List Shape). replicate (length row) false) rows

-- an output that is there and has no mark
abbrev pub is_fresh : Option Bool → Bool
is_fresh None = false
is_fresh (Some mark) = not mark

abbrev pub mark_row : ℕ → List Bool → List Bool
mark_row zero row = row
mark_row (suc port) row = slice_set row port true

abbrev pub marked_in : List (List Bool) → BodyPort → Option (List Bool) → List (List Bool)
marked_in rows p None = rows
marked_in rows p (Some row) = slice_set rows p.node (mark_row p.port row)

-- with a mark on this output
abbrev pub marked : List (List Bool) → BodyPort → List (List Bool)
marked rows p = marked_in rows p (slice_get rows p.node)

-- whether each output is there and has no mark, when each gets one in turn
abbrev pub all_fresh : List BodyPort → List (List Bool) → Bool
all_fresh [] rows = true
all_fresh (p ∷ ports) rows = is_fresh (entry rows p) && all_fresh ports (marked rows p)

-- Roots: for each row the root of its outputs, where they are those of a Fork or a Buffer.
abbrev pub known_root : BodyPort → Option (Option BodyPort) → BodyPort
known_root p None = p
known_root p (Some root) = unwrap_or root p

abbrev pub root_in : List (Option BodyPort) → BodyPort → BodyPort
root_in roots p = known_root p (slice_get roots p.node)

abbrev pub first_root : List (Option BodyPort) → List BodyPort → Option BodyPort
first_root roots [] = None
first_root roots (p ∷ ports) = Some (root_in roots p)

abbrev pub passed_root : List (Option BodyPort) → Kind → List BodyPort → Option BodyPort
passed_root roots (Buffer shape) ports = first_root roots ports
passed_root roots (Fork shape count) ports = first_root roots ports
passed_root roots (Entry shape) ports = None
passed_root roots (Exit shape) ports = None
passed_root roots (Join shapes) ports = None
passed_root roots (Split shapes) ports = None
passed_root roots (Operator op widths width) ports = None
passed_root roots (Constant shape width value) ports = None
passed_root roots (Source0 shape) ports = None
passed_root roots (Sink0 shape) ports = None
passed_root roots (Pure fun shape) ports = None
passed_root roots (Mux shape) ports = None
passed_root roots (Branch shape) ports = None
passed_root roots (Merge shape count) ports = None
passed_root roots (CtrlMerge shape count width) ports = None
passed_root roots (Init value mark) ports = None
passed_root roots (Tagger shape tags) ports = None

-- the roots behind these nodes
abbrev pub roots_from : List (Option BodyPort) → List Kind → List (List BodyPort) → List (Option BodyPort)
roots_from roots [] inputs = roots
roots_from roots (kind ∷ kinds) [] = roots
roots_from roots (kind ∷ kinds) (ports ∷ inputs) = roots_from (roots ++ passed_root roots kind ports ∷ []) kinds inputs

-- What the lanes reach: a test for each row.
abbrev pub is_reached : List Bool → BodyPort → Bool
is_reached reached p = unwrap_or (slice_get reached p.node) false

abbrev pub reached_from : List Bool → List (List BodyPort) → List Bool
reached_from reached [] = reached
reached_from reached (ports ∷ inputs) = reached_from (reached ++ list_any (is_reached reached) ports ∷ []) inputs

-- all outputs have one root, and the lanes reach it
abbrev pub HaveOneRoot : List (Option BodyPort) → List Bool → List BodyPort → Type 0
HaveOneRoot roots reached [] = ⊥
HaveOneRoot roots reached (p ∷ ports) = Each (λ q. root_in roots q ≡ root_in roots p) (p ∷ ports) × IsTrue (is_reached reached (root_in roots p))

-- a Split, as which the lanes are judged
abbrev pub IsSplit : Kind → Type 0
IsSplit (Split shapes) = Unit {0}
IsSplit _ = ⊥

-- the nodes fit together within the limits, and there is one condition wire more than data wires
pub record FitTogether (b : Body) : Type 0 where
  pub vars : AreParts b.vars
  pub nodes : NodesFit (b.vars ∷ []) (kinds b) b.inputs
  pub count : length b.conditions ≡ length b.next + 1
  pub few : length (kinds b) ≤ 4096
  pub light : total weight (kinds b) ≤ 16384

-- no text is equal to a later one
abbrev pub AllDiffer : List (List ℕ) → Type 0
AllDiffer [] = Unit {0}
AllDiffer (text ∷ texts) = Each (λ other. text ≢ other) texts × AllDiffer texts
