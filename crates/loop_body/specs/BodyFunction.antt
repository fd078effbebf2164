-- The function of a body: each wire stands for a list of expressions, one for each field of its shape.
use Rattle.std.specs.Prelude.{ℕ, ◌+◌, ◌^◌, ◌%◌, ◌==◌, if◌then◌else◌, List, [], ◌∷◌, ◌++◌, map, length, replicate, take, drop, Option, Some, None, unwrap_or}
use Rattle.std.specs.List.{concat}
use Rattle.components.specs.declared.kind.Kind.{Kind}
use Rattle.components.specs.declared.kind.Kind.TheVariants.{Entry, Exit, Buffer, Fork, Join, Split, Operator, Constant, Source0, Sink0, Pure, Mux, Branch, Merge, CtrlMerge, Init, Tagger}
use Rattle.components.specs.Kind.{Shape}
use Rattle.fun_expr.specs.declared.expr.Expr.{Expr}
use Rattle.fun_expr.specs.declared.expr.Expr.TheVariants.{Field, Lit, Apply}
use Rattle.fun_expr.specs.Expr.{expr_depth, place_of, renumbered}
use Rattle.fun_expr.specs.Function.{Function}
use Rattle.loop_body.specs.declared.body_port.BodyPort.{BodyPort}
use Rattle.loop_body.specs.Body.{Body, kinds, flat, entry}

-- the parts of a list that have as many items as the shapes have fields
abbrev pub cut : {A : Type 0} → List Shape → List A → List (List A)
cut [] xs = []
cut (shape ∷ parts) xs = take (length shape) xs ∷ cut parts (drop (length shape) xs)

-- the binds so far, and the places of fields
pub record Places : Type 0 where
  pub binds : List Expr
  pub places : List ℕ

abbrev pub place_then : ℕ → Places → Places
place_then place rest = record { binds = rest.binds; places = place ∷ rest.places }

-- the binds so far, and what output wires stand for
pub record Wires : Type 0 where
  pub binds : List Expr
  pub wires : List (List Expr)

-- the binds so far, and the table of what wires stand for
pub record Built : Type 0 where
  pub binds : List Expr
  pub table : List (List (List Expr))

-- what an output stands for
abbrev pub wire_at : List (List (List Expr)) → BodyPort → List Expr
wire_at table p = unwrap_or (entry table p) []

-- an expression that is bound in front of the rest, unless it is a field already
abbrev pub bound_unless : Option ℕ → ℕ → Expr → (List Expr → Places) → List Expr → Places
bound_unless (Some place) next e rest binds = place_then place (rest binds)
bound_unless None next e rest binds = place_then next (rest (binds ++ e ∷ []))

-- a row more
abbrev pub with_node : List (List (List Expr)) → Wires → Built
with_node table made = record { binds = made.binds; table = table ++ made.wires ∷ [] }

-- no wire
abbrev pub no_wires : List Expr → Wires
no_wires binds = record { binds = binds; wires = [] }

-- the wires of a Fork
abbrev pub fork_wires : ℕ → Places → Wires
fork_wires count input = record { binds = input.binds; wires = replicate count (map Field input.places) }

-- the fields that a function gives, at the places of its environment
abbrev pub outs_wire : List ℕ → Places → Wires
outs_wire outs whole = record { binds = whole.binds; wires = map (λ out. renumbered whole.places (Field out)) outs ∷ [] }

-- In a function whose input has so many fields:
module _ (fields : ℕ) where
  -- the place of the field that the next bind makes
  abbrev pub next_place : List Expr → ℕ
  next_place binds = fields + length binds

  -- each expression that is not a field is bound, in order
  abbrev pub settled : List Expr → List Expr → Places
  settled [] binds = record { binds = binds; places = [] }
  settled (e ∷ es) binds = bound_unless (place_of e) (next_place binds) e (settled es) binds

  -- The binds of another function are appended. The places are those at which the fields of its environment stand.
  abbrev pub appended : List Expr → List ℕ → List Expr → Places
  appended [] places binds = record { binds = binds; places = places }
  appended (bind ∷ rest) places binds = appended rest (places ++ next_place binds ∷ []) (binds ++ renumbered places bind ∷ [])

  -- the wire of an Operator
  abbrev pub operator_wire : Expr → List Expr → Wires
  operator_wire e binds =
      if expr_depth e == 64 then record { binds = binds ++ e ∷ []; wires = (Field (next_place binds) ∷ []) ∷ [] }
      else record { binds = binds; wires = (e ∷ []) ∷ [] }

  -- the wire of a Pure
  abbrev pub pure_wire : Function → Places → Wires
  pure_wire f input = outs_wire f.outs (appended f.binds input.places input.binds)

  -- what the output wires of a node stand for, by the expressions that its inputs stand for, in order; where it is none of a body they are none
  abbrev pub node_wires : Kind → List Expr → List Expr → Wires
  node_wires (Buffer shape) es binds = record { binds = binds; wires = es ∷ [] }
  node_wires (Fork shape count) es binds = fork_wires count (settled es binds)
  node_wires (Join parts) es binds = record { binds = binds; wires = es ∷ [] }
  node_wires (Split parts) es binds = record { binds = binds; wires = cut parts es }
  node_wires (Operator op widths width) es binds = operator_wire (Apply op width es) binds
  node_wires (Constant shape width value) es binds = record { binds = binds; wires = (Lit width (value % 2 ^ width) ∷ []) ∷ [] }
  node_wires (Source0 shape) es binds = record { binds = binds; wires = map (λ width. Lit width 0) shape ∷ [] }
  node_wires (Pure f shape) es binds = pure_wire f (settled es binds)
  node_wires (Sink0 shape) es binds = no_wires binds
  node_wires (Entry shape) es binds = no_wires binds
  node_wires (Exit shape) es binds = no_wires binds
  node_wires (Mux shape) es binds = no_wires binds
  node_wires (Branch shape) es binds = no_wires binds
  node_wires (Merge shape count) es binds = no_wires binds
  node_wires (CtrlMerge shape count width) es binds = no_wires binds
  node_wires (Init value mark) es binds = no_wires binds
  node_wires (Tagger shape tags) es binds = no_wires binds

  -- the binds and the table behind each node in order
  abbrev pub built : List Kind → List (List BodyPort) → Built → Built
  built [] inputs so_far = so_far
  built (node ∷ nodes) [] so_far = so_far
  built (node ∷ nodes) (ports ∷ inputs) so_far =
      built nodes inputs (with_node so_far.table (node_wires node (flat (map (wire_at so_far.table) ports)) so_far.binds))

-- the fields from a place on, one for each width
abbrev pub fields_from : ℕ → Shape → List Expr
fields_from place [] = []
fields_from place (width ∷ widths) = Field place ∷ fields_from (place + 1) widths

-- at the start the outputs of the Split stand for the fields of the input
abbrev pub at_start : List Shape → Built
at_start vars = record { binds = []; table = cut vars (fields_from 0 (concat vars)) ∷ [] }

-- the binds and the table behind all nodes
abbrev pub all_built : Body → Built
all_built b = built (length (concat b.vars)) (kinds b) b.inputs (at_start b.vars)

-- the data wires and the first condition wire
abbrev pub ends : Body → List BodyPort
ends b = b.next ++ take 1 b.conditions

abbrev pub function_of : List ℕ → Places → Function
function_of input whole = record { input = input; binds = whole.binds; outs = whole.places }

-- at the end the expressions of the ends are bound, unless they are fields; the function gives their fields
unfoldable pub body_function : Body → Function
body_function b =
    function_of (concat b.vars) (settled (length (concat b.vars)) (flat (map (wire_at (all_built b).table) (ends b))) (all_built b).binds)
