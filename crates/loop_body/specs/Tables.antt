-- Outputs that are taken out of a table, each once.
use Rattle.std.specs.Prelude.{◌≡◌, ◌≢◌, ℕ, List, [], ◌∷◌, ◌++◌, map, length}
use Rattle.components.specs.declared.kind.Kind.{Kind}
use Rattle.fun_expr.specs.declared.expr.Expr.{Expr}
use Rattle.fun_expr.specs.Each.{Each}
use Rattle.loop_body.specs.declared.body_port.BodyPort.{BodyPort}
use Rattle.loop_body.specs.Body.{flat, entry}
use Rattle.loop_body.specs.BodyFunction.{Wires, wire_at, node_wires, built}

-- all outputs but this one stand for what they stood for
abbrev pub OthersStay : List (List (List Expr)) → List (List (List Expr)) → BodyPort → Type 0
OthersStay old new port = (other : BodyPort) → other ≢ port → entry new other ≡ entry old other

-- no output is listed twice
abbrev pub Differ : List BodyPort → Type 0
Differ [] = Unit {0}
Differ (port ∷ ports) = Each (λ other. other ≢ port) ports × Differ ports

-- the outputs that are still to be used stand in this table for what they stand for in the whole one
pub record Agree (uses : List BodyPort) (now whole : List (List (List Expr))) : Type 0 where
  pub rows : length now ≡ length whole
  pub each : Each (λ port. entry now port ≡ entry whole port) uses

-- what a node makes of the whole table and the binds so far
abbrev pub made_of : ℕ → Kind → List BodyPort → List (List (List Expr)) → List Expr → Wires
made_of fields kind ports whole binds = node_wires fields kind (flat (map (wire_at whole) ports)) binds

-- Where a table agrees with the whole one on the outputs that a node takes and on more, it agrees on these behind the node, and the binds are those of the definition.
abbrev pub IsStep : ℕ → Kind → List BodyPort → List (List (List Expr)) → List Expr → List (List (List Expr)) → List Expr → Type 0
IsStep fields kind ports old before new after = (more : List BodyPort) (whole : List (List (List Expr))) → Differ (ports ++ more) → Agree (ports ++ more) old whole →
    (after ≡ (made_of fields kind ports whole before).binds) × Agree more new (whole ++ (made_of fields kind ports whole before).wires ∷ [])

-- the same of all nodes
abbrev pub IsBuilt : ℕ → List Kind → List (List BodyPort) → List (List (List Expr)) → List Expr → List (List (List Expr)) → List Expr → Type 0
IsBuilt fields nodes inputs old before new after = (more : List BodyPort) (whole : List (List (List Expr))) → Differ (flat inputs ++ more) → Agree (flat inputs ++ more) old whole →
    (after ≡ (built fields nodes inputs (record { binds = before; table = whole })).binds) ×
    Agree more new (built fields nodes inputs (record { binds = before; table = whole })).table
