-- The function of a body, from the table that is left behind its nodes.
use Rattle.std.proofs.Common.{◌≡◌, ◌≢◌, suc, ℕ, List, [], ◌∷◌, ◌++◌, map, length, take, refl, ap, ◌∙◌, subst, append_assoc}
use Rattle.std.specs.List.{concat}
use Rattle.components.specs.Kind.{Shape, outs}
use Rattle.components.specs.declared.kind.Kind.{Kind}
use Rattle.components.specs.declared.node.Node.{Node}
use Rattle.fun_expr.specs.declared.expr.Expr.{Expr}
use Rattle.fun_expr.specs.Each.{Each}
use Rattle.loop_body.specs.declared.body_port.BodyPort.{BodyPort}
use Rattle.loop_body.specs.Body.{Body, kinds, flat, entry, NodesFit, shapes, IsBody}
use Rattle.loop_body.specs.BodyFunction.{wire_at, settled, at_start, all_built, ends, function_of, body_function}
use Rattle.loop_body.specs.Tables.{Differ, Agree, IsBuilt}
use Rattle.loop_body.proofs.ExprLists.{each_all, each_left, each_right, each_append}
use Rattle.loop_body.proofs.Distinct.{uses_differ}
use Rattle.loop_body.proofs.Steps.{same_wires, differ_right}

-- there are inputs for each node
pub fit_count : (before : List (List Shape)) (nodes : List Kind) (inputs : List (List BodyPort)) → NodesFit before nodes inputs → length nodes ≡ length inputs
fit_count before [] [] h = refl
fit_count before [] (ports ∷ inputs) h = absurd h
fit_count before (kind ∷ nodes) [] h = absurd h
fit_count before (kind ∷ nodes) (ports ∷ inputs) h = ap suc (fit_count (before ++ outs kind ∷ []) nodes inputs h.2)

-- what is used differs
pub all_differ : (b : Body) → IsBody b → Differ (flat b.inputs ++ (b.next ++ b.conditions))
all_differ b ok = subst Differ (append_assoc (flat b.inputs) b.next b.conditions) (uses_differ ((flat b.inputs ++ b.next) ++ b.conditions) (shapes b) ok.once)

each_first : (P : BodyPort → Type 0) (ports : List BodyPort) → Each P ports → Each P (take 1 ports)
each_first P [] h = tt
each_first P (p ∷ ports) h = (h.0, tt)

differ_first : (xs ports : List BodyPort) → Differ (xs ++ ports) → Differ (xs ++ take 1 ports)
differ_first [] [] h = tt
differ_first [] (p ∷ ports) h = (tt, tt)
differ_first (x ∷ xs) ports h = (
  each_append (λ q. q ≢ x) xs (take 1 ports) (each_left (λ q. q ≢ x) xs ports h.0) (each_first (λ q. q ≢ x) ports (each_right (λ q. q ≢ x) xs ports h.0)),
  differ_first xs ports h.1,
)

pub ends_differ : (b : Body) → IsBody b → Differ (b.next ++ take 1 b.conditions)
ends_differ b ok = differ_first b.next b.conditions (differ_right (flat b.inputs) (b.next ++ b.conditions) (all_differ b ok))

-- a table agrees with itself
agree_self : (ports : List BodyPort) (table : List (List (List Expr))) → Agree ports table table
agree_self ports table = record { rows = refl; each = each_all (λ p. entry table p ≡ entry table p) (λ p. refl) ports }

pub whole_function : (b : Body) → IsBody b → (first table : List (List (List Expr))) (binds after wires : List Expr) (ports : List BodyPort) (places : List ℕ) → first ≡ (at_start b.vars).table →
    IsBuilt (length (concat b.vars)) (kinds b) b.inputs first [] table binds → ports ≡ b.next ++ take 1 b.conditions → wires ≡ flat (map (wire_at table) ports) →
    record { binds = after; places = places } ≡ settled (length (concat b.vars)) wires binds → record { input = concat b.vars; binds = after; outs = places } ≡ body_function b
unfolding body_function
whole_function b ok first table binds after wires ports places is_first is_built are_ports are_wires is_settled =
    let fields = length (concat b.vars) in
    let more = b.next ++ b.conditions in
    let start = (at_start b.vars).table in
    let done = subst (λ t. IsBuilt fields (kinds b) b.inputs t [] table binds) is_first is_built more start (all_differ b ok) (agree_self (flat b.inputs ++ more) start) in
    let all = all_built b in
    let P = λ (p : BodyPort). entry table p ≡ entry all.table p in
    let last : Each P (ends b) = each_append P b.next (take 1 b.conditions) (each_left P b.next b.conditions done.1.each) (each_first P b.conditions (each_right P b.next b.conditions done.1.each)) in
    let same : wires ≡ flat (map (wire_at all.table) (ends b)) = are_wires ∙ ap (λ ps. flat (map (wire_at table) ps)) are_ports ∙ ap flat (same_wires table all.table (ends b) last) in
    ap (function_of (concat b.vars)) (is_settled ∙ ap (λ es. settled fields es binds) same ∙ ap (settled fields (flat (map (wire_at all.table) (ends b)))) done.0)

-- the same where the parts of the body stand under other names
pub whole_function_at : (b : Body) → IsBody b → (widths : List ℕ) (vars : List Shape) (nodes : List Node) (inputs : List (List BodyPort)) (next conditions : List BodyPort) (none : List Expr) (first table : List (List (List Expr)))
    (binds after wires : List Expr) (ports : List BodyPort) (places : List ℕ) → widths ≡ concat b.vars → vars ≡ b.vars → nodes ≡ b.nodes → inputs ≡ b.inputs → next ≡ b.next → conditions ≡ b.conditions → none ≡ [] → first ≡ (at_start vars).table →
    IsBuilt (length widths) (map (λ node. node.kind) nodes) inputs first none table binds → ports ≡ next ++ take 1 conditions → wires ≡ flat (map (wire_at table) ports) →
    record { binds = after; places = places } ≡ settled (length widths) wires binds → record { input = widths; binds = after; outs = places } ≡ body_function b
whole_function_at b ok widths vars nodes inputs next conditions none first table binds after wires ports places is_widths are_vars are_nodes are_inputs are_next are_conditions is_none is_first is_built are_ports are_wires is_settled =
    let built1 = subst (λ (ns : List Node). IsBuilt (length widths) (map (λ node. node.kind) ns) inputs first none table binds) are_nodes is_built in
    let built2 = subst (λ is. IsBuilt (length widths) (kinds b) is first none table binds) are_inputs built1 in
    let built3 = subst (λ es. IsBuilt (length widths) (kinds b) b.inputs first es table binds) is_none built2 in
    let built4 = subst (λ ws. IsBuilt (length ws) (kinds b) b.inputs first [] table binds) is_widths built3 in
    let ends_are : ports ≡ b.next ++ take 1 b.conditions = are_ports ∙ ap (λ ps. ps ++ take 1 conditions) are_next ∙ ap (λ ps. b.next ++ take 1 ps) are_conditions in
    ap (λ ws. record { input = ws; binds = after; outs = places }) is_widths ∙
    whole_function b ok first table binds after wires ports places (is_first ∙ ap (λ vs. (at_start vs).table) are_vars) built4 ends_are are_wires
    (is_settled ∙ ap (λ ws. settled (length ws) wires binds) is_widths)
