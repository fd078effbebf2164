-- The function of the body that computes greatest common divisors, node by node.
use Rattle.std.proofs.Common.{◌≡◌, ◌+◌, List, [], ◌∷◌, map, length, refl, ap, ◌∙◌}
use Rattle.std.specs.Prelude.{◌==◌, if◌then◌else◌}
use Rattle.op_table.specs.declared.op.Op.TheVariants.{Urem, Ne}
use Rattle.components.specs.declared.kind.Kind.TheVariants.{Fork, Operator, Constant}
use Rattle.components.specs.Kind.{field}
use Rattle.fun_expr.specs.Each.{largest}
use Rattle.fun_expr.specs.Expr.{expr_depth}
use Rattle.fun_expr.specs.declared.expr.Expr.{Expr}
use Rattle.fun_expr.specs.declared.expr.Expr.TheVariants.{Field, Lit, Apply}
use Rattle.fun_expr.specs.Function.{Function}
use Rattle.loop_body.proofs.ExprTrees.{place-field, place-apply, depth-field, depth-lit, depth-apply}
use Rattle.components.specs.declared.kind.Kind.{Kind}
use Rattle.loop_body.specs.declared.body_port.BodyPort.{BodyPort}
use Rattle.loop_body.specs.Body.{kinds, flat}
use Rattle.loop_body.specs.BodyFunction.{Wires, Built, wire_at, place_then, bound_unless, settled, fork_wires, node_wires, with_node, built, function_of, body_function}
use Rattle.loop_body.specs.Gcd.{port, gcd_body, gcd_function, GcdFunction}

abbrev remainder : Expr
remainder = Apply Urem 32 (Field 0 ∷ Field 1 ∷ [])

abbrev differs : Expr
differs = Apply Ne 1 (Field 2 ∷ Lit 32 0 ∷ [])

-- a node, and then the rest
step : (node : Kind) (nodes : List Kind) (ports : List BodyPort) (inputs : List (List BodyPort)) (so_far : Built) (made : Wires) (whole : Built) →
    node_wires 2 node (flat (map (wire_at so_far.table) ports)) so_far.binds ≡ made → built 2 nodes inputs (with_node so_far.table made) ≡ whole → built 2 (node ∷ nodes) (ports ∷ inputs) so_far ≡ whole
step node nodes ports inputs so_far made whole e rest = ap (λ w. built 2 nodes inputs (with_node so_far.table w)) e ∙ rest

abbrev wire : Expr → List Expr
wire e = e ∷ []

-- the rows
abbrev lanes : List (List Expr)
lanes = wire (Field 0) ∷ wire (Field 1) ∷ []

first_fork : node_wires 2 (Fork (field 32) 2) (wire (Field 1)) [] ≡ record { binds = []; wires = wire (Field 1) ∷ wire (Field 1) ∷ [] }
first_fork = ap (λ o. fork_wires 2 (bound_unless o 2 (Field 1) (settled 2 []) [])) (place-field 1)

depth_two : (a b : Expr) → expr_depth a ≡ 1 → expr_depth b ≡ 1 → 1 + largest (expr_depth a ∷ expr_depth b ∷ []) ≡ 2
depth_two a b h k = ap (λ x. 1 + largest (x ∷ expr_depth b ∷ [])) h ∙ ap (λ x. 1 + largest (1 ∷ x ∷ [])) k

remainder_wire : node_wires 2 (Operator Urem (32 ∷ 32 ∷ []) 32) (Field 0 ∷ Field 1 ∷ []) [] ≡ record { binds = []; wires = wire remainder ∷ [] }
remainder_wire = ap (λ d. if d == 64 then record { binds = remainder ∷ []; wires = wire (Field 2) ∷ [] } else record { binds = []; wires = wire remainder ∷ [] })
    (depth-apply Urem 32 (Field 0 ∷ Field 1 ∷ []) ∙ depth_two (Field 0) (Field 1) (depth-field 0) (depth-field 1))

second_fork : node_wires 2 (Fork (field 32) 3) (wire remainder) [] ≡ record { binds = remainder ∷ []; wires = wire (Field 2) ∷ wire (Field 2) ∷ wire (Field 2) ∷ [] }
second_fork = ap (λ o. fork_wires 3 (bound_unless o 2 remainder (settled 2 []) [])) (place-apply Urem 32 (Field 0 ∷ Field 1 ∷ []))

differs_wire : node_wires 2 (Operator Ne (32 ∷ 32 ∷ []) 1) (Field 2 ∷ Lit 32 0 ∷ []) (remainder ∷ []) ≡ record { binds = remainder ∷ []; wires = wire differs ∷ [] }
differs_wire = ap (λ d. if d == 64 then record { binds = remainder ∷ differs ∷ []; wires = wire (Field 3) ∷ [] } else record { binds = remainder ∷ []; wires = wire differs ∷ [] })
    (depth-apply Ne 1 (Field 2 ∷ Lit 32 0 ∷ []) ∙ depth_two (Field 2) (Lit 32 0) (depth-field 2) (depth-lit 32 0))

third_fork : node_wires 2 (Fork (field 1) 3) (wire differs) (remainder ∷ []) ≡ record { binds = remainder ∷ differs ∷ []; wires = wire (Field 3) ∷ wire (Field 3) ∷ wire (Field 3) ∷ [] }
third_fork = ap (λ o. fork_wires 3 (bound_unless o 3 differs (settled 2 []) (remainder ∷ []))) (place-apply Ne 1 (Field 2 ∷ Lit 32 0 ∷ []))

zero_wire : node_wires 2 (Constant (field 32) 32 0) (wire (Field 2)) (remainder ∷ []) ≡ record { binds = remainder ∷ []; wires = wire (Lit 32 0) ∷ [] }
zero_wire = refl

-- the table row by row
abbrev row0 : List (List Expr)
row0 = wire (Field 0) ∷ wire (Field 1) ∷ []

abbrev row1 : List (List Expr)
row1 = wire (Field 1) ∷ wire (Field 1) ∷ []

abbrev row2 : List (List Expr)
row2 = wire remainder ∷ []

abbrev row3 : List (List Expr)
row3 = wire (Field 2) ∷ wire (Field 2) ∷ wire (Field 2) ∷ []

abbrev row4 : List (List Expr)
row4 = wire (Lit 32 0) ∷ []

abbrev row5 : List (List Expr)
row5 = wire differs ∷ []

abbrev row6 : List (List Expr)
row6 = wire (Field 3) ∷ wire (Field 3) ∷ wire (Field 3) ∷ []

abbrev behind : List Expr → List (List (List Expr)) → Built
behind binds table = record { binds = binds; table = table }

abbrev whole : Built
whole = behind (remainder ∷ differs ∷ []) (row0 ∷ row1 ∷ row2 ∷ row3 ∷ row4 ∷ row5 ∷ row6 ∷ [])

six : built 2 (Fork (field 1) 3 ∷ []) ((port 5 1 ∷ []) ∷ []) (behind (remainder ∷ []) (row0 ∷ row1 ∷ row2 ∷ row3 ∷ row4 ∷ row5 ∷ [])) ≡ whole
six = step (Fork (field 1) 3) [] (port 5 1 ∷ []) [] (behind (remainder ∷ []) (row0 ∷ row1 ∷ row2 ∷ row3 ∷ row4 ∷ row5 ∷ [])) (record { binds = remainder ∷ differs ∷ []; wires = row6 }) whole third_fork refl

five : built 2 (Operator Ne (32 ∷ 32 ∷ []) 1 ∷ Fork (field 1) 3 ∷ []) ((port 3 2 ∷ port 4 1 ∷ []) ∷ (port 5 1 ∷ []) ∷ []) (behind (remainder ∷ []) (row0 ∷ row1 ∷ row2 ∷ row3 ∷ row4 ∷ [])) ≡ whole
five = step (Operator Ne (32 ∷ 32 ∷ []) 1) (Fork (field 1) 3 ∷ []) (port 3 2 ∷ port 4 1 ∷ []) ((port 5 1 ∷ []) ∷ []) (behind (remainder ∷ []) (row0 ∷ row1 ∷ row2 ∷ row3 ∷ row4 ∷ [])) (record { binds = remainder ∷ []; wires = row5 }) whole differs_wire six

four : built 2 (Constant (field 32) 32 0 ∷ Operator Ne (32 ∷ 32 ∷ []) 1 ∷ Fork (field 1) 3 ∷ []) ((port 3 3 ∷ []) ∷ (port 3 2 ∷ port 4 1 ∷ []) ∷ (port 5 1 ∷ []) ∷ []) (behind (remainder ∷ []) (row0 ∷ row1 ∷ row2 ∷ row3 ∷ [])) ≡ whole
four = step (Constant (field 32) 32 0) (Operator Ne (32 ∷ 32 ∷ []) 1 ∷ Fork (field 1) 3 ∷ []) (port 3 3 ∷ []) ((port 3 2 ∷ port 4 1 ∷ []) ∷ (port 5 1 ∷ []) ∷ []) (behind (remainder ∷ []) (row0 ∷ row1 ∷ row2 ∷ row3 ∷ [])) (record { binds = remainder ∷ []; wires = row4 }) whole zero_wire five

three : built 2 (Fork (field 32) 3 ∷ Constant (field 32) 32 0 ∷ Operator Ne (32 ∷ 32 ∷ []) 1 ∷ Fork (field 1) 3 ∷ []) ((port 2 1 ∷ []) ∷ (port 3 3 ∷ []) ∷ (port 3 2 ∷ port 4 1 ∷ []) ∷ (port 5 1 ∷ []) ∷ []) (behind [] (row0 ∷ row1 ∷ row2 ∷ [])) ≡ whole
three = step (Fork (field 32) 3) (Constant (field 32) 32 0 ∷ Operator Ne (32 ∷ 32 ∷ []) 1 ∷ Fork (field 1) 3 ∷ []) (port 2 1 ∷ []) ((port 3 3 ∷ []) ∷ (port 3 2 ∷ port 4 1 ∷ []) ∷ (port 5 1 ∷ []) ∷ []) (behind [] (row0 ∷ row1 ∷ row2 ∷ [])) (record { binds = remainder ∷ []; wires = row3 }) whole second_fork four

two : built 2 (Operator Urem (32 ∷ 32 ∷ []) 32 ∷ Fork (field 32) 3 ∷ Constant (field 32) 32 0 ∷ Operator Ne (32 ∷ 32 ∷ []) 1 ∷ Fork (field 1) 3 ∷ []) ((port 0 1 ∷ port 1 2 ∷ []) ∷ (port 2 1 ∷ []) ∷ (port 3 3 ∷ []) ∷ (port 3 2 ∷ port 4 1 ∷ []) ∷ (port 5 1 ∷ []) ∷ []) (behind [] (row0 ∷ row1 ∷ [])) ≡ whole
two = step (Operator Urem (32 ∷ 32 ∷ []) 32) (Fork (field 32) 3 ∷ Constant (field 32) 32 0 ∷ Operator Ne (32 ∷ 32 ∷ []) 1 ∷ Fork (field 1) 3 ∷ []) (port 0 1 ∷ port 1 2 ∷ []) ((port 2 1 ∷ []) ∷ (port 3 3 ∷ []) ∷ (port 3 2 ∷ port 4 1 ∷ []) ∷ (port 5 1 ∷ []) ∷ []) (behind [] (row0 ∷ row1 ∷ [])) (record { binds = []; wires = row2 }) whole remainder_wire three

all_is : built 2 (kinds gcd_body) gcd_body.inputs (behind [] (row0 ∷ [])) ≡ whole
all_is = step (Fork (field 32) 2) (Operator Urem (32 ∷ 32 ∷ []) 32 ∷ Fork (field 32) 3 ∷ Constant (field 32) 32 0 ∷ Operator Ne (32 ∷ 32 ∷ []) 1 ∷ Fork (field 1) 3 ∷ []) (port 0 2 ∷ []) ((port 0 1 ∷ port 1 2 ∷ []) ∷ (port 2 1 ∷ []) ∷ (port 3 3 ∷ []) ∷ (port 3 2 ∷ port 4 1 ∷ []) ∷ (port 5 1 ∷ []) ∷ []) (behind [] (row0 ∷ [])) (record { binds = []; wires = row1 }) whole first_fork two

-- the ends are fields already
ends_settled : (binds : List Expr) → settled 2 (Field 1 ∷ Field 2 ∷ Field 3 ∷ []) binds ≡ record { binds = binds; places = 1 ∷ 2 ∷ 3 ∷ [] }
ends_settled binds =
    ap (λ o. bound_unless o (2 + length binds) (Field 1) (settled 2 (Field 2 ∷ Field 3 ∷ [])) binds) (place-field 1) ∙
    ap (λ o. place_then 1 (bound_unless o (2 + length binds) (Field 2) (settled 2 (Field 3 ∷ [])) binds)) (place-field 2) ∙
    ap (λ o. place_then 1 (place_then 2 (bound_unless o (2 + length binds) (Field 3) (settled 2 []) binds))) (place-field 3)

finished : Built → Function
finished b = function_of (32 ∷ 32 ∷ []) (settled 2 (flat (map (wire_at b.table) (port 1 1 ∷ port 3 1 ∷ port 6 1 ∷ []))) b.binds)

finish : finished whole ≡ gcd_function
unfolding finished
finish = ap (function_of (32 ∷ 32 ∷ [])) (ends_settled (remainder ∷ differs ∷ []))

pub gcd : GcdFunction
unfolding body_function finished
gcd = ap finished all_is ∙ finish
