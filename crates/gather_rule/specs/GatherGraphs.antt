-- The two graphs of the rule gather, as drawings: a body between its ends, and the Pure in its place.
use Rattle.std.specs.Prelude.{List, ◌∷◌, ◌++◌}
use Rattle.circuit_plans.specs.Drawing.{Drawing}
use Rattle.circuit_plans.specs.Places.{each_of}
use Rattle.body_laws.specs.Bodies.{Body}
use Rattle.body_laws.specs.BodyPlans.{Part, enter, vars, node, tail, Way, next, condition, other, body_plan, Gathered, entry, pure, pair, vals, fork, way, gathered_plan}
use Rattle.fun_expr.specs.Function.{Function}
use Rattle.gather_rule.specs.PlanDrawing.{drawing_of}

-- the Entry, the Split, the nodes, and an Exit for each data wire and each condition wire
abbrev pub body_list : (b : Body) → List (Part b (Way b))
body_list b = enter ∷ vars ∷ (each_of b.nodes node ++ (each_of b.next (λ p. tail (next p)) ++ (tail condition ∷ each_of b.others (λ p. tail (other p)))))

abbrev pub body_drawing : (b : Body) → Drawing (Part b (Way b))
body_drawing b = drawing_of (body_plan b) (body_list b)

-- the Entry, the Pure, the two Splits and the Fork, and the same Exits
abbrev pub gathered_list : (b : Body) → List (Gathered b)
gathered_list b = entry ∷ pure ∷ pair ∷ vals ∷ fork ∷ (each_of b.next (λ p. way (next p)) ++ (way condition ∷ each_of b.others (λ p. way (other p))))

abbrev pub gathered_drawing : (b : Body) → Function → Drawing (Gathered b)
gathered_drawing b f = drawing_of (gathered_plan b f) (gathered_list b)
