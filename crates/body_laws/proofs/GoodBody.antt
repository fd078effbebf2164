-- A typed body, where values fit.
use Rattle.std.specs.Prelude.{[], ◌∷◌}
use Rattle.circuits.specs.Values.{ValuesFit}
use Rattle.fun_expr.specs.Each.{Each}
use Rattle.body_laws.specs.Bodies.{IsSteady, Body, NodesInOrder}
use Rattle.body_laws.specs.BodyPlans.{body_plan}
use Rattle.body_laws.specs.TypedPlan.{TypedPlan}

pub record TypedBody (b : Body) : Type 0 where
  pub steady : Each (λ n. IsSteady n.kind) b.nodes
  pub order : NodesInOrder (b.vars ∷ []) b.nodes
  pub typed : TypedPlan (body_plan b)
  pub values : ValuesFit
